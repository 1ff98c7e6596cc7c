-- A stack's letters, by its tapes: all of them accepted, or one refused and none before it.
use mathlib.Core.Path.{◌≡◌, refl}
use mathlib.Core.List.{List, [], ◌∷◌, map}
use Prim.Native.Nat.{ℕ, zero, suc, ◌+◌, ◌-◌, ◌≤◌, ◌<◌}
use native.Mathlib.Omega.{arith}
use lib.ListN.{length, get_or, take, drop, length-take, length-drop}
use Rattle.tape.specs.declared.Style.{Style}
use Rattle.tape.specs.Outcome.{accepted, refused}
use Rattle.tape.specs.Runs.{Letter}
use Rattle.tape.specs.Tape.{tape_letters}
use Rattle.tape.specs.Stack.{Tapes, tapes_from, tapes_letters, stack_letters, tapes_of}
use Rattle.tape.specs.Lent.{tape_count, begin_of, tape_at, Fit}

module _ (s : Style) (f : List ℕ → List Letter) (bytes : List ℕ) where
  -- tape i of those with these ends
  abbrev tape_in : ℕ → List ℕ → ℕ → List ℕ
  tape_in place es i = take (get_or es i 0 - get_or (place ∷ es) i 0) (drop (get_or (place ∷ es) i 0) bytes)

  -- it is accepted, and its letters are f of it
  abbrev Read : List ℕ → Type 0
  Read tape = tape_letters s tape ≡ accepted (f tape)

  -- where tapes lie
  abbrev Lying : ℕ → List ℕ → Type 0
  Lying place es = (i : ℕ) → i < length es → (get_or (place ∷ es) i 0 ≤ get_or es i 0) × (get_or es i 0 ≤ length bytes)

  -- the next tape begins where the first ends
  next_place : (place end : ℕ) (es : List ℕ) → Lying place (end ∷ es) → place + length (tape_in place (end ∷ es) 0) ≡ end
  next_place place end es l =
      let first = l 0 (omega arith) in
      let from = first.0 in
      let to = first.1 in
      let n = length-take (end - place) (drop place bytes) in
      let m = length-drop place bytes in
      omega arith

  all_read : (place before : ℕ) (es : List ℕ) → ((i : ℕ) → i < length es → Read (tape_in place es i))
      → tapes_letters s before (tapes_from bytes place es) ≡ accepted (map f (tapes_from bytes place es))
  unfolding tapes_letters tapes_from
  all_read place before [] r = refl
  all_read place before (end ∷ es) r =
      rw (r 0 (omega arith), all_read end (before + length (tape_in place (end ∷ es) 0)) es (λ i l. r (suc i) (omega arith)))

  one_refused : (place : ℕ) (es : List ℕ) (i : ℕ) {number at : ℕ} → Lying place es → i < length es → ((j : ℕ) → j < i → Read (tape_in place es j))
      → tape_letters s (tape_in place es i) ≡ refused number at
      → tapes_letters s place (tapes_from bytes place es) ≡ refused number (get_or (place ∷ es) i 0 + at)
  unfolding tapes_letters tapes_from
  one_refused place [] i l h r e = absurd (omega arith)
  one_refused place (end ∷ es) zero l h r e = rw e
  one_refused place (end ∷ es) (suc i) l h r e =
      rw (r 0 (omega arith), next_place place end es l, one_refused end es i (λ j k. l (suc j) (omega arith)) (omega arith) (λ j k. r (suc j) (omega arith)) e)

module _ (s : Style) (f : List ℕ → List Letter) (t : Tapes) where
  pub stack_read : ((i : ℕ) → i < tape_count t → tape_letters s (tape_at t i) ≡ accepted (f (tape_at t i)))
      → stack_letters s t ≡ accepted (map f (tapes_of t))
  stack_read r = all_read s f t.tape_bytes 0 0 t.tape_ends r

  pub stack_refused : Fit t → (i : ℕ) {number at : ℕ} → i < tape_count t
      → ((j : ℕ) → j < i → tape_letters s (tape_at t j) ≡ accepted (f (tape_at t j)))
      → tape_letters s (tape_at t i) ≡ refused number at → stack_letters s t ≡ refused number (begin_of t i + at)
  stack_refused fit i l r e =
      one_refused s f t.tape_bytes 0 t.tape_ends i (λ j h. ((fit.each j h).forward, (fit.each j h).inside)) l r e
