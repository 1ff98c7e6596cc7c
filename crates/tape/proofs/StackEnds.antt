-- The ends of a stack's tapes, one after the other; a stack that is not refused; and its tapes by their numbers.
use mathlib.Core.Path.{◌≡◌, ◌∙◌, refl, ap}
use mathlib.Core.Bool.{Bool, true, false, not, ◌&&◌, ◌||◌, and-eq-true_iff}
use mathlib.Mathlib.Data.Bool.Basic.{or-eq-false-eq-eq-false-and-eq-false}
use mathlib.Core.List.{List, [], ◌∷◌, ◌++◌}
use Prim.Native.Nat.{ℕ, zero, suc, ◌+◌, ◌-◌, ◌≤◌, ◌<◌}
use native.Mathlib.Numerals.{add-one}
use native.Mathlib.Omega.{arith}
use borrow.Author.Tests.{lt-ltb, le-ltb, ltb-false, leb-true, eqb-true, eqb-false, eq-eqb, ne_eqb, not-false}
use lib.Dec.{eqb, leb, ltb}
use lib.ListN.{length, get_or, take, drop, drop_of_length-le, length-take, length-drop}
use lib.Seq.{take-suc, drop-cons}
use Rattle.tape.specs.Tape.{most_bytes}
use Rattle.tape.specs.Stack.{Tapes, most_tapes, tapes_from, tapes_of, reaches_to, ends_unfit, some_too_long}
use Rattle.tape.specs.Lent.{tape_count, begin_of, end_of, tape_at, Lendable, Fit}

-- ---- one end after the other

module _ (es : List ℕ) (i : ℕ) where
  -- the next end, and those behind it
  pub reach_turn : (last place : ℕ) → i < length es
      → reaches_to last place (drop i es) ≡ (leb place (get_or es i 0) && reaches_to last (get_or es i 0) (drop (i + 1) es))
  unfolding reaches_to
  reach_turn last place l = rw (add-one i, drop-cons es i 0 l)

  pub long_turn : (place : ℕ) → i < length es
      → some_too_long place (drop i es) ≡ (ltb most_bytes (get_or es i 0 - place) || some_too_long (get_or es i 0) (drop (i + 1) es))
  unfolding some_too_long
  long_turn place l = rw (add-one i, drop-cons es i 0 l)

  -- none is left
  pub reach_end : (last place : ℕ) → length es ≤ i → reaches_to last place (drop i es) ≡ eqb place last
  unfolding reaches_to
  reach_end last place l = rw (drop_of_length-le es {i = i} l)

  pub long_end : (place : ℕ) → length es ≤ i → some_too_long place (drop i es) ≡ false
  unfolding some_too_long
  long_end place l = rw (drop_of_length-le es {i = i} l)

-- ---- 18, by which test fails

module _ (bytes : ℕ) (es : List ℕ) where
  pub unfit_none : length es ≡ 0 → ends_unfit bytes es ≡ true
  unfolding ends_unfit
  unfit_none e = rw (eq-eqb (length es) 0 e)

  pub unfit_many : most_tapes < length es → ends_unfit bytes es ≡ true
  unfolding ends_unfit
  unfit_many h = rw (lt-ltb most_tapes (length es) h, ne_eqb (length es) 0 (λ z. omega arith))

  pub unfit_by : (0 < length es) → length es ≤ most_tapes → {b : Bool} → reaches_to bytes 0 es ≡ b → ends_unfit bytes es ≡ not b
  unfolding ends_unfit
  unfit_by some few e = rw (ne_eqb (length es) 0 (λ z. omega arith), le-ltb most_tapes (length es) few, e)

-- ---- a stack that is not refused

module _ (bytes : ℕ) where
  -- a tape begins where the one before it ends, lies in the buffer, and is not too long
  record Lies (place : ℕ) (es : List ℕ) (i : ℕ) : Type 0 where
    forward : get_or (place ∷ es) i 0 ≤ get_or es i 0
    inside : get_or es i 0 ≤ bytes
    short : get_or es i 0 - get_or (place ∷ es) i 0 ≤ most_bytes

  first_end : (place end : ℕ) (es : List ℕ) → reaches_to bytes place (end ∷ es) ≡ true → (place ≤ end) × (reaches_to bytes end es ≡ true)
  unfolding reaches_to
  first_end place end es e =
      let both = (and-eq-true_iff (leb place end) (reaches_to bytes end es)).0 e in
      (leb-true place end both.0, both.1)

  place_low : (place : ℕ) (es : List ℕ) → reaches_to bytes place es ≡ true → place ≤ bytes
  unfolding reaches_to
  place_low place [] e = let is = eqb-true place bytes e in omega arith
  place_low place (end ∷ es) e =
      let first = first_end place end es e in
      let rest = place_low end es first.1 in
      omega (arith, first.0)

  first_short : (place end : ℕ) (es : List ℕ) → some_too_long place (end ∷ es) ≡ false → (end - place ≤ most_bytes) × (some_too_long end es ≡ false)
  unfolding some_too_long
  first_short place end es e =
      let both = (or-eq-false-eq-eq-false-and-eq-false (ltb most_bytes (end - place)) (some_too_long end es)).0 e in
      (ltb-false most_bytes (end - place) both.0, both.1)

  lies : (place : ℕ) (es : List ℕ) → reaches_to bytes place es ≡ true → some_too_long place es ≡ false → (i : ℕ) → i < length es → Lies place es i
  lies place [] r t i l = absurd (omega arith)
  lies place (end ∷ es) r t zero l =
      let first = first_end place end es r in
      record { forward = first.0; inside = place_low end es first.1; short = (first_short place end es t).0 }
  lies place (end ∷ es) r t (suc i) l =
      let next = lies end es (first_end place end es r).1 (first_short place end es t).1 i (omega arith) in
      record { forward = next.forward; inside = next.inside; short = next.short }

pub fit : (t : Tapes) → ends_unfit (length t.tape_bytes) t.tape_ends ≡ false → some_too_long 0 t.tape_ends ≡ false → Fit t
unfolding ends_unfit
fit t e short =
    let n = tape_count t in
    let some = (or-eq-false-eq-eq-false-and-eq-false (eqb n 0) _).0 e in
    let few = (or-eq-false-eq-eq-false-and-eq-false (ltb most_tapes n) _).0 some.1 in
    let none = eqb-false n 0 some.0 in
    record {
      some = omega (arith, none);
      few = ltb-false most_tapes n few.0;
      each =
          λ i l.
          let own = lies (length t.tape_bytes) 0 t.tape_ends (not-false _ few.1) short i l in
          record { forward = own.forward; inside = own.inside; short = own.short };
    }

-- ---- its tapes

-- as many as there are ends
pub tapes_length : (bytes : List ℕ) (place : ℕ) (es : List ℕ) → length (tapes_from bytes place es) ≡ length es
unfolding tapes_from
tapes_length bytes place [] = refl
tapes_length bytes place (end ∷ es) = ap suc (tapes_length bytes end es)

tapes_at : (bytes : List ℕ) (place : ℕ) (es : List ℕ) (i : ℕ) → i < length es
    → get_or (tapes_from bytes place es) i [] ≡ take (get_or es i 0 - get_or (place ∷ es) i 0) (drop (get_or (place ∷ es) i 0) bytes)
unfolding tapes_from
tapes_at bytes place [] i l = absurd (omega arith)
tapes_at bytes place (end ∷ es) zero l = refl
tapes_at bytes place (end ∷ es) (suc i) l = tapes_at bytes end es i (omega arith)

-- the first i and the next; and those from it on
pub one_more_tape : (t : Tapes) (i : ℕ) → i < tape_count t → take (suc i) (tapes_of t) ≡ take i (tapes_of t) ++ tape_at t i ∷ []
one_more_tape t i l =
    let n = tapes_length t.tape_bytes 0 t.tape_ends in
    take-suc (tapes_of t) i [] (omega arith) ∙ ap (λ (tape : List ℕ). take i (tapes_of t) ++ tape ∷ []) (tapes_at t.tape_bytes 0 t.tape_ends i l)

pub next_tape : (t : Tapes) (i : ℕ) → i < tape_count t → drop i (tapes_of t) ≡ tape_at t i ∷ drop (suc i) (tapes_of t)
next_tape t i l =
    let n = tapes_length t.tape_bytes 0 t.tape_ends in
    drop-cons (tapes_of t) i [] (omega arith) ∙ ap (λ (tape : List ℕ). tape ∷ drop (suc i) (tapes_of t)) (tapes_at t.tape_bytes 0 t.tape_ends i l)

pub no_more_tapes : (t : Tapes) (i : ℕ) → tape_count t ≤ i → drop i (tapes_of t) ≡ []
no_more_tapes t i l = let n = tapes_length t.tape_bytes 0 t.tape_ends in drop_of_length-le (tapes_of t) {i = i} (omega arith)

-- a tape has the bytes between its ends
pub tape_length : (t : Tapes) {i : ℕ} → Lendable t i → length (tape_at t i) ≡ end_of t i - begin_of t i
tape_length t {i} l =
    let n = length-take (end_of t i - begin_of t i) (drop (begin_of t i) t.tape_bytes) in
    let m = length-drop (begin_of t i) t.tape_bytes in
    omega (arith, l.forward, l.inside)
