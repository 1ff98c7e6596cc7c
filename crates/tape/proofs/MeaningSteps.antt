-- How the tape's meaning goes on: one command, a fault, the end.
use mathlib.Core.Path.{◌≡◌, ◌∙◌, refl, sym, ap}
use mathlib.Core.Bool.{Bool, true, false, not, ◌&&◌}
use mathlib.Core.List.{List, [], ◌∷◌, ◌++◌, append_assoc}
use Prim.Native.Nat.{ℕ, zero, suc, ◌+◌, ◌≤◌, ◌<◌}
use native.Mathlib.Nat.{add-zero}
use native.Mathlib.Numerals.{add-one}
use native.Mathlib.Omega.{arith}
use lib.Dec.{eqb}
use lib.ListN.{length, drop, get_or, drop_of_length-le}
use lib.Seq.{drop-cons, drop-drop}
use Rattle.tape.specs.declared.Style.{Style}
use Rattle.tape.specs.Outcome.{Outcome, accepted, refused, unless}
use Rattle.tape.specs.Command.{operand_width, added, fault_of, Command, command_of}
use Rattle.tape.specs.Runs.{Run}
use Rattle.tape.specs.Tape.{Frame, frame, says, next, at_end, after, read}
use Rattle.tape.specs.Reading.{from}
use Rattle.tape.proofs.Faults.{clean}

pub after_none : (o : Outcome (List Run)) → after [] o ≡ o
after_none (accepted rs) = refl
after_none (refused number place) = refl

pub after_after : (rs qs : List Run) (o : Outcome (List Run)) → after rs (after qs o) ≡ after (rs ++ qs) o
after_after rs qs (accepted ps) = ap accepted (sym (append_assoc rs qs ps))
after_after rs qs (refused number place) = refl

-- operands are passed over
skip : (k : ℕ) (f : Frame) (place n : ℕ) (l : List ℕ) → k ≤ length l → read k f place n l ≡ read 0 f (place + k) n (drop k l)
unfolding read
skip zero f place n l h = rw add-zero
skip (suc k) f place n [] h = absurd (omega arith)
skip (suc k) f place n (b ∷ l) h =
    let e : place + 1 + k ≡ place + suc k = omega arith in
    skip k f (place + 1) n l (omega arith) ∙ ap (λ (p : ℕ). read 0 f p n (drop k l)) e

-- one command without a fault
pub read_command : (s : Style) (around : List Style) (naming : Bool) (place n c : ℕ) (rest : List ℕ) (cm : Command)
    → fault_of naming (length around) n c rest ≡ 0
    → command_of c rest ≡ cm
    → read 0 (frame s around naming) place n (c ∷ rest)
    ≡ after (says cm s naming) (read 0 (next cm s around naming) (place + 1 + operand_width c) (n + added naming c) (drop (operand_width c) rest))
unfolding read
read_command s around naming place n c rest cm e f =
    rw (e, f) (ap (after (says cm s naming)) (skip (operand_width c) (next cm s around naming) (place + 1) (n + added naming c) rest (clean _ _ _ _ _ e).whole))

-- the same, in a tape
module _ (tape : List ℕ) (at n : ℕ) (h : at < length tape) where
  here : drop at tape ≡ get_or tape at 0 ∷ drop (at + 1) tape
  here = rw (add-one, ← drop-cons tape at 0 h)

  pub command_from : (s : Style) (around : List Style) (naming : Bool) (cm : Command)
      → fault_of naming (length around) n (get_or tape at 0) (drop (at + 1) tape) ≡ 0
      → command_of (get_or tape at 0) (drop (at + 1) tape) ≡ cm
      → from tape (frame s around naming) at n
      ≡ after (says cm s naming) (from tape (next cm s around naming) (at + 1 + operand_width (get_or tape at 0)) (n + added naming (get_or tape at 0)))
  unfolding from
  command_from s around naming cm e f =
      let c : ℕ = get_or tape at 0 in
      ap (read 0 (frame s around naming) at n) here
      ∙ read_command s around naming at n c (drop (at + 1) tape) cm e f
      ∙ ap (λ (l : List ℕ). after (says cm s naming) (read 0 (next cm s around naming) (at + 1 + operand_width c) (n + added naming c) l)) (drop-drop (operand_width c) (at + 1) tape)

  -- a command with a fault
  pub fault_from : (s : Style) (around : List Style) (naming : Bool) (k : ℕ)
      → k ≡ fault_of naming (length around) n (get_or tape at 0) (drop (at + 1) tape)
      → (k ≡ 0 → ⊥)
      → from tape (frame s around naming) at n ≡ refused k at
  unfolding from read
  fault_from s around naming k e z = rw (here, ← e) (some k _ z)
    where
      some : (k : ℕ) (o : Outcome (List Run)) → (k ≡ 0 → ⊥) → unless k at o ≡ refused k at
      some zero o z = absurd (z refl)
      some (suc k) o z = refl

-- the tape's end
pub end_from : (tape : List ℕ) (f : Frame) (at n : ℕ) → length tape ≤ at → from tape f at n ≡ at_end f.around f.naming at
unfolding from read
end_from tape f at n h = rw (drop_of_length-le tape h)

-- in a list or in a name
pub end_inside : (around : List Style) (naming : Bool) (place : ℕ) → (not naming && eqb (length around) 0) ≡ false
    → at_end around naming place ≡ refused 3 place
end_inside [] true place h = refl
end_inside [] false place h = let z : true ≡ false = h in cc
end_inside (s ∷ around) naming place h = refl
