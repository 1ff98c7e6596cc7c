-- Operand widths, and the numbers that operand bytes spell.
use mathlib.Core.Path.{◌≡◌, ◌∙◌, refl, ap}
use mathlib.Core.Bool.{Bool, true, ◌&&◌}
use mathlib.Core.List.{List, [], ◌∷◌, ◌++◌}
use Prim.Native.Nat.{ℕ, zero, suc, ◌+◌, ◌-◌, ◌*◌, ◌≤◌, ◌<◌}
use native.Mathlib.Nat.{add-zero, add_assoc}
use native.Mathlib.Numerals.{add-one}
use native.Mathlib.Omega.{arith}
use lib.Dec.{T, leb, leb→le}
use lib.Ieee.Fits.{and_l, and_r}
use lib.ListN.{length, take, drop, get_or, length-drop}
use lib.Seq.{take-suc, get_or-drop}
use Rattle.tape.specs.Command.{operand_width, operand_widths, number_from}

abbrev at_most : ℕ → List ℕ → Bool
at_most m [] = true
at_most m (x ∷ xs) = leb x m && at_most m xs

most_at : (m : ℕ) (xs : List ℕ) → T (at_most m xs) → (k : ℕ) → get_or xs k 0 ≤ m
most_at m [] t k = omega arith
most_at m (x ∷ xs) t zero = leb→le x m (and_l (leb x m) (at_most m xs) t)
most_at m (x ∷ xs) t (suc k) = most_at m xs (and_r (leb x m) (at_most m xs) t) k

pub operand_width_most : (c : ℕ) → operand_width c ≤ 3
operand_width_most c = most_at 3 operand_widths tt c

number_snoc : (v : ℕ) (bs : List ℕ) (b : ℕ) → number_from v (bs ++ (b ∷ [])) ≡ number_from v bs * 256 + b
number_snoc v [] b = refl
number_snoc v (a ∷ bs) b = number_snoc (v * 256 + a) bs b

-- one byte more
number_more : (l : List ℕ) (from i : ℕ) → from + i < length l
    → number_from 0 (take (i + 1) (drop from l)) ≡ number_from 0 (take i (drop from l)) * 256 + get_or l (from + i) 0
number_more l from i h =
    let k : i < length (drop from l) = simp length-drop (omega arith) in
    rw (add-one, take-suc (drop from l) i 0 k, number_snoc 0 (take i (drop from l)), get_or-drop)

-- the numbers of one, two and three operands at a place
module _ (l : List ℕ) (at : ℕ) where
  pub spells_1 : at + 1 < length l → number_from 0 (take 1 (drop (at + 1) l)) ≡ get_or l (at + 1) 0
  spells_1 h = let e = number_more l (at + 1) 0 (omega arith) in rw add-zero at e ∙ omega arith

  pub spells_2 : at + 2 < length l → number_from 0 (take 2 (drop (at + 1) l)) ≡ get_or l (at + 1) 0 * 256 + get_or l (at + 2) 0
  spells_2 h =
      number_more l (at + 1) 1 (omega arith)
      ∙ rw (add_assoc) (ap (λ (v : ℕ). v * 256 + get_or l (at + 2) 0) (spells_1 (omega arith)))

  pub spells_3 : at + 3 < length l
      → number_from 0 (take 3 (drop (at + 1) l)) ≡ (get_or l (at + 1) 0 * 256 + get_or l (at + 2) 0) * 256 + get_or l (at + 3) 0
  spells_3 h =
      number_more l (at + 1) 2 (omega arith)
      ∙ rw (add_assoc) (ap (λ (v : ℕ). v * 256 + get_or l (at + 3) 0) (spells_2 (omega arith)))

-- the letters' widths: where the code goes by a letter's command, this law says that the cases are the table's
pub letter_width : (c : ℕ) → 2 ≤ c → c ≤ 4 → operand_width c ≡ c - 1
letter_width zero h k = absurd (omega arith)
letter_width (suc zero) h k = absurd (omega arith)
letter_width (suc (suc zero)) h k = refl
letter_width (suc (suc (suc zero))) h k = refl
letter_width (suc (suc (suc (suc zero)))) h k = refl
letter_width (suc (suc (suc (suc (suc c))))) h k = absurd (omega arith)
