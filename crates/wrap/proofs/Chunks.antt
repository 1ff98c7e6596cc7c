-- A token in chunks: the first of them, and then those of the rest.
use mathlib.Core.Path.{◌≡◌, ◌∙◌, refl, ap, ap₂}
use mathlib.Core.List.{List, [], ◌∷◌, flatten}
use Prim.Native.Nat.{ℕ, zero, suc, ◌+◌, ◌-◌, ◌≤◌, ◌<◌}
use native.Mathlib.Omega.{arith}
use lib.ListN.{length, take, drop}
use Rattle.wrap.specs.Lines.{Line, onto_first, chunks, hard_break}
use Rattle.wrap.specs.Filled.{between}
use Rattle.wrap.proofs.Lists.{length_between, take_between, drop_between}

-- one chunk is enough
all_one : (L spare : ℕ) (t : Line) → length t ≤ spare → chunks L spare t ≡ t ∷ []
unfolding chunks
all_one L spare [] h = refl
all_one L zero (k ∷ t) h = absurd (omega arith)
all_one L (suc spare) (k ∷ t) h = ap (onto_first k) (all_one L spare t (omega arith))

one_more : (L spare : ℕ) (t : Line) → 1 ≤ L → spare < length t → chunks L spare t ≡ take spare t ∷ hard_break L (drop spare t)
unfolding chunks
one_more L spare [] h k = absurd (omega arith)
one_more zero zero (x ∷ t) h k = absurd (omega arith)
one_more (suc L) zero (x ∷ t) h k = let e : suc L - 1 ≡ L = omega arith in rw e
one_more L (suc spare) (x ∷ t) h k = ap (onto_first x) (one_more L spare t h (omega arith))

module _ (L k j : ℕ) (one : 1 ≤ L) where
  -- the chunks of the letters from k up to j
  pub break_last : j - k ≤ L → hard_break L (between k j) ≡ between k j ∷ []
  break_last h = let n = length_between k j in all_one L L (between k j) (omega arith)

  pub break_more : L < j - k → hard_break L (between k j) ≡ between k (k + L) ∷ hard_break L (between (k + L) j)
  break_more h =
      let n = length_between k j in
      one_more L L (between k j) one (omega arith)
      ∙ ap₂ (λ (a b : Line). a ∷ hard_break L b) (take_between k L j (omega arith)) (drop_between k L j)

-- no letter is lost
pub onto_all : (k : ℕ) (ts : List Line) → flatten (onto_first k ts) ≡ k ∷ flatten ts
unfolding flatten
onto_all k [] = refl
onto_all k (t ∷ ts) = refl

pub chunks_all : (L spare : ℕ) (t : Line) → flatten (chunks L spare t) ≡ t
unfolding chunks flatten
chunks_all L spare [] = refl
chunks_all L zero (k ∷ t) = onto_all k (chunks L (L - 1) t) ∙ ap (λ (x : Line). k ∷ x) (chunks_all L (L - 1) t)
chunks_all L (suc spare) (k ∷ t) = onto_all k (chunks L spare t) ∙ ap (λ (x : Line). k ∷ x) (chunks_all L spare t)
