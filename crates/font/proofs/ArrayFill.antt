-- An array of f 0, f 1, and so on: its length and its entries, and that these make it.
use Rattle.std.proofs.Common.{◌≡◌, ℕ, zero, suc, ◌+◌, ◌<◌, List, [], ◌∷◌, length, get_or, sym, refl, ap, ◌∙◌, ⊎_elim, le_of_suc-le-suc, eq-or-lt_of_le, add-one, arith, length-append}
use Rattle.std.proofs.lemmas.List.{ext_get_or}
use lib.ListN.{get_or-append}
use lib.Seq.{get_or_at}
use Rattle.font.specs.Font.{tabulate}

pub tabulate_length : (f : ℕ → ℕ) (n : ℕ) → length (tabulate f n) ≡ n
unfolding tabulate
tabulate_length f zero = refl
tabulate_length f (suc n) = length-append (tabulate f n) (f n ∷ []) ∙ ap (λ (m : ℕ). m + 1) (tabulate_length f n) ∙ add-one n

pub tabulate_at : (f : ℕ → ℕ) (n k d : ℕ) → k < n → get_or (tabulate f n) k d ≡ f k
unfolding tabulate
tabulate_at f zero k d h = absurd (omega arith)
tabulate_at f (suc n) k d h =
    let long = tabulate_length f n in
    ⊎_elim
    (λ e. get_or_at (tabulate f n) (f n) [] d k (long ∙ sym e) ∙ ap f (sym e))
    (λ l. get_or-append (tabulate f n) (f n ∷ []) d k (omega arith) ∙ tabulate_at f n k d l)
    (eq-or-lt_of_le (le_of_suc-le-suc h))

-- a list that has these entries is the array
pub tabulated : (f : ℕ → ℕ) (n : ℕ) (l : List ℕ) → length l ≡ n → ((k : ℕ) → k < n → get_or l k 0 ≡ f k) → l ≡ tabulate f n
tabulated f n l e at =
    ext_get_or 0 l (tabulate f n) (e ∙ sym (tabulate_length f n))
    (λ k h. let below : k < n = omega arith in at k below ∙ sym (tabulate_at f n k 0 below))
