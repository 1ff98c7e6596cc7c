-- A rule that holds at each entry of a list, by one test that antt computes, or by as many proofs; and at each number
-- below n.
use Rattle.std.proofs.Common.{ℕ, zero, suc, ◌+◌, ◌<◌, Bool, true, false, cond, ◌&&◌, T, List, [], ◌∷◌, ◌++◌, length, get_or, take, drop, sym, ◌∙◌, subst, ⊎_elim, le_of_suc-le-suc, not-suc-le-zero, add-zero, add-suc, suc-add, eq-or-lt_of_le, zero-add}
use lib.Ieee.Fits.{and_l, and_r}

module _ {A : Type 0} (f : ℕ → A → Bool) where
  -- f passes at each entry of a list and its number, counted from i
  abbrev pub every : ℕ → List A → Bool
  every i [] = true
  every i (x ∷ xs) = f i x && every (suc i) xs

  from : (d : A) (xs : List A) (i : ℕ) → T (every i xs) → (k : ℕ) → k < length xs → T (f (i + k) (get_or xs k d))
  from d [] i t k h = absurd (not-suc-le-zero h)
  from d (x ∷ xs) i t zero h = subst (λ (m : ℕ). T (f m x)) (sym (add-zero i)) (and_l (f i x) (every (suc i) xs) t)
  from d (x ∷ xs) i t (suc k) h =
      subst (λ (m : ℕ). T (f m (get_or xs k d))) (suc-add i k ∙ sym (add-suc i k))
      (from d xs (suc i) (and_r (f i x) (every (suc i) xs) t) k (le_of_suc-le-suc h))

  pub at : (d : A) (xs : List A) → T (every 0 xs) → (k : ℕ) → k < length xs → T (f k (get_or xs k d))
  at d xs t k h = subst (λ (m : ℕ). T (f m (get_or xs k d))) (zero-add k) (from d xs 0 t k h)

module _ {A : Type 0} where
  abbrev pub All : (A → Type 0) → List A → Type 0
  All P [] = Unit
  All P (x ∷ xs) = P x × All P xs

  module _ (P : A → Type 0) where
    pub all_weaker : {Q : A → Type 0} (xs : List A) → ((x : A) → P x → Q x) → All P xs → All Q xs
    all_weaker [] f e = tt
    all_weaker (x ∷ xs) f e = (f x e.0, all_weaker xs f e.1)

    pub all_append : (xs ys : List A) → All P xs → All P ys → All P (xs ++ ys)
    all_append [] ys e f = f
    all_append (x ∷ xs) ys e f = (e.0, all_append xs ys e.1 f)

    -- where they stand, or none do
    pub all_if : (b : Bool) (xs : List A) → All P xs → All P (cond b xs [])
    all_if true xs e = e
    all_if false xs e = tt

    pub all_take : (n : ℕ) (xs : List A) → All P xs → All P (take n xs)
    all_take zero xs e = tt
    all_take (suc n) [] e = tt
    all_take (suc n) (x ∷ xs) e = (e.0, all_take n xs e.1)

    pub all_drop : (n : ℕ) (xs : List A) → All P xs → All P (drop n xs)
    all_drop zero xs e = e
    all_drop (suc n) [] e = tt
    all_drop (suc n) (x ∷ xs) e = all_drop n xs e.1

abbrev pub Each : (ℕ → Type 0) → ℕ → Type 0
Each P zero = Unit
Each P (suc n) = P n × Each P n

pub each : (P : ℕ → Type 0) (n : ℕ) → Each P n → (k : ℕ) → k < n → P k
each P zero t k h = absurd (not-suc-le-zero h)
each P (suc n) t k h =
    ⊎_elim (λ e. subst P (sym e) t.0) (λ l. each P n t.1 k l) (eq-or-lt_of_le (le_of_suc-le-suc h))
