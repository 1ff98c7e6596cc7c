-- Ends that rise: where the stripes lie that they make, and which stripe a row is of. A division is looked at from any
-- row on, so that what is left of one is another.
use mathlib.Core.Path.{◌≡◌, refl, ap}
use mathlib.Core.Bool.{Bool, true, false, cond, ◌&&◌, and-eq-true_iff}
use mathlib.Core.List.{[], ◌∷◌}
use Prim.Native.Nat.{ℕ, zero, suc, ◌+◌, ◌≤◌, ◌<◌}
use native.Mathlib.Numerals.{add-one}
use native.Mathlib.Omega.{arith}
use borrow.Author.Tests.{ltb-true, ltb-false, le-ltb, lt-ltb, eqb-true}
use lib.Dec.{eqb, ltb}
use lib.ListN.{length, get_or, drop, drop_of_length-le}
use lib.Seq.{drop-cons}
use Rattle.job.specs.Stripes.{Division, end_row, stripe_of, rises_to}

-- the first row of stripe k, where the stripes begin at a row
abbrev pub first_from : ℕ → Division → ℕ → ℕ
first_from row d k = get_or (row ∷ d) k 0

module _ (height : ℕ) where
  -- the next end, and those after it
  pub rises_turn : (row : ℕ) (d : Division) (k : ℕ) → k < length d
      → rises_to height row (drop k d) ≡ (ltb row (end_row d k) && rises_to height (end_row d k) (drop (k + 1) d))
  unfolding rises_to
  rises_turn row d k l = rw (add-one k, drop-cons d k 0 l)

  pub rises_end : (row : ℕ) (d : Division) (k : ℕ) → length d ≤ k → rises_to height row (drop k d) ≡ eqb row height
  unfolding rises_to
  rises_end row d k l = rw (drop_of_length-le d {i = k} l)

  -- the first end is past the row, and the others rise from it
  pub rises_first : (row end : ℕ) (d : Division) → rises_to height row (end ∷ d) ≡ true → (row < end) × (rises_to height end d ≡ true)
  unfolding rises_to
  rises_first row end d e =
      let both = (and-eq-true_iff (ltb row end) (rises_to height end d)).0 e in
      (ltb-true row end both.0, both.1)

  pub rises_none : (row : ℕ) → rises_to height row [] ≡ true → row ≡ height
  unfolding rises_to
  rises_none row e = eqb-true row height e

  -- no stripe begins above the row, or ends below the height
  pub first_past : (row : ℕ) (d : Division) (k : ℕ) → rises_to height row d ≡ true → k ≤ length d → row ≤ first_from row d k
  first_past row d zero e l = omega arith
  first_past row [] (suc k) e l = absurd (omega arith)
  first_past row (end ∷ d) (suc k) e l =
      let r = rises_first row end d e in
      let next = first_past end d k r.1 (omega arith) in
      omega (arith, r.0)

  pub last_is : (row : ℕ) (d : Division) → rises_to height row d ≡ true → first_from row d (length d) ≡ height
  last_is row [] e = rises_none row e
  last_is row (end ∷ d) e = last_is end d (rises_first row end d e).1

  -- a stripe has a row at least
  pub first_under_end : (row : ℕ) (d : Division) (k : ℕ) → rises_to height row d ≡ true → k < length d → first_from row d k < end_row d k
  first_under_end row [] k e l = absurd (omega arith)
  first_under_end row (end ∷ d) zero e l = (rises_first row end d e).0
  first_under_end row (end ∷ d) (suc k) e l = first_under_end end d k (rises_first row end d e).1 (omega arith)

  pub end_within : (row : ℕ) (d : Division) (k : ℕ) → rises_to height row d ≡ true → k < length d → end_row d k ≤ height
  end_within row [] k e l = absurd (omega arith)
  end_within row (end ∷ d) zero e l =
      let r = (rises_first row end d e).1 in
      let low = first_past end d (length d) r (omega arith) in
      omega (arith, last_is end d r)
  end_within row (end ∷ d) (suc k) e l = end_within end d k (rises_first row end d e).1 (omega arith)

  -- a row of the picture has a stripe
  pub row_there : (row : ℕ) (d : Division) (y : ℕ) → rises_to height row d ≡ true → row ≤ y → y < height → stripe_of d y < length d
  unfolding stripe_of
  row_there row [] y e l u = absurd (omega (arith, rises_none row e))
  row_there row (end ∷ d) y e l u = by (ltb y end) refl (λ k. row_there end d y (rises_first row end d e).1 k u)
    where
      by : (b : Bool) → ltb y end ≡ b → (end ≤ y → stripe_of d y < length d) → cond b 0 (suc (stripe_of d y)) < suc (length d)
      by true t next = omega arith
      by false t next = omega (arith, next (ltb-false y end t))

  -- a row between the first and the end of a stripe is of that stripe
  pub row_of_lem : (row : ℕ) (d : Division) (k y : ℕ) → rises_to height row d ≡ true → k < length d → first_from row d k ≤ y → y < end_row d k
      → stripe_of d y ≡ k
  unfolding stripe_of
  row_of_lem row [] k y e l from to = absurd (omega arith)
  row_of_lem row (end ∷ d) zero y e l from to = rw (lt-ltb y end to)
  row_of_lem row (end ∷ d) (suc k) y e l from to =
      let r = (rises_first row end d e).1 in
      let past = first_past end d k r (omega arith) in
      rw (le-ltb y end (omega arith)) (ap suc (row_of_lem end d k y r (omega arith) from to))

-- and a row that is of a stripe lies there
pub row_lies : (row : ℕ) (d : Division) (y : ℕ) → row ≤ y → stripe_of d y < length d
    → (first_from row d (stripe_of d y) ≤ y) × (y < end_row d (stripe_of d y))
unfolding stripe_of
row_lies row [] y l there = absurd (omega arith)
row_lies row (end ∷ d) y l there = by (ltb y end) refl there (row_lies end d y)
  where
    Lies : ℕ → Division → ℕ → Type 0
    Lies from ends k = (first_from from ends k ≤ y) × (y < end_row ends k)

    by : (b : Bool) → ltb y end ≡ b → cond b 0 (suc (stripe_of d y)) < suc (length d)
        → (end ≤ y → stripe_of d y < length d → Lies end d (stripe_of d y)) → Lies row (end ∷ d) (cond b 0 (suc (stripe_of d y)))
    by true t there next = (l, ltb-true y end t)
    by false t there next = next (ltb-false y end t) (omega arith)
