-- The pixels that a stroke meets: column by column what is painted, and none twice.
use Rattle.std.proofs.Common.{◌≡◌, ℕ, zero, suc, ◌+◌, ◌-◌, ◌*◌, ◌<◌, ◌≤◌, Bool, true, false, cond, ◌&&◌, ltb, leb, List, [], ◌∷◌, ◌++◌, length, get_or, refl, ap, ◌∙◌, le_trans, mul-le-mul_right, suc-mul, arith, ltb-false, ltb-true, ne_eqb, leb-false, leb-true}
use mathlib.Core.Bool.{and-eq-true_iff}
use Rattle.font.specs.Font.{bearing_y}
use Rattle.font.specs.Blend.{blend_pixel}
use Rattle.font.specs.Slant.{unmoved}
use Rattle.font.specs.Paint.{origin, on_row, lit, paint_column, paint_columns}
use Rattle.font.specs.Upward.{blend_each, has_pixel, none_twice, met_columns, met_row, met}
use Rattle.font.proofs.Columns.{columns_length}
use Rattle.font.proofs.EveryEntry.{All, all_weaker, all_append}
use Rattle.font.proofs.Pixels.{without, both_once, blend_append, pixel_between}

-- ---- the columns of a glyph's row

-- a column that lies on the row
on_fits : (x width : ℕ) → on_row x (4 * width) ≡ true → (origin ≤ x) × (x - origin < width)
on_fits x width e =
    let tests = (and-eq-true_iff (leb origin x) (leb (4 * (x - origin) + 4) (4 * width))).0 e in
    let right = leb-true (4 * (x - origin) + 4) (4 * width) tests.1 in
    (leb-true origin x tests.0, omega arith)

-- a column, painted on a row that stands between other bytes
module _ (k front rest : List ℕ) (p width : ℕ) (before : length front ≡ 4 * p) where
  column_meets : (x : ℕ) (row : List ℕ) → length row ≡ 4 * width → (t : Bool) → on_row x (4 * width) ≡ t
      → blend_each k (cond t ((p + (x - origin)) ∷ []) []) (front ++ (row ++ rest))
      ≡ front ++ (cond t (blend_pixel k (4 * (x - origin)) row) row ++ rest)
  unfolding blend_each
  column_meets x row long false e = refl
  column_meets x row long true e =
      let fits = (on_fits x width e).1 in
      pixel_between k front row rest p (x - origin) before (omega arith)

  bit_meets : (x : ℕ) (row : List ℕ) → length row ≡ 4 * width → (b : Bool)
      → blend_each k (cond (b && on_row x (4 * width)) ((p + (x - origin)) ∷ []) []) (front ++ (row ++ rest))
      ≡ front ++ (cond b (paint_column k x row) row ++ rest)
  unfolding blend_each paint_column
  bit_meets x row long false = refl
  bit_meets x row long true = rw long (column_meets x row long (on_row x (4 * width)) refl)

  pub columns_meet : (bits x c : ℕ) (row : List ℕ) → length row ≡ 4 * width
      → blend_each k (met_columns p bits x width c) (front ++ (row ++ rest)) ≡ front ++ (paint_columns k bits x c row ++ rest)
  unfolding blend_each met_columns paint_columns
  columns_meet bits x zero row long = refl
  columns_meet bits x (suc c) row long =
      let next = cond (lit bits c && on_row (x + c) (4 * width)) ((p + (x + c - origin)) ∷ []) [] in
      blend_append k (met_columns p bits x width c) next (front ++ (row ++ rest))
      ∙ ap (blend_each k next) (columns_meet bits x c row long)
      ∙ bit_meets (x + c) (paint_columns k bits x c row) (columns_length k bits x c row ∙ long) (lit bits c)

-- the pixels that the first c columns meet are on the row, and before column c
module _ (p bits x width : ℕ) where
  abbrev Before : ℕ → ℕ → Type 0
  Before c q = (p ≤ q) × (q < p + width) × (q + origin < p + (x + c))

  next_before : (c : ℕ) (t : Bool) → (lit bits c && on_row (x + c) (4 * width)) ≡ t
      → All (Before (suc c)) (cond t ((p + (x + c - origin)) ∷ []) [])
  next_before c false e = tt
  next_before c true e =
      let on = on_fits (x + c) width ((and-eq-true_iff (lit bits c) (on_row (x + c) (4 * width))).0 e).1 in
      let left = on.0 in
      let right = on.1 in
      ((omega arith, omega arith, omega arith), tt)

  columns_before : (c : ℕ) → All (Before c) (met_columns p bits x width c)
  unfolding met_columns
  columns_before zero = tt
  columns_before (suc c) =
      all_append (Before (suc c)) (met_columns p bits x width c) _
      (all_weaker (Before c) (met_columns p bits x width c) (λ q b. let far = b.2 in (b.0, b.1, omega arith)) (columns_before c))
      (next_before c (lit bits c && on_row (x + c) (4 * width)) refl)

  next_once : (c : ℕ) (t : Bool) → none_twice (cond t ((p + (x + c - origin)) ∷ []) []) ≡ true
  unfolding none_twice has_pixel
  next_once c true = refl
  next_once c false = refl

  next_new : (c : ℕ) (t : Bool) (q : ℕ) → Before c q → has_pixel q (cond t ((p + (x + c - origin)) ∷ []) []) ≡ false
  unfolding has_pixel
  next_new c false q b = refl
  next_new c true q b = let far = b.2 in simp (ne_eqb q (p + (x + c - origin)) (λ e. omega arith))

  columns_once : (c : ℕ) → none_twice (met_columns p bits x width c) ≡ true
  unfolding none_twice met_columns
  columns_once zero = refl
  columns_once (suc c) =
      let t = lit bits c && on_row (x + c) (4 * width) in
      both_once (met_columns p bits x width c) (cond t ((p + (x + c - origin)) ∷ []) []) (columns_once c) (next_once c t)
      (all_weaker (Before c) (met_columns p bits x width c) (next_new c t) (columns_before c))

-- ---- the rows of a stroke

module _ (rows offsets : List ℕ) (x base width n first : ℕ) where
  abbrev pixels_of : ℕ → List ℕ
  pixels_of = met_row rows offsets x base width n first

  abbrev pixels_to : ℕ → List ℕ
  pixels_to = met rows offsets x base width n first

  -- the glyph's row r lands on row i of the part, or on none
  pub data Lands (r : ℕ) : Type 0 where
    on : (i : ℕ) → i < n → origin + (first + i) ≡ base - bearing_y + r
        → pixels_of r ≡ met_columns (i * width) (get_or rows r 0) (x + get_or offsets r 0 - unmoved) width 8 → Lands r
    off : ((i : ℕ) → i < n → origin + (first + i) ≡ base - bearing_y + r → ⊥) → pixels_of r ≡ [] → Lands r

  pub lands : (r : ℕ) → Lands r
  unfolding met_row
  lands r = at (leb (origin + first) (base - bearing_y + r)) refl (ltb (base - bearing_y + r - (origin + first)) n) refl where
    at : (s : Bool) → leb (origin + first) (base - bearing_y + r) ≡ s → (t : Bool) → ltb (base - bearing_y + r - (origin + first)) n ≡ t → Lands r
    at true p true q =
        let h = leb-true (origin + first) (base - bearing_y + r) p in
        on (base - bearing_y + r - (origin + first)) (ltb-true _ n q) (omega arith) (simp (p, q))
    at true p false q =
        let h = ltb-false (base - bearing_y + r - (origin + first)) n q in
        off (λ i b e. omega arith) (simp (p, q))
    at false p t q =
        let h = leb-false (origin + first) (base - bearing_y + r) p in
        off (λ i b e. omega arith) (simp p)

  row_once : (r : ℕ) → none_twice (pixels_of r) ≡ true
  unfolding none_twice
  row_once r = at (lands r) where
    at : Lands r → none_twice (pixels_of r) ≡ true
    at (off none e) = rw e refl
    at (on i b f e) = rw e (columns_once (i * width) (get_or rows r 0) (x + get_or offsets r 0 - unmoved) width 8)

  -- the first row of the part on which one of the j lowest rows may land
  abbrev start : ℕ → ℕ
  start j = base - bearing_y + (16 - j) - (origin + first)

  -- the pixels of the next row stand before those of the j lowest
  abbrev Next : ℕ → ℕ → Type 0
  Next j q = (start (suc j) * width ≤ q) × (q < start j * width)

  next_row : (j : ℕ) → j < 16 → All (Next j) (pixels_of (16 - suc j))
  next_row j h = at (lands (16 - suc j)) where
    at : Lands (16 - suc j) → All (Next j) (pixels_of (16 - suc j))
    at (off none e) = rw e tt
    at (on i b f e) =
        let here : start (suc j) ≡ i = omega arith in
        let next : start j ≡ suc i = omega arith in
        let bits = get_or rows (16 - suc j) 0 in
        let left = x + get_or offsets (16 - suc j) 0 - 8 in
        rw e
        (all_weaker (Before (i * width) bits left width 8) (met_columns (i * width) bits left width 8)
        (λ q b. (rw here b.0, rw (next, suc-mul i width) b.1)) (columns_before (i * width) bits left width 8))

  rows_from : (j : ℕ) → j ≤ 16 → All (λ q. start j * width ≤ q) (pixels_to j)
  unfolding met
  rows_from zero h = tt
  rows_from (suc j) h =
      let lower : start (suc j) * width ≤ start j * width = mul-le-mul_right width (omega arith) in
      all_append (λ q. start (suc j) * width ≤ q) (pixels_to j) (pixels_of (16 - suc j))
      (all_weaker (λ q. start j * width ≤ q) (pixels_to j) (λ q b. le_trans lower b) (rows_from j (omega arith)))
      (all_weaker (Next j) (pixels_of (16 - suc j)) (λ q b. b.0) (next_row j (omega arith)))

  pub met_once : (j : ℕ) → j ≤ 16 → none_twice (pixels_to j) ≡ true
  unfolding none_twice met
  met_once zero h = refl
  met_once (suc j) h =
      let next = pixels_of (16 - suc j) in
      let new : (q : ℕ) → start j * width ≤ q → has_pixel q next ≡ false =
      λ q b. without q next (all_weaker (Next j) next (λ p c e. let d = c.1 in omega arith) (next_row j (omega arith))) in
      both_once (pixels_to j) next (met_once j (omega arith)) (row_once (16 - suc j))
      (all_weaker (λ q. start j * width ≤ q) (pixels_to j) new (rows_from j (omega arith)))
