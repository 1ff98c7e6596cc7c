-- Laws of a picture's rows, each changed by itself, and of a stroke's rows.
use Rattle.std.proofs.Common.{◌≡◌, ℕ, zero, suc, ◌+◌, ◌-◌, ◌*◌, ◌<◌, ◌≤◌, min, Bool, true, false, cond, ◌&&◌, ltb, leb, List, ◌++◌, length, get_or, take, drop, sym, refl, ap, ◌∙◌, subst, append_assoc, le_refl, add-zero, add-suc, mul-le-mul_right, suc-mul, add_comm, suc-add, zero-add, zero-mul, add-one, arith, length-append, length-drop, take-append-drop, length-take-le, take-take, drop-drop, take_at, take-add, drop_at, le-ltb, lt-ltb, le-leb}
use borrow.Author.Tests.{lt-leb}
use Rattle.font.specs.Font.{bearing_y}
use Rattle.font.specs.Slant.{unmoved}
use Rattle.font.specs.Paint.{origin, paint_row, stroke_row, each_row}
use Rattle.font.specs.Upward.{stroke_after}
use Rattle.font.proofs.Columns.{cond_length, cond_same, columns_length, columns_clear}

-- row i of some rows ends within them
pub row_in : (i rows size : ℕ) {n : ℕ} → i < rows → rows * size ≤ n → i * size + size ≤ n
row_in i rows size h k =
    let p : suc i * size ≤ rows * size = mul-le-mul_right size h in
    omega (arith, suc-mul i size)

-- row i of a part, whose first row is at position start, has row r of a glyph, whose top is at position top, and at least
-- `left` rows of the glyph are above it
pub record Falls (rows start top left i r : ℕ) : Type 0 where
  pub within : i < rows
  pub reaches : top ≤ start + i
  pub lowest : top + left ≤ start + i
  pub row : r < 16
  pub is : start + i ≡ top + r

-- so has each row that a loop from the glyph's lowest row up comes to: it stops at row last, and goes on from row next
pub falls : (rows start top left last next : ℕ) → last ≡ min rows (top + left - start) → last < next
    → next ≤ min rows (top + 16 - start) → Falls rows start top left (next - 1) (start + (next - 1) - top)
falls rows start top left last next e h k =
    record { within = omega arith; reaches = omega arith; lowest = omega arith; row = omega arith; is = omega arith }

module _ (f : ℕ → List ℕ → List ℕ) (size : ℕ) where
  -- the first a rows, where f keeps them
  pub rows_skip : (a b y : ℕ) (l : List ℕ) → ((j : ℕ) (r : List ℕ) → j < a → f (y + j) r ≡ r)
      → each_row f size (a + b) y l ≡ take (a * size) l ++ each_row f size b (y + a) (drop (a * size) l)
  unfolding each_row
  rows_skip zero b y l keep = rw (zero-mul, zero-add, add-zero) refl
  rows_skip (suc a) b y l keep =
      let first : f y (take size l) ≡ take size l = rw add-zero at (keep 0 (take size l) (omega arith)) in
      let next : suc y + a ≡ y + suc a = omega arith in
      let rest = rows_skip a b (suc y) (drop size l)
      (λ j r h. subst (λ (m : ℕ). f m r ≡ r) (add-suc y j ∙ sym (suc-add y j)) (keep (suc j) r (omega arith))) in
      let wide : suc a * size ≡ size + a * size = suc-mul a size ∙ add_comm (a * size) size in
      rw (suc-add, first, rest, wide, take-add, append_assoc, drop-drop (a * size) size l, next)

  -- all rows, where f keeps them
  pub rows_kept : (n y : ℕ) (l : List ℕ) → ((j : ℕ) (r : List ℕ) → j < n → f (y + j) r ≡ r) → each_row f size n y l ≡ l
  unfolding each_row
  rows_kept n y l keep =
      ap (λ (m : ℕ). each_row f size m y l) (sym (add-zero n)) ∙ rows_skip n 0 y l keep ∙ take-append-drop (n * size) l

  -- all rows but row i, where f keeps them
  pub rows_one : (i n y : ℕ) (l : List ℕ) → ((j : ℕ) (r : List ℕ) → (j ≡ i → ⊥) → f (y + j) r ≡ r)
      → let rest = drop (i * size) l in
      each_row f size (i + suc n) y l ≡ take (i * size) l ++ (f (y + i) (take size rest) ++ drop size rest)
  unfolding each_row
  rows_one i n y l keep =
      let rest = drop (i * size) l in
      let next : (j : ℕ) → y + (i + suc j) ≡ suc (y + i) + j = λ j. omega arith in
      rows_skip i (suc n) y l (λ j r h. keep j r (λ e. omega arith))
      ∙ ap (λ (behind : List ℕ). take (i * size) l ++ (f (y + i) (take size rest) ++ behind))
      (rows_kept n (suc (y + i)) (drop size rest)
      (λ j r h. subst (λ (m : ℕ). f m r ≡ r) (next j) (keep (i + suc j) r (λ e. omega arith))))

  -- a turn of a loop from the last row up: what stands behind a row is done, the row is lent and comes back changed
  pub rows_turn : (n y a : ℕ) (l row part : List ℕ) → a + size ≤ length l
      → part ≡ take (a + size) l ++ each_row f size n (suc y) (drop (a + size) l) → row ≡ f y (take size (drop a part))
      → take a part ++ (row ++ drop size (drop a part)) ≡ take a l ++ each_row f size (suc n) y (drop a l)
  unfolding each_row
  rows_turn n y a l row part h w e =
      let old = take size (drop a l) in
      let rest = each_row f size n (suc y) (drop size (drop a l)) in
      let front : length (take a l) ≡ a = length-take-le a l (omega arith) in
      let long : length old ≡ size = length-take-le size (drop a l) (rw length-drop (omega arith)) in
      let split : part ≡ take a l ++ (old ++ rest) = w ∙ rw (take-add, ← (drop-drop size a l), append_assoc) in
      rw (
        e,
        split,
        take_at (take a l) (old ++ rest) a front,
        drop_at (take a l) (old ++ rest) a front,
        take_at old rest size long,
        drop_at old rest size long,
      )

-- a change that keeps each row `size` bytes long
module _ (f : ℕ → List ℕ → List ℕ) (size : ℕ) (same : (y : ℕ) (row : List ℕ) → length row ≡ size → length (f y row) ≡ size) where
  first_long : (n y : ℕ) (l : List ℕ) → suc n * size ≤ length l → length (f y (take size l)) ≡ size
  first_long n y l h = let wide = suc-mul n size in same y (take size l) (length-take-le size l (omega arith))

  rest_fits : (n : ℕ) (l : List ℕ) → suc n * size ≤ length l → n * size ≤ length (drop size l)
  rest_fits n l h = let wide = suc-mul n size in rw length-drop (omega arith)

  -- one change after the other
  pub rows_then : (g : ℕ → List ℕ → List ℕ) (n y : ℕ) (l : List ℕ) → n * size ≤ length l
      → each_row (λ j row. g j (f j row)) size n y l ≡ each_row g size n y (each_row f size n y l)
  unfolding each_row
  rows_then g zero y l h = refl
  rows_then g (suc n) y l h =
      let rest : List ℕ = each_row f size n (suc y) (drop size l) in
      let first = first_long n y l h in
      rw (
        take_at (f y (take size l)) rest size first,
        drop_at (f y (take size l)) rest size first,
        rows_then g n (suc y) (drop size l) (rest_fits n l h),
      )

  -- behind the first row, and then behind others
  behind_first : (n y i : ℕ) (l : List ℕ) → suc n * size ≤ length l
      → drop (suc i * size) (each_row f size (suc n) y l) ≡ drop (i * size) (each_row f size n (suc y) (drop size l))
  unfolding each_row
  behind_first n y i l h =
      let wide : suc i * size ≡ size + i * size = suc-mul i size ∙ add_comm (i * size) size in
      let rest : List ℕ = each_row f size n (suc y) (drop size l) in
      rw (
        wide,
        ← (drop-drop (i * size) size (f y (take size l) ++ rest)),
        drop_at (f y (take size l)) rest size (first_long n y l h),
      )

  -- what stands behind them is as it was
  pub rows_behind : (n y : ℕ) (l : List ℕ) → n * size ≤ length l → drop (n * size) (each_row f size n y l) ≡ drop (n * size) l
  unfolding each_row
  rows_behind zero y l h = refl
  rows_behind (suc n) y l h =
      let wide : size + n * size ≡ suc n * size = sym (suc-mul n size ∙ add_comm (n * size) size) in
      behind_first n y n l h
      ∙ rows_behind n (suc y) (drop size l) (rest_fits n l h)
      ∙ drop-drop (n * size) size l
      ∙ ap (λ (k : ℕ). drop k l) wide

  -- row i of them is row i, changed
  pub row_at : (i n y : ℕ) (l : List ℕ) → i < n → n * size ≤ length l
      → take size (drop (i * size) (each_row f size n y l)) ≡ f (y + i) (take size (drop (i * size) l))
  unfolding each_row
  row_at i zero y l h k = absurd (omega arith)
  row_at zero (suc n) y l h k =
      rw (zero-mul, add-zero) (take_at (f y (take size l)) (each_row f size n (suc y) (drop size l)) size (first_long n y l k))
  row_at (suc i) (suc n) y l h k =
      let wide : size + i * size ≡ suc i * size = sym (suc-mul i size ∙ add_comm (i * size) size) in
      let next : suc y + i ≡ y + suc i = omega arith in
      ap (take size) (behind_first n y i l k)
      ∙ row_at i n (suc y) (drop size l) (omega arith) (rest_fits n l k)
      ∙ ap (λ (r : List ℕ). f (suc y + i) (take size r)) (drop-drop (i * size) size l ∙ ap (λ (m : ℕ). drop m l) wide)
      ∙ ap (λ (j : ℕ). f j (take size (drop (suc i * size) l))) next

  pub rows_length : (n y : ℕ) (l : List ℕ) → n * size ≤ length l → length (each_row f size n y l) ≡ length l
  unfolding each_row
  rows_length zero y l h = refl
  rows_length (suc n) y l h =
      let wide = suc-mul n size in
      let first = first_long n y l h in
      let rest = rows_length n (suc y) (drop size l) (rest_fits n l h) in
      let back = length-drop size l in
      length-append (f y (take size l)) _ ∙ omega arith

-- two changes that agree on the first a rows, and keep the others
module _ (f g : ℕ → List ℕ → List ℕ) (size : ℕ) where
  pub rows_front : (a b y : ℕ) (l : List ℕ) → ((j : ℕ) (r : List ℕ) → j < a → f (y + j) r ≡ g (y + j) r)
      → ((j : ℕ) (r : List ℕ) → a ≤ j → j < a + b → f (y + j) r ≡ r) → each_row f size (a + b) y l ≡ each_row g size a y l
  unfolding each_row
  rows_front zero b y l alike keep =
      ap (λ (n : ℕ). each_row f size n y l) (zero-add b) ∙ rows_kept f size b y l (λ j r h. keep j r (omega arith) (omega arith))
  rows_front (suc a) b y l alike keep =
      let first : f y (take size l) ≡ g y (take size l) = rw add-zero at (alike 0 (take size l) (omega arith)) in
      let step : (j : ℕ) → y + suc j ≡ suc y + j = λ j. omega arith in
      let rest = rows_front a b (suc y) (drop size l)
      (λ j r h. subst (λ (m : ℕ). f m r ≡ g m r) (step j) (alike (suc j) r (omega arith)))
      (λ j r h k. subst (λ (m : ℕ). f m r ≡ r) (step j) (keep (suc j) r (omega arith) (omega arith))) in
      rw (suc-add, first, rest)

-- rows of a part that ends with them, and what stands behind the part
pub rows_part : (f : ℕ → List ℕ → List ℕ) (size n y : ℕ) (l : List ℕ) → n * size ≤ length l
    → each_row f size n y (take (n * size) l) ++ drop (n * size) l ≡ each_row f size n y l
unfolding each_row
rows_part f size zero y l h = rw (zero-mul)
rows_part f size (suc n) y l h =
    let wide : suc n * size ≡ size + n * size = suc-mul n size ∙ add_comm (n * size) size in
    let one : take size (take (suc n * size) l) ≡ take size l = take-take size (suc n * size) l (omega arith) in
    let others : drop size (take (suc n * size) l) ≡ take (n * size) (drop size l) =
    ap (λ (k : ℕ). drop size (take k l)) wide
    ∙ ap (drop size) (take-add size (n * size) l)
    ∙ drop_at (take size l) (take (n * size) (drop size l)) size (length-take-le size l (omega arith)) in
    let back : drop (suc n * size) l ≡ drop (n * size) (drop size l) = ap (λ (k : ℕ). drop k l) wide ∙ sym (drop-drop (n * size) size l) in
    rw (one, others, back, append_assoc, rows_part f size n (suc y) (drop size l) (rw length-drop (omega arith)))

-- the cases of a stroke's row
module _ (glyph offsets k : List ℕ) (x base y : ℕ) (row : List ℕ) where
  pub stroke_length : length (stroke_row glyph offsets k x base y row) ≡ length row
  unfolding stroke_row
  stroke_length =
      let r = origin + y - (base - bearing_y) in
      cond_length (leb (base - bearing_y) (origin + y) && ltb r 16) _ row
      (columns_length k (get_or glyph r 0) (x + get_or offsets r 0 - unmoved) 8 row) refl

  pub stroke_on_lem : (r : ℕ) → r < 16 → origin + y ≡ base - bearing_y + r
      → stroke_row glyph offsets k x base y row ≡ paint_row k (get_or glyph r 0) (x + get_or offsets r 0 - unmoved) row
  unfolding stroke_row
  stroke_on_lem r h e =
      let at : origin + y - (base - bearing_y) ≡ r = omega arith in
      simp (le-leb (base - bearing_y) (origin + y) (omega arith), at, lt-ltb r 16 h)

  pub stroke_clear : get_or k 3 0 ≡ 0 → stroke_row glyph offsets k x base y row ≡ row
  unfolding stroke_row
  stroke_clear clear =
      let r = origin + y - (base - bearing_y) in
      rw (columns_clear k clear (get_or glyph r 0) (x + get_or offsets r 0 - unmoved) 8 row) (cond_same (leb (base - bearing_y) (origin + y) && ltb r 16) row)

  pub stroke_above : origin + y < base - bearing_y → stroke_row glyph offsets k x base y row ≡ row
  unfolding stroke_row
  stroke_above h = simp (lt-leb (base - bearing_y) (origin + y) h)

  pub stroke_below : base - bearing_y + 16 ≤ origin + y → stroke_row glyph offsets k x base y row ≡ row
  unfolding stroke_row
  stroke_below h =
      simp (le-leb (base - bearing_y) (origin + y) (omega arith), le-ltb (origin + y - (base - bearing_y)) 16 (omega arith))

-- a test inside itself and another
cond_twice : {A : Type 0} (b c : Bool) (x y : A) → cond b (cond (b && c) x y) y ≡ cond (b && c) x y
cond_twice true c x y = refl
cond_twice false c x y = refl

-- the cases of a row after the j lowest rows of a stroke
module _ (j : ℕ) (glyph offsets k : List ℕ) (x base y : ℕ) (row : List ℕ) where
  pub after_on : base - bearing_y + (16 - j) ≤ origin + y
      → stroke_after j glyph offsets k x base y row ≡ stroke_row glyph offsets k x base y row
  unfolding stroke_after
  after_on h = simp (le-leb (base - bearing_y + (16 - j)) (origin + y) h)

  pub after_above : origin + y < base - bearing_y + (16 - j) → stroke_after j glyph offsets k x base y row ≡ row
  unfolding stroke_after
  after_above h = simp (lt-leb (base - bearing_y + (16 - j)) (origin + y) h)

  pub after_below : base - bearing_y + 16 ≤ origin + y → stroke_after j glyph offsets k x base y row ≡ row
  after_below h = after_on (omega arith) ∙ stroke_below glyph offsets k x base y row h

  pub after_all : 16 ≤ j → stroke_after j glyph offsets k x base y row ≡ stroke_row glyph offsets k x base y row
  unfolding stroke_after stroke_row
  after_all h =
      let none : 16 - j ≡ 0 = omega arith in
      let r = origin + y - (base - bearing_y) in
      rw (none, add-zero) (cond_twice (leb (base - bearing_y) (origin + y)) (ltb r 16) (paint_row k (get_or glyph r 0) (x + get_or offsets r 0 - unmoved) row) row)

-- all sixteen are the stroke
pub all_rows : (glyph offsets k : List ℕ) (x base size n first : ℕ) (part : List ℕ)
    → each_row (stroke_after 16 glyph offsets k x base) size n first part ≡ each_row (stroke_row glyph offsets k x base) size n first part
all_rows glyph offsets k x base size n first part =
    λ i. each_row (λ y row. after_all 16 glyph offsets k x base y row (le_refl 16) i) size n first part

-- A loop over the j lowest rows of a stroke, from the last up: the rows before row i are as they were, and those from i
-- on are done.
module _ (j : ℕ) (glyph offsets k : List ℕ) (x base size rows first : ℕ) (whole : List ℕ) where
  abbrev low : ℕ → List ℕ → List ℕ
  low = stroke_after j glyph offsets k x base

  abbrev pub Done : ℕ → List ℕ → Type 0
  Done i part = part ≡ take (i * size) whole ++ each_row low size (rows - i) (first + i) (drop (i * size) whole)

  -- the rows below the glyph
  pub done_start : (i : ℕ) → i ≡ min rows (base - bearing_y + 16 - (origin + first)) → Done i whole
  done_start i h =
      sym
      (ap (λ (l : List ℕ). take (i * size) whole ++ l)
      (rows_kept low size (rows - i) (first + i) (drop (i * size) whole)
      (λ d row b. after_below j glyph offsets k x base (first + i + d) row (omega arith)))
      ∙ take-append-drop (i * size) whole)

  -- row i, on which the glyph's row r falls
  pub done_turn : (i r n : ℕ) (part row : List ℕ) → Falls rows (origin + first) (base - bearing_y) (16 - j) i r
      → i * size + size ≤ length whole → n ≡ size
      → row ≡ paint_row k (get_or glyph r 0) (x + get_or offsets r 0 - unmoved) (take n (drop (i * size) part)) → Done (i + 1) part
      → Done i (take (i * size) part ++ (row ++ drop n (drop (i * size) part)))
  done_turn i r n part row f fits q p w =
      let old = take size (drop (i * size) part) in
      let m : rows - i ≡ suc (rows - (i + 1)) = omega arith in
      let v : (i + 1) * size ≡ i * size + size = ap (λ (j : ℕ). j * size) (add-one i) ∙ suc-mul i size in
      let y : first + (i + 1) ≡ suc (first + i) = omega arith in
      let painted = stroke_on_lem glyph offsets k x base (first + i) old r f.row (omega arith) in
      let lowest = after_on j glyph offsets k x base (first + i) old (omega arith) in
      rw (q, m)
      (rows_turn low size (rows - (i + 1)) (first + i) (i * size) whole row part fits (rw (v, y) at w)
      ((rw q at p) ∙ sym painted ∙ sym lowest))

  -- the rows above the glyph's j lowest
  pub done_end : (i : ℕ) (part : List ℕ) → i ≤ min rows (base - bearing_y + (16 - j) - (origin + first)) → Done i part
      → part ≡ each_row low size rows first whole
  done_end i part h w =
      let e : i + (rows - i) ≡ rows = omega arith in
      w
      ∙ sym (rows_skip low size i (rows - i) first whole (λ d row c. after_above j glyph offsets k x base (first + d) row (omega arith)))
      ∙ ap (λ (n : ℕ). each_row low size n first whole) e
