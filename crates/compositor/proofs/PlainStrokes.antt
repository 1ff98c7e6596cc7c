-- Strokes, offsets and displacements in signed numbers are those of the parts Paint, Slant and Outline; and every
-- stroke of a caption stands where the law of strokes holds. So no difference stops at 0, but beside a test that fails.
use mathlib.Core.Path.{◌≡◌, ◌∙◌, refl, sym, ap, ap₂}
use mathlib.Core.Bool.{Bool, true, false, cond}
use mathlib.Core.List.{List, [], ◌∷◌, map, flatten}
use Prim.Native.Nat.{ℕ, zero, suc, ◌+◌, ◌-◌, ◌*◌, ◌/◌, ◌≤◌, ◌<◌}
use native.Mathlib.Omega.{arith}
use native.Mathlib.Nat.{zero-mul, mul-le-mul}
use borrow.Author.Tests.{lt-ltb, le-ltb, le-leb}
use lib.Dec.{eqb, leb}
use lib.ListN.{length, get_or}
use lib.IntN.{ℤ, pos, neg_ℤ, sub_ℕ, ◌+ℤ◌, ◌-ℤ◌}
use Rattle.font.specs.Font.{cell_w, cell_h, bearing_y}
use Rattle.font.specs.Ink.{has_ink}
use Rattle.font.specs.Slant.{most_slant, nearest, unmoved, row_offset, row_offsets}
use Rattle.font.specs.Paint.{origin, lit, paint_column, paint_columns, stroke_row}
use Rattle.font.proofs.ArrayFill.{tabulate_at}
use Rattle.font.proofs.Columns.{column_left}
use Rattle.font.proofs.RowLaws.{stroke_on_lem, stroke_above, stroke_below}
use Rattle.font.proofs.EveryEntry.{All, all_append, all_if, each}
use Rattle.tape.specs.Command.{most_letters}
use Rattle.tape.specs.Runs.{Letter}
use Rattle.wrap.specs.Lines.{Line, letter_of, visible_cols, wrap_runs}
use Rattle.wrap.proofs.Narrow.{narrow}
use Rattle.wrap.proofs.FewLines.{few_lines}
use Rattle.compositor.specs.declared.Settings.{Settings}
use Rattle.compositor.specs.Layout.{column_limit, line_height, base_line, line_width, line_start}
use Rattle.compositor.specs.Order.{Stroke, outline_strokes, glyph_strokes, letter_rows, letter_slant, any_letter_strokes, letter_strokes, line_strokes, lines_strokes, drawing}
use Rattle.compositor.specs.Picture.{stroke_on}
use Rattle.compositor.specs.Ready.{InRange, most_lines}
use Rattle.compositor.specs.Settings.{most_side_margin, most_outline_cap}
use Rattle.compositor.specs.Outline.{outline_of, displacement_row, displacement_rows, displacements}
use Rattle.compositor.specs.Plain.{signed, slanted, plain_offset, plain_displacements, plain_column, plain_columns, plain_glyph_row, plain_stroke_row}
use Rattle.compositor.proofs.Ranges.{slant_small}
use Rattle.compositor.proofs.Plain.{from_above, from_below, from_zero, is_sub, by_size, sub_same, add_sub, minus_sub, is_signed}

-- ---- columns

column_inside : (k : List ℕ) (x : ℕ) (row : List ℕ) → origin ≤ x → paint_column k x row ≡ plain_column k (pos (x - origin)) row
unfolding paint_column
column_inside k x row h = rw (le-leb origin x h)

column_plain : (k : List ℕ) (x : ℕ) (row : List ℕ) → paint_column k x row ≡ plain_column k (signed x) row
column_plain k x row =
    by_size x origin _
    (λ h. column_inside k x row h ∙ sym (ap (λ (z : ℤ). plain_column k z row) (is_signed x ∙ from_above x origin h)))
    (λ h. column_left k x row h ∙ sym (ap (λ (z : ℤ). plain_column k z row) (is_signed x ∙ from_below x origin h)))

-- n columns further right
signed_add : (x n : ℕ) → signed x +ℤ pos n ≡ signed (x + n)
signed_add x n =
    ap₂ (λ (u v : ℤ). u +ℤ v) (is_signed x) (sym (from_above n 0 (omega arith) ∙ ap pos less))
    ∙ add_sub x origin n 0 ∙ sub_same (x + n) (origin + 0) (x + n) origin (omega arith) ∙ sym (is_signed (x + n))
  where
    less : n - 0 ≡ n
    less = omega arith

columns_plain : (k : List ℕ) (bits x n : ℕ) (row : List ℕ) → paint_columns k bits x n row ≡ plain_columns k bits (signed x) n row
unfolding paint_columns
columns_plain k bits x zero row = refl
columns_plain k bits x (suc n) row =
    let ih = columns_plain k bits x n row in
    let here : paint_column k (x + n) (paint_columns k bits x n row) ≡ plain_column k (signed x +ℤ pos n) (plain_columns k bits (signed x) n row) =
    column_plain k (x + n) (paint_columns k bits x n row) ∙ ap₂ (plain_column k) (sym (signed_add x n)) ih in
    ap₂ (λ (u v : List ℕ). cond (lit bits n) u v) here ih

-- ---- offsets

module _ (slant r : ℕ) where
  -- the two quotients of a row
  abbrev right : ℕ
  right = nearest ((bearing_y - r) * cell_w * slant) (8 * cell_h)

  abbrev left : ℕ
  left = nearest ((r - bearing_y) * cell_w * slant) (8 * cell_h)

  no_quotient : {n : ℕ} → n ≡ 0 → nearest (n * cell_w * slant) (8 * cell_h) ≡ 0
  no_quotient e = rw (e, zero-mul slant)

  -- a row on the base line or above it, and one below it
  above : r ≤ bearing_y → sub_ℕ (row_offset slant r) unmoved ≡ plain_offset slant r
  above h =
      let none = no_quotient {n = r - bearing_y} (omega arith) in
      let e : row_offset slant r - unmoved ≡ right = omega arith in
      from_above (row_offset slant r) unmoved (omega arith) ∙ ap pos e
      ∙ sym (ap (slanted slant) (is_sub bearing_y r ∙ from_above bearing_y r h))

  below : slant ≤ most_slant → r < cell_h → bearing_y < r → sub_ℕ (row_offset slant r) unmoved ≡ plain_offset slant r
  below few low h =
      let none = no_quotient {n = bearing_y - r} (omega arith) in
      let product : (r - bearing_y) * cell_w * slant ≤ 24 * most_slant = mul-le-mul {n₂ = 24} (omega arith) few in
      let e : suc (r - suc bearing_y) ≡ r - bearing_y = omega arith in
      sub_same (row_offset slant r) unmoved 0 left (omega arith) ∙ from_zero left
      ∙ sym (ap (slanted slant) (is_sub bearing_y r ∙ from_below bearing_y r h) ∙ ap (λ (n : ℕ). neg_ℤ (pos (nearest (n * cell_w * slant) (8 * cell_h)))) e)

  pub offset_plain : slant ≤ most_slant → r < cell_h → pos (get_or (row_offsets slant) r 0) -ℤ pos unmoved ≡ plain_offset slant r
  offset_plain few low =
      ap (λ (n : ℕ). pos n -ℤ pos unmoved) (tabulate_at (row_offset slant) cell_h r 0 low)
      ∙ is_sub (row_offset slant r) unmoved ∙ by_size bearing_y r _ above (below few low)

-- ---- displacements

abbrev Displaced : ℕ → Type 0
Displaced o = map (λ d. (pos d.0 -ℤ pos o, pos d.1 -ℤ pos o)) (displacements o) ≡ plain_displacements o

pub displacements_plain : (o : ℕ) → o ≤ most_outline_cap → Displaced o
unfolding displacements displacement_rows displacement_row flatten
displacements_plain o h = each Displaced 5 (refl, (refl, (refl, (refl, (refl, tt))))) o (omega arith)

-- ---- a stroke

module _ (rows : List ℕ) (slant : ℕ) (few : slant ≤ most_slant) (k : List ℕ) (x base y : ℕ) (row : List ℕ) (wide : unmoved ≤ x) (high : bearing_y ≤ base) where
  -- the glyph's row that falls on row y
  falls : pos (y + bearing_y) -ℤ signed base ≡ sub_ℕ (y + bearing_y + origin) base
  falls = ap (λ (z : ℤ). pos (y + bearing_y) -ℤ z) (is_signed base) ∙ minus_sub (y + bearing_y) base origin

  -- where it begins
  begins : (r : ℕ) → r < cell_h → signed (x + get_or (row_offsets slant) r 0 - unmoved) ≡ signed x +ℤ plain_offset slant r
  begins r h =
      let off = get_or (row_offsets slant) r 0 in
      is_signed (x + off - unmoved) ∙ sub_same (x + off - unmoved) origin (x + off) (origin + unmoved) (omega arith) ∙ sym (add_sub x origin off unmoved)
      ∙ ap₂ (λ (u v : ℤ). u +ℤ v) (sym (is_signed x)) (sym (is_sub off unmoved) ∙ offset_plain slant r few h)

  -- row r of the glyph, where it has one, falls on row y
  on_row_lem : (r : ℕ) → origin + y ≡ base - bearing_y + r
      → stroke_row rows (row_offsets slant) k x base y row ≡ plain_glyph_row rows slant k (signed x) (pos r) row
  on_row_lem r e =
      by_size r cell_h _
      (λ h. stroke_below rows (row_offsets slant) k x base y row (omega arith) ∙ sym (rw (le-ltb r cell_h h)))
      (λ h.
      stroke_on_lem rows (row_offsets slant) k x base y row r h e
      ∙ columns_plain k (get_or rows r 0) (x + get_or (row_offsets slant) r 0 - unmoved) cell_w row
      ∙ ap (λ (z : ℤ). plain_columns k (get_or rows r 0) z cell_w row) (begins r h)
      ∙ sym (rw (lt-ltb r cell_h h)))

  pub stroke_plain : stroke_row rows (row_offsets slant) k x base y row ≡ plain_stroke_row rows slant k (signed x) (signed base) y row
  stroke_plain =
      by_size (y + bearing_y + origin) base _
      (λ h.
      let r = y + bearing_y + origin - base in
      on_row_lem r (omega arith) ∙ sym (ap (λ (z : ℤ). plain_glyph_row rows slant k (signed x) z row) (falls ∙ from_above (y + bearing_y + origin) base h)))
      (λ h.
      stroke_above rows (row_offsets slant) k x base y row (omega arith)
      ∙ sym (ap (λ (z : ℤ). plain_glyph_row rows slant k (signed x) z row) (falls ∙ from_below (y + bearing_y + origin) base h)))

-- ---- every stroke of a caption stands where that holds

pub record Placed (t : Stroke) : Type 0 where
  pub slant : ℕ
  pub few : slant ≤ most_slant
  pub slants : t.offsets ≡ row_offsets slant
  pub wide : unmoved ≤ t.x
  pub high : bearing_y ≤ t.base

pub placed_plain : (t : Stroke) (p : Placed t) (y : ℕ) (row : List ℕ)
    → stroke_on t y row ≡ plain_stroke_row t.rows p.slant t.color (signed t.x) (signed t.base) y row
placed_plain t p y row =
    ap (λ (offsets : List ℕ). stroke_row t.rows offsets t.color t.x t.base y row) p.slants
    ∙ stroke_plain t.rows p.slant p.few t.color t.x t.base y row p.wide p.high

placed_outline : (rows : List ℕ) (slant : ℕ) (k : List ℕ) (o x base : ℕ) → slant ≤ most_slant → 16 ≤ x → 16 ≤ base → o ≤ most_outline_cap → (ds : List (ℕ × ℕ))
    → All Placed (outline_strokes rows (row_offsets slant) k o x base ds)
placed_outline rows slant k o x base few h j l [] = tt
placed_outline rows slant k o x base few h j l (d ∷ ds) =
    (record { slant = slant; few = few; slants = refl; wide = omega arith; high = omega arith }, placed_outline rows slant k o x base few h j l ds)

module _ (s : Settings) (range : InRange s) where
  placed_letter : (l : Letter) (x base : ℕ) → 16 ≤ x → 16 ≤ base → All Placed (letter_strokes s l x base)
  unfolding glyph_strokes
  placed_letter l x base h j =
      let cap = range.cap in
      let few = slant_small range.slanted l.style.italic in
      all_if Placed (has_ink (letter_rows s l)) (any_letter_strokes s l x base)
      (all_append Placed (outline_strokes _ _ _ (outline_of s) x base (displacements (outline_of s))) _
      (placed_outline _ (letter_slant s l) _ (outline_of s) x base few h j (omega arith) (displacements (outline_of s)))
      (record { slant = letter_slant s l; few = few; slants = refl; wide = omega arith; high = omega arith }, tt))

  placed_line : (ls : List Letter) (x base : ℕ) → 16 ≤ x → 16 ≤ base → All Placed (line_strokes s x base ls)
  unfolding line_strokes
  placed_line [] x base h j = tt
  placed_line (l ∷ ls) x base h j =
      all_append Placed (letter_strokes s l x base) _ (placed_letter l x base h j) (placed_line ls (x + cell_w) base (omega arith) j)

  module _ (ls : List Letter) where
    start_far : (w : ℕ) → w ≤ 4096 → 16 ≤ line_start s w
    unfolding line_start
    start_far w h = by (eqb s.align 0) (leb s.align 2) range.margin
      where
        by : (centre left : Bool) → s.side_margin_px ≤ most_side_margin → 16 ≤ cond centre (origin + (s.width - w) / 2 - (w - s.width) / 2)
            (cond left (origin + s.side_margin_px) (origin + s.width - w - s.side_margin_px))
        by true left most = omega arith
        by false true most = omega arith
        by false false most = omega arith

    base_far : (below : ℕ) → below ≤ most_lines → 16 ≤ base_line s below
    unfolding base_line
    base_far below h =
        let tall : line_height s ≤ 1024 = let l = range.lines in omega arith in
        let rise : below * line_height s ≤ most_lines * 1024 = mul-le-mul h tall in
        omega arith

    placed_lines : (lines : List Line) → length lines ≤ most_lines → ((i : ℕ) → visible_cols ls (get_or lines i []) ≤ column_limit s)
        → All Placed (lines_strokes s ls lines)
    unfolding lines_strokes
    placed_lines [] few narrow = tt
    placed_lines (line ∷ below) few narrow =
        let wide = range.narrow in
        let columns = narrow 0 in
        let x = line_start s (line_width (visible_cols ls line)) in
        let base = base_line s (length below) in
        all_append Placed (line_strokes s x base (map (letter_of ls) line)) (lines_strokes s ls below)
        (placed_line (map (letter_of ls) line) x base (start_far (line_width (visible_cols ls line)) (omega arith)) (base_far (length below) (omega arith)))
        (placed_lines below (omega arith) (λ i. narrow (suc i)))

    pub drawing_placed : length ls ≤ most_letters → All Placed (drawing s ls)
    unfolding drawing
    drawing_placed h =
        let few = few_lines ls (column_limit s) (omega arith) in
        placed_lines (wrap_runs ls (column_limit s)) (omega arith) (narrow ls (column_limit s) (omega arith))
