-- A stroke from its lowest row up: document 02, S-2. Definitions only.
-- No player needs this part: a stroke meets no pixel twice, so that the picture cannot tell in which order its pixels
-- were painted, and any order will do. `RowsFromTheBottom`, at the end, is the claim, and it is proved.
use Rattle.std.specs.Prelude.{◌≡◌, ℕ, zero, suc, ◌+◌, ◌-◌, ◌*◌, ◌<◌, ◌≤◌, Bool, true, false, cond, not, ◌&&◌, ◌||◌, List, [], ◌∷◌, ◌++◌, length, take, drop, ◌==◌, nat_le, nat_lt, slice_index}
use Rattle.font.specs.Font.{bearing_y, cell_w, cell_h}
use Rattle.font.specs.Blend.{blend_pixel}
use Rattle.font.specs.Slant.{unmoved}
use Rattle.font.specs.Paint.{origin, on_row, lit, paint_row, stroke_row, each_row}

-- ---- some rows of a stroke

-- The picture's row y after the j lowest rows of a stroke: what the stroke leaves there, where the glyph's row that
-- falls on it is one of them, a row from cell_h − j on; else as it was. Blank rows count, and so do rows off the
-- picture. More than sixteen are all of them.
unfoldable pub stroke_after : ℕ → List ℕ → List ℕ → List ℕ → ℕ → ℕ → ℕ → List ℕ → List ℕ
stroke_after j rows offsets k x base y row =
    cond (nat_le (base - bearing_y + (cell_h - j)) (origin + y)) (stroke_row rows offsets k x base y row) row

-- the picture's row y with one row of a stroke: the glyph's row r, where it falls on row y
unfoldable pub one_row : ℕ → List ℕ → List ℕ → List ℕ → ℕ → ℕ → ℕ → List ℕ → List ℕ
one_row r rows offsets k x base y row =
    cond (origin + y == base - bearing_y + r) (paint_row k (slice_index rows r) (x + slice_index offsets r - unmoved) row) row

-- row i of bytes l that begin with rows of row_size bytes
abbrev pub lent_row : ℕ → ℕ → List ℕ → List ℕ
lent_row row_size i l = take row_size (drop (i * row_size) l)

-- ---- pixels, one after the other

-- Pixels are numbered from 0, row after row, so that the four bytes of pixel p begin at 4 · p.
abbrev pub pixel_at : ℕ → List ℕ → List ℕ
pixel_at p l = take 4 (drop (4 * p) l)

-- the bytes l with the color k blended into the pixels ps, one after the other
unfoldable pub blend_each : List ℕ → List ℕ → List ℕ → List ℕ
blend_each k [] l = l
blend_each k (p ∷ ps) l = blend_each k ps (blend_pixel k (4 * p) l)

-- the pixel p is one of the list's
unfoldable pub has_pixel : ℕ → List ℕ → Bool
has_pixel p [] = false
has_pixel p (q ∷ ps) = p == q || has_pixel p ps

-- no pixel is on the list twice
unfoldable pub none_twice : List ℕ → Bool
none_twice [] = true
none_twice (p ∷ ps) = not (has_pixel p ps) && none_twice ps

-- ---- the pixels that a stroke meets

-- Those that the first c columns of a glyph's row meet on a row of `width` pixels, from the left: a column meets one
-- where it is lit and lies on the row. The row's pixels are numbered from p on; the glyph's column 0 is at position x.
unfoldable pub met_columns : ℕ → ℕ → ℕ → ℕ → ℕ → List ℕ
met_columns p bits x width zero = []
met_columns p bits x width (suc c) =
    met_columns p bits x width c ++ cond (lit bits c && on_row (x + c) (4 * width)) ((p + (x + c - origin)) ∷ []) []

-- a stroke on n rows of `width` pixels, the first of which is the picture's row `first`
module _ (rows offsets : List ℕ) (x base width n first : ℕ) where
  -- the pixels that the glyph's row r meets, where it falls on one of these rows
  unfoldable pub met_row : ℕ → List ℕ
  met_row r =
      let position = base - bearing_y + r in
      let i = position - (origin + first) in
      cond (nat_le (origin + first) position && nat_lt i n)
      (met_columns (i * width) (slice_index rows r) (x + slice_index offsets r - unmoved) width cell_w) []

  -- The pixels that its j lowest rows meet, in the order in which they are met: from the lowest row up, in each from
  -- the left. A comma, whose rows 10 to 13 are 38 38 18 30, upright in the corner of 16 rows of 8 pixels, meets none in
  -- its two lowest rows; the third meets 106 and 107, the next 99 and 100, the next 90, 91 and 92, and the next 82, 83
  -- and 84. On the first 12 of these rows alone it meets the last six.
  unfoldable pub met : ℕ → List ℕ
  met zero = []
  met (suc j) = met j ++ met_row (cell_h - suc j)

-- ---- the claim

-- the same stroke, in a color k; its rows are those that bytes begin with
module _ (rows offsets k : List ℕ) (x base width n first : ℕ) where
  -- the bytes after its j lowest rows
  abbrev pub part_after : ℕ → List ℕ → List ℕ
  part_after j part = each_row (stroke_after j rows offsets k x base) (4 * width) n first part

  -- After none of its rows nothing is painted, and after sixteen the stroke is. With one row more, the glyph's row
  -- 15 − j, the one row that changes is that on which it falls, if there is one, and there it is painted. After j rows
  -- each pixel that they meet has been blended, in this order, and no pixel is met twice. So each pixel is what it was,
  -- or, where it is met, what it was with the color blended into it once. The bytes after these rows stay.
  pub record DrawnUpward (part : List ℕ) : Type 0 where
    pub beginning : part_after 0 part ≡ part
    pub ending : part_after cell_h part ≡ each_row (stroke_row rows offsets k x base) (4 * width) n first part
    pub step : (j i : ℕ) → j < cell_h → i < n
        → lent_row (4 * width) i (part_after (suc j) part)
        ≡ one_row (cell_h - suc j) rows offsets k x base (first + i) (lent_row (4 * width) i (part_after j part))
    pub in_turn : (j : ℕ) → j ≤ cell_h → part_after j part ≡ blend_each k (met rows offsets x base width n first j) part
    pub once : none_twice (met rows offsets x base width n first cell_h) ≡ true
    pub pixels : (j p : ℕ) → j ≤ cell_h
        → pixel_at p (part_after j part)
        ≡ cond (has_pixel p (met rows offsets x base width n first j)) (blend_pixel k 0 (pixel_at p part)) (pixel_at p part)
    pub behind : (j : ℕ) → drop (n * (4 * width)) (part_after j part) ≡ drop (n * (4 * width)) part

-- For every glyph, offsets, color and position, however much of the stroke is off these rows, and all bytes that hold
-- them.
abbrev pub RowsFromTheBottom : Type 0
RowsFromTheBottom =
    (rows offsets k : List ℕ) (x base width n first : ℕ) (part : List ℕ)
    → n * (4 * width) ≤ length part → DrawnUpward rows offsets k x base width n first part
