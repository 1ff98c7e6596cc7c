-- Cases by computation. Of S-2: the pixels that a comma meets, and a quote that leans, in order. Of S-3: what is drawn
-- for code points in each mode. Of S-6: which of them have ink. Of S-10: how far rows are moved at a slant.
use Rattle.std.proofs.Common.{◌≡◌, ℕ, ◌+◌, ◌-◌, Bool, true, false, List, [], ◌∷◌, ◌++◌, map, replicate, refl}
use Rattle.font.specs.Modes.{replaced, drawn_code}
use Rattle.font.specs.Font.{tabulate, regular_table, bold_table, missing_rows, glyph_rows}
use Rattle.font.specs.Ink.{has_ink, is_inked}
use Rattle.font.specs.Blend.{blend_byte, blend_alpha, blend_over, blend_pixel}
use Rattle.font.specs.Slant.{row_offsets}
use Rattle.font.specs.Paint.{origin, paint_column, paint_columns, stroke_row}
use Rattle.font.specs.Upward.{stroke_after, met_columns, met_row, met}

-- on n rows of 8 pixels from the picture's row `first` on, the j lowest rows of a glyph with its left column at position
-- x and its row 0 on the picture's row 0 meet these pixels
abbrev Meets : ℕ → ℕ → ℕ → ℕ → ℕ → ℕ → List ℕ → Type 0
Meets code slant x n first j ps = met (glyph_rows regular_table 0 code) (row_offsets slant) x (origin + 12) 8 n first j ≡ ps

-- a clear row of one pixel, on which column 3 of a comma's row 13 falls, is this after j rows of the comma in white
abbrev After : ℕ → List ℕ → Type 0
After j row = stroke_after j (glyph_rows regular_table 0 0x2c) (row_offsets 0) (replicate 4 255) (origin - 3) (origin - 1) 0 (replicate 4 0) ≡ row

pub record Cases : Type 0 where
  -- a comma's rows 10 to 13 are 38 38 18 30 hexadecimal
  pub comma : Meets 0x2c 0 origin 16 0 16 (106 ∷ 107 ∷ 99 ∷ 100 ∷ 90 ∷ 91 ∷ 92 ∷ 82 ∷ 83 ∷ 84 ∷ [])
  pub comma_none : Meets 0x2c 0 origin 16 0 0 []
  pub comma_blank : Meets 0x2c 0 origin 16 0 2 []
  pub comma_first : Meets 0x2c 0 origin 16 0 3 (106 ∷ 107 ∷ [])
  pub comma_fifteen : Meets 0x2c 0 origin 16 0 15 (106 ∷ 107 ∷ 99 ∷ 100 ∷ 90 ∷ 91 ∷ 92 ∷ 82 ∷ 83 ∷ 84 ∷ [])
  -- clipped at each side
  pub off_left : Meets 0x2c 0 (origin - 3) 16 0 16 (104 ∷ 96 ∷ 97 ∷ 88 ∷ 89 ∷ 80 ∷ 81 ∷ [])
  pub off_right : Meets 0x2c 0 (origin + 5) 16 0 16 (111 ∷ 95 ∷ 87 ∷ [])
  pub off_below : Meets 0x2c 0 origin 12 0 16 (90 ∷ 91 ∷ 92 ∷ 82 ∷ 83 ∷ 84 ∷ [])
  pub off_above : Meets 0x2c 0 origin 5 11 16 (18 ∷ 19 ∷ 11 ∷ 12 ∷ 2 ∷ 3 ∷ 4 ∷ [])
  -- a quote's rows 1 to 3 are 18 18 10, and lean by one column at slant 2
  pub leaning : Meets 0x27 2 origin 16 0 16 (28 ∷ 20 ∷ 21 ∷ 12 ∷ 13 ∷ [])
  -- a row that is painted, and one that is not yet
  pub row_early : After 2 (replicate 4 0)
  pub row_then : After 3 (replicate 4 255)
  pub row_whole : After 16 (replicate 4 255)
  pub row_more : After 17 (replicate 4 255)

pub cases : Cases
unfolding stroke_after stroke_row paint_columns paint_column blend_pixel blend_over blend_byte blend_alpha tabulate regular_table met_columns met_row met
cases =
    record {
      comma = refl;
      comma_none = refl;
      comma_blank = refl;
      comma_first = refl;
      comma_fifteen = refl;
      off_left = refl;
      off_right = refl;
      off_below = refl;
      off_above = refl;
      leaning = refl;
      row_early = refl;
      row_then = refl;
      row_whole = refl;
      row_more = refl;
    }

-- ---- modes

-- in a mode code points are drawn as others
abbrev Draws : ℕ → List ℕ → List ℕ → Type 0
Draws mode codes others = map (drawn_code mode) codes ≡ others

abbrev curly : List ℕ
curly = 0x2018 ∷ 0x2019 ∷ 0x201c ∷ 0x201d ∷ 0x2013 ∷ 0x2014 ∷ []

-- code points beside these, and what these are drawn as
abbrev beside : List ℕ
beside = 0x2012 ∷ 0x2015 ∷ 0x2017 ∷ 0x201a ∷ 0x201b ∷ 0x201e ∷ 0x22 ∷ 0x27 ∷ 0x2d ∷ 0 ∷ 0x10ffff ∷ []

pub record ModeCases : Type 0 where
  pub replaced_in_1 : Draws 1 curly (0x27 ∷ 0x27 ∷ 0x22 ∷ 0x22 ∷ 0x2d ∷ 0x2d ∷ [])
  pub kept_in_1 : Draws 1 beside beside
  pub kept_in_0 : Draws 0 curly curly
  -- no call draws in another mode
  pub kept_in_2 : Draws 2 curly curly
  -- a quote, which is bold in bold; the box, which never is
  pub quote : glyph_rows regular_table 1 0x2019 ≡ (0 ∷ 0x18 ∷ 0x18 ∷ 0x10 ∷ []) ++ replicate 12 0
  pub bold_quote : glyph_rows bold_table 1 0x2018 ≡ (0 ∷ 0x1c ∷ 0x1c ∷ 0x18 ∷ []) ++ replicate 12 0
  pub box_in_0 : glyph_rows bold_table 0 0x2018 ≡ missing_rows
  pub box_in_1 : glyph_rows bold_table 1 0x2015 ≡ missing_rows

pub mode_cases : ModeCases
unfolding replaced tabulate regular_table bold_table
mode_cases =
    record {
      replaced_in_1 = refl;
      kept_in_1 = refl;
      kept_in_0 = refl;
      kept_in_2 = refl;
      quote = refl;
      bold_quote = refl;
      box_in_0 = refl;
      box_in_1 = refl;
    }

-- ---- ink

-- whether the glyphs of code points have ink
abbrev inks : List ℕ → ℕ → List ℕ → List Bool
inks table mode codes = map (λ c. has_ink (glyph_rows table mode c)) codes

pub record InkCases : Type 0 where
  -- both ends of each range of code points without ink, and some of those inside
  pub without : map is_inked (0 ∷ 0x01 ∷ 0x09 ∷ 0x0a ∷ 0x20 ∷ 0x7f ∷ 0x9f ∷ 0xa0 ∷ 0xad ∷ []) ≡ replicate 9 false
  -- those beside them
  pub beside : map is_inked (0x21 ∷ 0x7e ∷ 0xa1 ∷ 0xac ∷ 0xae ∷ 0xff ∷ 0x100 ∷ 0x2019 ∷ 0x10ffff ∷ []) ≡ replicate 9 true
  -- the same by glyphs: a space, A0, AD, the box, and a curly quote, which is a quote in mode 1
  pub regular : inks regular_table 0 (0x20 ∷ 0xa0 ∷ 0xad ∷ 0x100 ∷ []) ≡ false ∷ false ∷ false ∷ true ∷ []
  pub bold : inks bold_table 1 (0x20 ∷ 0xad ∷ 0x2019 ∷ []) ≡ false ∷ false ∷ true ∷ []
  -- one lit pixel is ink
  pub dot : has_ink (replicate 15 0 ++ (1 ∷ [])) ≡ true

pub ink_cases : InkCases
unfolding has_ink replaced tabulate regular_table bold_table
ink_cases = record { without = refl; beside = refl; regular = refl; bold = refl; dot = refl }

-- ---- slants

pub record SlantCases : Type 0 where
  -- slant 0 is upright, and at slant 2 the rows of the old fixed number move as they did
  pub none : row_offsets 0 ≡ replicate 16 8
  pub old : row_offsets 2 ≡ (10 ∷ replicate 8 9) ++ replicate 7 8
  -- halves away from zero: row 4 at slant 1, above the base line, and rows 13 and 15 at slant 8, below it
  pub least : row_offsets 1 ≡ replicate 5 9 ++ replicate 11 8
  pub most : row_offsets 8 ≡ 14 ∷ 14 ∷ 13 ∷ 13 ∷ 12 ∷ 12 ∷ 11 ∷ 11 ∷ 10 ∷ 10 ∷ 9 ∷ 9 ∷ 8 ∷ 7 ∷ 7 ∷ 6 ∷ []
  -- a comma's rows 10 to 13 move by 1, 1, 0 and −1; row 13 of the box begins off the picture
  pub comma : Meets 0x2c 8 origin 16 0 16 (105 ∷ 106 ∷ 99 ∷ 100 ∷ 91 ∷ 92 ∷ 93 ∷ 83 ∷ 84 ∷ 85 ∷ [])
  pub box : Meets 0x100 8 (origin - 1) 16 0 3 (104 ∷ 105 ∷ 106 ∷ 107 ∷ 108 ∷ [])

pub slant_cases : SlantCases
unfolding tabulate regular_table met_columns met_row met
slant_cases = record { none = refl; old = refl; least = refl; most = refl; comma = refl; box = refl }
