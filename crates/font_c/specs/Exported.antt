-- What the exported functions mean, over the definitions of `font`. Definitions only.
use Rattle.std.specs.Prelude.{◌≡◌, Bool, cond, ◌&&◌, List, ℕ, ◌*◌, ◌/◌, length, nat_le, nat_lt}
use Rattle.font.specs.Font.{table_of, glyph_rows}
use Rattle.font.specs.Colors.{color_bytes}
use Rattle.font.specs.Slant.{most_slant, row_offsets}
use Rattle.font.specs.Paint.{origin, stroke_row, each_row}
use Rattle.font.specs.Upward.{part_after}
use Rattle.font.specs.Lent.{most_lent}

-- a position from 2^25 up to 2^27; the picture's corner is at 2^26
unfoldable pub near : ℕ → Bool
near x = nat_le (origin / 2) x && nat_lt x (2 * origin)

-- n bytes hold the rows of a part, the slant is one of the nine, and the stroke's position is near
unfoldable pub admitted : ℕ → ℕ → ℕ → ℕ → ℕ → ℕ → ℕ → Bool
admitted n width rows first slant x y =
    nat_le slant most_slant
    && (nat_le width most_lent && (nat_le rows most_lent && (nat_le first most_lent && (near x && (near y && nat_le (rows * (4 * width)) n)))))

-- the part l after one stroke; a part, a slant, or a position, that is not admitted changes nothing
unfoldable pub stroked : ℕ → ℕ → ℕ → ℕ → ℕ → Bool → ℕ → ℕ → ℕ → ℕ → List ℕ → List ℕ
stroked width rows first mode code bold slant k x y l =
    cond (admitted (length l) width rows first slant x y)
    (each_row (stroke_row (glyph_rows (table_of bold) mode code) (row_offsets slant) (color_bytes k) x y) (4 * width) rows first l)
    l

-- the answer of a stroke, and the part before and after it
pub record Stroked (width rows first mode code : ℕ) (bold : Bool) (slant k x y : ℕ) (before after : List ℕ) (answer : Bool) : Type 0 where
  pub answers : answer ≡ admitted (length before) width rows first slant x y
  pub leaves : after ≡ stroked width rows first mode code bold slant k x y before

-- the same of the j lowest rows of a stroke
unfoldable pub stroked_rows : ℕ → ℕ → ℕ → ℕ → ℕ → ℕ → Bool → ℕ → ℕ → ℕ → ℕ → List ℕ → List ℕ
stroked_rows j width rows first mode code bold slant k x y l =
    cond (admitted (length l) width rows first slant x y)
    (part_after (glyph_rows (table_of bold) mode code) (row_offsets slant) (color_bytes k) x y width rows first j l)
    l

pub record StrokedRows
    (j width rows first mode code : ℕ)
    (bold : Bool)
    (slant k x y : ℕ)
    (before after : List ℕ)
    (answer : Bool) : Type 0 where
  pub answers : answer ≡ admitted (length before) width rows first slant x y
  pub leaves : after ≡ stroked_rows j width rows first mode code bold slant k x y before
