-- What side margin, slant and outline cap change and what they leave: the claim of the part House.
use mathlib.Core.Path.{◌≡◌, refl, ap, ap₂}
use mathlib.Core.Bool.{cond}
use mathlib.Core.List.{[]}
use Prim.Native.Nat.{ℕ, ◌+◌, ◌-◌, ◌*◌, min}
use native.Mathlib.Omega.{arith}
use borrow.Author.Tests.{eq-eqb}
use Rattle.font.specs.Font.{cell_w, cell_h, bearing_y}
use Rattle.font.specs.Slant.{nearest, unmoved, row_offset, row_offsets}
use Rattle.font.specs.Ink.{has_ink}
use Rattle.font.proofs.Columns.{cond_same}
use Rattle.tape.specs.Runs.{Letter}
use Rattle.compositor.specs.declared.Settings.{Settings}
use Rattle.compositor.specs.Layout.{line_start}
use Rattle.compositor.specs.Order.{glyph_strokes, color_of, letter_rows, letter_strokes}
use Rattle.compositor.specs.House.{with_house, upright_letter, HouseOf, HouseSettings}
use Rattle.compositor.proofs.Total.{total}

house_of : (margin slant cap : ℕ) (s : Settings) → HouseOf margin slant cap s
unfolding line_start
house_of margin slant cap s =
    record { same_limit = refl; same_centre = λ centre w. rw (eq-eqb s.align 0 centre); total = total (with_house margin slant cap s) }

-- two eighths are a quarter
quarter : (n : ℕ) → nearest (n * cell_w * 2) (8 * cell_h) ≡ nearest (n * cell_w) (4 * cell_h)
quarter n = omega arith

still : (r : ℕ) → row_offset 0 r ≡ unmoved
still r = omega arith

upright : (margin cap : ℕ) (s : Settings) (l : Letter) (x base : ℕ)
    → letter_strokes (with_house margin 0 cap s) l x base ≡ letter_strokes (with_house margin 0 cap s) (upright_letter l) x base
upright margin cap s l x base =
    ap (λ (slant : ℕ). cond (has_ink (letter_rows s l)) (glyph_strokes (letter_rows s l) (row_offsets slant) s.outline_color (color_of l.style) (min s.outline_px cap) x base) [])
    (cond_same {A = ℕ} l.style.italic 0)

pub house_settings : HouseSettings
house_settings =
    record {
      own_numbers = λ s. refl;
      of_numbers = house_of;
      still = still;
      upright = upright;
      old_slant = λ r. ap₂ (λ (a b : ℕ). unmoved + a - b) (quarter (bearing_y - r)) (quarter (r - bearing_y));
    }
