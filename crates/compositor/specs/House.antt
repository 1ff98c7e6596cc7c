-- HOUSE SETTINGS: document 02, S-10. Definitions only.
-- No player needs this part. Side margin, slant and outline cap were fixed numbers once: 8, 2 and 2. `HouseSettings`,
-- at the end, is the claim of what each of them changes and what it leaves, and it is proved.
use Rattle.std.specs.Prelude.{◌≡◌, false, List, ℕ, ◌+◌, ◌-◌, ◌*◌, min, length}
use Rattle.font.specs.Font.{cell_w, cell_h, bearing_y}
use Rattle.font.specs.Slant.{nearest, unmoved, row_offset}
use Rattle.tape.specs.Runs.{Letter}
use Rattle.wrap.specs.Shown.{inked_letters}
use Rattle.compositor.specs.declared.Settings.{Settings}
use Rattle.compositor.specs.Layout.{column_limit, line_start}
use Rattle.compositor.specs.Order.{letter_strokes, drawing}

-- settings with another side margin, slant and outline cap
abbrev pub with_house : ℕ → ℕ → ℕ → Settings → Settings
with_house margin slant cap s =
    record {
      width = s.width;
      height = s.height;
      default_color = s.default_color;
      outline_color = s.outline_color;
      line_height_px = s.line_height_px;
      bottom_margin_px = s.bottom_margin_px;
      outline_px = s.outline_px;
      align = s.align;
      glyph_mode = s.glyph_mode;
      side_margin_px = margin;
      slant = slant;
      outline_cap_px = cap;
    }

-- a letter that is not italic, else the same
abbrev pub upright_letter : Letter → Letter
upright_letter l =
    record {
      code = l.code;
      style =
          record {
            red = l.style.red;
            green = l.style.green;
            blue = l.style.blue;
            alpha = l.style.alpha;
            bold = l.style.bold;
            italic = false;
          };
      start = l.start;
    }

-- Of settings with any three numbers. No line is broken otherwise, since the column limit stays, and in the centre it
-- starts where it did. T is the letters with ink times 1 + 8o, o being the outline or the cap, whichever is less;
-- neither side margin nor slant enters it.
pub record HouseOf (margin slant cap : ℕ) (s : Settings) : Type 0 where
  pub same_limit : column_limit (with_house margin slant cap s) ≡ column_limit s
  pub same_centre : s.align ≡ 0 → (w : ℕ) → line_start (with_house margin slant cap s) w ≡ line_start s w
  pub total : (ls : List Letter)
      → length (drawing (with_house margin slant cap s) ls) ≡ inked_letters ls * (1 + 8 * min s.outline_px cap)

-- With its own three numbers nothing of the settings changes. At slant 0 every row stays, and an italic letter's
-- strokes are those of the upright one. At slant 2 row r moves by (bearing_y − r) · cell_w / (4 · cell_h) columns,
-- rounded, which was the one rule there was.
pub record HouseSettings : Type 0 where
  pub own_numbers : (s : Settings) → with_house s.side_margin_px s.slant s.outline_cap_px s ≡ s
  pub of_numbers : (margin slant cap : ℕ) (s : Settings) → HouseOf margin slant cap s
  pub still : (r : ℕ) → row_offset 0 r ≡ unmoved
  pub upright : (margin cap : ℕ) (s : Settings) (l : Letter) (x base : ℕ)
      → letter_strokes (with_house margin 0 cap s) l x base ≡ letter_strokes (with_house margin 0 cap s) (upright_letter l) x base
  pub old_slant : (r : ℕ)
      → row_offset 2 r ≡ unmoved + nearest ((bearing_y - r) * cell_w) (4 * cell_h) - nearest ((r - bearing_y) * cell_w) (4 * cell_h)
