-- MODE 1 BY MODE 0: document 02, S-3. Definitions only.
-- No player needs this part. A caption in glyph mode 1 is the caption of its letters, with those of `replacements`
-- replaced, in mode 0: so whoever has a player for mode 0 alone may replace the letters and draw. `ReplacedFirst`, at
-- the end, is the claim, and it is proved.
use Rattle.std.specs.Prelude.{◌≡◌, List, map, ℕ, length}
use Rattle.font.specs.Modes.{replaced}
use Rattle.tape.specs.Outcome.{on_accepted}
use Rattle.tape.specs.Runs.{Letter}
use Rattle.tape.specs.Style.{default_with}
use Rattle.tape.specs.Tape.{tape_letters}
use Rattle.wrap.specs.Lines.{Line, visible_cols, wrap_runs}
use Rattle.compositor.specs.declared.Settings.{Settings}
use Rattle.compositor.specs.Layout.{column_limit}
use Rattle.compositor.specs.Order.{drawing}
use Rattle.compositor.specs.Picture.{row_after, picture_after}
use Rattle.compositor.specs.Draw.{Tapes, tape_strokes}

-- a letter with its code point replaced; its style and run stay
abbrev pub replaced_letter : Letter → Letter
replaced_letter l = record { code = replaced l.code; style = l.style; start = l.start }

-- settings with another glyph mode
abbrev pub in_mode : ℕ → Settings → Settings
in_mode mode s =
    record {
      width = s.width;
      height = s.height;
      default_color = s.default_color;
      outline_color = s.outline_color;
      line_height_px = s.line_height_px;
      bottom_margin_px = s.bottom_margin_px;
      outline_px = s.outline_px;
      align = s.align;
      glyph_mode = mode;
      side_margin_px = s.side_margin_px;
      slant = s.slant;
      outline_cap_px = s.outline_cap_px;
    }

-- Of a caption's letters. Neither the column limit nor the number of strokes depends on the mode, and letters that are
-- replaced before they are wrapped give the same lines, of the same columns. The strokes in mode 1 are those of the
-- replaced letters in mode 0, one by one; so what the first c of them leave is the same, of each row and of the
-- picture, whole and partly drawn.
pub record DrawnReplaced (s : Settings) (ls : List Letter) : Type 0 where
  pub same_limit : (mode : ℕ) → column_limit (in_mode mode s) ≡ column_limit s
  pub same_total : (mode : ℕ) → length (drawing (in_mode mode s) ls) ≡ length (drawing s ls)
  pub same_lines : (L : ℕ) → wrap_runs (map replaced_letter ls) L ≡ wrap_runs ls L
  pub same_columns : (line : Line) → visible_cols (map replaced_letter ls) line ≡ visible_cols ls line
  pub same_strokes : drawing (in_mode 1 s) ls ≡ drawing (in_mode 0 s) (map replaced_letter ls)
  pub same_row : (c y : ℕ)
      → row_after (in_mode 1 s) (drawing (in_mode 1 s) ls) c y ≡ row_after (in_mode 0 s) (drawing (in_mode 0 s) (map replaced_letter ls)) c y
  pub same_picture : (c : ℕ) (bytes : List ℕ)
      → picture_after (in_mode 1 s) (drawing (in_mode 1 s) ls) c bytes
      ≡ picture_after (in_mode 0 s) (drawing (in_mode 0 s) (map replaced_letter ls)) c bytes

-- of every caption, and of every tape, which is refused alike in both modes; in its own mode nothing of the settings
-- changes
pub record ReplacedFirst : Type 0 where
  pub own_mode : (s : Settings) → in_mode s.glyph_mode s ≡ s
  pub of_letters : (s : Settings) (ls : List Letter) → DrawnReplaced s ls
  pub of_tape : (s : Settings) (tape : Tapes)
      → tape_strokes (in_mode 1 s) tape
      ≡ on_accepted (λ ls. drawing (in_mode 0 s) (map replaced_letter ls)) (tape_letters (default_with s.default_color) tape)
