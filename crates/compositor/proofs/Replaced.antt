-- THE LAW of glyph mode 1 (document 02, S-3): drawing in mode 1 is drawing the replaced letters in mode 0.
use mathlib.Core.Path.{◌≡◌, ◌∙◌, refl, sym, ap, ap₂}
use mathlib.Core.List.{List, [], ◌∷◌, ◌++◌, map, map-map}
use Prim.Native.Nat.{ℕ, ◌+◌}
use lib.ListN.{length, length-map, get_or-map}
use Rattle.font.specs.Font.{cell_w}
use Rattle.font.specs.Modes.{replacements, replaced}
use Rattle.font.proofs.EveryEntry.{All}
use Rattle.font.proofs.Modes.{not_told_apart}
use Rattle.tape.specs.Outcome.{on_accepted}
use Rattle.tape.specs.Runs.{Letter}
use Rattle.tape.specs.Style.{default_with}
use Rattle.tape.specs.Tape.{tape_letters}
use Rattle.wrap.specs.Columns.{is_break, is_space, is_blank, columns_of}
use Rattle.wrap.specs.Lines.{Line, no_letter, letter_of, visible_cols, wrap_runs}
use Rattle.wrap.proofs.Alike.{Alike, same_columns_lem, same_lines_lem}
use Rattle.compositor.specs.declared.Settings.{Settings}
use Rattle.compositor.specs.Layout.{column_limit, base_line, line_width, line_start}
use Rattle.compositor.specs.Order.{Stroke, letter_strokes, line_strokes, lines_strokes, drawing}
use Rattle.compositor.specs.Picture.{row_after, picture_after}
use Rattle.compositor.specs.Draw.{tape_strokes}
use Rattle.compositor.specs.Replaced.{replaced_letter, in_mode, DrawnReplaced, ReplacedFirst}
use Rattle.compositor.proofs.Total.{total}

module _ (ls : List Letter) where
  -- letter k of the replaced ones is letter k, replaced
  letter_at_lem : (k : ℕ) → letter_of (map replaced_letter ls) k ≡ replaced_letter (letter_of ls k)
  unfolding replaced
  letter_at_lem k = get_or-map replaced_letter ls k no_letter

  letters_at_lem : (line : Line) → map (letter_of (map replaced_letter ls)) line ≡ map replaced_letter (map (letter_of ls) line)
  letters_at_lem line = (λ i. map (λ k. letter_at_lem k i) line) ∙ sym (map-map replaced_letter (letter_of ls) line)

  -- a question that no pair's code points are told apart by
  asked : {A : Type 0} (f : ℕ → A) → All {A = ℕ × ℕ} (λ p. f p.1 ≡ f p.0) replacements
      → (k : ℕ) → f (letter_of (map replaced_letter ls) k).code ≡ f (letter_of ls k).code
  asked f pairs k = ap (λ (l : Letter). f l.code) (letter_at_lem k) ∙ not_told_apart f pairs (letter_of ls k).code

  alike : Alike (map replaced_letter ls) ls
  alike =
      record {
        count = length-map ls replaced_letter;
        breaks = asked is_break (refl, (refl, (refl, (refl, (refl, (refl, tt))))));
        spaces = asked is_space (refl, (refl, (refl, (refl, (refl, (refl, tt))))));
        blanks = asked is_blank (refl, (refl, (refl, (refl, (refl, (refl, tt))))));
        columns = asked columns_of (refl, (refl, (refl, (refl, (refl, (refl, tt))))));
        starts = λ k. ap (λ (l : Letter). l.start) (letter_at_lem k);
      }

module _ (s : Settings) where
  line_strokes_lem : (x base : ℕ) (ls : List Letter) → line_strokes (in_mode 1 s) x base ls ≡ line_strokes (in_mode 0 s) x base (map replaced_letter ls)
  unfolding line_strokes
  line_strokes_lem x base [] = refl
  line_strokes_lem x base (l ∷ ls) = ap (λ (ts : List Stroke). letter_strokes (in_mode 1 s) l x base ++ ts) (line_strokes_lem (x + cell_w) base ls)

  lines_strokes_lem : (ls : List Letter) (lines : List Line) → lines_strokes (in_mode 1 s) ls lines ≡ lines_strokes (in_mode 0 s) (map replaced_letter ls) lines
  unfolding lines_strokes line_start base_line
  lines_strokes_lem ls [] = refl
  lines_strokes_lem ls (line ∷ lower) =
      let start = line_start (in_mode 1 s) (line_width (visible_cols ls line)) in
      let base = base_line (in_mode 1 s) (length lower) in
      let columns = sym (same_columns_lem (alike ls) line) in
      let letters = sym (letters_at_lem ls line) in
      ap₂ (λ (a b : List Stroke). a ++ b)
      (line_strokes_lem start base (map (letter_of ls) line) ∙ λ i. line_strokes (in_mode 0 s) (line_start (in_mode 0 s) (line_width (columns i))) base (letters i))
      (lines_strokes_lem ls lower)

  strokes : (ls : List Letter) → drawing (in_mode 1 s) ls ≡ drawing (in_mode 0 s) (map replaced_letter ls)
  unfolding drawing
  strokes ls =
      lines_strokes_lem ls (wrap_runs ls (column_limit s))
      ∙ ap (lines_strokes (in_mode 0 s) (map replaced_letter ls)) (sym (same_lines_lem (alike ls) (column_limit s)))

  drawn_replaced : (ls : List Letter) → DrawnReplaced s ls
  unfolding row_after
  drawn_replaced ls =
      record {
        same_limit = λ mode. refl;
        same_total = λ mode. total (in_mode mode s) ls ∙ sym (total s ls);
        same_lines = same_lines_lem (alike ls);
        same_columns = same_columns_lem (alike ls);
        same_strokes = strokes ls;
        same_row = λ c y. ap (λ (ts : List Stroke). row_after (in_mode 1 s) ts c y) (strokes ls);
        same_picture = λ c bytes. ap (λ (ts : List Stroke). picture_after (in_mode 1 s) ts c bytes) (strokes ls);
      }

pub replaced_first : ReplacedFirst
unfolding tape_strokes
replaced_first =
    record {
      own_mode = λ s. refl;
      of_letters = drawn_replaced;
      of_tape = λ s tape i. on_accepted (λ ls. strokes s ls i) (tape_letters (default_with s.default_color) tape);
    }
