-- THE LAW: T is the letters with ink times (1 + 8o), at every width and in every glyph mode.
use mathlib.Core.Path.{◌≡◌, ◌∙◌, refl, sym, ap, ap₂}
use mathlib.Core.Bool.{Bool, true, false, cond}
use mathlib.Core.List.{List, [], ◌∷◌, map, flatten}
use Prim.Native.Nat.{ℕ, ◌+◌, ◌-◌, ◌*◌}
use native.Mathlib.Nat.{zero-mul, one-mul, add-mul}
use native.Mathlib.Omega.{arith}
use lib.ListN.{length, length-append, length-map}
use Rattle.font.specs.Font.{cell_w}
use Rattle.font.specs.Ink.{is_inked}
use Rattle.font.proofs.Ink.{ink_rule}
use Rattle.tape.specs.Runs.{Letter}
use Rattle.wrap.specs.Lines.{Line, letter_of, visible_cols, wrap_runs}
use Rattle.wrap.specs.Shown.{inked_letters}
use Rattle.wrap.specs.Laid.{inked_in}
use Rattle.wrap.proofs.InkCounts.{ink_append}
use Rattle.wrap.proofs.AllInked.{all_inked}
use Rattle.compositor.specs.declared.Settings.{Settings}
use Rattle.compositor.specs.Layout.{column_limit, base_line, line_width, line_start}
use Rattle.compositor.specs.Outline.{outline_of, displacements}
use Rattle.compositor.specs.Order.{Stroke, stroke, outline_strokes, glyph_strokes, any_letter_strokes, letter_strokes, line_strokes, lines_strokes, drawing}
use Rattle.compositor.proofs.Outlines.{displacements_length}

glyph_length : (glyph offsets k own : List ℕ) (o x base : ℕ) → length (glyph_strokes glyph offsets k own o x base) ≡ 1 + 8 * o
unfolding glyph_strokes
glyph_length glyph offsets k own o x base =
    let n = displacements_length o in
    let m = length-map (displacements o) (λ d. stroke glyph offsets k (x + d.0 - o) (base + d.1 - o)) in
    length-append (outline_strokes glyph offsets k o x base (displacements o)) (stroke glyph offsets own x base ∷ []) ∙ omega arith

module _ (s : Settings) where
  abbrev each : ℕ
  each = 1 + 8 * outline_of s

  -- the two cases of a letter
  pub letter_inked : (l : Letter) (x base : ℕ) → is_inked l.code ≡ true → letter_strokes s l x base ≡ any_letter_strokes s l x base
  letter_inked l x base e = rw (ink_rule l.style.bold s.glyph_mode l.code, e)

  pub letter_bare : (l : Letter) (x base : ℕ) → is_inked l.code ≡ false → letter_strokes s l x base ≡ []
  letter_bare l x base e = rw (ink_rule l.style.bold s.glyph_mode l.code, e)

  -- a letter with ink has so many
  pub letter_length : (l : Letter) (x base : ℕ) → is_inked l.code ≡ true → length (letter_strokes s l x base) ≡ each
  letter_length l x base e = ap length (letter_inked l x base e) ∙ glyph_length _ _ _ _ (outline_of s) x base

  pub line_length : (x base : ℕ) (ls : List Letter) → length (line_strokes s x base ls) ≡ inked_letters ls * each
  unfolding line_strokes inked_letters
  line_length x base [] = sym (zero-mul each)
  line_length x base (l ∷ ls) =
      length-append (letter_strokes s l x base) _
      ∙ ap (λ (n : ℕ). length (letter_strokes s l x base) + n) (line_length (x + cell_w) base ls)
      ∙ by (is_inked l.code) refl
    where
      by : (b : Bool) → is_inked l.code ≡ b → length (letter_strokes s l x base) + inked_letters ls * each ≡ (cond b 1 0 + inked_letters ls) * each
      by true e =
          ap (λ (n : ℕ). n + inked_letters ls * each) (letter_length l x base e ∙ sym (one-mul each))
          ∙ sym (add-mul 1 (inked_letters ls) each)
      by false e =
          ap (λ (ts : List Stroke). length ts + inked_letters ls * each) (letter_bare l x base e)
          ∙ ap (λ (n : ℕ). n + inked_letters ls * each) (sym (zero-mul each))
          ∙ sym (add-mul 0 (inked_letters ls) each)

  lines_length : (ls : List Letter) (r : List Line) → length (lines_strokes s ls r) ≡ inked_in ls (flatten r) * each
  unfolding lines_strokes flatten inked_letters
  lines_length ls [] = sym (zero-mul each)
  lines_length ls (l ∷ r) =
      length-append (line_strokes s (line_start s (line_width (visible_cols ls l))) (base_line s (length r)) (map (letter_of ls) l)) (lines_strokes s ls r)
      ∙ ap₂ (λ (a b : ℕ). a + b) (line_length _ _ (map (letter_of ls) l)) (lines_length ls r)
      ∙ sym (add-mul (inked_in ls l) (inked_in ls (flatten r)) each)
      ∙ ap (λ (n : ℕ). n * each) (sym (ink_append ls l (flatten r)))

  pub total : (ls : List Letter) → length (drawing s ls) ≡ inked_letters ls * (1 + 8 * outline_of s)
  unfolding drawing
  total ls =
      lines_length ls (wrap_runs ls (column_limit s)) ∙ ap (λ (n : ℕ). n * each) (all_inked ls (column_limit s))
