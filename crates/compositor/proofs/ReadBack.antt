-- Letters and lines read back from the workspace: one letter and one line after the other, as loops go.
use mathlib.Core.Path.{◌≡◌, ◌∙◌, refl, sym, ap, subst}
use mathlib.Core.Bool.{Bool}
use mathlib.Core.List.{List, [], ◌∷◌, ◌++◌}
use Prim.Native.Nat.{ℕ, zero, suc, ◌+◌, ◌-◌, ◌*◌, ◌≤◌, ◌<◌}
use native.Mathlib.Omega.{arith}
use native.Mathlib.Nat.{zero-add, add-zero, suc-add, add-suc}
use native.Mathlib.Numerals.{add-one}
use lib.ListN.{length}
use Rattle.font.specs.Font.{cell_w, table_of, glyph_rows}
use Rattle.font.specs.Slant.{most_slant, row_offsets}
use Rattle.font.specs.declared.GlyphKey.{GlyphKey}
use Rattle.font.specs.declared.Pen.{Pen}
use Rattle.font.specs.declared.paint.Spot.{Spot}
use Rattle.font.specs.Shear.{pen_of, Prepared}
use Rattle.font.proofs.Rounding.{slant_back, shear_of_lem}
use Rattle.tape.specs.Runs.{Letter}
use Rattle.tape.specs.Stored.{letter_at}
use Rattle.wrap.specs.Shown.{inked_letters}
use Rattle.wrap.specs.Laid.{number_at, letters_on, columns_on, inked_through}
use Rattle.wrap.proofs.InkCounts.{inked_append}
use Rattle.compositor.specs.declared.Settings.{Settings}
use Rattle.compositor.specs.Layout.{base_line, line_width, line_start}
use Rattle.compositor.specs.Outline.{outline_of, displacements}
use Rattle.compositor.specs.Order.{Stroke, glyph_strokes, color_of, letter_slant, any_letter_strokes, letter_strokes, line_strokes}
use Rattle.compositor.specs.Read.{letters_at, letters_from, strokes_at, strokes_in, Readable}
use Rattle.compositor.specs.Painting.{stroke_of, strokes_of}
use Rattle.compositor.specs.Ready.{Lined}

-- ---- a letter

-- what is taken out of the tables is what a pen asks for
pub prepared : (key : GlyphKey) (k : List ℕ) (b : Bool) (slant : ℕ) → slant ≤ most_slant → {pen : Pen} {glyph offsets : List ℕ} → pen ≡ pen_of k b slant
    → glyph ≡ glyph_rows (table_of b) key.mode key.code → offsets ≡ row_offsets slant → Prepared key pen glyph offsets
prepared key k b slant few {pen} {glyph} {offsets} p g f =
    subst (λ (q : Pen). Prepared key q glyph offsets) (sym p)
    record { shear = shear_of_lem slant few; glyph_is = g; offsets_are = f ∙ ap row_offsets (sym (slant_back slant few)) }

module _ (s : Settings) where
  -- what the glyph of a letter is looked up by
  abbrev pub key_of : ℕ → GlyphKey
  key_of code = record { mode = s.glyph_mode; code = code }

  -- the strokes of its glyph are those of its two pens
  pub letter_strokes_lem : (l : Letter) (at : Spot) {o : ℕ} {around own : GlyphKey} {outline pen : Pen} → o ≡ outline_of s → letter_slant s l ≤ most_slant
      → around ≡ key_of l.code → outline ≡ pen_of s.outline_color l.style.bold (letter_slant s l)
      → own ≡ key_of l.code → pen ≡ pen_of (color_of l.style) l.style.bold (letter_slant s l)
      → strokes_of around outline o at (displacements o) ++ (stroke_of own pen at ∷ []) ≡ any_letter_strokes s l at.x at.base
  unfolding glyph_strokes
  letter_strokes_lem l at r few k p j q =
      (λ i. strokes_of (k i) (p i) (r i) at (displacements (r i)) ++ (stroke_of (j i) (q i) at ∷ []))
      ∙ λ i. glyph_strokes (glyph_rows (table_of l.style.bold) s.glyph_mode l.code) (row_offsets (slant_back (letter_slant s l) few i)) s.outline_color (color_of l.style)
      (outline_of s) at.x at.base

  module _ (ws : List ℕ) where
    -- ---- the letters of a line, n of them from the k-th on, of which i are drawn

    module _ (x base k n : ℕ) where
      abbrev pub line_left : ℕ → List Stroke
      line_left i = line_strokes s (x + i * cell_w) base (letters_at ws (k + i) (n - i))

      pub line_begin : line_strokes s x base (letters_at ws k n) ≡ line_left 0
      line_begin =
          let m : x ≡ x + 0 * cell_w = omega arith in
          let p : k ≡ k + 0 = omega arith in
          let q : n ≡ n - 0 = omega arith in
          λ i. line_strokes s (m i) base (letters_at ws (p i) (q i))

      pub line_turn : (i : ℕ) → i < n → line_left i ≡ letter_strokes s (letter_at ws (number_at ws (k + i))) (x + i * cell_w) base ++ line_left (i + 1)
      unfolding line_strokes letters_at
      line_turn i h =
          let m : n - i ≡ suc (n - (i + 1)) = omega arith in
          let j : suc (k + i) ≡ k + (i + 1) = omega arith in
          let y : x + i * cell_w + cell_w ≡ x + (i + 1) * cell_w = omega arith in
          ap (λ (m' : ℕ). line_strokes s (x + i * cell_w) base (letters_at ws (k + i) m')) m
          ∙ λ t. letter_strokes s (letter_at ws (number_at ws (k + i))) (x + i * cell_w) base ++ line_strokes s (y t) base (letters_at ws (j t) (n - (i + 1)))

      pub line_end : (i : ℕ) → n ≤ i → line_left i ≡ []
      unfolding line_strokes letters_at
      line_end i h = let m : n - i ≡ 0 = omega arith in ap (λ (m' : ℕ). line_strokes s (x + i * cell_w) base (letters_at ws (k + i) m')) m

    -- ---- n lines, of which i are drawn; the next letter is the k-th

    module _ (n : ℕ) where
      abbrev pub lines_left : ℕ → ℕ → List Stroke
      lines_left k i = strokes_at s ws k i (n - i)

      pub lines_begin : strokes_in s ws n ≡ lines_left 0 0
      unfolding strokes_in
      lines_begin = let q : n ≡ n - 0 = omega arith in ap (strokes_at s ws 0 0) q

      pub lines_turn : (k i : ℕ) → i < n
          → lines_left k i
          ≡ line_strokes s (line_start s (line_width (columns_on ws i))) (base_line s (n - 1 - i)) (letters_at ws k (letters_on ws i))
          ++ lines_left (k + letters_on ws i) (i + 1)
      unfolding strokes_at
      lines_turn k i h =
          let m : n - i ≡ suc (n - 1 - i) = omega arith in
          let r : n - 1 - i ≡ n - (i + 1) = omega arith in
          ap (strokes_at s ws k i) m
          ∙ ap
          (λ (m' : ℕ). line_strokes s (line_start s (line_width (columns_on ws i))) (base_line s (n - 1 - i)) (letters_at ws k (letters_on ws i))
          ++ strokes_at s ws (k + letters_on ws i) (suc i) m')
          r
          ∙ ap
          (λ (j : ℕ). line_strokes s (line_start s (line_width (columns_on ws i))) (base_line s (n - 1 - i)) (letters_at ws k (letters_on ws i))
          ++ strokes_at s ws (k + letters_on ws i) j (n - (i + 1)))
          (sym (add-one i))

      pub lines_end : (k i : ℕ) → n ≤ i → lines_left k i ≡ []
      unfolding strokes_at
      lines_end k i h = let m : n - i ≡ 0 = omega arith in ap (strokes_at s ws k i) m

-- how many letters are read
pub letters_length : (ws : List ℕ) (k n : ℕ) → length (letters_at ws k n) ≡ n
unfolding letters_at
letters_length ws k zero = refl
letters_length ws k (suc n) = ap suc (letters_length ws (suc k) n)

-- fewer letters can be read too
pub fewer : {ws : List ℕ} {n : ℕ} (m : ℕ) → m ≤ n → Readable ws n → Readable ws m
fewer m h r = let few = r.few in record { room = r.room; few = omega arith; known = λ k j. r.known k (omega arith) }

-- ---- how far the lines are drawn

letters_append : (ws : List ℕ) (k m n : ℕ) → letters_at ws k (m + n) ≡ letters_at ws k m ++ letters_at ws (k + m) n
unfolding letters_at
letters_append ws k zero n = λ i. letters_at ws (sym (add-zero k) i) (zero-add n i)
letters_append ws k (suc m) n =
    ap (letters_at ws k) (suc-add m n)
    ∙ ap (λ (ls : List Letter). letter_at ws (number_at ws k) ∷ ls)
    (letters_append ws (suc k) m n ∙ ap (λ (j : ℕ). letters_at ws (suc k) m ++ letters_at ws j n) (suc-add k m ∙ sym (add-suc k m)))

letters_split : (ws : List ℕ) (i m n : ℕ) → letters_from ws i (m + n) ≡ letters_from ws i m + letters_from ws (i + m) n
unfolding letters_from
letters_split ws i zero n = (λ t. letters_from ws (sym (add-zero i) t) (zero-add n t)) ∙ sym (zero-add _)
letters_split ws i (suc m) n =
    let rest = letters_split ws (suc i) m n in
    ap (letters_from ws i) (suc-add m n)
    ∙ ap (λ (x : ℕ). letters_on ws i + x) (rest ∙ ap (λ (j : ℕ). letters_from ws (suc i) m + letters_from ws j n) (suc-add i m ∙ sym (add-suc i m)))
    ∙ omega arith

-- the lines before line i have so many letters, of which so many have ink
pub record Reached (ws : List ℕ) (i first before : ℕ) : Type 0 where
  pub letters : first ≡ letters_from ws 0 i
  pub inked : before ≡ inked_letters (letters_at ws 0 first)

pub reached_none : (ws : List ℕ) → Reached ws 0 0 0
unfolding letters_from letters_at inked_letters
reached_none ws = record { letters = refl; inked = refl }

module _ {ws : List ℕ} {lines i first before letters through : ℕ} (lined : Lined ws lines) (h : i < lines) (reached : Reached ws i first before)
    (n : letters ≡ letters_on ws i) (total : through ≡ inked_through ws i) where
  next_letter : first + letters ≡ letters_from ws 0 (suc i)
  unfolding letters_from
  next_letter =
      let snoc : letters_from ws 0 (suc i) ≡ letters_from ws 0 i + (letters_on ws i + 0) =
      ap (letters_from ws 0) (sym (add-one i))
      ∙ letters_split ws 0 i 1
      ∙ ap (λ (j : ℕ). letters_from ws 0 i + (letters_on ws j + 0)) (zero-add i) in
      let sofar = reached.letters in
      omega arith

  -- they are among those that can be read
  pub reached_fits : first + letters ≤ letters_from ws 0 lines
  reached_fits =
      let e : lines ≡ suc i + (lines - suc i) = omega arith in
      let all = ap (letters_from ws 0) e ∙ letters_split ws 0 (suc i) (lines - suc i) in
      omega (arith, next_letter)

  -- the line's total is the one before, and its own letters with ink
  pub reached_line : through ≡ before + inked_letters (letters_at ws first letters)
  reached_line =
      total
      ∙ lined.inked i h
      ∙ ap (λ (k : ℕ). inked_letters (letters_at ws 0 k)) (sym next_letter)
      ∙ ap inked_letters (letters_append ws 0 first letters)
      ∙ inked_append (letters_at ws 0 first) (letters_at ws (0 + first) letters)
      ∙ λ t. sym reached.inked t + inked_letters (letters_at ws (zero-add first t) letters)

  pub reached_turn : Reached ws (i + 1) (first + letters) through
  reached_turn =
      record {
        letters = next_letter ∙ ap (letters_from ws 0) (sym (add-one i));
        inked = total ∙ lined.inked i h ∙ ap (λ (k : ℕ). inked_letters (letters_at ws 0 k)) (sym next_letter);
      }
