-- Strokes that miss the lent rows: a line's strokes stand around its base line, as far as its outline goes, and those
-- of lines around theirs.
use mathlib.Core.Path.{◌≡◌, refl, sym, subst}
use mathlib.Core.Bool.{Bool, true, false, cond, ◌||◌, true≢false}
use mathlib.Core.List.{List, [], ◌∷◌, map-append}
use Prim.Native.Nat.{ℕ, zero, suc, ◌+◌, ◌-◌, ◌*◌, ◌≤◌, ◌<◌}
use native.Mathlib.Nat.{mul-le-mul_right}
use native.Mathlib.Omega.{arith}
use borrow.Author.Tests.{leb-true}
use lib.Dec.{eqb, leb}
use lib.ListN.{length, take}
use Rattle.font.specs.Font.{cell_w}
use Rattle.font.specs.Ink.{has_ink}
use Rattle.font.specs.Paint.{origin}
use Rattle.font.proofs.RowLaws.{rows_kept, stroke_above, stroke_below}
use Rattle.tape.specs.Runs.{Letter}
use Rattle.wrap.specs.Laid.{letters_on, columns_on}
use Rattle.compositor.specs.declared.Settings.{Settings}
use Rattle.font.specs.declared.paint.Rows.{Rows}
use Rattle.font.proofs.EveryEntry.{All, all_weaker, all_append, all_if, all_take, all_drop}
use Rattle.compositor.specs.declared.strokes.Window.{Window}
use Rattle.compositor.specs.Settings.{most_outline_cap}
use Rattle.compositor.specs.Layout.{line_height, base_line, line_width, line_start}
use Rattle.compositor.specs.Outline.{at_distance, outline_of, displacement_row, displacement_rows, displacements}
use Rattle.compositor.specs.Order.{Stroke, stroke, outline_strokes, glyph_strokes, letter_rows, any_letter_strokes, letter_strokes, line_strokes}
use Rattle.compositor.specs.Picture.{stroke_on, strokes_on}
use Rattle.compositor.specs.Read.{letters_at, strokes_at}
use Rattle.compositor.specs.Painting.{cut, after, off_rows, Painted}

-- ---- strokes whose base lines are at most o rows above position `high`, and below position `low`

abbrev Within : ℕ → ℕ → ℕ → Stroke → Type 0
Within high low o t = (high ≤ t.base + o) × (t.base ≤ low + o)

abbrev pub Around : ℕ → ℕ → ℕ → List Stroke → Type 0
Around high low o = All (Within high low o)

-- wider positions
around_wider : (high low o y : ℕ) → high ≤ y → y ≤ low → (ts : List Stroke) → Around y y o ts → Around high low o ts
around_wider high low o y h l ts =
    all_weaker (Within y y o) ts (λ t p. let above = p.0 in let below = p.1 in (omega arith, omega arith))

-- a glyph's strokes
module _ (y o : ℕ) (glyph offsets k : List ℕ) (x : ℕ) where
  abbrev strokes : List (ℕ × ℕ) → List Stroke
  strokes = outline_strokes glyph offsets k o x y

  row_around : (dy dx n : ℕ) → dy ≤ 2 * o → Around y y o (strokes (displacement_row o dy dx n))
  unfolding displacement_row
  row_around dy dx zero h = tt
  row_around dy dx (suc n) h = by (at_distance o dx dy) (row_around dy (suc dx) n h)
    where
      by : (b : Bool) → Around y y o (strokes (displacement_row o dy (suc dx) n))
          → Around y y o (strokes (cond b ((dx, dy) ∷ displacement_row o dy (suc dx) n) (displacement_row o dy (suc dx) n)))
      by true p = ((omega arith, omega arith), p)
      by false p = p

  rows_around : (dy n : ℕ) → dy + n ≤ 2 * o + 1 → Around y y o (strokes (displacement_rows o dy n))
  unfolding displacement_rows
  rows_around dy zero h = tt
  rows_around dy (suc n) h =
      subst (Around y y o) (sym (map-append _ (displacement_row o dy 0 (2 * o + 1)) (displacement_rows o (suc dy) n)))
      (all_append (Within y y o) (strokes (displacement_row o dy 0 (2 * o + 1))) (strokes (displacement_rows o (suc dy) n))
      (row_around dy 0 (2 * o + 1) (omega arith)) (rows_around (suc dy) n (omega arith)))

  displacements_around : Around y y o (strokes (displacements o))
  unfolding displacements
  displacements_around = by (eqb o 0)
    where
      by : (b : Bool) → Around y y o (strokes (cond b [] (displacement_rows o 0 (2 * o + 1))))
      by true = tt
      by false = rows_around 0 (2 * o + 1) (omega arith)

  glyph_around : (own : List ℕ) → Around y y o (glyph_strokes glyph offsets k own o x y)
  unfolding glyph_strokes
  glyph_around own = all_append (Within y y o) (strokes (displacements o)) (stroke glyph offsets own x y ∷ []) displacements_around ((omega arith, omega arith), tt)

module _ (s : Settings) where
  -- a line's
  pub line_around : (x y : ℕ) (ls : List Letter) → Around y y (outline_of s) (line_strokes s x y ls)
  unfolding line_strokes
  line_around x y [] = tt
  line_around x y (l ∷ ls) =
      all_append (Within y y (outline_of s)) (letter_strokes s l x y) (line_strokes s (x + cell_w) y ls)
      (all_if (Within y y (outline_of s)) (has_ink (letter_rows s l)) (any_letter_strokes s l x y) (glyph_around y (outline_of s) _ _ _ x _)) (line_around (x + cell_w) y ls)

  -- a line with more lines below it stands higher
  base_higher : (a b : ℕ) → a ≤ b → base_line s b ≤ base_line s a
  unfolding base_line
  base_higher a b h = let rise = mul-le-mul_right {m = a} {n = b} (line_height s) h in omega arith

  -- those of n lines of m
  pub lines_around : (m n k i : ℕ) (ws : List ℕ) → n ≤ m → Around (base_line s (m - 1)) (base_line s 0) (outline_of s) (strokes_at s ws k i n)
  unfolding strokes_at
  lines_around m zero k i ws h = tt
  lines_around m (suc n) k i ws h =
      let line : List Stroke =
      line_strokes s (line_start s (line_width (columns_on ws i))) (base_line s n) (letters_at ws k (letters_on ws i)) in
      all_append (Within _ _ (outline_of s)) line (strokes_at s ws (k + letters_on ws i) (suc i) n)
      (around_wider _ _ (outline_of s) (base_line s n) (base_higher n (m - 1) (omega arith)) (base_higher 0 n (omega arith)) line
      (line_around (line_start s (line_width (columns_on ws i))) (base_line s n) (letters_at ws k (letters_on ws i))))
      (lines_around m n (k + letters_on ws i) (suc i) ws (omega arith))

-- ---- on lent rows

module _ (rows : Rows) (high low o : ℕ) (far : 32 ≤ high) (thin : o ≤ most_outline_cap) (off : off_rows rows high low o ≡ true) where
  -- such a stroke is above a lent row, or below it
  spared : (t : Stroke) (j : ℕ) (row : List ℕ) → j < rows.count → high ≤ t.base + o → t.base ≤ low + o → stroke_on t (rows.first + j) row ≡ row
  unfolding off_rows
  spared t j row h p q = by (leb (low + o + 4) (origin + rows.first)) (leb (origin + rows.first + rows.count + o + 12) high) refl refl off
    where
      by : (a b : Bool) → leb (low + o + 4) (origin + rows.first) ≡ a → leb (origin + rows.first + rows.count + o + 12) high ≡ b → (a || b) ≡ true
          → stroke_on t (rows.first + j) row ≡ row
      by true b e f g =
          let above = leb-true (low + o + 4) (origin + rows.first) e in
          stroke_below t.rows t.offsets t.color t.x t.base (rows.first + j) row (omega arith)
      by false true e f g =
          let below = leb-true (origin + rows.first + rows.count + o + 12) high f in
          stroke_above t.rows t.offsets t.color t.x t.base (rows.first + j) row (omega arith)
      by false false e f g = absurd (true≢false (sym g))

  all_spared : (ts : List Stroke) (j : ℕ) (row : List ℕ) → j < rows.count → Around high low o ts → strokes_on ts (rows.first + j) row ≡ row
  unfolding strokes_on
  all_spared [] j row h p = refl
  all_spared (t ∷ ts) j row h p = rw (spared t j row h p.0.0 p.0.1) (all_spared ts j row h p.1)

  -- so whatever the window has of them, nothing changes
  pub missing : (ts : List Stroke) {n : ℕ} (w : Window) (part : List ℕ) → n ≡ length ts → Around high low o ts → Painted rows ts w part part (after w n)
  missing ts w part e p =
      let some = all_drop (Within high low o) w.from (take w.to ts) (all_take (Within high low o) w.to ts p) in
      record {
        paints =
            sym (rows_kept (strokes_on (cut w ts)) (4 * rows.width) rows.count rows.first part (λ j row h. all_spared (cut w ts) j row h some));
        counts = rw e;
      }
