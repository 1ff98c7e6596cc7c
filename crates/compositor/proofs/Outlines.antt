-- The outline: its offsets one by one, and how many they are.
use mathlib.Core.Path.{◌≡◌, ◌∙◌, refl, sym, ap}
use mathlib.Core.Bool.{Bool, true, false, cond}
use mathlib.Core.List.{List, [], ◌∷◌, ◌++◌, map-append}
use Prim.Native.Nat.{ℕ, zero, suc, ◌+◌, ◌-◌, ◌*◌, ◌≤◌, ◌<◌, max}
use native.Mathlib.Omega.{arith}
use native.Mathlib.Numerals.{add-one}
use borrow.Author.Tests.{eq-eqb, ne_eqb}
use lib.ListN.{length, length-append}
use Rattle.font.specs.declared.GlyphKey.{GlyphKey}
use Rattle.font.specs.declared.Pen.{Pen}
use Rattle.font.specs.declared.paint.Spot.{Spot}
use Rattle.compositor.specs.Outline.{distance, at_distance, displacement_row, displacement_rows, displacements}
use Rattle.compositor.specs.Order.{Stroke}
use Rattle.compositor.specs.Painting.{strokes_of}

-- the first displacement of a row, and the others
pub row_first : (o dy dx n : ℕ) → displacement_row o dy dx (suc n) ≡ displacement_row o dy dx 1 ++ displacement_row o dy (suc dx) n
unfolding displacement_row
row_first o dy dx n = by (at_distance o dx dy)
  where
    by : (b : Bool) → cond b ((dx, dy) ∷ displacement_row o dy (suc dx) n) (displacement_row o dy (suc dx) n)
        ≡ cond b ((dx, dy) ∷ []) [] ++ displacement_row o dy (suc dx) n
    by true = refl
    by false = refl

-- one displacement, where the outline has it, and where it has not
pub one_on : (o dy dx : ℕ) → at_distance o dx dy ≡ true → displacement_row o dy dx 1 ≡ (dx, dy) ∷ []
unfolding displacement_row
one_on o dy dx e = rw e

pub one_off : (o dy dx : ℕ) → at_distance o dx dy ≡ false → displacement_row o dy dx 1 ≡ []
unfolding displacement_row
one_off o dy dx e = rw e

-- loops over a row's columns, and over the rows
module _ (key : GlyphKey) (pen : Pen) (o : ℕ) (at : Spot) where
  abbrev strokes : List (ℕ × ℕ) → List Stroke
  strokes = strokes_of key pen o at

  abbrev pub row_left : ℕ → ℕ → List Stroke
  row_left dy dx = strokes (displacement_row o dy dx (2 * o + 1 - dx))

  abbrev pub rows_left : ℕ → List Stroke
  rows_left dy = strokes (displacement_rows o dy (2 * o + 1 - dy))

  pub row_turn : (dy dx : ℕ) → dx < 2 * o + 1 → row_left dy dx ≡ strokes (displacement_row o dy dx 1) ++ row_left dy (dx + 1)
  row_turn dy dx h =
      let n : 2 * o + 1 - dx ≡ suc (2 * o + 1 - (dx + 1)) = omega arith in
      ap (λ (m : ℕ). strokes (displacement_row o dy dx m)) n
      ∙ ap strokes (row_first o dy dx (2 * o + 1 - (dx + 1)))
      ∙ map-append _ (displacement_row o dy dx 1) (displacement_row o dy (suc dx) (2 * o + 1 - (dx + 1)))
      ∙ ap (λ (m : ℕ). strokes (displacement_row o dy dx 1) ++ strokes (displacement_row o dy m (2 * o + 1 - (dx + 1)))) (sym (add-one dx))

  pub row_end : (dy dx : ℕ) → 2 * o + 1 ≤ dx → row_left dy dx ≡ []
  unfolding displacement_row
  row_end dy dx h = let n : 2 * o + 1 - dx ≡ 0 = omega arith in ap (λ (m : ℕ). strokes (displacement_row o dy dx m)) n

  pub rows_turn : (dy : ℕ) → dy < 2 * o + 1 → rows_left dy ≡ strokes (displacement_row o dy 0 (2 * o + 1)) ++ rows_left (dy + 1)
  unfolding displacement_rows
  rows_turn dy h =
      let n : 2 * o + 1 - dy ≡ suc (2 * o + 1 - (dy + 1)) = omega arith in
      ap (λ (m : ℕ). strokes (displacement_rows o dy m)) n
      ∙ map-append _ (displacement_row o dy 0 (2 * o + 1)) (displacement_rows o (suc dy) (2 * o + 1 - (dy + 1)))
      ∙ ap (λ (m : ℕ). strokes (displacement_row o dy 0 (2 * o + 1)) ++ strokes (displacement_rows o m (2 * o + 1 - (dy + 1)))) (sym (add-one dy))

  pub rows_end : (dy : ℕ) → 2 * o + 1 ≤ dy → rows_left dy ≡ []
  unfolding displacement_rows
  rows_end dy h = let n : 2 * o + 1 - dy ≡ 0 = omega arith in ap (λ (m : ℕ). strokes (displacement_rows o dy m)) n

  -- where o is 0 there are none
  pub displacements_none : o ≡ 0 → strokes (displacements o) ≡ []
  unfolding displacements
  displacements_none e = ap (λ (b : Bool). strokes (cond b [] (displacement_rows o 0 (2 * o + 1)))) (eq-eqb o 0 e)

  pub displacements_some : 0 < o → strokes (displacements o) ≡ rows_left 0
  unfolding displacements
  displacements_some h =
      let n : 2 * o + 1 ≡ 2 * o + 1 - 0 = omega arith in
      ap (λ (b : Bool). strokes (cond b [] (displacement_rows o 0 (2 * o + 1)))) (ne_eqb o 0 (λ e. omega arith))
      ∙ ap (λ (m : ℕ). strokes (displacement_rows o 0 m)) n

-- ---- how many they are

module _ (o : ℕ) where
  row_on : (dy dx n : ℕ) → max (distance o dx) (distance o dy) ≡ o → length (displacement_row o dy dx (suc n)) ≡ suc (length (displacement_row o dy (suc dx) n))
  unfolding displacement_row
  row_on dy dx n e = rw (eq-eqb (max (distance o dx) (distance o dy)) o e)

  row_off : (dy dx n : ℕ) → (max (distance o dx) (distance o dy) ≡ o → ⊥) → displacement_row o dy dx (suc n) ≡ displacement_row o dy (suc dx) n
  unfolding displacement_row
  row_off dy dx n e = rw (ne_eqb (max (distance o dx) (distance o dy)) o e)

  -- the first row and the last are whole
  whole : (dy dx n : ℕ) → distance o dy ≡ o → dx + n ≤ 2 * o + 1 → length (displacement_row o dy dx n) ≡ n
  unfolding displacement_row
  whole dy dx zero e h = refl
  whole dy dx (suc n) e h = row_on dy dx n (omega arith) ∙ ap suc (whole dy (suc dx) n e (omega arith))

  -- a row between them has its two ends: the last column, and the first
  last : (dy dx n : ℕ) → distance o dy < o → 1 ≤ dx → dx + n ≡ 2 * o → length (displacement_row o dy dx (suc n)) ≡ 1
  unfolding displacement_row
  last dy dx zero e h k = row_on dy dx 0 (omega arith)
  last dy dx (suc n) e h k = ap length (row_off dy dx (suc n) (λ q. omega arith)) ∙ last dy (suc dx) n e (omega arith) (omega arith)

  ends : (dy : ℕ) → distance o dy < o → length (displacement_row o dy 0 (2 * o + 1)) ≡ 2
  ends dy e =
      let n : 2 * o + 1 ≡ suc (suc (2 * o - 1)) = omega arith in
      ap (λ (m : ℕ). length (displacement_row o dy 0 m)) n
      ∙ row_on dy 0 (suc (2 * o - 1)) (omega arith)
      ∙ ap suc (last dy 1 (2 * o - 1) e (omega arith) (omega arith))

  rows_length : (dy n : ℕ) → 1 ≤ dy → dy + n ≡ 2 * o → length (displacement_rows o dy (suc n)) ≡ 2 * n + (2 * o + 1)
  unfolding displacement_rows
  rows_length dy zero h k =
      let w = whole dy 0 (2 * o + 1) (omega arith) (omega arith) in
      length-append (displacement_row o dy 0 (2 * o + 1)) [] ∙ omega arith
  rows_length dy (suc n) h k =
      let e = ends dy (omega arith) in
      let r = rows_length (suc dy) n (omega arith) (omega arith) in
      length-append (displacement_row o dy 0 (2 * o + 1)) (displacement_rows o (suc dy) (suc n)) ∙ omega arith

-- THE LAW: the outline has 8o offsets
pub displacements_length : (o : ℕ) → length (displacements o) ≡ 8 * o
unfolding displacements displacement_rows
displacements_length zero = refl
displacements_length (suc o) =
    let w = whole (suc o) 0 0 (2 * suc o + 1) (omega arith) (omega arith) in
    let r = rows_length (suc o) 1 (2 * o + 1) (omega arith) (omega arith) in
    let n : 2 * suc o + 1 ≡ suc (suc (2 * o + 1)) = omega arith in
    ap (λ (b : Bool). length (cond b [] (displacement_rows (suc o) 0 (2 * suc o + 1)))) (ne_eqb (suc o) 0 (λ e. omega arith))
    ∙ ap (λ (m : ℕ). length (displacement_rows (suc o) 0 m)) n
    ∙ length-append (displacement_row (suc o) 0 0 (2 * suc o + 1)) (displacement_rows (suc o) 1 (suc (2 * o + 1)))
    ∙ omega arith
