-- Laws of a glyph's row painted into a picture's row.
use Rattle.std.proofs.Common.{◌≡◌, ℕ, zero, suc, ◌+◌, ◌-◌, ◌*◌, ◌<◌, Bool, true, false, cond, List, length, get_or, refl, ◌∙◌, eq-eqb}
use native.Mathlib.Nat.{zero-div}
use borrow.Author.Tests.{lt-leb}
use Rattle.font.specs.Blend.{blend_pixel}
use Rattle.font.specs.Paint.{origin, on_row, lit, paint_column, paint_columns}
use Rattle.font.proofs.PixelBlend.{pixel_length}

-- of two lists of one length either has that length
pub cond_length : (b : Bool) (l m : List ℕ) {n : ℕ} → length l ≡ n → length m ≡ n → length (cond b l m) ≡ n
cond_length true l m p q = p
cond_length false l m p q = q

pub cond_same : {A : Type 0} (b : Bool) (x : A) → cond b x x ≡ x
cond_same true x = refl
cond_same false x = refl

column_length : (k : List ℕ) (x : ℕ) (row : List ℕ) → length (paint_column k x row) ≡ length row
unfolding paint_column
column_length k x row =
    cond_length (on_row x (length row)) (blend_pixel k (4 * (x - origin)) row) row (pixel_length k (4 * (x - origin)) row) refl

module _ (k : List ℕ) (bits x : ℕ) where
  pub columns_length : (n : ℕ) (row : List ℕ) → length (paint_columns k bits x n row) ≡ length row
  unfolding paint_columns
  columns_length zero row = refl
  columns_length (suc n) row =
      let so_far = paint_columns k bits x n row in
      cond_length (lit bits n) (paint_column k (x + n) so_far) so_far
      (column_length k (x + n) so_far ∙ columns_length n row) (columns_length n row)

-- a column left of the picture
pub column_left : (k : List ℕ) (x : ℕ) (row : List ℕ) → x < origin → paint_column k x row ≡ row
unfolding paint_column
column_left k x row h = simp (lt-leb origin x h)

-- a blank row of a glyph paints nothing
pub columns_blank : (k : List ℕ) (x n : ℕ) (row : List ℕ) → paint_columns k 0 x n row ≡ row
unfolding paint_columns
columns_blank k x zero row = refl
columns_blank k x (suc n) row = rw zero-div (columns_blank k x n row)

-- a color of alpha 0 paints nothing
module _ (k : List ℕ) (clear : get_or k 3 0 ≡ 0) where
  column_clear : (x : ℕ) (row : List ℕ) → paint_column k x row ≡ row
  unfolding paint_column blend_pixel
  column_clear x row = simp (eq-eqb (get_or k 3 0) 0 clear) (cond_same (on_row x (length row)) row)

  pub columns_clear : (bits x n : ℕ) (row : List ℕ) → paint_columns k bits x n row ≡ row
  unfolding paint_columns
  columns_clear bits x zero row = refl
  columns_clear bits x (suc n) row =
      rw (columns_clear bits x n row, column_clear (x + n) row) (cond_same (lit bits n) row)
