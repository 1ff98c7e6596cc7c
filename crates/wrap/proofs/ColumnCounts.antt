-- The columns of letters and lines: of one letter, of two lines together, of a line that was closed.
use mathlib.Core.Path.{◌≡◌, refl}
use mathlib.Core.Bool.{Bool, true, false, ◌&&◌, not}
use mathlib.Core.List.{List, [], ◌∷◌, ◌++◌}
use Prim.Native.Nat.{ℕ, ◌+◌, ◌≤◌}
use native.Mathlib.Omega.{arith}
use lib.ListN.{length}
use borrow.Author.Tests.{ltb-false}
use Rattle.tape.specs.Runs.{Letter}
use Rattle.wrap.specs.Columns.{is_control, is_tab, columns_of}
use Rattle.wrap.specs.Lines.{Line, Filling, close_if, visible_cols, code_of, has_columns}
use Rattle.wrap.proofs.Lists.{cases}

pub one_column : (c : ℕ) → columns_of c ≤ 1
one_column c = cases (λ (n : ℕ). n ≤ 1) (is_control c && not (is_tab c)) 0 1 (λ _. omega arith) (λ _. omega arith)

module _ (ls : List Letter) where
  pub cols_append : (a b : Line) → visible_cols ls (a ++ b) ≡ visible_cols ls a + visible_cols ls b
  unfolding visible_cols
  cols_append [] b = omega arith
  cols_append (k ∷ a) b = let e = cols_append a b in omega arith

  pub cols_one : (k : ℕ) → visible_cols ls (k ∷ []) ≡ columns_of (code_of ls k)
  unfolding visible_cols
  cols_one k = omega arith

  pub cols_le : (l : Line) → visible_cols ls l ≤ length l
  unfolding visible_cols
  cols_le [] = omega arith
  cols_le (k ∷ l) = let e = cols_le l in let h = one_column (code_of ls k) in omega arith

  -- a line that was closed if it had columns has none
  pub closed_none : (L : ℕ) (f : Filling) → visible_cols ls (close_if (has_columns ls L f) f).line ≡ 0
  unfolding visible_cols
  closed_none L f = by (has_columns ls L f) refl
    where
      by : (b : Bool) → has_columns ls L f ≡ b → visible_cols ls (close_if b f).line ≡ 0
      by true e = refl
      by false e = let h = ltb-false 0 (visible_cols ls f.line) e in omega arith
