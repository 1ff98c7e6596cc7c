use mathlib.Core.Path.{◌≡◌, ◌∙◌, sym, ap, ap₂}
use mathlib.Core.Bool.{cond}
use Prim.Native.Nat.{ℕ, ◌+◌}
use native.Mathlib.Omega.{arith}
use Rattle.font.specs.Ink.{is_inked}
use Rattle.wrap.specs.Columns.{columns_of}
use Rattle.wrap.specs.Lines.{visible_cols}
use Rattle.wrap.specs.Shown.{inked_letters}
use Rattle.wrap.specs.Laid.{inked_in}
use Rattle.wrap.proofs.Lists.{between_none}
use Rattle.wrap.proofs.ColumnCounts.{one_column}
use Rattle.wrap.proofs.InkCounts.{one_ink, inked_column}
use Rattle.wrap.proofs.LoopTurns.{columns_more, ink_more}
use Rattle.wrap.proofs.token.Token.of.Goals as goal
use Rattle.wrap.proofs.token.Token.of.Goals.{then-has_ink, else-has_ink}

pub loop-k-init : goal.loop-k-init
unfolding visible_cols inked_letters
loop-k-init c =
    (omega arith, omega arith, λ ls n h. (sym (ap (visible_cols ls) (between_none _)), sym (ap (inked_in ls) (between_none _))))

pub loop-k-preserved : goal.loop-k-preserved
loop-k-preserved c =
    let l = c.loop-k in
    let a = c.args in
    let code = c.code-c.ensures in
    let now = c.if-has_ink in
    let columns : now.columns ≡ l.columns + columns_of c.code-c.result =
    elim now.branch [
      | then-has_ink w ↦ rw (inked_column _ (sym c.has_ink.ensures ∙ w.if-has_ink.true)) w.columns-is
      | else-has_ink w ↦ rw (← w.columns_of-columns.ensures.0) w.columns-is
    ] in
    let inked : now.inked ≡ l.inked + cond (is_inked c.code-c.result) 1 0 =
    elim now.branch [
      | then-has_ink w ↦ rw (sym c.has_ink.ensures ∙ w.if-has_ink.true) w.inked-is
      | else-has_ink w ↦ rw (sym c.has_ink.ensures ∙ w.if-has_ink.false) (let e = w.inked-is in omega arith)
    ] in
    let column = one_column c.code-c.result in
    let ink = one_ink c.code-c.result in (
      omega arith,
      omega arith,
      λ ls n h.
          let so_far = l.invariant.2 ls n h in (
            columns ∙ ap₂ (λ (x y : ℕ). x + columns_of y) so_far.0 code ∙ columns_more h a.from l.k (omega arith) (omega arith),
            inked ∙ ap₂ (λ (x y : ℕ). x + cond (is_inked y) 1 0) so_far.1 code ∙ ink_more h a.from l.k (omega arith) (omega arith),
          ),
    )
