use mathlib.Core.Path.{◌≡◌, ◌∙◌, sym, ap}
use Prim.Native.Nat.{ℕ, ◌+◌, ◌-◌}
use native.Mathlib.Omega.{arith}
use lib.ListN.{length, take}
use lib.Seq.{length-take-le}
use Rattle.wrap.specs.Lines.{without_last, is_empty_line}
use Rattle.wrap.proofs.LoopTurns.{lines_stop, lines_go}
use Rattle.wrap.proofs.drop_empty_lines.Goals as goal

pub returns-then-not-is_empty_line : goal.returns-then-not-is_empty_line
returns-then-not-is_empty_line c =
    let l = c.loop-line in
    let a = c.args in
    let s = c.is_empty_line in
    let at : l.line - 1 + 1 ≡ l.line = omega arith in (
      omega arith,
      λ ls ds e t.
          sym
          (ap length
          (l.invariant ls ds e t
          ∙ lines_stop ls a.ws.now a.lines ds e t l.line (omega arith) (omega arith) s.result s.ensures c.if-not-is_empty_line.true)
          ∙ length-take-le l.line ds (omega arith)
          ∙ sym at),
    )

pub loop-line-preserved : goal.loop-line-preserved
loop-line-preserved c =
    let l = c.loop-line in
    let a = c.args in
    let s = c.is_empty_line in
    λ ls ds e t.
    l.invariant ls ds e t
    ∙ lines_go ls a.ws.now a.lines ds e t l.line (omega arith) (omega arith) s.result s.ensures c.if-not-is_empty_line.false

pub returns : goal.returns
unfolding without_last
returns c =
    let l = c.loop-line in
    let z : l.line ≡ 0 = omega arith in
    (omega arith, λ ls ds e t. sym (ap length (l.invariant ls ds e t ∙ ap (λ (x : ℕ). without_last is_empty_line (take x ds)) z)))
