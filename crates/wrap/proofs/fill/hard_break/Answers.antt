use mathlib.Core.Path.{◌∙◌}
use native.Mathlib.Omega.{arith}
use Rattle.wrap.proofs.HardBreaks.{break_goes, break_ends}
use Rattle.wrap.proofs.fill.hard_break.Goals as goal

pub loop-k-preserved : goal.loop-k-preserved
loop-k-preserved c =
    let l = c.loop-k in
    let a = c.args in
    let h = c.loop-k-test.true in
    let chunk = c.of-chunk.ensures in
    let to = chunk.to in
    let p = c.put_chunk-filled in (
      omega arith,
      p.ensures.sane,
      p.auto.ws ∙ l.invariant.2,
      break_goes _ a.token a.limit.some l.k l.invariant.3 c.of-chunk.result h chunk p.ensures,
    )

pub returns : goal.returns
returns c =
    let l = c.loop-k in
    break_ends _ _ c.args.limit.some l.k l.invariant.3 c.of-last.result c.loop-k-test.false c.of-last.ensures c.put_chunk.ensures
