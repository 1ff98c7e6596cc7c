use mathlib.Core.Path.{◌≡◌, ◌∙◌, refl, sym, ap}
use Prim.Native.Nat.{◌+◌, ◌-◌}
use native.Mathlib.Omega.{arith}
use Rattle.wrap.specs.Columns.{is_space}
use Rattle.wrap.specs.Lines.{without_last}
use Rattle.wrap.proofs.Lists.{between_none}
use Rattle.wrap.proofs.LoopTurns.{trim_stops, trim_goes}
use Rattle.wrap.proofs.token.Token.trim_trailing_space.Goals as goal

pub returns-then-not-is_space : goal.returns-then-not-is_space
returns-then-not-is_space c =
    let l = c.loop-k in
    let kept = c.up_to.ensures in
    let at : l.k - 1 + 1 ≡ l.k = omega arith in (
      kept.0,
      λ ls n h.
          l.invariant.1 ls n h
          ∙ trim_stops h _ l.k (omega arith) (omega arith) (ap is_space (sym c.code.ensures) ∙ sym c.is_space.ensures ∙ c.if-not-is_space.true)
          ∙ rw (kept.0.from, kept.1, at),
    )

pub loop-k-preserved : goal.loop-k-preserved
loop-k-preserved c =
    let l = c.loop-k in
    (omega arith, λ ls n h. l.invariant.1 ls n h ∙ trim_goes h _ l.k (omega arith) (omega arith) (ap is_space (sym c.code.ensures) ∙ sym c.is_space.ensures ∙ c.if-not-is_space.false))

pub returns : goal.returns
unfolding without_last
returns c =
    let l = c.loop-k in
    let t = c.args.self in
    let some = t.some in
    let q : l.k ≡ t.from = omega arith in
    λ ls n h. l.invariant.1 ls n h ∙ rw (q, between_none t.from) refl
