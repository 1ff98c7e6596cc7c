use mathlib.Core.Path.{◌∙◌, ap}
use mathlib.Core.List.{List}
use Prim.Native.Nat.{ℕ, ◌+◌, ◌*◌, ◌-◌}
use native.Mathlib.Omega.{arith}
use lib.Seq.{sets}
use Rattle.wrap.specs.Wrap.{two}
use Rattle.wrap.proofs.TableBytes.{write_none, write_more}
use Rattle.wrap.proofs.line.put_numbers.Goals as goal

pub loop-k-init : goal.loop-k-init
loop-k-init c = write_none _ _ _

pub loop-k-preserved : goal.loop-k-preserved
loop-k-preserved c =
    let l = c.loop-k in
    let a = c.args in
    c.put_two.ensures
    ∙ ap (λ (x : List ℕ). sets x (a.at + 2 * (l.k - a.token.from)) (two l.k)) l.invariant
    ∙ write_more a.ws.now a.at a.token.from l.k (omega arith)
