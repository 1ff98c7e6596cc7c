use native.Mathlib.Omega.{arith}
use Prim.Native.Nat.{◌*◌}
use mathlib.Core.Path.{◌∙◌}
use Rattle.wrap.specs.Laid.{numbers_from, table_from}
use Rattle.wrap.proofs.TableBytes.{moved}
use Rattle.wrap.proofs.CallWrap.{brought}
use Rattle.wrap.proofs.bring_lines.Goals as goal

pub returns : goal.returns
returns c =
    let second = c.copy_within-2 in
    let first = c.copy_within in
    let w = c.wrap_runs-made in
    let n = w.auto.ws in
    let m = first.ensures.len in
    let few = w.ensures.0 in
    let short = w.ensures.1 in
    λ ls e holds.
    brought ls c.args.limit.columns w.result w.new.ws (w.ensures.3 ls e holds) (omega arith) (omega arith) (omega arith)
    first.new.self second.new.self (first.ensures.after ∙ moved w.new.ws table_from 0 (4 * w.result.lines) (omega arith) (omega arith))
    (second.ensures.after ∙ moved first.new.self numbers_from (4 * w.result.lines) (2 * w.result.letters) (omega arith) (omega arith))
