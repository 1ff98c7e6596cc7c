use Rattle.std.proofs.Common.{rules, [], ◌∷◌}
use Rattle.tape.specs.Runs.{run}
use Rattle.tape.specs.Reading.{Wrote}
use Rattle.tape.proofs.StoredRuns.{wrote_pair}
use Rattle.tape.proofs.State.finish.Goals as goal

pub returns-then-naming : goal.returns-then-naming
returns-then-naming c =
    let a = c.args in
    let colon : Wrote a.ws.now c.put-colon.new.ws a.self c.put-colon.result (run a.s (0x3a ∷ []) ∷ []) a.next = search rules in
    rw c.if-naming.true (wrote_pair _ _ _ colon c.put.ensures)
