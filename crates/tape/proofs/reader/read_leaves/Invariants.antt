use Prim.Native.Nat.{◌-◌}
use lib.ListN.{length}
use Rattle.tape.specs.Reading.{Went, within}
use Rattle.tape.proofs.reader.read_leaves.Given as goal

abbrev pub invariant-loop-after : goal.invariant-loop-after
invariant-loop-after l =
    let i = l.fn.inside in
    Went l.tape l.initial.ws l.ws i.depth (within i.style i.naming) (within i.style i.naming) l.initial.after l.after

abbrev pub decreases-loop-after : goal.decreases-loop-after
decreases-loop-after l = length l.tape - l.after.at
