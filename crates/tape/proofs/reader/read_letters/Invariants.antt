use Prim.Native.Nat.{◌-◌}
use lib.ListN.{length}
use Rattle.tape.specs.Reading.{WentOn}
use Rattle.tape.proofs.reader.read_letters.Given as goal

abbrev pub invariant-loop-after : goal.invariant-loop-after
invariant-loop-after l = WentOn l.tape l.initial.ws l.ws l.style l.initial.after l.after

abbrev pub decreases-loop-after : goal.decreases-loop-after
decreases-loop-after l = length l.tape - l.after.at
