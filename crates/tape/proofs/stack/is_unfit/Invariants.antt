use mathlib.Core.Path.{◌≡◌}
use lib.ListN.{drop}
use Rattle.tape.specs.Stack.{reaches_to}
use Rattle.tape.proofs.stack.is_unfit.Given as goal

-- what is left to reach
abbrev pub invariant-loop-end : goal.invariant-loop-end
invariant-loop-end l = reaches_to l.bytes 0 l.ends ≡ reaches_to l.bytes l.place (drop l.end-index l.ends)
