use mathlib.Core.Path.{◌≡◌}
use Prim.Native.Nat.{◌<◌, ◌^◌}
use lib.ListN.{drop}
use Rattle.tape.specs.Stack.{some_too_long}
use Rattle.tape.proofs.stack.has_too_long.Given as goal

-- what is left to look at
abbrev pub invariant-loop-end : goal.invariant-loop-end
invariant-loop-end l = (l.place < 2 ^ 32) × (some_too_long 0 l.ends ≡ some_too_long l.place (drop l.end-index l.ends))
