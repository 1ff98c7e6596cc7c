use mathlib.Core.Path.{◌≡◌}
use mathlib.Core.List.{List}
use Prim.Native.Nat.{◌≤◌}
use lib.ListN.{length}
use Rattle.tape.specs.Runs.{Letter}
use Rattle.wrap.specs.Lines.{trim_trailing_space}
use Rattle.wrap.specs.Laid.{Holds}
use Rattle.wrap.specs.Filled.{between}
use Rattle.wrap.proofs.token.Token.trim_trailing_space.Given as goal

abbrev pub invariant-loop-k : goal.invariant-loop-k
invariant-loop-k l =
    (l.self.from ≤ l.k)
    × ((ls : List Letter) → l.self.to ≤ length ls → Holds ls l.ws → trim_trailing_space ls (between l.self.from l.self.to) ≡ trim_trailing_space ls (between l.self.from l.k))
