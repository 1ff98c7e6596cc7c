use mathlib.Core.Path.{◌≡◌}
use mathlib.Core.List.{List}
use Prim.Native.Nat.{◌-◌, ◌≤◌}
use lib.ListN.{length}
use Rattle.tape.specs.Runs.{Letter}
use Rattle.wrap.specs.Lines.{visible_cols}
use Rattle.wrap.specs.Laid.{inked_in, Holds}
use Rattle.wrap.specs.Filled.{between}
use Rattle.wrap.proofs.token.Token.of.Given as goal

abbrev pub invariant-loop-k : goal.invariant-loop-k
invariant-loop-k l =
    (l.columns ≤ l.k - l.from) × (l.inked ≤ l.k - l.from)
    × ((ls : List Letter) → l.to ≤ length ls → Holds ls l.ws
    → (l.columns ≡ visible_cols ls (between l.from l.k)) × (l.inked ≡ inked_in ls (between l.from l.k)))
