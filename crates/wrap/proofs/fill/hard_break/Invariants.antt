use mathlib.Core.Path.{◌≡◌}
use Prim.Native.Nat.{◌-◌, ◌<◌}
use lib.ListN.{length}
use Rattle.wrap.specs.Filled.{Sane}
use Rattle.wrap.proofs.HardBreaks.{Sofar}
use Rattle.wrap.proofs.fill.hard_break.Given as goal

abbrev pub invariant-loop-k : goal.invariant-loop-k
invariant-loop-k l =
    (l.k < l.token.to) × Sane l.filled l.k × (length l.ws ≡ length l.initial.ws) × Sofar l.limit.columns l.token l.k l.initial.filled l.initial.ws l.filled l.ws

abbrev pub decreases-loop-k : goal.decreases-loop-k
decreases-loop-k l = l.token.to - l.k
