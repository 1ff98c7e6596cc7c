use mathlib.Core.Path.{◌≡◌}
use Prim.Native.Nat.{◌-◌, ◌≤◌}
use lib.ListN.{length}
use Rattle.wrap.specs.Filled.{Sane}
use Rattle.wrap.proofs.LettersPassed.{Sofar}
use Rattle.wrap.proofs.fill.fill.Given as goal

abbrev pub invariant-loop-i : goal.invariant-loop-i
invariant-loop-i l = (l.i ≤ l.count) × Sane l.line l.i × (length l.ws ≡ length l.initial.ws) × Sofar l.count l.limit.columns l.initial.ws l.i l.line l.ws

abbrev pub decreases-loop-i : goal.decreases-loop-i
decreases-loop-i l = l.count - l.i
