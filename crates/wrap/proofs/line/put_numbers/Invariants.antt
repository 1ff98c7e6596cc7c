use mathlib.Core.Path.{◌≡◌}
use lib.Seq.{sets}
use Rattle.wrap.specs.Wrap.{twos}
use Rattle.wrap.specs.Filled.{between}
use Rattle.wrap.proofs.line.put_numbers.Given as goal

abbrev pub invariant-loop-k : goal.invariant-loop-k
invariant-loop-k l = l.ws ≡ sets l.initial.ws l.at (twos (between l.token.from l.k))
