use mathlib.Core.Path.{◌≡◌}
use lib.ListN.{drop}
use Rattle.job.specs.Stripes.{rises_to, division_of}
use Rattle.job.proofs.stripe.check.Given as goal

-- what is left to rise
abbrev pub invariant-loop-end : goal.invariant-loop-end
invariant-loop-end l =
    rises_to l.s.height 0 (division_of l.fn.stripes) ≡ rises_to l.s.height l.row (drop l.end-index (division_of l.fn.stripes))
