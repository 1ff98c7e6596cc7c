use mathlib.Core.Path.{◌≡◌}
use lib.ListN.{drop}
use Rattle.job.specs.Stripes.{division_of, counters_unsound}
use Rattle.job.proofs.JobRecord.is_unsound.Given as goal

abbrev pub invariant-loop-k : goal.invariant-loop-k
invariant-loop-k l =
    counters_unsound (division_of l.fn.self.stripes) l.total 0 l.fn.self.counters
    ≡ counters_unsound (division_of l.fn.self.stripes) l.total l.k (drop l.k l.fn.self.counters)
