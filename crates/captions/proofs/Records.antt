-- A job record as 129 numbers, there and back.
use mathlib.Core.Path.{◌≡◌, ap, ap₂}
use mathlib.Core.List.{List, ◌∷◌, ◌++◌, append-nil}
use Prim.Native.Nat.{ℕ}
use native.Mathlib.Omega.{arith}
use lib.ListN.{length, take, drop, drop_of_length-le}
use lib.Seq.{take_at, drop_at}
use Rattle.job.specs.declared.JobRecord.{JobRecord}
use Rattle.job.specs.Stripes.{most_stripes}
use Rattle.captions.specs.Interface.{record_of}

abbrev pub words_of : JobRecord → List ℕ
words_of job = job.stripes.stripe_count ∷ (job.stripes.end_rows ++ job.counters)

-- the counters are put behind the ends, over as many numbers
pub behind : (ends counters rest : List ℕ) → length ends ≡ most_stripes → length rest ≡ most_stripes
    → take most_stripes (ends ++ rest) ++ (counters ++ drop most_stripes (drop most_stripes (ends ++ rest))) ≡ ends ++ counters
behind ends counters rest long more =
    rw (take_at ends rest most_stripes long, drop_at ends rest most_stripes long, drop_of_length-le rest {i = most_stripes} (omega arith))
    (ap (λ (l : List ℕ). ends ++ l) (append-nil counters))

pub there_and_back : (job : JobRecord) → length job.stripes.end_rows ≡ most_stripes → record_of (words_of job) ≡ job
there_and_back job long =
    ap₂ (λ (ends counters : List ℕ). record { stripes = record { stripe_count = job.stripes.stripe_count; end_rows = ends }; counters = counters })
    (take_at job.stripes.end_rows job.counters most_stripes long)
    (drop_at job.stripes.end_rows job.counters most_stripes long)
