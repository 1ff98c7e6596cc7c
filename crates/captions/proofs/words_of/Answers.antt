use mathlib.Core.Path.{◌≡◌, ◌∙◌, refl, ap}
use mathlib.Core.List.{List, ◌∷◌}
use Prim.Native.Nat.{ℕ}
use borrow.Author.Rules.{rules}
use lib.ListN.{length, replicate}
use Rattle.job.specs.Stripes.{most_stripes}
use Rattle.captions.specs.Interface.{record_of}
use Rattle.captions.proofs.Records.{behind, there_and_back}
use Rattle.captions.proofs.words_of.Goals as goal
use Rattle.captions.proofs.words_of.Goals.{Start}

-- the record has 64 entries
all : (c : Start) → length c.args.job.stripes.end_rows ≡ most_stripes
all c = search rules

pub returns : goal.returns
returns c =
    let job = c.args.job in
    let long = all (goal.at.returns c).Start in
    rw (c.copy_from_slice.ensures.after, c.copy_from_slice-2.ensures.after)
    (ap (λ (l : List ℕ). record_of (job.stripes.stripe_count ∷ l)) (behind job.stripes.end_rows job.counters (replicate most_stripes 0) long refl)
    ∙ there_and_back job long)
