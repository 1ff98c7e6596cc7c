use mathlib.Core.Path.{◌≡◌, ◌∙◌, refl, sym, ap}
use mathlib.Core.List.{List}
use Prim.Native.Nat.{ℕ, ◌-◌, ◌≤◌}
use native.Mathlib.Omega.{arith}
use borrow.Author.Rules.{rules}
use Rattle.std.proofs.lemmas.Slice.{put_mid-paste}
use lib.ListN.{length, take, drop, replicate, length-take, length-drop, length-replicate}
use Rattle.job.specs.Stripes.{most_stripes}
use Rattle.job.proofs.Division.{all_counted, used_kept}
use Rattle.job.proofs.Stripes.used.Goals as goal
use Rattle.job.proofs.Stripes.used.Goals.{Start}

long : (c : Start) → length c.args.self.end_rows ≡ most_stripes
long c = search rules

few : (c : Start) → c.args.self.stripe_count ≤ most_stripes
few c = omega (arith, all_counted c.args.self (long c) c.requires, c.requires)

pub slice_bounds-fill-count : goal.slice_bounds-fill-count
slice_bounds-fill-count c = few (goal.at.slice_bounds-fill-count c).Start

pub slice_bounds-ends-start : goal.slice_bounds-ends-start
slice_bounds-ends-start c = few (goal.at.slice_bounds-ends-start c).Start

pub returns : goal.returns
returns c =
    let given = c.args.self in
    let n = given.stripe_count in
    let long = long (goal.at.returns c).Start in
    let unused : length (take (most_stripes - n) (drop n given.end_rows)) ≡ most_stripes - n = rw (length-take, length-drop, long) (omega arith) in
    let zeros = c.fill.ensures.after (λ y e. e) ∙ ap (λ (m : ℕ). replicate m 0) unused in
    ap (λ (ends : List ℕ). record { stripe_count = n; end_rows = ends })
    (put_mid-paste n (most_stripes - n) given.end_rows _ (replicate (most_stripes - n) 0) (most_stripes - n) zeros refl (sym (length-replicate (most_stripes - n) 0)))
    ∙ used_kept given long c.requires
