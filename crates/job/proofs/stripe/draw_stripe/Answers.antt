use mathlib.Core.Path.{◌≡◌, ◌∙◌, refl, sym, ap}
use Prim.Native.Nat.{ℕ, ◌+◌, ◌-◌, ◌*◌, ◌≤◌, ◌<◌}
use native.Mathlib.Nat.{add-mul}
use native.Mathlib.Omega.{arith}
use borrow.Author.Tests.{ltb-true}
use lib.ListN.{length, get_or, length-take, length-drop}
use Rattle.compositor.specs.Settings.{row_bytes}
use Rattle.compositor.specs.Ready.{most_picture}
use Rattle.compositor.proofs.Ranges.{picture_small}
use Rattle.job.specs.Stripes.{most_stripes, end_row, has_stripe, division_of}
use Rattle.job.proofs.Division.{stripe_low, end_entry, first_low, end_low, stripe_fits, stripe_is}
use borrow.Author.Rules.{rules}
use Rattle.job.proofs.stripe.draw_stripe.Goals as goal
use Rattle.job.proofs.stripe.draw_stripe.Goals.{After-first_row-first, Start}

-- the stripe has one of the entries, which is its end
low : (c : Start) → c.args.k < most_stripes
low c = stripe_low c.args.laid.layout.settings (division_of c.args.stripes) c.requires.2 c.args.k c.requires.3

end_is : (c : Start) → get_or c.args.stripes.end_rows c.args.k 0 ≡ end_row (division_of c.args.stripes) c.args.k
unfolding has_stripe
end_is c =
    let a = c.args in
    let long : length a.stripes.end_rows ≡ most_stripes = search rules in
    sym (end_entry a.stripes long a.k (ltb-true a.k (length (division_of a.stripes)) c.requires.3))

-- where its rows lie: they end within the picture, which is small
record Lies (first end width height size : ℕ) : Type 0 where
  some : first < end
  short : end ≤ height
  bytes : end * (4 * width) ≡ first * (4 * width) + (end - first) * (4 * width)
  within : end * (4 * width) ≤ size
  small : end * (4 * width) ≤ most_picture

lies : (c : After-first_row-first) →
    let a = c.args in
    Lies c.first_row-first.result (get_or a.stripes.end_rows a.k 0) a.laid.layout.settings.width a.laid.layout.settings.height (length a.picture.now)
lies c =
    let a = c.args in
    let first = c.first_row-first.result in
    let end = get_or a.stripes.end_rows a.k 0 in
    let is = end_is (goal.at.After-first_row-first c).Start in
    let from = c.first_row-first.ensures in
    let d = division_of a.stripes in
    let less : first < end = rw (is, from) (first_low a.laid.layout.settings d a.k c.requires.2 c.requires.3) in
    let fits = stripe_fits a.laid.layout.settings d a.k c.requires.2 c.requires.3 in
    let ends : end * row_bytes a.laid.layout.settings ≡ end_row d a.k * row_bytes a.laid.layout.settings = ap (λ (n : ℕ). n * row_bytes a.laid.layout.settings) is in
    let picture = picture_small a.laid.layout.settings c.args.laid.layout.in_range in
    let room = c.requires.0 in
    let whole : end ≡ first + (end - first) = omega arith in
    record {
      some = less;
      short = rw is (end_low a.laid.layout.settings d a.k c.requires.2 c.requires.3);
      bytes = ap (λ (n : ℕ). n * row_bytes a.laid.layout.settings) whole ∙ add-mul first (end - first) (row_bytes a.laid.layout.settings);
      within = omega arith;
      small = omega arith;
    }

pub offset_bounds-stripes-k : goal.offset_bounds-stripes-k
offset_bounds-stripes-k c = let k = low (goal.at.offset_bounds-stripes-k c).Start in omega arith

pub bounds-stripes-k : goal.bounds-stripes-k
bounds-stripes-k c = low (goal.at.bounds-stripes-k c).Start

pub overflow_sub-count : goal.overflow_sub-count
overflow_sub-count c = let l = lies (goal.at.overflow_sub-count c).After-first_row-first in omega (arith, l.some)

pub overflow_mul-from-2 : goal.overflow_mul-from-2
overflow_mul-from-2 c = let l = lies (goal.at.overflow_mul-from-2 c).After-first_row-first in omega (arith, l.bytes, l.small)

pub slice_bounds-part-count : goal.slice_bounds-part-count
slice_bounds-part-count c = let l = lies (goal.at.slice_bounds-part-count c).After-first_row-first in omega (arith, l.bytes)

pub slice_bounds-part-start : goal.slice_bounds-part-start
slice_bounds-part-start c = let l = lies (goal.at.slice_bounds-part-start c).After-first_row-first in omega (arith, l.bytes)

pub slice_bounds-part-end : goal.slice_bounds-part-end
slice_bounds-part-end c = (lies (goal.at.slice_bounds-part-end c).After-first_row-first).within

pub draw_lines-requires : goal.draw_lines-requires
draw_lines-requires c =
    let a = c.args in
    let l = lies (goal.at.draw_lines-requires c).After-first_row-first in
    let range = c.args.laid.layout.in_range in
    let from : ℕ = c.first_row-first.result * row_bytes a.laid.layout.settings in
    let left = length-drop from a.picture.now in (
      record {
        narrow = range.narrow;
        short = omega (arith, range.low, l.short);
        high = omega (arith, range.low, l.short, l.some);
        long = rw length-take (omega (arith, l.bytes, l.within));
      },
      c.requires.1,
    )

pub returns : goal.returns
returns c =
    let a = c.args in
    stripe_is a.laid.layout.settings (division_of a.stripes) a.k c.requires.2 c.requires.3 _ a.picture.now _
    c.first_row-first.result (get_or a.stripes.end_rows a.k 0) _ c.requires.0 c.first_row-first.ensures (end_is (goal.at.returns c).Start) refl
    c.draw_lines.ensures
