-- STRIPES BY THEIR ENDS: document 02, S-4. Definitions only.
-- No player needs this part. `StripesByEnds`, at the end, is the claim of which ends are refused, where the rows of a
-- stripe lie, what is never read, and what stripes of one height are; it is proved.
use Rattle.std.specs.Prelude.{◌≡◌, true, cond, ◌||◌, List, ℕ, ◌*◌, ◌/◌, ◌≤◌, ◌<◌, length, nat_lt, slice_index, ◌==◌}
use Rattle.compositor.specs.declared.Settings.{Settings}
use Rattle.compositor.specs.Order.{Stroke}
use Rattle.compositor.specs.Draw.{Tapes, cue_call, draw_call}
use Rattle.job.specs.declared.Stripes.{Stripes}
use Rattle.job.specs.declared.JobRecord.{JobRecord}
use Rattle.job.specs.Stripes.{Division, most_stripes, end_row, first_row, stripe_of, has_stripe, stripes_fault, equal_ends, division_of}
use Rattle.job.specs.Work.{open_call, stepped, work_call}

-- ---- which ends are refused

-- the rule: there are at most 64 ends, each is past the one before it, the first past row 0, and the last is the
-- picture's height, which is 0 where there is none
pub record Rising (s : Settings) (d : Division) : Type 0 where
  pub few : length d ≤ most_stripes
  pub rises : (k : ℕ) → k < length d → first_row d k < end_row d k
  pub reaches : first_row d (length d) ≡ s.height

-- Ends that keep the rule are admitted, and no others. Open then comes to what Draw comes to, which is never 13; else
-- it comes to 13, but for 8, 9, 10 and 11, which come before it, and so does Work with such a record.
pub record RefusedEnds (s : Settings) (room size : ℕ) (tape : Tapes) : Type 0 where
  pub admitted : (d : Division) → Rising s d → stripes_fault s d ≡ 0
  pub keeping : (d : Division) → stripes_fault s d ≡ 0 → Rising s d
  pub breaking : (d : Division) → (Rising s d → ⊥) → stripes_fault s d ≡ 13
  pub as_draw : (d : Division) → Rising s d → open_call s room size tape d ≡ draw_call s room size tape
  pub unopened : (d : Division) → (Rising s d → ⊥) → open_call s room size tape d ≡ cue_call s room size tape 13
  pub unworked : (job : JobRecord) (k n : ℕ) → (Rising s (division_of job.stripes) → ⊥)
      → work_call s room size tape job k n ≡ cue_call s room size tape 13

-- ---- where rows lie

-- each row of the picture is of one stripe, and stripe k has the rows from its first to its end
pub record StripeRows (s : Settings) (d : Division) : Type 0 where
  pub covered : (y : ℕ) → y < s.height → has_stripe d (stripe_of d y) ≡ true
  pub between : (k y : ℕ) → has_stripe d k ≡ true → first_row d k ≤ y → y < end_row d k → stripe_of d y ≡ k
  pub found : (y : ℕ) → y < s.height → (first_row d (stripe_of d y) ≤ y) × (y < end_row d (stripe_of d y))

-- ---- what is never read

-- stripes that differ in unused end rows alone
pub record SameUsed (a b : Stripes) : Type 0 where
  pub same_count : a.stripe_count ≡ b.stripe_count
  pub same_length : length a.end_rows ≡ length b.end_rows
  pub same_ends : (k : ℕ) → k < a.stripe_count → slice_index a.end_rows k ≡ slice_index b.end_rows k

-- Open comes to the same with either, since it is told the division alone. So does Work on records that differ there
-- alone; it leaves the same pictures and counters, and hands the stripes back as they were.
pub record UnreadEnds (s : Settings) (a b : JobRecord) : Type 0 where
  pub same_division : division_of a.stripes ≡ division_of b.stripes
  pub same_call : (room size : ℕ) (tape : Tapes) (k n : ℕ) → work_call s room size tape a k n ≡ work_call s room size tape b k n
  pub same_picture : (k : ℕ) (bytes : List ℕ) (done : List Stroke) → (stepped s a k bytes done).0 ≡ (stepped s b k bytes done).0
  pub same_counters : (k : ℕ) (bytes : List ℕ) (done : List Stroke)
      → (stepped s a k bytes done).1.counters ≡ (stepped s b k bytes done).1.counters
  pub handed_back : (k : ℕ) (bytes : List ℕ) (done : List Stroke) → (stepped s a k bytes done).1.stripes ≡ a.stripes

-- ---- stripes of one height

-- Stripes of h rows are refused exactly where h was, while stripes had one height: it is 0, or gives more than 64.
-- Stripe k is there where row k · h is, and row y is in stripe y / h.
pub record EqualStripes (s : Settings) (h : ℕ) : Type 0 where
  pub old_fault : stripes_fault s (equal_ends h s.height) ≡ cond (h == 0 || nat_lt (most_stripes * h) s.height) 13 0
  pub old_stripes : 0 < h → (k : ℕ) → has_stripe (equal_ends h s.height) k ≡ nat_lt (k * h) s.height
  pub old_stripe : 0 < h → (y : ℕ) → y < s.height → stripe_of (equal_ends h s.height) y ≡ y / h

-- ---- the claim

pub record StripesByEnds : Type 0 where
  pub refused_ends : (s : Settings) (room size : ℕ) (tape : Tapes) → RefusedEnds s room size tape
  pub stripe_rows : (s : Settings) (d : Division) → stripes_fault s d ≡ 0 → StripeRows s d
  pub unread_ends : (s : Settings) (a b : JobRecord) → SameUsed a.stripes b.stripes → a.counters ≡ b.counters → UnreadEnds s a b
  pub equal_stripes : (s : Settings) (h : ℕ) → EqualStripes s h
