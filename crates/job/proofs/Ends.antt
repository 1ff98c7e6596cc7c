-- Stripes by their ends: the claim of the part Ends.
use mathlib.Core.Path.{◌≡◌, ◌∙◌, refl, sym, ap, ap₂}
use mathlib.Core.Bool.{Bool, true, false, cond, not, ◌||◌}
use mathlib.Core.List.{List, [], ◌∷◌, map}
use Prim.Native.Nat.{ℕ, zero, suc, ◌+◌, ◌-◌, ◌*◌, ◌/◌, ◌≤◌, ◌<◌, min}
use native.Mathlib.Nat.{zero-add, suc-mul, div-mul-le_self, lt-div-mul-add, le-div_iff_mul-le}
use native.Mathlib.Omega.{arith}
use borrow.Author.Tests.{lt-ltb, ltb-true, ltb-false, eq-eqb, ne_eqb}
use lib.Dec.{eqb, ltb}
use lib.ListN.{length, get_or, set, take, drop}
use lib.Seq.{ext_get_or}
use Rattle.tape.specs.Outcome.{Outcome, accepted, refused, refuse_if, and_then}
use Rattle.tape.specs.Tape.{most_bytes, least_room}
use Rattle.wrap.specs.Lines.{up_from}
use Rattle.compositor.specs.declared.Settings.{Settings}
use Rattle.compositor.specs.Settings.{out_of_range, picture_bytes}
use Rattle.compositor.specs.Order.{Stroke}
use Rattle.compositor.specs.Draw.{Tapes, cue_call}
use Rattle.job.specs.declared.Stripes.{Stripes}
use Rattle.job.specs.declared.JobRecord.{JobRecord}
use Rattle.job.specs.Stripes.{Division, most_stripes, end_row, first_row, stripe_of, has_stripe, rises_to, stripes_fault, equal_ends, division_of, with_counter, counters_unsound}
use Rattle.job.specs.Work.{open_call, on_stripe, stripe_call, work_call}
use Rattle.job.specs.Ends.{Rising, RefusedEnds, StripeRows, SameUsed, UnreadEnds, EqualStripes, StripesByEnds}
use Rattle.job.proofs.Rising.{first_from, first_under_end, last_is, row_of_lem, row_lies}
use Rattle.job.proofs.Division.{entry_at, used_length, fault_by, stripes_few, stripes_rise, stripe_there}

-- ---- the rule

-- the test of the ends says what the rule says
rises_by : (height row : ℕ) (d : Division) → ((k : ℕ) → k < length d → first_from row d k < end_row d k) → first_from row d (length d) ≡ height
    → rises_to height row d ≡ true
unfolding rises_to
rises_by height row [] rises reaches = eq-eqb row height reaches
rises_by height row (end ∷ d) rises reaches =
    rw (lt-ltb row end (rises 0 (omega arith))) (rises_by height end d (λ k l. rises (suc k) (omega arith)) reaches)

module _ (s : Settings) (d : Division) where
  keeping : stripes_fault s d ≡ 0 → Rising s d
  keeping fit =
      record {
        few = stripes_few s d fit;
        rises = λ k l. first_under_end s.height 0 d k (stripes_rise s d fit) l;
        reaches = last_is s.height 0 d (stripes_rise s d fit);
      }

  admitted : Rising s d → stripes_fault s d ≡ 0
  admitted r = fault_by s d r.few (rises_by s.height 0 d r.rises r.reaches)

  breaking : (Rising s d → ⊥) → stripes_fault s d ≡ 13
  unfolding stripes_fault
  breaking broken = by (ltb most_stripes (length d)) (rises_to s.height 0 d) (λ e. broken (keeping e))
    where
      by : (a b : Bool) → (◌≡◌ {A = ℕ} (cond (a || not b) 13 0) 0 → ⊥) → ◌≡◌ {A = ℕ} (cond (a || not b) 13 0) 13
      by true b other = refl
      by false true other = absurd (other refl)
      by false false other = refl

-- what comes to 13 comes to it in Work too
module _ (s : Settings) (room size : ℕ) (tape : Tapes) where
  still_13 : (f : List Stroke → Outcome (List Stroke)) → and_then f (cue_call s room size tape 13) ≡ cue_call s room size tape 13
  unfolding cue_call
  still_13 f = by (out_of_range s) (ltb size (picture_bytes s)) (ltb most_bytes (length tape)) (ltb room least_room)
    where
      by : (a b c d : Bool) → and_then f (refuse_if a 8 0 (refuse_if b 9 0 (refuse_if c 10 0 (refuse_if d 11 0 (refused 13 0)))))
          ≡ refuse_if a 8 0 (refuse_if b 9 0 (refuse_if c 10 0 (refuse_if d 11 0 (refused 13 0))))
      by true b c d = refl
      by false true c d = refl
      by false false true d = refl
      by false false false true = refl
      by false false false false = refl

  refused_ends_lem : RefusedEnds s room size tape
  unfolding work_call
  refused_ends_lem =
      record {
        admitted = admitted s;
        keeping = keeping s;
        breaking = breaking s;
        as_draw = λ d r. ap (cue_call s room size tape) (admitted s d r);
        unopened = λ d broken. ap (cue_call s room size tape) (breaking s d broken);
        unworked =
            λ job k n broken. ap (λ (e : ℕ). and_then (stripe_call job k n) (cue_call s room size tape e)) (breaking s (division_of job.stripes) broken)
            ∙ still_13 (stripe_call job k n);
      }

-- ---- rows

stripe_rows_lem : (s : Settings) (d : Division) → stripes_fault s d ≡ 0 → StripeRows s d
unfolding has_stripe
stripe_rows_lem s d fit =
    record {
      covered = stripe_there s d fit;
      between = λ k y there from to. row_of_lem s.height 0 d k y (stripes_rise s d fit) (ltb-true k (length d) there) from to;
      found = λ y l. row_lies 0 d y (omega arith) (ltb-true (stripe_of d y) (length d) (stripe_there s d fit y l));
    }

-- ---- what is never read

same_division_lem : (a b : Stripes) → SameUsed a b → division_of a ≡ division_of b
same_division_lem a b same =
    let lengths = used_length a in
    ext_get_or 0 (division_of a) (division_of b)
    (used_length a ∙ ap₂ (λ (c n : ℕ). min c (n + 1)) same.same_count same.same_length ∙ sym (used_length b))
    (λ k l.
    let low : k < a.stripe_count = omega arith in
    entry_at a k low ∙ same.same_ends k low ∙ sym (entry_at b k (rw (← same.same_count) low)))

unread : (s : Settings) (a b : JobRecord) → SameUsed a.stripes b.stripes → a.counters ≡ b.counters → UnreadEnds s a b
unfolding work_call stripe_call with_counter
unread s a b same counters =
    let d = same_division_lem a.stripes b.stripes same in
    record {
      same_division = d;
      same_call =
          λ room size tape k n. ap₂
          (λ (e : Division) (cs : List ℕ).
          and_then
          (λ ts. refuse_if (counters_unsound e (length ts) 0 cs) 14 0 (refuse_if (not (has_stripe e k)) 12 0 (accepted (take n (drop (get_or cs k 0) ts)))))
          (open_call s room size tape e))
          d counters;
      same_picture = λ k bytes done. ap (λ (e : Division). on_stripe s e k done bytes) d;
      same_counters = λ k bytes done. ap (λ (cs : List ℕ). set cs k (get_or cs k 0 + length done)) counters;
      handed_back = λ k bytes done. refl;
    }

-- ---- stripes of one height

same_test : (a b c d : ℕ) → (a < b → c < d) → (c < d → a < b) → ltb a b ≡ ltb c d
same_test a b c d to from = by (ltb a b) (ltb c d) refl refl
  where
    by : (t u : Bool) → ltb a b ≡ t → ltb c d ≡ u → t ≡ u
    by true true p q = refl
    by true false p q = absurd (omega (arith, to (ltb-true a b p), ltb-false c d q))
    by false true p q = absurd (omega (arith, from (ltb-true c d q), ltb-false a b p))
    by false false p q = refl

module _ (h height : ℕ) (pos : 0 < h) where
  -- how many stripes there are, and the ends of n of them from number j on
  abbrev number : ℕ
  number = (height + (h - 1)) / h

  abbrev ends : ℕ → ℕ → Division
  ends j n = map (λ k. min (suc k * h) height) (up_from j n)

  equal_is : equal_ends h height ≡ ends 0 number
  unfolding equal_ends
  equal_is = rw (ne_eqb h 0 (λ e. omega arith)) refl

  -- stripe k is there where its first row is
  there : (k : ℕ) → k < number → k * h < height
  there k l = let m = (le-div_iff_mul-le {k = h} {x = suc k} {y = height + (h - 1)} pos).0 l in omega (arith, suc-mul k h)

  low : (k : ℕ) → k * h < height → k < number
  low k l = (le-div_iff_mul-le {k = h} {x = suc k} {y = height + (h - 1)} pos).1 (omega (arith, suc-mul k h))

  -- so the last ends at the height
  all_there : height ≤ number * h
  all_there = by (ltb (number * h) height) refl
    where
      by : (b : Bool) → ltb (number * h) height ≡ b → height ≤ number * h
      by true e = absurd (omega (arith, low number (ltb-true (number * h) height e)))
      by false e = ltb-false (number * h) height e

  ends_length : (j n : ℕ) → length (ends j n) ≡ n
  unfolding up_from
  ends_length j zero = refl
  ends_length j (suc n) = ap suc (ends_length (suc j) n)

  ends_rise : (j n : ℕ) → j + n ≡ number → rises_to height (min (j * h) height) (ends j n) ≡ true
  unfolding rises_to up_from
  ends_rise j zero e =
      let last : j * h ≡ number * h = ap (λ (m : ℕ). m * h) (let same : j ≡ number = omega arith in same) in
      eq-eqb (min (j * h) height) height (omega (arith, all_there))
  ends_rise j (suc n) e =
      let first = there j (omega arith) in
      rw (lt-ltb (min (j * h) height) (min (suc j * h) height) (omega (arith, suc-mul j h)))
      (ends_rise (suc j) n (omega arith))

  ends_at : (j n k : ℕ) → k < n → end_row (ends j n) k ≡ min (suc (j + k) * h) height
  unfolding up_from
  ends_at j zero k l = absurd (omega arith)
  ends_at j (suc n) zero l = let e : j ≡ j + 0 = omega arith in ap (λ (m : ℕ). min (suc m * h) height) e
  ends_at j (suc n) (suc k) l =
      let e : suc j + k ≡ j + suc k = omega arith in
      ends_at (suc j) n k (omega arith) ∙ ap (λ (m : ℕ). min (suc m * h) height) e

  rise : rises_to height 0 (ends 0 number) ≡ true
  rise = let none : min (0 * h) height ≡ 0 = omega arith in rw none at (ends_rise 0 number (zero-add number))

  -- the first row of a stripe is not past its number times the height
  first_at : (k : ℕ) → k < number → first_row (ends 0 number) k ≤ k * h
  first_at zero l = omega arith
  first_at (suc k) l =
      let e = ends_at 0 number k (omega arith) in
      let m : suc (0 + k) * h ≡ suc k * h = ap (λ (i : ℕ). suc i * h) (zero-add k) in
      omega arith

  row_in : (y : ℕ) → y < height → stripe_of (ends 0 number) y ≡ y / h
  row_in y l =
      let k : ℕ = y / h in
      let from = div-mul-le_self y h in
      let to = lt-div-mul-add {a = y} {b = h} pos in
      let there : k < number = low k (omega arith) in
      let end = ends_at 0 number k there in
      let m : suc (0 + k) * h ≡ suc k * h = ap (λ (i : ℕ). suc i * h) (zero-add k) in
      let next = suc-mul k h in
      let first = first_at k there in
      row_of_lem height 0 (ends 0 number) k y rise (rw ends_length there) (omega arith) (omega arith)

-- ends that rise are refused where they are too many
fault_rising : (s : Settings) (d : Division) → rises_to s.height 0 d ≡ true → stripes_fault s d ≡ cond (ltb most_stripes (length d)) 13 0
unfolding stripes_fault
fault_rising s d e = rw e (by (ltb most_stripes (length d)))
  where
    by : (t : Bool) → ◌≡◌ {A = ℕ} (cond (t || false) 13 0) (cond t 13 0)
    by true = refl
    by false = refl

-- the old rule
equal_fault : (s : Settings) (h : ℕ) → stripes_fault s (equal_ends h s.height) ≡ cond (eqb h 0 || ltb (most_stripes * h) s.height) 13 0
unfolding stripes_fault equal_ends rises_to
equal_fault s zero = refl
equal_fault s (suc g) =
    let h : ℕ = suc g in
    let height = s.height in
    let pos : 0 < h = omega arith in
    let n : ℕ = number h height pos in
    rw (ne_eqb h 0 (λ e. omega arith))
    (fault_rising s (ends h height pos 0 n) (rise h height pos)
    ∙ ap (λ (m : ℕ). cond (ltb most_stripes m) 13 0) (ends_length h height pos 0 n)
    ∙ ap (λ (t : Bool). cond t 13 0)
    (same_test most_stripes n (most_stripes * h) height (there h height pos most_stripes) (low h height pos most_stripes)))

equal_stripes_lem : (s : Settings) (h : ℕ) → EqualStripes s h
unfolding has_stripe
equal_stripes_lem s h =
    record {
      old_fault = equal_fault s h;
      old_stripes =
          λ pos k. rw (equal_is h s.height pos, ends_length h s.height pos)
          (same_test k (number h s.height pos) (k * h) s.height (there h s.height pos k) (low h s.height pos k));
      old_stripe = λ pos y l. rw (equal_is h s.height pos) (row_in h s.height pos y l);
    }

pub stripes_by_ends : StripesByEnds
stripes_by_ends = record { refused_ends = refused_ends_lem; stripe_rows = stripe_rows_lem; unread_ends = unread; equal_stripes = equal_stripes_lem }
