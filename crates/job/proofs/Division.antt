-- Divisions and records: what the history leans on; where stripes lie, and what a sound record says of its counters.
use mathlib.Core.Path.{◌≡◌, ◌∙◌, refl, sym, ap, subst}
use mathlib.Core.Bool.{Bool, true, false, cond, not, ◌||◌}
use mathlib.Core.List.{List, [], ◌∷◌, ◌++◌, append_assoc, append-nil}
use Prim.Native.Nat.{ℕ, zero, suc, ◌+◌, ◌-◌, ◌*◌, ◌≤◌, ◌<◌, min}
use native.Mathlib.Nat.{add-zero, mul-le-mul_right, add-mul}
use native.Mathlib.Numerals.{add-one}
use native.Mathlib.Omega.{arith}
use borrow.Author.Tests.{eq-eqb, ne_eqb, lt-ltb, le-ltb, ltb-true, ltb-false}
use lib.Dec.{eqb, ltb}
use lib.ListN.{length, get_or, take, drop, replicate, length-replicate, length-take, length-append, length-drop, length-set, drop_of_length-le}
use lib.Seq.{paste, take_all, drop-cons, take-append_seam, take-append-le, get_or-take, get_or-set_same, get_or-set_other}
use Rattle.font.specs.Paint.{each_row}
use Rattle.font.proofs.RowLaws.{rows_skip, rows_front, rows_part}
use Rattle.std.proofs.lemmas.Bool.{or_parts}
use Rattle.compositor.specs.declared.Settings.{Settings}
use Rattle.compositor.specs.Settings.{row_bytes, picture_bytes}
use Rattle.compositor.specs.Order.{Stroke}
use Rattle.compositor.specs.Picture.{strokes_on}
use Rattle.compositor.specs.Painting.{painted}
use Rattle.job.specs.declared.Stripes.{Stripes}
use Rattle.job.specs.declared.JobRecord.{JobRecord}
use Rattle.job.specs.Stripes.{Division, most_stripes, end_row, first_row, stripe_of, has_stripe, rises_to, stripes_fault, division_of, stripes_with, new_record, counter_of, with_counter, counters_unsound}
use Rattle.job.specs.Work.{on_stripe}
use Rattle.job.proofs.Rising.{first_under_end, end_within, row_there, row_of_lem, row_lies}

-- ---- what is refused of a division

module _ (s : Settings) (d : Division) where
  pub fault_many : most_stripes < length d → stripes_fault s d ≡ 13
  unfolding stripes_fault
  fault_many l = rw (lt-ltb most_stripes (length d) l)

  pub fault_by : length d ≤ most_stripes → {rise : Bool} → rises_to s.height 0 d ≡ rise → stripes_fault s d ≡ cond rise 0 13
  unfolding stripes_fault
  fault_by l {rise = true} e = rw (le-ltb most_stripes (length d) l, e)
  fault_by l {rise = false} e = rw (le-ltb most_stripes (length d) l, e)

-- ---- a division that is not refused

module _ (s : Settings) (d : Division) (fit : stripes_fault s d ≡ 0) where
  tests : (ltb most_stripes (length d) ≡ false) × (rises_to s.height 0 d ≡ true)
  unfolding stripes_fault
  tests = by (ltb most_stripes (length d)) (rises_to s.height 0 d) fit
    where
      by : (a b : Bool) → ◌≡◌ {A = ℕ} (cond (a || not b) 13 0) 0 → (a ≡ false) × (b ≡ true)
      by true b e = absurd (omega arith)
      by false true e = (refl, refl)
      by false false e = absurd (omega arith)

  pub stripes_few : length d ≤ most_stripes
  stripes_few = ltb-false most_stripes (length d) tests.0

  pub stripes_rise : rises_to s.height 0 d ≡ true
  stripes_rise = tests.1

  -- of at most 64 stripes each has a number below 64
  pub stripe_low : (k : ℕ) → has_stripe d k ≡ true → k < most_stripes
  unfolding has_stripe
  stripe_low k there = omega (arith, stripes_few, ltb-true k (length d) there)

  -- the stripe of a row is there
  pub stripe_there : (y : ℕ) → y < s.height → has_stripe d (stripe_of d y) ≡ true
  unfolding has_stripe
  stripe_there y l = lt-ltb (stripe_of d y) (length d) (row_there s.height 0 d y stripes_rise (omega arith) l)

  -- a record keeps it
  pub new_division : division_of (new_record d).stripes ≡ d
  unfolding division_of stripes_with
  new_division = ap (take (length d)) (append_assoc d _ (0 ∷ [])) ∙ take-append_seam d _

-- ---- stripes as they are handed over

-- the entry behind the last is 0, as if there were none
behind_last : (l : List ℕ) (k : ℕ) → get_or (l ++ 0 ∷ []) k 0 ≡ get_or l k 0
behind_last [] zero = refl
behind_last [] (suc k) = refl
behind_last (x ∷ l) zero = refl
behind_last (x ∷ l) (suc k) = behind_last l k

pub entry_at : (given : Stripes) (k : ℕ) → k < given.stripe_count → end_row (division_of given) k ≡ get_or given.end_rows k 0
unfolding division_of
entry_at given k l = get_or-take given.stripe_count (given.end_rows ++ 0 ∷ []) k 0 l ∙ behind_last given.end_rows k

pub used_length : (given : Stripes) → length (division_of given) ≡ min given.stripe_count (length given.end_rows + 1)
unfolding division_of
used_length given =
    length-take given.stripe_count (given.end_rows ++ 0 ∷ [])
    ∙ ap (min given.stripe_count) (length-append given.end_rows (0 ∷ []))

-- and where they have 64 entries
module _ (given : Stripes) (long : length given.end_rows ≡ most_stripes) where
  pub division_length : length (division_of given) ≡ min given.stripe_count (most_stripes + 1)
  division_length = rw long at (used_length given)

  -- as many as are counted, where that is not too many
  pub all_counted : length (division_of given) ≤ most_stripes → length (division_of given) ≡ given.stripe_count
  all_counted few = omega (arith, division_length)

  -- an end is the entry that stands there
  pub end_entry : (k : ℕ) → k < length (division_of given) → end_row (division_of given) k ≡ get_or given.end_rows k 0
  end_entry k l = entry_at given k (omega (arith, division_length))

  -- the entries that are used
  pub entries_used : length (division_of given) ≤ most_stripes → take given.stripe_count given.end_rows ≡ division_of given
  unfolding division_of
  entries_used few =
      let count = all_counted few in
      sym (take-append-le given.stripe_count given.end_rows (0 ∷ []) (omega arith))

  -- the entries, with zeros over those that are not used
  pub used_kept : length (division_of given) ≤ most_stripes →
      let n = given.stripe_count in
      let zeros : List ℕ = replicate (most_stripes - n) 0 in
      record { stripe_count = n; end_rows = paste given.end_rows n zeros (most_stripes - n) } ≡ stripes_with (division_of given)
  unfolding stripes_with
  used_kept few =
      let n = given.stripe_count in
      let zeros : List ℕ = replicate (most_stripes - n) 0 in
      let count = all_counted few in
      let whole = take_all (most_stripes - n) zeros (omega (arith, length-replicate {A = ℕ} (most_stripes - n) 0)) in
      rw (whole, drop_of_length-le given.end_rows {i = n + (most_stripes - n)} (omega arith), append-nil {A = ℕ}, entries_used few, count) refl

-- the first row of a stripe is the end of the stripe before it
pub first_after : (d : Division) (k : ℕ) → (k ≡ 0 → ⊥) → first_row d k ≡ end_row d (k - 1)
first_after d zero other = absurd (other refl)
first_after d (suc k) other = let e : suc k - 1 ≡ k = omega arith in rw e

-- ---- records

zeros_at : (n j : ℕ) → get_or {A = ℕ} (replicate n 0) j 0 ≡ 0
zeros_at zero j = refl
zeros_at (suc n) zero = refl
zeros_at (suc n) (suc j) = zeros_at n j

pub kept_length : (d : Division) → length d ≤ most_stripes → length (stripes_with d).end_rows ≡ most_stripes
unfolding stripes_with
kept_length d few =
    length-append d (replicate (most_stripes - length d) 0)
    ∙ ap (λ (n : ℕ). length d + n) (length-replicate (most_stripes - length d) 0)
    ∙ omega arith

pub new_length : (d : Division) → length (new_record d).counters ≡ most_stripes
new_length d = refl

pub new_counter : (d : Division) (k : ℕ) → counter_of (new_record d) k ≡ 0
new_counter d k = zeros_at most_stripes k

module _ (job : JobRecord) (k c : ℕ) where
  pub with_stripes : (with_counter job k c).stripes ≡ job.stripes
  unfolding with_counter
  with_stripes = refl

  pub with_length : length (with_counter job k c).counters ≡ length job.counters
  unfolding with_counter
  with_length = length-set job.counters k c

  pub with_same : k < length job.counters → counter_of (with_counter job k c) k ≡ c
  unfolding with_counter
  with_same l = get_or-set_same job.counters k c 0 l

  pub with_other : (j : ℕ) → (j ≡ k → ⊥) → counter_of (with_counter job k c) j ≡ counter_of job j
  unfolding with_counter
  with_other j other = get_or-set_other job.counters k j c 0 other

-- ---- counters

module _ (d : Division) (total : ℕ) where
  -- the next counter, and those after it
  pub counters_turn : (k : ℕ) (cs : List ℕ) → k < length cs
      → counters_unsound d total k (drop k cs)
      ≡ (ltb (cond (has_stripe d k) total 0) (get_or cs k 0) || counters_unsound d total (k + 1) (drop (k + 1) cs))
  unfolding counters_unsound
  counters_turn k cs l = rw (add-one k, drop-cons cs k 0 l)

  pub counters_end : (k : ℕ) (cs : List ℕ) → length cs ≤ k → counters_unsound d total k (drop k cs) ≡ false
  unfolding counters_unsound
  counters_end k cs l = rw (drop_of_length-le cs {i = k} l)

  -- they are sound where each is small enough
  pub all_sound : (k : ℕ) (cs : List ℕ) → ((j : ℕ) → get_or cs j 0 ≤ cond (has_stripe d (k + j)) total 0) → counters_unsound d total k cs ≡ false
  unfolding counters_unsound
  all_sound k [] small = refl
  all_sound k (c ∷ cs) small =
      let first = rw add-zero at (small 0) in
      let next : (j : ℕ) → k + suc j ≡ suc k + j = λ j. omega arith in
      rw (le-ltb (cond (has_stripe d k) total 0) c first)
      (all_sound (suc k) cs (λ j. subst (λ (i : ℕ). get_or cs j 0 ≤ cond (has_stripe d i) total 0) (next j) (small (suc j))))

  -- a counter of a sound record
  counter_sound : (j : ℕ) (cs : List ℕ) (i : ℕ) → counters_unsound d total j cs ≡ false → i < length cs
      → ltb (cond (has_stripe d (j + i)) total 0) (get_or cs i 0) ≡ false
  unfolding counters_unsound
  counter_sound j [] i e l = absurd (omega arith)
  counter_sound j (c ∷ cs) zero e l =
      let at : j + 0 ≡ j = omega arith in
      rw at (or_parts (ltb (cond (has_stripe d j) total 0) c) (counters_unsound d total (suc j) cs) e).0
  counter_sound j (c ∷ cs) (suc i) e l =
      let at : j + suc i ≡ suc j + i = omega arith in
      rw at
      (counter_sound (suc j) cs i (or_parts (ltb (cond (has_stripe d j) total 0) c) (counters_unsound d total (suc j) cs) e).1 (omega arith))

  pub counter_small : (cs : List ℕ) (k : ℕ) → counters_unsound d total 0 cs ≡ false → k < length cs → has_stripe d k ≡ true → get_or cs k 0 ≤ total
  counter_small cs k e l there =
      let at : 0 + k ≡ k = omega arith in
      let sound : ltb (cond (has_stripe d k) total 0) (get_or cs k 0) ≡ false = rw at at (counter_sound 0 cs k e l) in
      ltb-false total (get_or cs k 0) (rw there at sound)

-- ---- the rows of a stripe

module _ (s : Settings) (d : Division) (k : ℕ) (fit : stripes_fault s d ≡ 0) (there : has_stripe d k ≡ true) where
  number : k < length d
  unfolding has_stripe
  number = ltb-true k (length d) there

  -- it has a row at least, and ends within the picture
  pub first_low : first_row d k < end_row d k
  first_low = first_under_end s.height 0 d k (stripes_rise s d fit) number

  pub end_low : end_row d k ≤ s.height
  end_low = end_within s.height 0 d k (stripes_rise s d fit) number

  pub stripe_fits : end_row d k * row_bytes s ≤ picture_bytes s
  stripe_fits = mul-le-mul_right {m = end_row d k} {n = s.height} (row_bytes s) end_low

  within : (y : ℕ) → first_row d k ≤ y → y < end_row d k → stripe_of d y ≡ k
  within y l u = row_of_lem s.height 0 d k y (stripes_rise s d fit) number l u

  -- a row of the stripe lies between its first and its end
  lies : (y : ℕ) → stripe_of d y ≡ k → (first_row d k ≤ y) × (y < end_row d k)
  lies y e = subst (λ (j : ℕ). (first_row d j ≤ y) × (y < end_row d j)) e (row_lies 0 d y (omega arith) (rw e number))

  -- strokes on the stripe are strokes on its rows, whatever stands behind them
  rows_are : (ts : List Stroke) (bytes : List ℕ)
      → on_stripe s d k ts bytes
      ≡ take (first_row d k * row_bytes s) bytes
      ++ each_row (strokes_on ts) (row_bytes s) (end_row d k - first_row d k) (first_row d k) (drop (first_row d k * row_bytes s) bytes)
  rows_are ts bytes =
      let first = first_row d k in
      let count : ℕ = end_row d k - first in
      let size = row_bytes s in
      let change : ℕ → List ℕ → List ℕ = λ y row. cond (eqb (stripe_of d y) k) (strokes_on ts y row) row in
      let rest : ℕ = s.height - end_row d k in
      let all : s.height ≡ first + (count + rest) = omega (arith, first_low, end_low) in
      let none : 0 + first ≡ first = omega arith in
      ap (λ (n : ℕ). each_row change size n 0 bytes) all
      ∙ rows_skip change size first (count + rest) 0 bytes
      (λ j r l. rw (ne_eqb (stripe_of d (0 + j)) k (λ e. omega (arith, (lies (0 + j) e).0))))
      ∙ ap (λ (y : ℕ). take (first * size) bytes ++ each_row change size (count + rest) y (drop (first * size) bytes)) none
      ∙ ap (λ (l : List ℕ). take (first * size) bytes ++ l)
      (rows_front change (strokes_on ts) size count rest first (drop (first * size) bytes)
      (λ j r l. rw (eq-eqb (stripe_of d (first + j)) k (within (first + j) (omega arith) (omega arith))))
      (λ j r l u. rw (ne_eqb (stripe_of d (first + j)) k (λ e. omega (arith, (lies (first + j) e).1)))))

  -- its rows were lent as a part of n bytes, which comes back painted
  pub stripe_is : (ts : List Stroke) (bytes part : List ℕ) (first end n : ℕ) → picture_bytes s ≤ length bytes → first ≡ first_row d k → end ≡ end_row d k
      → n ≡ end * row_bytes s - first * row_bytes s
      → part ≡ painted (record { width = s.width; count = end - first; first = first }) ts (take n (drop (first * row_bytes s) bytes))
      → take (first * row_bytes s) bytes ++ (part ++ drop n (drop (first * row_bytes s) bytes)) ≡ on_stripe s d k ts bytes
  stripe_is ts bytes part first end n fits f e m p =
      let count : ℕ = end - first in
      let whole : end ≡ first + count = omega (arith, first_low) in
      let all = ap (λ (r : ℕ). r * row_bytes s) whole ∙ add-mul first count (row_bytes s) in
      let size : n ≡ count * row_bytes s = omega arith in
      let low : end * row_bytes s ≤ picture_bytes s = rw e stripe_fits in
      rw (p, size)
      (ap (λ (l : List ℕ). take (first * row_bytes s) bytes ++ l)
      (rows_part (strokes_on ts) (row_bytes s) count first (drop (first * row_bytes s) bytes) (rw length-drop (omega arith)))
      ∙ (rw (f, e) (sym (rows_are ts bytes))))
