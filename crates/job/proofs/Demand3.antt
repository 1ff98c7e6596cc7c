-- DEMAND 3 holds: `demand_3`, near the end; `possible`: there is a history of every list of calls; and `finished`: once
-- every stripe has had all strokes, the picture is Draw's. By recursion on the history: after each call the picture is
-- one expression of how many strokes each stripe has had. Nothing here looks into a division, a record or what a tape
-- means: it leans on their laws alone.
use mathlib.Core.Path.{◌≡◌, ◌∙◌, refl, sym, ap, ap₂, subst, subst₂, subst₃}
use mathlib.Core.Bool.{Bool, true, false, cond, not, true≢false}
use mathlib.Core.List.{List, [], ◌∷◌, map}
use Prim.Native.Nat.{ℕ, ◌+◌, ◌≤◌, ◌<◌, min}
use native.Mathlib.Nat.{zero-add, add-zero}
use native.Mathlib.Decide.{ℕ_discrete}
use native.Mathlib.Omega.{arith}
use borrow.Author.Tests.{le-ltb, eq-eqb, ne_eqb}
use lib.Dec.{eqb, ltb}
use lib.ListN.{length, take, drop, replicate, length-replicate}
use lib.Seq.{take-add}
use Rattle.tape.specs.Outcome.{Outcome, accepted, refused, refuse_if, on_accepted, and_then}
use Rattle.tape.specs.Call.{changed}
use Rattle.tape.specs.Tape.{least_room}
use Rattle.tape.proofs.Calls.{accepts, happens, accepted_is}
use Rattle.font.specs.Paint.{each_row}
use Rattle.font.proofs.RowLaws.{rows_then, rows_kept, rows_behind, rows_length, rows_front, row_at}
use Rattle.compositor.specs.declared.Settings.{Settings}
use Rattle.compositor.specs.Settings.{row_bytes, picture_bytes}
use Rattle.compositor.specs.Order.{Stroke}
use Rattle.compositor.specs.Picture.{strokes_on, row_after, picture_after, cleared}
use Rattle.compositor.specs.Draw.{Tapes, tape_strokes, draw_call, cue_call, draw_picture}
use Rattle.compositor.proofs.Painting.{strokes_length, strokes_append}
use Rattle.compositor.proofs.ClearedPicture.{picture_drawn}
use Rattle.compositor.proofs.AcceptedCalls.{cue_fits, cue_extra, cue_strokes, cue_again}
use Rattle.job.specs.declared.Stripes.{Stripes}
use Rattle.job.specs.declared.JobRecord.{JobRecord}
use Rattle.job.specs.Stripes.{Division, most_stripes, stripe_of, has_stripe, stripes_fault, division_of, stripes_with, new_record, counter_of, counters_unsound}
use Rattle.job.specs.Work.{open_call, on_stripe, stepped, stripe_call, work_call}
use Rattle.job.specs.History.{row_of, Entry, History, after_open, after_work, granted, budgets, count, due_of, AllDue, PartlyDrawn, Demand3, asked, Possible}
use Rattle.job.proofs.Division.{stripes_few, stripe_low, stripe_there, new_division, kept_length, new_length, new_counter, with_stripes, with_length, with_same, with_other, all_sound}
use Rattle.job.proofs.CallWork.{strokes_done, take_taken}

-- ---- numbers and lists

-- what holds of k, and of every other number, holds of every number
one_and_others : (P : ℕ → Type 0) {k : ℕ} → P k → ((j : ℕ) → (j ≡ k → ⊥) → P j) → (j : ℕ) → P j
one_and_others P {k} one others j = elim (ℕ_discrete j k) [ yes e ↦ subst P (sym e) one | no other ↦ others j other ]

-- ---- counts

module _ (ts : List Stroke) (k : ℕ) where
  -- c never passes T
  count_most : (entries : List Entry) → count ts entries k ≤ length ts
  unfolding count
  count_most [] = omega arith
  count_most (entry ∷ before) = by (eqb entry.stripe k) (count_most before)
    where
      by : (b : Bool) → count ts before k ≤ length ts
          → cond b (min (length ts) (count ts before k + granted entry.budget entry.answer)) (count ts before k) ≤ length ts
      by true l = omega arith
      by false l = l

  -- THE LAW: it is the smaller of T and the sum of the budgets accepted
  count_summed : (entries : List Entry) → count ts entries k ≡ min (length ts) (budgets k entries)
  unfolding count budgets
  count_summed [] = omega arith
  count_summed (entry ∷ before) = by (eqb entry.stripe k) (count_summed before)
    where
      n : ℕ
      n = granted entry.budget entry.answer

      by : (b : Bool) → count ts before k ≡ min (length ts) (budgets k before)
          → cond b (min (length ts) (count ts before k + n)) (count ts before k) ≡ min (length ts) (cond b n 0 + budgets k before)
      by true e = omega arith
      by false e = e ∙ ap (min (length ts)) (sym (zero-add (budgets k before)))

-- ---- a picture by what its stripes have had

-- n strokes more on a row, or as many as are left
row_more : (s : Settings) (ts : List Stroke) (c n y : ℕ)
    → strokes_on (take n (drop c ts)) y (row_after s ts c y) ≡ row_after s ts (c + length (take n (drop c ts))) y
unfolding row_after
row_more s ts c n y =
    sym (strokes_append (take c ts) (take n (drop c ts)) y (replicate (row_bytes s) 0))
    ∙ rw (take-add c (length (take n (drop c ts))) ts, take_taken n (drop c ts))

module _ (s : Settings) (d : Division) (ts : List Stroke) where
  -- row y, where the rows of stripe k have had the first c k strokes, and then the picture's buffer, which held `bytes`
  abbrev row_by : (ℕ → ℕ) → ℕ → List ℕ → List ℕ
  row_by c y row = row_after s ts (c (stripe_of d y)) y

  abbrev image : List ℕ → (ℕ → ℕ) → List ℕ
  image bytes c = each_row (row_by c) (row_bytes s) s.height 0 bytes

  row_long : (c : ℕ → ℕ) (y : ℕ) (row : List ℕ) → length row ≡ row_bytes s → length (row_by c y row) ≡ row_bytes s
  unfolding row_after
  row_long c y row e = strokes_length (take (c (stripe_of d y)) ts) y (replicate (row_bytes s) 0) ∙ length-replicate (row_bytes s) 0

  -- all strokes on each stripe
  image_all : stripes_fault s d ≡ 0 → (bytes : List ℕ) (c : ℕ → ℕ) → ((k : ℕ) → has_stripe d k ≡ true → c k ≡ length ts) → image bytes c ≡ picture_after s ts (length ts) bytes
  image_all fit bytes c all =
      ap (λ (n : ℕ). each_row (row_by c) (row_bytes s) n 0 bytes) (sym (add-zero s.height))
      ∙ rows_front (row_by c) _ (row_bytes s) s.height 0 0 bytes
      (λ j row l. ap (λ (m : ℕ). row_after s ts m (0 + j)) (all (stripe_of d (0 + j)) (stripe_there s d fit (0 + j) (omega arith))))
      (λ j row l k. absurd (omega arith))

-- ---- a history

abbrev entry_of : ℕ → ℕ → ℕ → Outcome ℕ → Entry
entry_of k n room answer = record { stripe = k; budget = n; room = room; answer = answer }

module _ (s : Settings) (tape : Tapes) (d : Division) (bytes : List ℕ) (ts : List Stroke) where
  -- what each call keeps, where the caption has the strokes ts
  record Kept (entries : List Entry) (picture : List ℕ) (job : JobRecord) : Type 0 where
    opens : (room : ℕ) → open_call s room (length bytes) tape d ≡ refuse_if (ltb room least_room) 11 0 (accepted ts)
    painted : picture ≡ image s d ts bytes (count ts entries)
    stripes : job.stripes ≡ stripes_with d
    counters : length job.counters ≡ most_stripes
    counted : (k : ℕ) → counter_of job k ≡ count ts entries k
    past : (k : ℕ) → has_stripe d k ≡ false → counter_of job k ≡ 0
    due : AllDue ts d entries

  kept_open : (room : ℕ) → open_call s room (length bytes) tape d ≡ accepted ts → Kept [] (cleared s bytes) (new_record d)
  unfolding count AllDue strokes_on
  kept_open room e =
      record {
        opens = cue_again s room (length bytes) tape (stripes_fault s d) e;
        painted =
            sym (rows_kept (strokes_on []) (row_bytes s) s.height 0 (cleared s bytes) (λ j row l. refl))
            ∙ picture_drawn s ts 0 bytes;
        stripes = refl;
        counters = new_length d;
        counted = new_counter d;
        past = λ k l. new_counter d k;
        due = tt;
      }

  module _ {entries : List Entry} {picture : List ℕ} {job : JobRecord} (kept : Kept entries picture job) where
    fits : picture_bytes s ≤ length bytes
    fits = cue_fits s least_room (length bytes) tape (stripes_fault s d) (kept.opens least_room)

    caption : tape_strokes s tape ≡ accepted ts
    caption = cue_strokes s least_room (length bytes) tape (stripes_fault s d) (kept.opens least_room)

    fit : stripes_fault s d ≡ 0
    fit = cue_extra s least_room (length bytes) tape (stripes_fault s d) (kept.opens least_room)

    division : division_of job.stripes ≡ d
    division = ap division_of kept.stripes ∙ new_division s d fit

    partly : PartlyDrawn s ts d bytes entries picture job
    partly =
        let c = count ts entries in
        record {
          holds =
              λ y l. ap (λ (p : List ℕ). row_of s p y) kept.painted
              ∙ row_at (row_by s d ts c) (row_bytes s) (row_long s d ts c) y s.height 0 bytes l fits
              ∙ ap (λ (j : ℕ). row_after s ts (c (stripe_of d j)) j) (zero-add y);
          summed = λ k. count_summed ts k entries;
          beyond =
              ap (drop (picture_bytes s)) kept.painted
              ∙ rows_behind (row_by s d ts c) (row_bytes s) (row_long s d ts c) s.height 0 bytes fits;
          same_size = ap length kept.painted ∙ rows_length (row_by s d ts c) (row_bytes s) (row_long s d ts c) s.height 0 bytes fits;
          same_stripes = kept.stripes;
          sixty_four = kept.counters;
          counted = kept.counted;
          past = kept.past;
          due = kept.due;
        }

    -- 14 does not arise
    counters_sound : counters_unsound d (length ts) 0 job.counters ≡ false
    counters_sound = all_sound d (length ts) 0 job.counters (λ j. rw zero-add (small j (has_stripe d j) refl))
      where
        small : (j : ℕ) (there : Bool) → has_stripe d j ≡ there → counter_of job j ≤ cond there (length ts) 0
        small j true e = omega (arith, kept.counted j, count_most ts j entries)
        small j false e = omega (arith, kept.past j e)

    -- a call of Work on stripe k with budget n, and a workspace of `room` bytes
    module _ (k n room : ℕ) where
      -- the strokes that it does, if it is not refused
      abbrev strokes : List Stroke
      strokes = take n (drop (count ts entries k) ts)

      -- what it comes to, by whether the workspace is short and whether the stripe is there
      abbrev comes : Bool → Bool → Outcome (List Stroke)
      comes short there = refuse_if short 11 0 (refuse_if (not there) 12 0 (accepted strokes))

      stripe_comes : stripe_call job k n ts ≡ comes false (has_stripe d k)
      unfolding stripe_call
      stripe_comes = rw (division, counters_sound, kept.counted k)

      work_comes : work_call s room (length picture) tape job k n ≡ comes (ltb room least_room) (has_stripe d k)
      unfolding work_call
      work_comes =
          ap₂ (λ (size : ℕ) (e : Division). and_then (stripe_call job k n) (open_call s room size tape e)) partly.same_size division
          ∙ rw (kept.opens room) (by (ltb room least_room))
        where
          by : (short : Bool) → and_then (stripe_call job k n) (refuse_if short 11 0 (accepted ts)) ≡ comes short (has_stripe d k)
          by true = refl
          by false = stripe_comes

      -- the history with it, by its answer
      abbrev after : Outcome ℕ → List Entry
      after answer = entry_of k n room answer ∷ entries

      -- and where it is accepted
      abbrev later : List Entry
      later = after (accepted (length strokes))

      -- a refused budget does not count
      count_refused : (number j : ℕ) → count ts entries j ≡ count ts (after (refused number 0)) j
      unfolding count
      count_refused number j = by (eqb k j)
        where
          by : (b : Bool) → count ts entries j ≡ cond b (min (length ts) (count ts entries j + 0)) (count ts entries j)
          by true = let most = count_most ts j entries in omega arith
          by false = refl

      -- an accepted one counts for its stripe, as far as there are strokes, and for no other
      count_here : count ts entries k + length strokes ≡ count ts later k
      unfolding count
      count_here =
          let most = count_most ts k entries in
          rw (eq-eqb k k refl) (omega (arith, strokes_done ts (count ts entries k) n))

      count_other : (j : ℕ) → (j ≡ k → ⊥) → count ts entries j ≡ count ts later j
      unfolding count
      count_other j other = rw (ne_eqb k j (λ e. other (sym e)))

      row_painted : (y j : ℕ)
          → cond (eqb j k) (strokes_on strokes y (row_after s ts (count ts entries j) y)) (row_after s ts (count ts entries j) y)
          ≡ row_after s ts (count ts later j) y
      row_painted y =
          one_and_others _
          (rw (eq-eqb k k refl, ← count_here) (row_more s ts (count ts entries k) n y))
          (λ j other. rw (ne_eqb j k other, count_other j other))

      stripe_painted : on_stripe s (division_of job.stripes) k strokes picture ≡ image s d ts bytes (count ts later)
      stripe_painted =
          let c = count ts entries in
          rw (division, kept.painted)
          (sym (rows_then (row_by s d ts c) (row_bytes s) (row_long s d ts c) _ s.height 0 bytes fits)
          ∙ (λ i. each_row (λ y row. row_painted y (stripe_of d y) i) (row_bytes s) s.height 0 bytes))

      -- what it leaves is kept, whatever it comes to
      abbrev leaves : Outcome (List Stroke) → List ℕ × JobRecord
      leaves o = changed (stepped s job k picture) (picture, job) o

      abbrev Keeps : Outcome (List Stroke) → Type 0
      Keeps o = Kept (after (on_accepted length o)) (leaves o).0 (leaves o).1

      kept_refused : (number : ℕ) → refused number 0 ≡ due_of ts d (entry_of k n room (refused number 0)) entries → Keeps (refused number 0)
      unfolding AllDue
      kept_refused number due =
          record {
            opens = kept.opens;
            painted = kept.painted ∙ (λ i. image s d ts bytes (λ j. count_refused number j i));
            stripes = kept.stripes;
            counters = kept.counters;
            counted = λ j. kept.counted j ∙ count_refused number j;
            past = kept.past;
            due = (due, kept.due);
          }

      kept_accepted : ltb room least_room ≡ false → has_stripe d k ≡ true → Keeps (accepted strokes)
      unfolding AllDue
      kept_accepted wide there =
          let c = counter_of job k + length strokes in
          let low : k < length job.counters = omega (arith, stripe_low s d fit k there, kept.counters) in
          record {
            opens = kept.opens;
            painted = stripe_painted;
            stripes = with_stripes job k c ∙ kept.stripes;
            counters = with_length job k c ∙ kept.counters;
            counted =
                one_and_others _
                (with_same job k c low ∙ rw (kept.counted k) count_here)
                (λ j other. with_other job k c j other ∙ kept.counted j ∙ count_other j other);
            past =
                λ j e. with_other job k c j (λ q. true≢false (sym there ∙ ap (has_stripe d) (sym q) ∙ e)) ∙ kept.past j e;
            due = (rw (wide, there) (ap accepted (omega (arith, count_here))), kept.due);
          }

      kept_work : Keeps (work_call s room (length picture) tape job k n)
      kept_work = rw work_comes (by (ltb room least_room) (has_stripe d k) refl refl)
        where
          by : (short there : Bool) → ltb room least_room ≡ short → has_stripe d k ≡ there → Keeps (comes short there)
          by true there p q = kept_refused 11 (rw p)
          by false false p q = kept_refused 12 (rw (p, q))
          by false true p q = kept_accepted p q

module _ (s : Settings) (tape : Tapes) (d : Division) (bytes : List ℕ) where
  all_kept : {entries : List Entry} {picture : List ℕ} {job : JobRecord} → History s tape d bytes entries picture job
      → (ts : List Stroke) × Kept s tape d bytes ts entries picture job
  all_kept (after_open {ws} total o) =
      let found = accepted_is o refl in
      let ts = found.given in (
        ts,
        subst₂ (Kept s tape d bytes ts [])
            (sym (ap (λ (x : List ℕ × JobRecord). x.0) found.changes))
            (sym (ap (λ (x : List ℕ × JobRecord). x.1) found.changes))
            (kept_open s tape d bytes ts (length ws) found.means),
      )
  all_kept (after_work {entries} {ws} k n before w) =
      let found = all_kept before in
      let ts = found.0 in (
        ts,
        subst₃ (λ (answer : Outcome ℕ). Kept s tape d bytes ts (entry_of k n (length ws) answer ∷ entries))
            (sym w.answers)
            (sym (ap (λ (x : List ℕ × JobRecord). x.0) w.changes))
            (sym (ap (λ (x : List ℕ × JobRecord). x.1) w.changes))
            (kept_work s tape d bytes ts found.1 k n (length ws)),
      )

-- a record has 64 end rows
pub end_rows_long : (s : Settings) (tape : Tapes) (d : Division) (bytes : List ℕ) {entries : List Entry} {picture : List ℕ} {job : JobRecord}
    → History s tape d bytes entries picture job → length job.stripes.end_rows ≡ most_stripes
end_rows_long s tape d bytes history =
    let found = all_kept s tape d bytes history in
    ap (λ (x : Stripes). length x.end_rows) found.1.stripes ∙ kept_length d (stripes_few s d (fit s tape d bytes found.0 found.1))

-- DEMAND 3
pub demand_3 : Demand3
demand_3 s tape d bytes entries picture job history =
    let found = all_kept s tape d bytes history in
    let ts = found.0 in
    (ts, caption s tape d bytes ts found.1, partly s tape d bytes ts found.1)

-- ---- there is such a history

pub possible : Possible
possible s tape d bytes ws ts e wishes = go wishes
  where
    go : (wishes : List (ℕ × ℕ × List ℕ)) → (entries : List Entry) × (picture : List ℕ) × (job : JobRecord)
        × History s tape d bytes entries picture job
        × (map asked entries ≡ map (λ w. (w.0, w.1, length w.2)) wishes)
    go [] = ([], cleared s bytes, new_record d, after_open {ws = ws} {ws' = ws} (length ts) (accepts e refl refl tt), refl)
    go (w ∷ rest) =
        let before = go rest in
        let o = work_call s (length w.2) (length before.1) tape before.2 w.0 w.1 in
        let x = changed (stepped s before.2 w.0 before.1) (before.1, before.2) o in
        let answer = on_accepted length o in (
          entry_of w.0 w.1 (length w.2) answer ∷ before.0,
          x.0,
          x.1,
          after_work {ws = w.2} {ws' = w.2} w.0 w.1 before.3 (happens o (λ us. tt)),
          ap (λ (l : List (ℕ × ℕ × ℕ)). (w.0, w.1, length w.2) ∷ l) before.4,
        )

-- ---- and its end

-- after such calls, where each stripe's counter has come to T, the picture is what Draw leaves, with any workspace that
-- is large enough
pub finished : (s : Settings) (tape : Tapes) (d : Division) (bytes : List ℕ) (entries : List Entry) (picture : List ℕ) (job : JobRecord)
    → History s tape d bytes entries picture job → (ts : List Stroke) → tape_strokes s tape ≡ accepted ts
    → ((k : ℕ) → has_stripe d k ≡ true → counter_of job k ≡ length ts) → (room : ℕ) → least_room ≤ room
    → picture ≡ changed (draw_picture s bytes) bytes (draw_call s room (length bytes) tape)
finished s tape d bytes entries picture job history ts e all room enough =
    let found = all_kept s tape d bytes history in
    let us = found.0 in
    let kept = found.1 in
    let same : ts ≡ us = cc (caption s tape d bytes us kept) in
    let drawn : draw_call s room (length bytes) tape ≡ accepted us =
    ap (cue_call s room (length bytes) tape) (sym (fit s tape d bytes us kept)) ∙ kept.opens room ∙ rw (le-ltb room least_room enough) in
    rw drawn (kept.painted ∙ image_all s d us (fit s tape d bytes us kept) bytes (count us entries) (λ k there. sym (kept.counted k) ∙ all k there ∙ ap length same))
