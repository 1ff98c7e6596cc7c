-- DEMAND 3 OF THE FUNCTIONS FOR C: their histories are those of the calls beneath them.
use mathlib.Core.Path.{◌≡◌, ◌∙◌, refl, sym, ap, subst}
use mathlib.Core.List.{List, ◌∷◌}
use Prim.Native.Nat.{ℕ, ◌<◌, ◌^◌}
use native.Mathlib.Omega.{arith}
use borrow.Author.Tests.{lt-ltb}
use lib.ListN.{length}
use Rattle.tape.specs.Outcome.{Outcome, accepted}
use Rattle.tape.specs.Packed.{packed, unpacked}
use Rattle.tape.proofs.Calls.{accepted_is}
use Rattle.compositor.specs.Draw.{Tapes}
use Rattle.job.specs.declared.JobRecord.{JobRecord}
use Rattle.job.specs.Stripes.{Division, most_stripes, division_of}
use Rattle.job.specs.Worked.{Opened, Worked}
use Rattle.job.specs.History.{Entry, History, after_open, after_work}
use Rattle.compositor.proofs.Answers.{Few}
use Rattle.job.proofs.Answers.{open_bounded}
use Rattle.job.proofs.Demand3.{end_rows_long, demand_3, possible}
use Rattle.captions.specs.Interface.{settings_of, stripes_of, record_of, OpenAnswered, WorkAnswered}
use Rattle.captions.specs.HistoryInC.{HistoryInC, after_open_in_c, after_work_in_c, Demand3InC, PossibleInC}
use Rattle.captions.proofs.Records.{words_of, there_and_back}
use Rattle.captions.proofs.Packing.{open_packs, work_packs}

-- a small number is an answer
small_answer : (r : ℕ) → r < 2 ^ 32 → unpacked r ≡ accepted r
unfolding unpacked
small_answer r l = rw (lt-ltb r (2 ^ 32) l)

module _ (settings : List ℕ) (tape : Tapes) (stripes bytes : List ℕ) where
  -- the division that the numbers stand for
  abbrev d : Division
  d = division_of (stripes_of stripes)

  -- a history of the functions is one of the calls
  pub carried : {entries : List Entry} {picture words : List ℕ} → HistoryInC settings tape stripes bytes entries picture words
      → History (settings_of settings) tape d bytes entries picture (record_of words)
  carried (after_open_in_c {ws} r o l) =
      let back = (open_packs (settings_of settings) tape ws bytes d o.does).back in
      after_open r (rw (sym back ∙ ap unpacked (sym o.packs) ∙ small_answer r l) at o.does)
  carried (after_work_in_c {entries} {ws} {picture = picture} {picture' = picture'} {words = words} {words' = words'} k n r before w) =
      let back = (work_packs (settings_of settings) tape ws picture (record_of words) k n w.does).back in
      subst
      (λ (a : Outcome ℕ). History (settings_of settings) tape d bytes (record { stripe = k; budget = n; room = length ws; answer = a } ∷ entries) picture' (record_of words'))
      (sym back ∙ ap unpacked (sym w.packs))
      (after_work k n (carried before) w.does)

  -- what a call left is what its function did, with records as numbers
  open_answered : {ws ws' picture : List ℕ} {answer : Outcome ℕ} {job : JobRecord} → length job.stripes.end_rows ≡ most_stripes
      → Opened (settings_of settings) tape ws ws' bytes picture d answer job
      → OpenAnswered settings tape ws ws' bytes picture stripes (words_of job) (packed answer)
  open_answered {answer = answer} {job = job} long o = record { answer = answer; does = rw (there_and_back job long) o; packs = refl }

  work_answered : {ws ws' picture picture' : List ℕ} {job job' : JobRecord} {answer : Outcome ℕ} (k n : ℕ) → length job.stripes.end_rows ≡ most_stripes
      → length job'.stripes.end_rows ≡ most_stripes → Worked (settings_of settings) tape ws ws' picture picture' job k n answer job'
      → WorkAnswered settings tape ws ws' picture picture' (words_of job) (words_of job') k n (packed answer)
  work_answered {job = job} {job' = job'} {answer = answer} k n long long' w =
      record { answer = answer; does = rw (there_and_back job long, there_and_back job' long') w; packs = refl }

  -- and the other way round
  pub carried_back : {entries : List Entry} {picture : List ℕ} {job : JobRecord} → History (settings_of settings) tape d bytes entries picture job
      → HistoryInC settings tape stripes bytes entries picture (words_of job)
  carried_back (after_open {ws} {job = job} total o) =
      let found = accepted_is o refl in
      let few : Few found.given = rw found.means at (open_bounded (settings_of settings) (length ws) (length bytes) tape d) in
      let count = found.counts in
      let low : total < 2 ^ 32 = omega arith in
      let long = end_rows_long (settings_of settings) tape d bytes (after_open {ws = ws} {job = job} total o) in
      after_open_in_c total (open_answered {answer = accepted total} {job = job} long o) low
  carried_back (after_work {entries} {ws} {picture = picture} {picture' = picture'} {job = job} {job' = job'} {answer = answer} k n before w) =
      let back = (work_packs (settings_of settings) tape ws picture job k n w).back in
      let long = end_rows_long (settings_of settings) tape d bytes before in
      let long' = end_rows_long (settings_of settings) tape d bytes (after_work {ws = ws} {picture' = picture'} {job' = job'} {answer = answer} k n before w) in
      subst
      (λ (a : Outcome ℕ). HistoryInC settings tape stripes bytes (record { stripe = k; budget = n; room = length ws; answer = a } ∷ entries) picture' (words_of job'))
      back
      (after_work_in_c k n (packed answer) (carried_back before) (work_answered {job = job} {job' = job'} {answer = answer} k n long long' w))

pub demand_3_in_c : Demand3InC
demand_3_in_c settings tape stripes bytes entries picture words history =
    demand_3 (settings_of settings) tape (division_of (stripes_of stripes)) bytes entries picture (record_of words) (carried settings tape stripes bytes history)

pub possible_in_c : PossibleInC
possible_in_c settings tape stripes bytes ws ts e wishes =
    let p = possible (settings_of settings) tape (division_of (stripes_of stripes)) bytes ws ts e wishes in
    (p.0, p.1, words_of p.2, carried_back settings tape stripes bytes p.3, p.4)
