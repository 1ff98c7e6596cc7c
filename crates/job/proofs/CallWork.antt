-- What a step, and a call of Work, comes to.
use mathlib.Core.Path.{◌≡◌, ◌∙◌, refl, sym, ap, ap₂}
use mathlib.Core.Bool.{Bool, true, false, not, true≢false}
use mathlib.Core.List.{List}
use Prim.Native.Nat.{ℕ, ◌+◌, ◌-◌, ◌≤◌, min}
use lib.ListN.{length, take, drop, length-take, length-drop, take-append-drop}
use lib.Seq.{slice, length-take-le, take-append_seam, take-add, drop_at}
use Rattle.tape.specs.Outcome.{Outcome, accepted, refused, refuse_if, and_then}
use Rattle.tape.specs.Call.{keeps_workspace, Workspace, IsFree}
use Rattle.tape.proofs.Calls.{comes_to, refuses, accepts}
use Rattle.compositor.specs.declared.Settings.{Settings}
use Rattle.compositor.specs.Order.{Stroke}
use Rattle.compositor.specs.Draw.{Tapes}
use Rattle.job.specs.declared.JobRecord.{JobRecord}
use Rattle.job.specs.Stripes.{has_stripe, division_of, counter_of, with_counter, counters_unsound}
use Rattle.job.specs.Work.{open_call, step_strokes, on_stripe, stripe_call, work_call}
use Rattle.job.specs.Worked.{Worked}
use Rattle.job.specs.Ready.{Did}

-- ---- a step, where the caption has the strokes ts

-- THE LAW: a budget n does m = min(n, T − c) strokes
pub strokes_done : (ts : List Stroke) (c n : ℕ) → length (take n (drop c ts)) ≡ min n (length ts - c)
strokes_done ts c n = length-take n (drop c ts) ∙ ap (min n) (length-drop c ts)

-- as many as were taken
pub take_taken : {A : Type 0} (n : ℕ) (l : List A) → take (length (take n l)) l ≡ take n l
take_taken n l = rw take-append-drop at (take-append_seam (take n l) (drop n l))

-- they are those from number c up to c + m
strokes_from : (ts : List Stroke) (c n m : ℕ) → c ≤ length ts → m ≡ min n (length ts - c) → slice c (c + m) ts ≡ take n (drop c ts)
strokes_from ts c n m few e =
    ap (drop c) (take-add c m ts)
    ∙ drop_at (take c ts) (take m (drop c ts)) c (length-take-le c ts few)
    ∙ ap (λ (k : ℕ). take k (drop c ts)) (e ∙ sym (strokes_done ts c n))
    ∙ take_taken n (drop c ts)

module _ (s : Settings) (ts : List Stroke) (ws picture : List ℕ) (job : JobRecord) (k n : ℕ) where
  abbrev c : ℕ
  c = counter_of job k

  pub did_step : (m : ℕ) → c ≤ length ts → m ≡ min n (length ts - c) → {picture' : List ℕ}
      → picture' ≡ on_stripe s (division_of job.stripes) k (slice c (c + m) ts) picture
      → Did s job k (accepted (step_strokes job k n ts)) ws picture picture' (accepted m) (with_counter job k (c + m))
  did_step m few e p =
      let count : m ≡ length (step_strokes job k n ts) = e ∙ sym (strokes_done ts c n) in
      accepts refl count
      (ap₂ (λ (a : List ℕ) (b : JobRecord). (a, b))
      (p ∙ ap (λ (us : List Stroke). on_stripe s (division_of job.stripes) k us picture) (strokes_from ts c n m few e))
      (ap (λ (x : ℕ). with_counter job k (c + x)) count))
      tt

  pub unsound : counters_unsound (division_of job.stripes) (length ts) 0 job.counters ≡ true
      → Did s job k (stripe_call job k n ts) ws picture picture (refused 14 0) job
  unfolding stripe_call
  unsound e = refuses (rw e) (λ _. refl)

  module _ (sound : counters_unsound (division_of job.stripes) (length ts) 0 job.counters ≡ false) where
    pub no_stripe : has_stripe (division_of job.stripes) k ≡ false
        → Did s job k (stripe_call job k n ts) ws picture picture (refused 12 0) job
    unfolding stripe_call
    no_stripe e = refuses (rw (sound, e)) (λ _. refl)

    pub did_work : has_stripe (division_of job.stripes) k ≡ true → {picture' : List ℕ} {answer : Outcome ℕ} {job' : JobRecord}
        → Did s job k (accepted (step_strokes job k n ts)) ws picture picture' answer job' → Did s job k (stripe_call job k n ts) ws picture picture' answer job'
    unfolding stripe_call
    did_work there d = comes_to (rw (sound, there)) d

  -- after 14 and 12 the workspace is free
  stripe_leaves : (before after : List ℕ) → Workspace IsFree before after (stripe_call job k n ts)
  unfolding stripe_call keeps_workspace
  stripe_leaves before after = by (counters_unsound (division_of job.stripes) (length ts) 0 job.counters) (has_stripe (division_of job.stripes) k)
    where
      by : (a b : Bool) → Workspace IsFree before after (refuse_if a 14 0 (refuse_if (not b) 12 0 (accepted (step_strokes job k n ts))))
      by true b = λ e. absurd (true≢false (sym e))
      by false true = tt
      by false false = λ e. absurd (true≢false (sym e))

-- ---- Work

module _ (s : Settings) (tape : Tapes) (ws ws' picture : List ℕ) (job : JobRecord) (k n : ℕ) where
  abbrev opens : Outcome (List Stroke)
  opens = open_call s (length ws) (length picture) tape (division_of job.stripes)

  pub not_worked : {number place : ℕ} → opens ≡ refused number place → (keeps_workspace number ≡ true → ws' ≡ ws)
      → Worked s tape ws ws' picture picture job k n (refused number place) job
  unfolding work_call
  not_worked e l = refuses (ap (and_then (stripe_call job k n)) e) l

  pub worked_on : {picture' : List ℕ} {ts : List Stroke} {answer : Outcome ℕ} {job' : JobRecord} {own : List ℕ} → opens ≡ accepted ts
      → Did s job k (stripe_call job k n ts) own picture picture' answer job' → Worked s tape ws ws' picture picture' job k n answer job'
  unfolding work_call
  worked_on {ts = ts} e d =
      comes_to (ap (and_then (stripe_call job k n)) e)
      (record { answers = d.answers; changes = d.changes; leaves = stripe_leaves s ts ws picture job k n ws ws' })
