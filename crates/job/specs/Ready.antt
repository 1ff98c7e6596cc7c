-- Promises: what the calls' functions ask of and tell each other. No reader of the deposit needs this file.
use Rattle.std.specs.Prelude.{◌≡◌, true, List, ℕ, ◌≤◌, length}
use Rattle.tape.specs.Outcome.{Outcome}
use Rattle.tape.specs.Call.{IsFree, Came}
use Rattle.compositor.specs.declared.Settings.{Settings}
use Rattle.compositor.specs.Settings.{picture_bytes}
use Rattle.compositor.specs.Order.{Stroke}
use Rattle.compositor.specs.Read.{strokes_in}
use Rattle.compositor.specs.Ready.{Lined, most_strokes}
use Rattle.job.specs.declared.JobRecord.{JobRecord}
use Rattle.compositor.specs.declared.Laid.{Laid}
use Rattle.job.specs.Stripes.{has_stripe, stripes_fault, division_of, counter_of}
use Rattle.job.specs.Work.{stepped}

-- a job can be worked on, if its record is sound: the picture has room, and the caption lies in the workspace
pub record Workable (ws : List ℕ) (size : ℕ) (job : JobRecord) (laid : Laid) : Type 0 where
  pub fits : picture_bytes laid.layout.settings ≤ size
  pub stripes : stripes_fault laid.layout.settings (division_of job.stripes) ≡ 0
  pub lined : Lined ws laid.lines
  pub counts : laid.strokes ≡ length (strokes_in laid.layout.settings ws laid.lines)
  pub few : laid.strokes ≤ most_strokes

-- and so can stripe k of it
pub record Steppable (ws : List ℕ) (size : ℕ) (job : JobRecord) (k : ℕ) (laid : Laid) : Type 0 where
  pub workable : Workable ws size job laid
  pub there : has_stripe (division_of job.stripes) k ≡ true
  pub sound : counter_of job k ≤ laid.strokes

-- Of a call that comes to the outcome o, what can be seen without its workspace, where it works on stripe k
abbrev pub Did : Settings → JobRecord → ℕ → Outcome (List Stroke) → List ℕ → List ℕ → List ℕ → Outcome ℕ → JobRecord → Type 0
Did s job k o ws picture picture' answer job' =
    Came o length (stepped s job k picture) IsFree (picture, job) (picture', job') ws ws answer
