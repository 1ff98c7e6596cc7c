-- Promises: what is checked of a call before its tape is read, and the caption that it has laid. No reader of the deposit
-- needs this file.
use Rattle.std.specs.Prelude.{◌≡◌, true, false, Result, Ok, Err, List, ℕ, ◌≤◌, length}
use Rattle.tape.specs.declared.refusal.Refusal.{Refusal}
use Rattle.tape.specs.declared.refusal.Cause.TheVariants.{OutOfRange}
use Rattle.tape.specs.Outcome.{Outcome, accepted, refused, unless}
use Rattle.tape.specs.Answer.{number_of}
use Rattle.tape.specs.Call.{keeps_workspace}
use Rattle.tape.specs.Tape.{most_bytes, least_room}
use Rattle.compositor.specs.declared.Settings.{Settings}
use Rattle.compositor.specs.declared.layout.Layout.{Layout}
use Rattle.compositor.specs.declared.Laid.{Laid}
use Rattle.compositor.specs.Settings.{out_of_range, picture_bytes}
use Rattle.compositor.specs.Order.{Stroke}
use Rattle.compositor.specs.Draw.{Tapes, tape_strokes, cue_call}
use Rattle.compositor.specs.Read.{strokes_in}
use Rattle.compositor.specs.Ready.{Lined, most_strokes}

-- settings out of range are refused, by 8
abbrev pub Ranged : Settings → Result Layout Refusal → Type 0
Ranged s (Ok layout) = (layout.settings ≡ s) × (out_of_range s ≡ false)
Ranged s (Err r) = (r ≡ record { cause = OutOfRange; place = 0 }) × (out_of_range s ≡ true)

-- settings and lengths that no call refuses; a call that has `extra` to refuse besides goes on with it
pub record Admitted (s : Settings) (tape : Tapes) (room size : ℕ) (layout : Layout) : Type 0 where
  pub settings : layout.settings ≡ s
  pub fits : picture_bytes s ≤ size
  pub short : length tape ≤ most_bytes
  pub enough : least_room ≤ room
  pub goes_on : (extra : ℕ) → cue_call s room size tape extra ≡ unless extra 0 (tape_strokes s tape)

-- they are checked: else a call is refused, whatever it has to refuse besides
abbrev pub Checked : Settings → Tapes → ℕ → ℕ → Result Layout Refusal → Type 0
Checked s tape room size (Ok layout) = Admitted s tape room size layout
Checked s tape room size (Err r) = (extra : ℕ) → cue_call s room size tape extra ≡ refused (number_of r.cause) r.place

-- a call that comes to the outcome o has laid its caption
pub record CueLaid (s : Settings) (o : Outcome (List Stroke)) (ws' : List ℕ) (laid : Laid) : Type 0 where
  pub settings : laid.layout.settings ≡ s
  pub lined : Lined ws' laid.lines
  pub means : o ≡ accepted (strokes_in s ws' laid.lines)
  pub counts : laid.strokes ≡ length (strokes_in s ws' laid.lines)
  pub few : laid.strokes ≤ most_strokes

-- a call that comes to the outcome o has read its tape so far: the caption lies in the workspace, or the call is
-- refused
abbrev pub CueRead : Settings → Outcome (List Stroke) → List ℕ → List ℕ → Result Laid Refusal → Type 0
CueRead s o ws ws' (Ok laid) = CueLaid s o ws' laid
CueRead s o ws ws' (Err r) = (o ≡ refused (number_of r.cause) r.place) × (keeps_workspace (number_of r.cause) ≡ true → ws' ≡ ws)
