-- THE CONTRACT OF DRAW: what a call answers and what it leaves, for every input.
use Rattle.std.specs.Prelude.{List, ℕ, length}
use Rattle.tape.specs.Outcome.{Outcome}
use Rattle.tape.specs.Call.{IsFree, Came}
use Rattle.compositor.specs.declared.Settings.{Settings}
use Rattle.compositor.specs.Draw.{Tapes, draw_call, draw_picture}

-- the workspace and the picture's buffer before and after, and the answer: how many strokes the caption has
abbrev pub Drawn : Settings → Tapes → List ℕ → List ℕ → List ℕ → List ℕ → Outcome ℕ → Type 0
Drawn s tape ws ws' picture picture' answer =
    Came (draw_call s (length ws) (length picture) tape) length (draw_picture s picture) IsFree picture picture' ws ws' answer
