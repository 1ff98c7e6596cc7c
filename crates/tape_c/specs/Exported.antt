-- What the exported function means, over the definitions of `tape`. Definitions only.
use Rattle.std.specs.Prelude.{List, ℕ}
use Rattle.tape.specs.Style.{default_with}
use Rattle.tape.specs.TapeRead.{TapeRead}
use Rattle.tape.specs.Packed.{Numbered}

-- reading a tape, with the answer as one number, and the workspace before and after it
abbrev pub Answered : List ℕ → List ℕ → List ℕ → List ℕ → ℕ → Type 0
Answered tape before after color answer = Numbered (TapeRead tape before after (default_with color)) answer
