-- THE CONTRACT OF WRAP: what a call answers and what it leaves, for every input.
use Rattle.std.specs.Prelude.{◌≡◌, List, ℕ, length, take}
use Rattle.tape.specs.Outcome.{Outcome}
use Rattle.tape.specs.Call.{nothing, Came}
use Rattle.wrap.specs.Wrap.{wrap_call, line_bytes}

-- the workspace before and after, and the answer: how many lines there are, with which the workspace then begins.
-- Nothing else is changed.
abbrev pub Wrapped : List ℕ → List ℕ → List ℕ → ℕ → Outcome ℕ → Type 0
Wrapped tape ws ws' L answer =
    Came (wrap_call L (length ws) tape) (λ c. length c.lines) (λ c. nothing) (λ c. take (length (line_bytes c)) ws' ≡ line_bytes c)
    nothing nothing ws ws' answer
