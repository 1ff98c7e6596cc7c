-- Promises: the letters of runs, one run after the other, as the reader makes them. That these are the letters of the
-- merged runs is `marked_merged` of proofs/MarkedRuns.antt. No reader of the deposit needs this file.
use Rattle.std.specs.Prelude.{Bool, true, false, not, ◌&&◌, cond, Option, None, Some, List, [], ◌∷◌, ◌++◌, ℕ}
use Rattle.tape.specs.declared.Style.{Style}
use Rattle.tape.specs.Style.{same_style}
use Rattle.tape.specs.Runs.{Run, Letter, letters_in}

-- The style of the last run is told where that run has a letter, and `None` else: then a letter starts a run
-- whatever its style.
abbrev pub starts : Option Style → Style → Bool
starts None s = true
starts (Some t) s = not (same_style t s)

abbrev pub empty : List ℕ → Bool
empty [] = true
empty (v ∷ vs) = false

-- the last run after one more
abbrev pub last_with : Option Style → Run → Option Style
last_with l r = cond (empty r.codes && starts l r.style) None (Some r.style)

abbrev pub last_after : Option Style → List Run → Option Style
last_after l [] = l
last_after l (r ∷ rs) = last_after (last_with l r) rs

abbrev pub marked : Option Style → List Run → List Letter
marked l [] = []
marked l (r ∷ rs) = letters_in r.style (starts l r.style) r.codes ++ marked (last_with l r) rs
