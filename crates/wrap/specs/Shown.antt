-- WHAT LINES KEEP: document 01, "Runs and lines", its last sentence, and document 02, S-6. Definitions only.
-- It is proved that `shown` of all letters and `shown` of the letters on lines are the same: those that are neither
-- space, tab, break nor control stand on the lines, once each and in order. So do the letters with ink: `inked_letters`
-- of all letters and of those on lines are the same, at every L. It is proved too that no line has over L columns.
use Rattle.std.specs.Prelude.{Bool, ◌&&◌, not, cond, List, [], ◌∷◌, ℕ, ◌+◌}
use Rattle.font.specs.Ink.{is_inked}
use Rattle.tape.specs.Runs.{Letter}
use Rattle.wrap.specs.Columns.{is_break, is_blank, is_control}
use Rattle.wrap.specs.Lines.{Line, code_of}

-- neither space, tab, break nor control
abbrev pub is_shown : ℕ → Bool
is_shown c = not (is_blank c) && (not (is_break c) && not (is_control c))

-- those of a line's letters
unfoldable pub shown : List Letter → Line → Line
shown ls [] = []
shown ls (k ∷ ks) = cond (is_shown (code_of ls k)) (k ∷ shown ls ks) (shown ls ks)

-- how many of some letters have ink
unfoldable pub inked_letters : List Letter → ℕ
inked_letters [] = 0
inked_letters (l ∷ ls) = cond (is_inked l.code) 1 0 + inked_letters ls
