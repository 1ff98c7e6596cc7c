-- Promises: the strokes of the lines that lie in the workspace, read back. No reader of the deposit needs this file.
use Rattle.std.specs.Prelude.{List, [], ◌∷◌, ◌++◌, ℕ, zero, suc, ◌+◌, ◌≤◌, ◌<◌, length}
use Rattle.tape.specs.Command.{most_letters}
use Rattle.tape.specs.Runs.{Letter}
use Rattle.tape.specs.Stored.{letter_at}
use Rattle.tape.specs.Tape.{least_room}
use Rattle.wrap.specs.Laid.{number_at, letters_on, columns_on}
use Rattle.compositor.specs.declared.Settings.{Settings}
use Rattle.compositor.specs.Layout.{base_line, line_width, line_start}
use Rattle.compositor.specs.Order.{Stroke, line_strokes}

-- n letters on lines from the k-th on
unfoldable pub letters_at : List ℕ → ℕ → ℕ → List Letter
letters_at ws k zero = []
letters_at ws k (suc n) = letter_at ws (number_at ws k) ∷ letters_at ws (suc k) n

-- how many letters are on n lines from line i on
unfoldable pub letters_from : List ℕ → ℕ → ℕ → ℕ
letters_from ws i zero = 0
letters_from ws i (suc n) = letters_on ws i + letters_from ws (suc i) n

-- the strokes of n lines from line i on, the first letter of which is the k-th
unfoldable pub strokes_at : Settings → List ℕ → ℕ → ℕ → ℕ → List Stroke
strokes_at s ws k i zero = []
strokes_at s ws k i (suc n) =
    line_strokes s (line_start s (line_width (columns_on ws i))) (base_line s n) (letters_at ws k (letters_on ws i))
    ++ strokes_at s ws (k + letters_on ws i) (suc i) n

-- so many letters on lines can be read, from the first on
pub record Readable (ws : List ℕ) (letters : ℕ) : Type 0 where
  pub room : least_room ≤ length ws
  pub few : letters ≤ most_letters
  pub known : (k : ℕ) → k < letters → number_at ws k < most_letters

-- all of them: the strokes of the caption of so many lines
unfoldable pub strokes_in : Settings → List ℕ → ℕ → List Stroke
strokes_in s ws lines = strokes_at s ws 0 0 lines
