-- Runs and their letters: document 01, "Runs and lines", first paragraph. Definitions only.
use Rattle.std.specs.Prelude.{Bool, true, false, cond, List, [], ◌∷◌, ◌++◌, ℕ}
use Rattle.tape.specs.declared.Style.{Style}
use Rattle.tape.specs.Style.{same_style}

-- a run: letters in one style, by their code points; it may have none
pub record Run : Type 0 where
  pub style : Style
  pub codes : List ℕ

abbrev pub run : Style → List ℕ → Run
run s vs = record { style = s; codes = vs }

-- the run q and then rs: a run joins the one before it where their styles are equal
unfoldable pub merge_into : Run → List Run → List Run
merge_into q [] = q ∷ []
merge_into q (r ∷ rs) =
    cond (same_style q.style r.style) (merge_into (run q.style (q.codes ++ r.codes)) rs) (q ∷ merge_into r rs)

-- adjacent runs of equal style merge
abbrev pub merge : List Run → List Run
merge [] = []
merge (r ∷ rs) = merge_into r rs

-- a letter: its code point, its style, and whether a run starts with it
pub record Letter : Type 0 where
  pub code : ℕ
  pub style : Style
  pub start : Bool

-- the letters of code points in one style, the first with the mark `start`
abbrev pub letters_in : Style → Bool → List ℕ → List Letter
letters_in s start [] = []
letters_in s start (v ∷ vs) = record { code = v; style = s; start = start } ∷ letters_in s false vs

-- The letters of runs, the first of each with a mark. So a letter starts a run where it is the first of all, where its
-- style is not that of the letter before it, or where an empty text of another style stands between the two.
unfoldable pub letters_of : List Run → List Letter
letters_of [] = []
letters_of (r ∷ rs) = letters_in r.style true r.codes ++ letters_of rs
