-- HOW A CAPTION IS BROKEN INTO LINES: document 01, "Runs and lines", from its second paragraph on. Definitions only.
--
-- A caption is a list of letters, numbered from 0, and a line is a list of letter numbers. `wrap_runs` gives the lines
-- at a limit of L columns.
-- It goes in five steps, which stand below in this order:
--   `logical_lines`        the letters are cut at breaks
--   `tokenise`            a logical line is cut into tokens
--   `put_token`            tokens are put on lines, by the rules 1 and 2, and then 3 and 4, which stand before them
--   `trim_trailing_space`   spaces at the end of each line go
--   `is_empty_line`         letterless lines at the end go
use Rattle.std.specs.Prelude.{Bool, true, false, ◌&&◌, not, cond, List, [], ◌∷◌, ◌++◌, map, ℕ, zero, suc, ◌+◌, ◌-◌, length, nat_le, nat_lt, slice_index_or, ◌==◌}
use Rattle.std.specs.Bool.{beq}
use Rattle.tape.specs.Runs.{Letter}
use Rattle.wrap.specs.Columns.{is_break, is_space, is_blank, columns_of}

abbrev pub Line : Type 0
Line = List ℕ

-- the n numbers from k on
unfoldable pub up_from : ℕ → ℕ → Line
up_from k zero = []
up_from k (suc n) = k ∷ up_from (suc k) n

-- one more number at the start of the first line, or on a line of its own where there is none
abbrev pub onto_first : ℕ → List Line → List Line
onto_first k [] = (k ∷ []) ∷ []
onto_first k (l ∷ lines) = (k ∷ l) ∷ lines

-- x and then a list; where the list is empty and the test holds of x, nothing
abbrev pub keep : {A : Type 0} → (A → Bool) → A → List A → List A
keep test x [] = cond (test x) [] (x ∷ [])
keep test x (y ∷ ys) = x ∷ y ∷ ys

-- a list without those at its end for which a test holds
unfoldable pub without_last : {A : Type 0} → (A → Bool) → List A → List A
without_last test [] = []
without_last test (x ∷ xs) = keep test x (without_last test xs)

-- the letter past the last one: no line has its number
abbrev pub no_letter : Letter
no_letter =
    record {
      code = 0;
      style = record { red = 0; green = 0; blue = 0; alpha = 0; bold = false; italic = false };
      start = false;
    }

-- The caption's letters are `ls` from here on, and k, m are numbers of letters.
module _ (ls : List Letter) where
  abbrev pub letter_of : ℕ → Letter
  letter_of k = slice_index_or ls k no_letter

  abbrev pub code_of : ℕ → ℕ
  code_of k = (letter_of k).code

  -- a space or a tab
  abbrev pub is_blank_letter : ℕ → Bool
  is_blank_letter k = is_blank (code_of k)

  unfoldable pub visible_cols : Line → ℕ
  visible_cols [] = 0
  visible_cols (k ∷ ks) = columns_of (code_of k) + visible_cols ks

  -- ---- logical lines: a break ends one, and stands on none

  unfoldable pub logical_lines : Line → List Line
  logical_lines [] = [] ∷ []
  logical_lines (k ∷ ks) = cond (is_break (code_of k)) ([] ∷ logical_lines ks) (onto_first k (logical_lines ks))

  -- ---- tokens: in each run, the longest stretches of letters that are all space or tab, or all neither

  -- m, right after k, is in the token of k: it is of the same kind, and no run starts with it
  abbrev pub together : ℕ → ℕ → Bool
  together k m = beq (is_blank_letter k) (is_blank_letter m) && not (letter_of m).start

  -- one more letter before tokens (of which none is empty): it joins the first, or is one of its own
  abbrev pub onto_token : ℕ → List Line → List Line
  onto_token k [] = (k ∷ []) ∷ []
  onto_token k ([] ∷ ts) = (k ∷ []) ∷ ts
  onto_token k ((m ∷ t) ∷ ts) = cond (together k m) ((k ∷ m ∷ t) ∷ ts) ((k ∷ []) ∷ (m ∷ t) ∷ ts)

  unfoldable pub tokenise : Line → List Line
  tokenise [] = []
  tokenise (k ∷ ks) = onto_token k (tokenise ks)

  -- a space token: all its letters are space or tab
  unfoldable pub is_space_token : Line → Bool
  is_space_token [] = true
  is_space_token (k ∷ ks) = is_blank_letter k && is_space_token ks

-- Letters cut into chunks of L, controls counted; the last may have fewer. So 8 letters at L = 4 are two chunks.
-- `spare` is how many letters more the first chunk may have. No chunk of a token is empty, for a token has letters.
unfoldable pub chunks : ℕ → ℕ → Line → List Line
chunks L spare [] = [] ∷ []
chunks L (suc spare) (k ∷ ks) = onto_first k (chunks L spare ks)
chunks L zero (k ∷ ks) = [] ∷ onto_first k (chunks L (L - 1) ks)

-- the chunks of a token: the first may have L letters
abbrev pub hard_break : ℕ → Line → List Line
hard_break L t = chunks L L t

-- ---- filling lines

-- the lines that are closed, and the one being filled
pub record Filling : Type 0 where
  pub closed : List Line
  pub line : Line

abbrev pub no_lines : Filling
no_lines = record { closed = []; line = [] }

abbrev pub close : Filling → Filling
close f = record { closed = f.closed ++ (f.line ∷ []); line = [] }

abbrev pub close_if : Bool → Filling → Filling
close_if true f = close f
close_if false f = f

abbrev pub add : Filling → Line → Filling
add f t = record { closed = f.closed; line = f.line ++ t }

module _ (ls : List Letter) (L : ℕ) where
  abbrev pub has_columns : Filling → Bool
  has_columns f = nat_lt 0 (visible_cols ls f.line)

  -- one chunk: before it the line is closed if it has columns; after it, if it has at least L
  abbrev pub put_chunk : Filling → Line → Filling
  put_chunk f t =
      let g = add (close_if (has_columns f) f) t in
      close_if (nat_le L (visible_cols ls g.line)) g

  unfoldable pub put_chunks : Filling → List Line → Filling
  put_chunks f [] = f
  put_chunks f (t ∷ ts) = put_chunks (put_chunk f t) ts

  -- rule 3: a token of more than L columns is put chunk by chunk; rule 4: any other is added
  unfoldable pub add_or_break : Filling → Line → Filling
  add_or_break f t = cond (nat_lt L (visible_cols ls t)) (put_chunks f (hard_break L t)) (add f t)

  -- the line has columns, and with the token it would pass L
  abbrev pub passes : Filling → Line → Bool
  passes f t = has_columns f && nat_lt L (visible_cols ls f.line + visible_cols ls t)

  -- rule 1: a token of 0 columns is dropped, and a space token while the line has 0 columns
  -- rule 2: a token that would pass L closes the line, and a space token is then dropped
  unfoldable pub put_token : Filling → Line → Filling
  put_token f t =
      cond (visible_cols ls t == 0) f
      (cond (is_space_token ls t && not (has_columns f)) f
      (cond (passes f t) (cond (is_space_token ls t) (close f) (add_or_break (close f) t))
      (add_or_break f t)))

  unfoldable pub put_tokens : Filling → List Line → Filling
  put_tokens f [] = f
  put_tokens f (t ∷ ts) = put_tokens (put_token f t) ts

  -- Logical line after logical line; the last line of each is closed always, even empty. So a word whose last chunk
  -- just fills its line, and a break behind it, leave a blank line; a word of just L columns, which is not cut, does
  -- not.
  unfoldable pub fill : Filling → List Line → Filling
  fill f [] = f
  fill f (l ∷ lines) = fill (close (put_tokens f (tokenise ls l))) lines

  abbrev pub filled : Filling
  filled = fill no_lines (logical_lines ls (up_from 0 (length ls)))

-- ---- what goes at the end

-- spaces, not tabs
abbrev pub trim_trailing_space : List Letter → Line → Line
trim_trailing_space ls line = without_last (λ k. is_space (code_of ls k)) line

abbrev pub is_empty_line : Line → Bool
is_empty_line [] = true
is_empty_line (k ∷ ks) = false

-- the lines of letters, at a limit of L columns
unfoldable pub wrap_runs : List Letter → ℕ → List Line
wrap_runs ls L = without_last is_empty_line (map (trim_trailing_space ls) (filled ls L).closed)
