-- Promises: what the functions that fill lines ask of and tell each other. No reader of the deposit needs this file.
use Rattle.std.specs.Prelude.{◌≡◌, Option, None, Some, Bool, ◌&&◌, not, cond, ℕ, suc, ◌+◌, ◌*◌, ◌-◌, ◌≤◌, ◌<◌, length}
use Rattle.std.specs.Bool.{beq}
use mathlib.Core.List.{List, [], ◌∷◌, ◌++◌, map, flatten}
use Rattle.std.proofs.Math.Seq.{slice}
use Rattle.tape.specs.Runs.{Letter}
use Rattle.tape.specs.Tape.{least_room}
use Rattle.wrap.specs.declared.line.Cursor.{Cursor}
use Rattle.wrap.specs.declared.token.Token.{Token}
use Rattle.wrap.specs.Columns.{is_break, is_blank}
use Rattle.wrap.specs.Lines.{Line, Filling, up_from, letter_of, code_of, is_blank_letter, visible_cols, is_space_token, close_if, trim_trailing_space, is_empty_line, without_last, wrap_runs}
use Rattle.wrap.specs.Wrap.{twos, line_table}
use Rattle.wrap.specs.Laid.{numbers_from, table_from, inked_from, inked_in, inked_totals, Holds}

-- the letters from i to j
abbrev pub between : ℕ → ℕ → Line
between i j = up_from i (j - i)

-- a letter with this mark and code point goes on a token of letters that are blank, or are not
abbrev pub goes_on : Bool → Bool → ℕ → Bool
goes_on b start c = not (is_break c) && (beq b (is_blank c) && not start)

-- how many of these letters go on such a token
unfoldable pub more : List Letter → Bool → Line → ℕ
more ls b [] = 0
more ls b (k ∷ ks) = cond (goes_on b (letter_of ls k).start (code_of ls k)) (suc (more ls b ks)) 0

-- where the token ends that begins with letter i
abbrev pub end_of : List Letter → ℕ → ℕ
end_of ls i = i + 1 + more ls (is_blank_letter ls i) (between (i + 1) (length ls))

-- ---- tokens

-- the numbers of its letters
abbrev pub numbers_of : Token → Line
numbers_of t = between t.from t.to

-- these letters' columns and ink were counted
pub record Tallied (t : Token) (ls : List Letter) : Type 0 where
  pub columns : t.columns ≡ visible_cols ls (numbers_of t)
  pub inked : t.inked ≡ inked_in ls (numbers_of t)

-- and they are all of one kind, that of the first
pub record Whole (t : Token) (ls : List Letter) : Type 0 where
  pub tallied : Tallied t ls
  pub kind : is_space_token ls (numbers_of t) ≡ is_blank_letter ls t.from

-- nothing is asked of the letters
abbrev pub Any : Token → List Letter → Type 0
Any t ls = Unit

-- the letters from i to j
pub record Made (ws : List ℕ) (i j : ℕ) (t : Token) : Type 0 where
  pub from : t.from ≡ i
  pub to : t.to ≡ j
  pub tallied : (ls : List Letter) → j ≤ length ls → Holds ls ws → Tallied t ls

-- the token that begins with letter i
pub record Found (ws : List ℕ) (i count : ℕ) (t : Token) : Type 0 where
  pub from : t.from ≡ i
  pub to : t.to ≤ count
  pub tallied : (ls : List Letter) → count ≡ length ls → Holds ls ws → Tallied t ls
  pub end : (ls : List Letter) → count ≡ length ls → Holds ls ws → t.to ≡ end_of ls i

-- the first letters of t
pub record Cut (t : Token) (ws : List ℕ) (kept : Token) : Type 0 where
  pub from : kept.from ≡ t.from
  pub to : kept.to ≤ t.to
  pub tallied : (ls : List Letter) → t.to ≤ length ls → Holds ls ws → Tallied t ls → Tallied kept ls

-- what is left of t without its trailing spaces
abbrev pub Trimmed : Token → List ℕ → Option Token → Type 0
Trimmed t ws (Some kept) = Cut t ws kept × ((ls : List Letter) → t.to ≤ length ls → Holds ls ws → trim_trailing_space ls (numbers_of t) ≡ numbers_of kept)
Trimmed t ws None = (ls : List Letter) → t.to ≤ length ls → Holds ls ws → trim_trailing_space ls (numbers_of t) ≡ []

-- ---- the cursor

-- the closed lines, without their trailing spaces
abbrev pub done : List Letter → Filling → List Line
done ls f = map (trim_trailing_space ls) f.closed

abbrev pub cursor_of : List Letter → Filling → Cursor
cursor_of ls f =
    let letters = length (flatten (done ls f)) in
    let kept = trim_trailing_space ls f.line in
    record {
      lines = length (done ls f);
      start = letters;
      end = letters + length f.line;
      kept = letters + length kept;
      columns = visible_cols ls f.line;
      kept_columns = visible_cols ls kept;
      inked = inked_in ls (flatten (done ls f)) + inked_in ls f.line;
    }

abbrev pub closed : Cursor → Cursor
closed c = record { lines = c.lines + 1; start = c.kept; end = c.kept; kept = c.kept; columns = 0; kept_columns = 0; inked = c.inked }

-- after a token more, of which these letters are kept
abbrev pub added : List Letter → Cursor → Line → Line → Cursor
added ls c t kept =
    record {
      lines = c.lines;
      start = c.start;
      end = c.end + length t;
      kept = cond (is_empty_line kept) c.kept (c.end + length kept);
      columns = c.columns + visible_cols ls t;
      kept_columns = cond (is_empty_line kept) c.kept_columns (c.columns + visible_cols ls kept);
      inked = c.inked + inked_in ls t;
    }

-- the cursor and the workspace hold a filling
pub record Held (ls : List Letter) (f : Filling) (c : Cursor) (ws : List ℕ) : Type 0 where
  pub letters : Holds ls ws
  pub cursor : c ≡ cursor_of ls f
  pub numbers : slice numbers_from (numbers_from + 2 * c.end) ws ≡ twos (flatten (done ls f) ++ f.line)
  pub table : slice table_from (table_from + 4 * c.lines) ws ≡ line_table ls (done ls f)
  pub inked : slice inked_from (inked_from + 2 * c.lines) ws ≡ twos (inked_totals ls 0 (done ls f))

-- ---- what is asked

-- the bounds of a cursor that has passed i letters
pub record Sane (c : Cursor) (i : ℕ) : Type 0 where
  pub start : c.start ≤ c.kept
  pub kept : c.kept ≤ c.end
  pub end : c.end ≤ i
  pub within : c.kept_columns ≤ i
  pub columns : c.columns ≤ i
  pub inked : c.inked ≤ i
  pub lines : c.lines ≤ i
  pub busy : 0 < c.columns → c.lines < i
  pub some : c.start < c.kept → c.lines < i

-- these letters are next
pub record Ready (c : Cursor) (ws : List ℕ) (t : Token) : Type 0 where
  pub sane : Sane c t.from
  pub room : least_room ≤ length ws

-- ---- what is told

-- the line was closed where b holds
pub record Closed (b : Bool) (c : Cursor) (ws : List ℕ) (c' : Cursor) (ws' : List ℕ) : Type 0 where
  pub cursor : c' ≡ cond b (closed c) c
  pub held : (ls : List Letter) (f : Filling) → Held ls f c ws → Held ls (close_if b f) c' ws'

-- These letters have been passed, and a filling became what `step` makes of it, where `known` holds of them.
pub record Turns (t : Token) (known : Token → List Letter → Type 0) (step : List Letter → Filling → Line → Filling)
    (c : Cursor) (ws : List ℕ) (c' : Cursor) (ws' : List ℕ) : Type 0 where
  pub sane : Sane c' t.to
  pub held : (ls : List Letter) (f : Filling) → t.to ≤ length ls → known t ls → Held ls f c ws → Held ls (step ls f (numbers_of t)) c' ws'

-- every line that the caption keeps is closed: of the last there is nothing left but spaces
pub record Ended (ls : List Letter) (limit : ℕ) (c : Cursor) (ws : List ℕ) : Type 0 where
  pub filling : Filling
  pub held : Held ls filling c ws
  pub spaces : trim_trailing_space ls filling.line ≡ []
  pub lines : without_last is_empty_line (done ls filling) ≡ wrap_runs ls limit

-- all letters have been passed
pub record Finished (count limit : ℕ) (ws : List ℕ) (c : Cursor) (ws' : List ℕ) : Type 0 where
  pub sane : Sane c count
  pub ended : (ls : List Letter) → count ≡ length ls → Holds ls ws → Ended ls limit c ws'
