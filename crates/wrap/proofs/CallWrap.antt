-- All lines: where they lie, and then at the workspace's front; and what the call comes to.
use mathlib.Core.Path.{◌≡◌, ◌∙◌, refl, sym, ap, ap₂}
use mathlib.Core.Bool.{true, false}
use mathlib.Core.List.{List, ◌++◌, flatten}
use Prim.Native.Nat.{ℕ, ◌+◌, ◌*◌, ◌≤◌}
use native.Mathlib.Omega.{arith}
use lib.ListN.{length, take, replicate}
use lib.Seq.{sets, slice, take-append_seam}
use Rattle.tape.specs.declared.Style.{Style}
use Rattle.tape.specs.Command.{most_letters}
use Rattle.tape.specs.Call.{nothing}
use Rattle.tape.specs.Runs.{Letter}
use Rattle.tape.specs.Style.{default_with}
use Rattle.tape.specs.Outcome.{Outcome, accepted, refused, on_accepted}
use Rattle.tape.specs.Tape.{least_room, read_call}
use Rattle.tape.proofs.Answers.{Read, letters_fit}
use Rattle.tape.proofs.Calls.{Refuses, refuses, accepts}
use Rattle.tape.proofs.StoredLetters.{letter_is}
use Rattle.wrap.specs.declared.line.Cursor.{Cursor}
use Rattle.wrap.specs.declared.Lines.{Lines}
use Rattle.wrap.specs.Lines.{Line, no_letter, without_last, is_empty_line, wrap_runs}
use Rattle.wrap.specs.Wrap.{caption_of, wrap_call, twos, line_table}
use Rattle.wrap.specs.Shown.{inked_letters}
use Rattle.wrap.specs.Laid.{numbers_from, table_from, inked_from, inked_in, inked_totals, Holds, Laid, Brought}
use Rattle.wrap.specs.Filled.{done, Held, Ended}
use Rattle.wrap.specs.Limited.{is_no_limit}
use Rattle.wrap.specs.Wrapped.{Wrapped}
use Rattle.wrap.proofs.Lists.{last_front, last_short, last_all}
use Rattle.wrap.proofs.InkCounts.{trim_ink, take_totals}
use Rattle.wrap.proofs.TableBytes.{length_twos, take_twos, length_table, take_table, slice_after, slice_less, front_two}

-- ---- where they lie

module _ (ls : List Letter) (limit lines : ℕ) (c : Cursor) (ws : List ℕ) (end : Ended ls limit c ws)
    (left : (ds : List Line) → c.lines ≡ length ds → slice table_from (table_from + 4 * c.lines) ws ≡ line_table ls ds
    → lines ≡ length (without_last is_empty_line ds)) where
  abbrev held : Held ls end.filling c ws
  held = end.held

  abbrev ds : List Line
  ds = done ls end.filling

  -- how many are left of them
  abbrev n : ℕ
  n = length (wrap_runs ls limit)

  there : c.lines ≡ length ds
  there = ap (λ (x : Cursor). x.lines) held.cursor

  fewer : n ≤ c.lines
  fewer = let short = last_short is_empty_line ds in let e = ap length end.lines in omega (arith, there)

  front : take n ds ≡ wrap_runs ls limit
  front = ap (λ (r : List Line). take (length r) ds) (sym end.lines) ∙ last_front is_empty_line ds ∙ end.lines

  all : flatten ds ≡ flatten (wrap_runs ls limit)
  all = sym (last_all ds) ∙ ap flatten end.lines

  letters : c.start ≡ length (flatten (wrap_runs ls limit))
  letters = ap (λ (x : Cursor). x.start) held.cursor ∙ ap length all

  numbers : slice numbers_from (numbers_from + 2 * length (flatten (wrap_runs ls limit))) ws ≡ twos (flatten (wrap_runs ls limit))
  numbers =
      let m : ℕ = length (flatten ds) in
      let to : c.end ≡ m + length end.filling.line = ap (λ (x : Cursor). x.end) held.cursor in
      ap (λ (x : List ℕ). slice numbers_from (numbers_from + 2 * length x) ws) (sym all)
      ∙ slice_less ws numbers_from (2 * m) (2 * c.end) (omega arith)
      ∙ ap (take (2 * m)) held.numbers
      ∙ take_twos m (flatten ds ++ end.filling.line)
      ∙ ap twos (take-append_seam (flatten ds) end.filling.line ∙ all)

  table : slice table_from (table_from + 4 * n) ws ≡ line_table ls (wrap_runs ls limit)
  table =
      slice_less ws table_from (4 * n) (4 * c.lines) (omega (arith, fewer))
      ∙ ap (take (4 * n)) held.table
      ∙ take_table ls n ds
      ∙ ap (line_table ls) front

  inked : slice inked_from (inked_from + 2 * n) ws ≡ twos (inked_totals ls 0 (wrap_runs ls limit))
  inked =
      slice_less ws inked_from (2 * n) (2 * c.lines) (omega (arith, fewer))
      ∙ ap (take (2 * n)) held.inked
      ∙ take_twos n (inked_totals ls 0 ds)
      ∙ ap twos (take_totals ls n 0 ds ∙ ap (inked_totals ls 0) front)

  -- the spaces that are left of the last line have no ink
  total : c.inked ≡ inked_in ls (flatten (wrap_runs ls limit))
  unfolding inked_letters
  total =
      let none : inked_in ls end.filling.line ≡ 0 = sym (trim_ink ls end.filling.line) ∙ ap (inked_in ls) end.spaces in
      let same = ap (inked_in ls) all in
      ap (λ (x : Cursor). x.inked) held.cursor ∙ omega arith

  pub laid : Laid ls limit (record { lines = lines; letters = c.start; inked = c.inked }) ws
  laid =
      record {
        letters = held.letters;
        lines = record { numbers = numbers; table = table; inked = inked };
        count = left ds there held.table ∙ ap length end.lines;
        on_lines = letters;
        inked_on_lines = total;
      }

-- ---- at the front

module _ (ls : List Letter) (limit : ℕ) (made : Lines) (ws : List ℕ) (laid : Laid ls limit made ws)
    (few : made.lines ≤ most_letters) (short : made.letters ≤ most_letters) (room : least_room ≤ length ws) where
  pub brought : (ws2 ws3 : List ℕ) → ws2 ≡ sets ws 0 (slice table_from (table_from + 4 * made.lines) ws)
      → ws3 ≡ sets ws2 (4 * made.lines) (slice numbers_from (numbers_from + 2 * made.letters) ws2)
      → Brought ls limit made.lines ws3
  brought ws2 ws3 e2 e3 =
      let r : List Line = wrap_runs ls limit in
      let t : List ℕ = line_table ls r in
      let v : List ℕ = twos (flatten r) in
      let lt : length t ≡ 4 * made.lines = length_table ls r ∙ ap (λ (x : ℕ). 4 * x) (sym laid.count) in
      let lv : length v ≡ 2 * made.letters = length_twos (flatten r) ∙ ap (λ (x : ℕ). 2 * x) (sym laid.on_lines) in
      let table : ws2 ≡ sets ws 0 t =
      e2 ∙ ap (λ (x : ℕ). sets ws 0 (slice table_from (table_from + 4 * x) ws)) laid.count ∙ ap (sets ws 0) laid.lines.table in
      let numbers : slice numbers_from (numbers_from + 2 * made.letters) ws2 ≡ v =
      ap (slice numbers_from (numbers_from + 2 * made.letters)) table
      ∙ slice_after t ws 0 numbers_from (numbers_from + 2 * made.letters) (omega arith)
      ∙ ap (λ (x : ℕ). slice numbers_from (numbers_from + 2 * x) ws) laid.on_lines
      ∙ laid.lines.numbers in
      let at : 4 * made.lines ≡ 0 + length t = omega arith in
      record {
        count = laid.count;
        bytes =
            ap (take (length (t ++ v)))
            (e3 ∙ ap₂ (λ (x y : List ℕ). sets x (4 * made.lines) y) table numbers ∙ ap (λ (x : ℕ). sets (sets ws 0 t) x v) at)
            ∙ front_two t v ws (omega arith);
      }

-- ---- the call

abbrev pub white : Style
white = default_with (replicate 4 0xff)

module _ (tape ws : List ℕ) (limit : ℕ) where
  pub limit_refused : is_no_limit limit ≡ true → Wrapped tape ws ws limit (refused 8 0)
  unfolding wrap_call
  limit_refused e = refuses (rw e) (λ _. refl)

  module _ (in_range : is_no_limit limit ≡ false) where
    admitted : {o : Outcome (List Letter)} → read_call white (length ws) tape ≡ o → wrap_call limit (length ws) tape ≡ on_accepted (caption_of limit) o
    unfolding wrap_call
    admitted e = rw (in_range, e)

    pub tape_refused : {ws' : List ℕ} {number place : ℕ} → Refuses (read_call white (length ws) tape) nothing nothing ws ws' number place
        → Wrapped tape ws ws' limit (refused number place)
    tape_refused r = refuses (admitted r.means) r.keeps

    pub wrapped : {ws1 : List ℕ} {n : ℕ} (a : Read tape ws ws1 white n) (lines : ℕ) (ws' : List ℕ) → Brought a.given limit lines ws'
        → Wrapped tape ws ws' limit (accepted lines)
    wrapped a lines ws' b = accepts (admitted a.means) b.count refl b.bytes

-- the workspace holds the letters that were read
pub letters_held : (s : Style) (tape ws : List ℕ) {ws' : List ℕ} {n : ℕ} (a : Read tape ws ws' s n) → Holds a.given ws'
letters_held s tape ws a =
    let n = a.counts in
    let fit = letters_fit s tape ws a in
    let few = fit.few in
    let room = fit.enough in
    record {
      few = few;
      letter = λ k h. rw a.holds (sym (letter_is ws a.given (omega arith) no_letter k h));
    }
