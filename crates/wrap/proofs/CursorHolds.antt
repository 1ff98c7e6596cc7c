-- What the workspace and the cursor hold after a line is closed, and after letters are added to it.
use mathlib.Core.Path.{◌≡◌, ◌∙◌, refl, sym, ap, ap₂}
use mathlib.Core.Bool.{Bool, true, false, cond}
use mathlib.Core.List.{List, [], ◌∷◌, ◌++◌, flatten, append_assoc, append-nil, map-append}
use Prim.Native.Nat.{ℕ, ◌+◌, ◌*◌, ◌-◌, ◌≤◌, ◌<◌}
use native.Mathlib.Omega.{arith}
use lib.ListN.{length, take, length-append}
use lib.Seq.{sets, slice, take-append-add, length-sets}
use Rattle.tape.specs.Command.{most_letters}
use Rattle.tape.specs.Runs.{Letter}
use Rattle.tape.specs.Tape.{least_room}
use Rattle.tape.specs.Stored.{letter_byte}
use Rattle.wrap.specs.declared.line.Cursor.{Cursor}
use Rattle.wrap.specs.Columns.{is_space}
use Rattle.wrap.specs.Lines.{Line, Filling, code_of, visible_cols, close, add, trim_trailing_space, is_empty_line, without_last}
use Rattle.wrap.specs.Wrap.{two, twos, line_table}
use Rattle.wrap.specs.Shown.{inked_letters}
use Rattle.wrap.specs.Laid.{numbers_from, table_from, inked_from, inked_in, inked_totals, Holds}
use Rattle.wrap.specs.Filled.{done, cursor_of, closed, added, Held, Sane}
use Rattle.wrap.proofs.Lists.{flatten_append, last_front, last_none, last_some}
use Rattle.wrap.proofs.ColumnCounts.{cols_append}
use Rattle.wrap.proofs.InkCounts.{ink_append, trim_ink, totals_snoc}
use Rattle.wrap.proofs.TableBytes.{twos_append, length_twos, take_twos, get_or_sets, slice_before, slice_after, slice_grow, slice_less, table_snoc}

module _ (ls : List Letter) where
  -- stores behind the letters
  holds_sets : (vs ws : List ℕ) (at : ℕ) → numbers_from ≤ at → Holds ls ws → Holds ls (sets ws at vs)
  holds_sets vs ws at h held =
      let few = held.few in
      let byte : (k j : ℕ) → k < length ls → j < 8 → letter_byte (sets ws at vs) k j ≡ letter_byte ws k j =
      λ k j hk hj. get_or_sets vs ws at (8 * k + j) (omega arith) in
      record {
        few = few;
        letter = λ k hk.
            held.letter k hk
            ∙ sym
            (rw (
              byte k 0 hk (omega arith),
              byte k 1 hk (omega arith),
              byte k 2 hk (omega arith),
              byte k 3 hk (omega arith),
              byte k 4 hk (omega arith),
              byte k 5 hk (omega arith),
              byte k 6 hk (omega arith),
              byte k 7 hk (omega arith),
            ));
      }

  -- ---- trailing spaces of two stretches

  abbrev trim : Line → Line
  trim = trim_trailing_space ls

  record Joined (a b kept : Line) : Type 0 where
    letters : length (trim (a ++ b)) ≡ cond (is_empty_line kept) (length (trim a)) (length a + length kept)
    columns : visible_cols ls (trim (a ++ b)) ≡ cond (is_empty_line kept) (visible_cols ls (trim a)) (visible_cols ls a + visible_cols ls kept)

  joined : (a b kept : Line) → trim b ≡ kept → Joined a b kept
  joined a b [] e =
      let q : trim (a ++ b) ≡ trim a = last_none (λ k. is_space (code_of ls k)) a b e in
      record { letters = ap length q; columns = ap (visible_cols ls) q }
  joined a b (x ∷ kept) e =
      let q : trim (a ++ b) ≡ a ++ (x ∷ kept) = last_some (λ k. is_space (code_of ls k)) a b x kept e in
      record { letters = ap length q ∙ length-append a (x ∷ kept); columns = ap (visible_cols ls) q ∙ cols_append ls a (x ∷ kept) }

  -- ---- the cursor

  module _ (f : Filling) where
    abbrev before : Line
    before = flatten (done ls f)

    close_done : done ls (close f) ≡ done ls f ++ (trim f.line ∷ [])
    close_done = map-append trim f.closed (f.line ∷ [])

    close_flat : flatten (done ls (close f)) ≡ before ++ trim f.line
    unfolding flatten
    close_flat =
        ap flatten close_done
        ∙ flatten_append (done ls f) (trim f.line ∷ [])
        ∙ ap (λ (x : Line). before ++ x) (append-nil (trim f.line))

    close_cursor : closed (cursor_of ls f) ≡ cursor_of ls (close f)
    unfolding visible_cols inked_letters without_last
    close_cursor =
        let lines : length (done ls f) + 1 ≡ length (done ls (close f)) = sym (ap length close_done ∙ length-append (done ls f) (trim f.line ∷ [])) in
        let start : length before + length (trim f.line) ≡ length (flatten (done ls (close f))) =
        sym (ap length close_flat ∙ length-append before (trim f.line)) in
        let end : length before + length (trim f.line) ≡ length (flatten (done ls (close f))) + 0 = omega arith in
        let ink : inked_in ls before + inked_in ls f.line ≡ inked_in ls (flatten (done ls (close f))) + 0 =
        let flat = ap (inked_in ls) close_flat ∙ ink_append ls before (trim f.line) in let same = trim_ink ls f.line in omega arith in
        λ t. record { lines = lines t; start = start t; end = end t; kept = end t; columns = 0; kept_columns = 0; inked = ink t }

    add_cursor : (t : Line) → added ls (cursor_of ls f) t (trim t) ≡ cursor_of ls (add f t)
    add_cursor t =
        let n : ℕ = length before in
        let j = joined f.line t (trim t) refl in
        let end : n + length f.line + length t ≡ n + length (f.line ++ t) = let e = length-append f.line t in omega arith in
        let kept : cond (is_empty_line (trim t)) (n + length (trim f.line)) (n + length f.line + length (trim t)) ≡ n + length (trim (f.line ++ t)) =
        rw j.letters (spread (is_empty_line (trim t)) n (length (trim f.line)) (length f.line) (length (trim t))) in
        let cols = sym (cols_append ls f.line t) in
        let kept-cols = sym j.columns in
        let ink : inked_in ls before + inked_in ls f.line + inked_in ls t ≡ inked_in ls before + inked_in ls (f.line ++ t) =
        let e = ink_append ls f.line t in omega arith in
        λ i.
        record {
          lines = length (done ls f);
          start = n;
          end = end i;
          kept = kept i;
          columns = cols i;
          kept_columns = kept-cols i;
          inked = ink i;
        }
      where
        spread : (b : Bool) (s x y z : ℕ) → cond b (s + x) (s + y + z) ≡ s + cond b x (y + z)
        spread true s x y z = refl
        spread false s x y z = omega arith

  -- ---- the workspace

  module _ (f : Filling) (c : Cursor) (ws : List ℕ) (held : Held ls f c ws) (room : least_room ≤ length ws) where
    -- a line's entry in the table
    abbrev entry : List ℕ
    entry = two (c.kept - c.start) ++ two c.kept_columns

    -- the workspace with it, and with the total
    abbrev closing : List ℕ
    closing = sets (sets ws (table_from + 4 * c.lines) entry) (inked_from + 2 * c.lines) (two c.inked)

    pub held_close : Sane c most_letters → c.lines < most_letters → Held ls (close f) (closed c) closing
    unfolding twos
    held_close sane less =
        let d : Line = before f in
        let t : Line = trim f.line in
        let e = held.cursor in
        let start : c.start ≡ length d = ap (λ (x : Cursor). x.start) e in
        let kept : c.kept ≡ length d + length t = ap (λ (x : Cursor). x.kept) e in
        let cols : c.kept_columns ≡ visible_cols ls t = ap (λ (x : Cursor). x.kept_columns) e in
        let is : entry ≡ two (length t) ++ two (visible_cols ls t) = ap₂ (λ (x y : ℕ). two x ++ two y) (omega arith) cols in
        let total : c.inked ≡ 0 + inked_in ls d + inked_in ls t = let e = ap (λ (x : Cursor). x.inked) e in let same = trim_ink ls f.line in omega arith in
        let two-more : inked_from + 2 * (c.lines + 1) ≡ inked_from + 2 * c.lines + 2 = omega arith in
        let four : table_from + 4 * (c.lines + 1) ≡ table_from + 4 * c.lines + 4 = omega arith in
        record {
          letters = holds_sets (two c.inked) _ (inked_from + 2 * c.lines) (omega arith) (holds_sets entry ws (table_from + 4 * c.lines) (omega arith) held.letters);
          cursor = ap closed e ∙ close_cursor f;
          numbers =
              slice_before (two c.inked) _ (inked_from + 2 * c.lines) numbers_from (numbers_from + 2 * c.kept) (omega arith)
              ∙ slice_before entry ws (table_from + 4 * c.lines) numbers_from (numbers_from + 2 * c.kept) (omega arith)
              ∙ slice_less ws numbers_from (2 * c.kept) (2 * c.end) (omega arith)
              ∙ ap (take (2 * c.kept)) held.numbers
              ∙ take_twos c.kept (d ++ f.line)
              ∙ ap (λ (x : ℕ). twos (take x (d ++ f.line))) kept
              ∙ ap twos (take-append-add d f.line (length t)
              ∙ ap (λ (x : Line). d ++ x) (last_front (λ k. is_space (code_of ls k)) f.line)
              ∙ sym (append-nil (d ++ t))
              ∙ ap (λ (x : Line). x ++ []) (sym (close_flat f)));
          table =
              slice_before (two c.inked) _ (inked_from + 2 * c.lines) table_from (table_from + 4 * (c.lines + 1)) (omega arith)
              ∙ ap (λ (x : ℕ). slice table_from x (sets ws (table_from + 4 * c.lines) entry)) four
              ∙ slice_grow entry ws table_from (4 * c.lines) (omega arith)
              ∙ ap₂ (λ (x y : List ℕ). x ++ y) held.table is
              ∙ sym (table_snoc ls (done ls f) t)
              ∙ ap (line_table ls) (sym (close_done f));
          inked =
              ap (λ (x : ℕ). slice inked_from x closing) two-more
              ∙ slice_grow (two c.inked) (sets ws (table_from + 4 * c.lines) entry) inked_from (2 * c.lines) (omega (arith, length-sets ws (table_from + 4 * c.lines) entry))
              ∙ ap (λ (x : List ℕ). x ++ two c.inked)
              (slice_after entry ws (table_from + 4 * c.lines) inked_from (inked_from + 2 * c.lines) (omega arith) ∙ held.inked)
              ∙ ap (λ (x : ℕ). twos (inked_totals ls 0 (done ls f)) ++ two x) total
              ∙ sym (twos_append (inked_totals ls 0 (done ls f)) _)
              ∙ ap twos (sym (totals_snoc ls 0 (done ls f) t))
              ∙ ap (λ (x : List Line). twos (inked_totals ls 0 x)) (sym (close_done f));
        }

    pub held_add : (t : Line) → c.end + length t ≤ most_letters
        → Held ls (add f t) (added ls c t (trim t)) (sets ws (numbers_from + 2 * c.end) (twos t))
    held_add t h =
        let d : Line = before f in
        let e = held.cursor in
        let n : length (twos t) ≡ 2 * length t = length_twos t in
        let to : numbers_from + 2 * (c.end + length t) ≡ numbers_from + 2 * c.end + length (twos t) = omega arith in
        record {
          letters = holds_sets (twos t) ws (numbers_from + 2 * c.end) (omega arith) held.letters;
          cursor = ap (λ (x : Cursor). added ls x t (trim t)) e ∙ add_cursor f t;
          numbers =
              ap (λ (x : ℕ). slice numbers_from x (sets ws (numbers_from + 2 * c.end) (twos t))) to
              ∙ slice_grow (twos t) ws numbers_from (2 * c.end) (omega arith)
              ∙ ap (λ (x : List ℕ). x ++ twos t) held.numbers
              ∙ sym (twos_append (d ++ f.line) t)
              ∙ ap twos (append_assoc d f.line t);
          table =
              slice_after (twos t) ws (numbers_from + 2 * c.end) table_from (table_from + 4 * c.lines) (omega arith)
              ∙ held.table;
          inked =
              slice_after (twos t) ws (numbers_from + 2 * c.end) inked_from (inked_from + 2 * c.lines) (omega arith)
              ∙ held.inked;
        }
