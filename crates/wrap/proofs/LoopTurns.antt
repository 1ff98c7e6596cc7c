-- What a turn of each reading loop finds.
use mathlib.Core.Path.{◌≡◌, ◌∙◌, refl, sym, ap}
use mathlib.Core.Bool.{Bool, true, false, cond}
use mathlib.Core.List.{List, [], ◌∷◌, ◌++◌}
use Prim.Native.Nat.{ℕ, suc, ◌+◌, ◌*◌, ◌-◌, ◌≤◌, ◌<◌}
use native.Mathlib.Omega.{arith}
use lib.Dec.{eqb}
use lib.ListN.{length, get_or, take}
use lib.Seq.{slice, take-suc}
use borrow.Author.Tests.{ne_eqb}
use Rattle.font.specs.Ink.{is_inked}
use Rattle.tape.specs.Runs.{Letter}
use Rattle.tape.specs.Stored.{letter_at, code_at}
use Rattle.wrap.specs.Columns.{is_space, is_blank, columns_of}
use Rattle.wrap.specs.Lines.{Line, without_last, letter_of, code_of, is_blank_letter, visible_cols, trim_trailing_space, is_empty_line}
use Rattle.wrap.specs.Wrap.{line_table}
use Rattle.wrap.specs.Shown.{inked_letters}
use Rattle.wrap.specs.Laid.{table_from, two_at, inked_in, Holds}
use Rattle.wrap.specs.Filled.{between, goes_on, more}
use Rattle.wrap.proofs.Lists.{last_drop, last_keep, between_first, between_more}
use Rattle.wrap.proofs.ColumnCounts.{cols_append, cols_one}
use Rattle.wrap.proofs.InkCounts.{ink_append}
use Rattle.wrap.proofs.TableBytes.{table_at, part_two}

-- ---- letters

module _ {ls : List Letter} {ws : List ℕ} (held : Holds ls ws) where
  pub code_there : (k : ℕ) → k < length ls → code_of ls k ≡ code_at ws k
  code_there k h = ap (λ (l : Letter). l.code) (held.letter k h)

  start_there : (k : ℕ) → k < length ls → (letter_of ls k).start ≡ (letter_at ws k).start
  start_there k h = ap (λ (l : Letter). l.start) (held.letter k h)

  -- whether letter j goes on the token of letter i
  module _ (i j : ℕ) (b r : Bool) (ij : i < j) (jn : j < length ls) (eb : b ≡ is_blank (code_at ws i))
      (er : r ≡ goes_on b (letter_at ws j).start (code_at ws j)) where
    goes_there : goes_on (is_blank_letter ls i) (letter_of ls j).start (code_of ls j) ≡ r
    goes_there = rw (code_there i (omega arith), start_there j jn, code_there j jn, ← eb) (sym er)

    pub scan_stops : r ≡ false → more ls (is_blank_letter ls i) (between j (length ls)) ≡ 0
    unfolding more
    scan_stops e = rw (between_first j (length ls) jn, goes_there, e)

    pub scan_goes : r ≡ true → more ls (is_blank_letter ls i) (between j (length ls)) ≡ suc (more ls (is_blank_letter ls i) (between (j + 1) (length ls)))
    unfolding more
    scan_goes e = rw (between_first j (length ls) jn, goes_there, e)

  -- letter k is counted with those before
  pub columns_more : (i k : ℕ) → i ≤ k → k < length ls
      → visible_cols ls (between i k) + columns_of (code_at ws k) ≡ visible_cols ls (between i (k + 1))
  columns_more i k h n =
      ap (λ (x : ℕ). visible_cols ls (between i k) + columns_of x) (sym (code_there k n))
      ∙ ap (λ (x : ℕ). visible_cols ls (between i k) + x) (sym (cols_one ls k))
      ∙ sym (cols_append ls (between i k) (k ∷ []))
      ∙ ap (visible_cols ls) (sym (between_more i k h))

  pub ink_more : (i k : ℕ) → i ≤ k → k < length ls → inked_in ls (between i k) + cond (is_inked (code_at ws k)) 1 0 ≡ inked_in ls (between i (k + 1))
  unfolding inked_letters
  ink_more i k h n =
      ap (λ (x : ℕ). inked_in ls (between i k) + cond (is_inked x) 1 0) (sym (code_there k n))
      ∙ ap (λ (x : ℕ). inked_in ls (between i k) + x) (omega arith)
      ∙ sym (ink_append ls (between i k) (k ∷ []))
      ∙ ap (inked_in ls) (sym (between_more i k h))

  -- whether the last letter is a space
  module _ (i end : ℕ) (h : i < end) (n : end ≤ length ls) where
    last_letter : between i end ≡ between i (end - 1) ++ ((end - 1) ∷ [])
    last_letter = let e : end ≡ end - 1 + 1 = omega arith in ap (between i) e ∙ between_more i (end - 1) (omega arith)

    pub trim_stops : is_space (code_at ws (end - 1)) ≡ false → trim_trailing_space ls (between i end) ≡ between i end
    trim_stops e =
        ap (trim_trailing_space ls) last_letter
        ∙ last_keep (λ k. is_space (code_of ls k)) (between i (end - 1)) (end - 1) (ap is_space (code_there (end - 1) (omega arith)) ∙ e)
        ∙ sym last_letter

    pub trim_goes : is_space (code_at ws (end - 1)) ≡ true → trim_trailing_space ls (between i end) ≡ trim_trailing_space ls (between i (end - 1))
    trim_goes e =
        ap (trim_trailing_space ls) last_letter
        ∙ last_drop (λ k. is_space (code_of ls k)) (between i (end - 1)) (end - 1) (ap is_space (code_there (end - 1) (omega arith)) ∙ e)

-- ---- lines

empty_length : (l : Line) → eqb (length l) 0 ≡ is_empty_line l
empty_length [] = refl
empty_length (k ∷ l) = ne_eqb (suc (length l)) 0 (λ z. omega arith)

-- whether the last line is empty
module _ (ls : List Letter) (ws : List ℕ) (lines : ℕ) (ds : List Line) (count : lines ≡ length ds)
    (table : slice table_from (table_from + 4 * lines) ws ≡ line_table ls ds)
    (left : ℕ) (h : 0 < left) (n : left ≤ lines) (r : Bool) (er : r ≡ eqb (two_at ws (table_from + 4 * (left - 1))) 0) where
  empty_there : is_empty_line (get_or ds (left - 1) []) ≡ r
  empty_there =
      sym (empty_length (get_or ds (left - 1) []))
      ∙ ap (λ (x : ℕ). eqb x 0)
      (sym (table_at ls ds (left - 1) (omega arith)).0
      ∙ ap (λ (x : List ℕ). two_at x (4 * (left - 1))) (sym table)
      ∙ part_two ws table_from (4 * lines) (4 * (left - 1)) (omega arith))
      ∙ sym er

  last_line : take left ds ≡ take (left - 1) ds ++ (get_or ds (left - 1) [] ∷ [])
  last_line = let e : left ≡ suc (left - 1) = omega arith in ap (λ (x : ℕ). take x ds) e ∙ take-suc ds (left - 1) [] (omega arith)

  pub lines_stop : r ≡ false → without_last is_empty_line (take left ds) ≡ take left ds
  lines_stop e =
      ap (without_last is_empty_line) last_line
      ∙ last_keep is_empty_line (take (left - 1) ds) (get_or ds (left - 1) []) (empty_there ∙ e)
      ∙ sym last_line

  pub lines_go : r ≡ true → without_last is_empty_line (take left ds) ≡ without_last is_empty_line (take (left - 1) ds)
  lines_go e =
      ap (without_last is_empty_line) last_line
      ∙ last_drop is_empty_line (take (left - 1) ds) (get_or ds (left - 1) []) (empty_there ∙ e)
