-- The lines that lie in the workspace, read back, are those that the letters make.
use mathlib.Core.Path.{◌≡◌, ◌∙◌, refl, sym, ap}
use mathlib.Core.List.{List, [], ◌∷◌, ◌++◌, map, flatten, append_assoc, append-nil}
use Prim.Native.Nat.{ℕ, suc, ◌+◌, ◌*◌, ◌≤◌, ◌<◌}
use native.Mathlib.Nat.{zero-add}
use native.Mathlib.Omega.{arith}
use lib.ListN.{length, get_or, take, drop, length-append, take-append-drop}
use lib.Seq.{get_or_at, length-take-le}
use Rattle.tape.specs.Command.{most_letters}
use Rattle.tape.specs.Runs.{Letter}
use Rattle.tape.specs.Stored.{letter_at}
use Rattle.tape.specs.Tape.{least_room}
use Rattle.wrap.specs.Lines.{Line, letter_of, visible_cols}
use Rattle.wrap.specs.Laid.{numbers_from, table_from, inked_from, two_at, number_at, letters_on, columns_on, inked_through, inked_in, inked_totals, Holds, HoldsLines}
use Rattle.wrap.specs.Shown.{inked_letters}
use Rattle.wrap.proofs.InkCounts.{length_totals, totals_at}
use Rattle.wrap.proofs.Lists.{flatten_append}
use Rattle.wrap.proofs.TableBytes.{twos_at, table_at, part_two}
use Rattle.compositor.specs.declared.Settings.{Settings}
use Rattle.compositor.specs.Order.{lines_strokes}
use Rattle.compositor.specs.Read.{letters_at, letters_from, strokes_at, Readable}

module _ (ls : List Letter) (r : List Line) (ws : List ℕ) (holds : Holds ls ws) (lines : HoldsLines ls r ws)
    (below : (j : ℕ) → j < length (flatten r) → get_or (flatten r) j 0 < length ls) where
  -- ---- numbers and the table

  number_is : (k : ℕ) → k < length (flatten r) → number_at ws k ≡ get_or (flatten r) k 0
  number_is k h =
      sym (part_two ws numbers_from (2 * length (flatten r)) (2 * k) (omega arith))
      ∙ ap (λ (l : List ℕ). two_at l (2 * k)) lines.numbers
      ∙ twos_at (flatten r) k h

  letters_are : (i : ℕ) → i < length r → letters_on ws i ≡ length (get_or r i [])
  letters_are i h =
      sym (part_two ws table_from (4 * length r) (4 * i) (omega arith))
      ∙ ap (λ (l : List ℕ). two_at l (4 * i)) lines.table
      ∙ (table_at ls r i h).0

  columns_are : (i : ℕ) → i < length r → columns_on ws i ≡ visible_cols ls (get_or r i [])
  columns_are i h =
      let e : table_from + 4 * i + 2 ≡ table_from + (4 * i + 2) = omega arith in
      ap (two_at ws) e
      ∙ sym (part_two ws table_from (4 * length r) (4 * i + 2) (omega arith))
      ∙ ap (λ (l : List ℕ). two_at l (4 * i + 2)) lines.table
      ∙ (table_at ls r i h).1

  pub readable : least_room ≤ length ws → length (flatten r) ≤ most_letters → Readable ws (length (flatten r))
  readable room few =
      record {
        room = room;
        few = few;
        known = λ k h. let e = number_is k h in let n = below k h in let m = holds.few in omega arith;
      }

  -- ---- the letters l of a line, behind those of `front`

  letters_back : (front l back : List ℕ) → flatten r ≡ front ++ (l ++ back) → letters_at ws (length front) (length l) ≡ map (letter_of ls) l
  unfolding letters_at
  letters_back front [] back e = refl
  letters_back front (k ∷ l) back e =
      let n = length-append front (k ∷ (l ++ back)) in
      let at : length front < length (flatten r) = rw e (omega arith) in
      let here : get_or (flatten r) (length front) 0 ≡ k =
      ap (λ (x : List ℕ). get_or x (length front) 0) e ∙ get_or_at front k (l ++ back) 0 (length front) refl in
      let small = below (length front) at in
      let letter : letter_at ws (number_at ws (length front)) ≡ letter_of ls k =
      ap (letter_at ws) (number_is (length front) at ∙ here) ∙ sym (holds.letter k (omega arith)) in
      let next : suc (length front) ≡ length (front ++ (k ∷ [])) = sym (length-append front (k ∷ []) ∙ omega arith) in
      let rest = letters_back (front ++ (k ∷ [])) l back (e ∙ sym (append_assoc front (k ∷ []) (l ++ back))) in
      rw (letter, next, rest)

  -- ---- the lines `back`, behind those of `front`

  module _ (front : List Line) (l : Line) (back : List Line) (e : r ≡ front ++ (l ∷ back)) where
    here : get_or r (length front) [] ≡ l
    here = ap (λ (x : List Line). get_or x (length front) []) e ∙ get_or_at front l back [] (length front) refl

    there : length front < length r
    there = let n = length-append front (l ∷ back) in rw e (omega arith)

    on_line : letters_on ws (length front) ≡ length l
    on_line = letters_are (length front) there ∙ ap length here

    of_columns : columns_on ws (length front) ≡ visible_cols ls l
    of_columns = columns_are (length front) there ∙ ap (visible_cols ls) here

    line_back : letters_at ws (length (flatten front)) (length l) ≡ map (letter_of ls) l
    unfolding flatten
    line_back = letters_back (flatten front) l (flatten back) (ap flatten e ∙ flatten_append front (l ∷ back))

    next_line : suc (length front) ≡ length (front ++ (l ∷ []))
    next_line = sym (length-append front (l ∷ []) ∙ omega arith)

    next_letter : length (flatten front) + length l ≡ length (flatten (front ++ (l ∷ [])))
    unfolding flatten
    next_letter =
        let n = length-append (flatten front) (l ++ []) in
        let m = length-append l ([]) in
        sym (ap length (flatten_append front (l ∷ [])) ∙ omega arith)

    after_it : r ≡ (front ++ (l ∷ [])) ++ back
    after_it = e ∙ sym (append_assoc front (l ∷ []) back)

  lines_back : (s : Settings) (front back : List Line) → r ≡ front ++ back
      → strokes_at s ws (length (flatten front)) (length front) (length back) ≡ lines_strokes s ls back
  unfolding strokes_at lines_strokes
  lines_back s front [] e = refl
  lines_back s front (l ∷ back) e =
      let rest = lines_back s (front ++ (l ∷ [])) back (after_it front l back e) in
      rw (
        of_columns front l back e,
        on_line front l back e,
        line_back front l back e,
        next_line front l back e,
        next_letter front l back e,
        rest,
      )

  -- how many letters are on the lines `some` behind those of `front`
  sum_back : (front some back : List Line) → r ≡ front ++ (some ++ back) → letters_from ws (length front) (length some) ≡ length (flatten some)
  unfolding letters_from flatten
  sum_back front [] back e = refl
  sum_back front (l ∷ some) back e =
      let rest = sum_back (front ++ (l ∷ [])) some back (after_it front l (some ++ back) e) in
      rw (on_line front l (some ++ back) e, next_line front l (some ++ back) e, rest) (sym (length-append l (flatten some)))

  -- all of them
  pub strokes_back : (s : Settings) → strokes_at s ws 0 0 (length r) ≡ lines_strokes s ls r
  unfolding flatten
  strokes_back s = lines_back s [] r refl

  pub letters_back_all : letters_from ws 0 (length r) ≡ length (flatten r)
  letters_back_all = sum_back [] r [] (sym (append-nil r))

  -- ---- the totals of letters with ink

  pub totals_back : (i : ℕ) → i < length r → inked_through ws i ≡ inked_letters (letters_at ws 0 (letters_from ws 0 (suc i)))
  totals_back i h =
      let some : List Line = take (suc i) r in
      let back : List Line = drop (suc i) r in
      let all : r ≡ some ++ back = sym (take-append-drop (suc i) r) in
      let n : letters_from ws 0 (suc i) ≡ length (flatten some) =
      ap (letters_from ws 0) (sym (length-take-le (suc i) r h)) ∙ sum_back [] some back all in
      sym (part_two ws inked_from (2 * length r) (2 * i) (omega arith))
      ∙ ap (λ (l : List ℕ). two_at l (2 * i)) lines.inked
      ∙ twos_at (inked_totals ls 0 r) i (omega (arith, length_totals ls 0 r))
      ∙ totals_at ls 0 r i h
      ∙ zero-add (inked_in ls (flatten some))
      ∙ ap inked_letters
      (sym (letters_back [] (flatten some) (flatten back) (ap flatten all ∙ flatten_append some back))
      ∙ ap (letters_at ws 0) (sym n))
