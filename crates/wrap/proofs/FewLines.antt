-- THE LAW: there are at most as many lines as letters. So the table of lines fits where it is kept.
use mathlib.Core.Path.{◌≡◌, ◌∙◌, refl, ap, subst}
use mathlib.Core.Bool.{Bool, true, false, ◌&&◌, not, cond}
use mathlib.Core.List.{List, [], ◌∷◌, map, flatten, map-append}
use Prim.Native.Nat.{ℕ, zero, suc, ◌+◌, ◌-◌, ◌≤◌, ◌<◌}
use native.Mathlib.Omega.{arith}
use lib.Dec.{eqb, leb, ltb}
use lib.ListN.{length, length-append, length-map}
use borrow.Author.Tests.{ltb-true, leb-true}
use Rattle.tape.specs.Runs.{Letter}
use Rattle.std.proofs.lemmas.Bool.{and_parts}
use Rattle.wrap.specs.Columns.{is_break}
use Rattle.wrap.specs.Lines.{Line, Filling, up_from, onto_first, code_of, visible_cols, logical_lines, together, onto_token, tokenise, is_space_token, chunks, hard_break, no_lines, close, close_if, add, has_columns, put_chunk, put_chunks, add_or_break, passes, put_token, put_tokens, fill, trim_trailing_space, is_empty_line, without_last, wrap_runs}
use Rattle.wrap.proofs.Lists.{cases, last_drop, last_short, length_up}
use Rattle.wrap.proofs.ColumnCounts.{cols_le}
use Rattle.wrap.proofs.Chunks.{chunks_all}
use Rattle.wrap.proofs.AllShown.{tokens_all}

-- ---- no token and no chunk is empty

unfoldable Some : List Line → Type 0
Some [] = Unit
Some (t ∷ ts) = (1 ≤ length t) × Some ts

-- but for the first
unfoldable Others : List Line → Type 0
Others [] = Unit
Others (t ∷ ts) = Some ts

onto_some : (k : ℕ) (ts : List Line) → Others ts → Some (onto_first k ts)
unfolding Some Others
onto_some k [] s = (omega arith, tt)
onto_some k (t ∷ ts) s = (omega arith, s)

chunks_others : (L spare : ℕ) (t : Line) → Others (chunks L spare t)
unfolding chunks Others Some
chunks_others L spare [] = tt
chunks_others L zero (k ∷ t) = onto_some k (chunks L (L - 1) t) (chunks_others L (L - 1) t)
chunks_others L (suc spare) (k ∷ t) = some_others (onto_first k (chunks L spare t)) (onto_some k (chunks L spare t) (chunks_others L spare t))
  where
    some_others : (ts : List Line) → Some ts → Others ts
    some_others [] s = tt
    some_others (t ∷ ts) s = s.1

break_some : (L : ℕ) (t : Line) → 1 ≤ L → 1 ≤ length t → Some (hard_break L t)
unfolding chunks
break_some zero t h n = absurd (omega arith)
break_some (suc L) [] h n = absurd (omega arith)
break_some (suc L) (k ∷ t) h n = onto_some k (chunks (suc L) L t) (chunks_others (suc L) L t)

module _ (ls : List Letter) where
  onto_token_lem : (k : ℕ) (ts : List Line) → Some ts → Some (onto_token ls k ts)
  unfolding Some
  onto_token_lem k [] s = (omega arith, tt)
  onto_token_lem k ([] ∷ ts) s = (omega arith, s.1)
  onto_token_lem k ((m ∷ t) ∷ ts) s = cases Some (together ls k m) _ _ (λ _. (omega arith, s.1)) (λ _. (omega arith, s))

  tokens_some : (l : Line) → Some (tokenise ls l)
  unfolding tokenise Some
  tokens_some [] = tt
  tokens_some (k ∷ l) = onto_token_lem k (tokenise ls l) (tokens_some l)

  -- ---- lines of a filling after p letters and breaks

  record Few (f : Filling) (p : ℕ) : Type 0 where
    lines : length f.closed ≤ p
    busy : 1 ≤ length f.line → length f.closed < p

  few_on : (f : Filling) (p q : ℕ) → p ≤ q → Few f p → Few f q
  few_on f p q h few =
      let n = few.lines in
      record { lines = omega arith; busy = λ z. let b = few.busy z in omega arith }

  -- closed: there is one line more, and it has letters of its own or a break after it
  close_few : (f : Filling) (p : ℕ) → length f.closed < p → Few (close f) p
  close_few f p h = let n = length-append f.closed (f.line ∷ []) in record { lines = omega arith; busy = λ z. absurd (omega arith) }

  close_if_few : (b : Bool) (f : Filling) (p : ℕ) → (b ≡ true → 0 < visible_cols ls f.line) → Few f p → Few (close_if b f) p
  close_if_few true f p h few = let some = cols_le ls f.line in let columns = h refl in close_few f p (few.busy (omega arith))
  close_if_few false f p h few = few

  add_few : (f : Filling) (t : Line) (p : ℕ) → 1 ≤ length t → Few f p → Few (add f t) (p + length t)
  add_few f t p h few = let n = few.lines in record { lines = omega arith; busy = λ z. omega arith }

  module _ (L : ℕ) (one : 1 ≤ L) where
    chunk_few : (f : Filling) (t : Line) (p : ℕ) → 1 ≤ length t → Few f p → Few (put_chunk ls L f t) (p + length t)
    chunk_few f t p h few =
        let g : Filling = close_if (has_columns ls L f) f in
        close_if_few (leb L (visible_cols ls (add g t).line)) (add g t) (p + length t)
        (λ e. let n = leb-true L _ e in omega arith)
        (add_few g t p h (close_if_few (has_columns ls L f) f p (λ e. ltb-true 0 _ e) few))

    chunks_few : (ts : List Line) (f : Filling) (p : ℕ) → Some ts → Few f p → Few (put_chunks ls L f ts) (p + length (flatten ts))
    unfolding put_chunks flatten Some
    chunks_few [] f p s few = few_on f p (p + 0) (omega arith) few
    chunks_few (t ∷ ts) f p s few =
        let n = length-append t (flatten ts) in
        few_on _ (p + length t + length (flatten ts)) _ (omega arith)
        (chunks_few ts (put_chunk ls L f t) (p + length t) s.1 (chunk_few f t p s.0 few))

    place_few : (f : Filling) (t : Line) (p : ℕ) → 1 ≤ length t → Few f p → Few (add_or_break ls L f t) (p + length t)
    unfolding add_or_break
    place_few f t p h few =
        let n : length (flatten (hard_break L t)) ≡ length t = ap length (chunks_all L L t) in
        cases (λ (g : Filling). Few g (p + length t)) (ltb L (visible_cols ls t)) _ _
        (λ _. few_on _ (p + length (flatten (hard_break L t))) _ (omega arith) (chunks_few (hard_break L t) f p (break_some L t one h) few))
        (λ _. add_few f t p h few)

    token_few : (f : Filling) (t : Line) (p : ℕ) → 1 ≤ length t → Few f p → Few (put_token ls L f t) (p + length t)
    unfolding put_token
    token_few f t p h few =
        let on = few_on f p (p + length t) (omega arith) few in
        let next : passes ls L f t ≡ true → Few (close f) p =
        λ e. close_if_few true f p (λ _. ltb-true 0 _ (and_parts _ _ e).0) few in
        cases (λ (g : Filling). Few g (p + length t)) (eqb (visible_cols ls t) 0) _ _ (λ _. on)
        (λ _. cases (λ (g : Filling). Few g (p + length t)) (is_space_token ls t && not (has_columns ls L f)) _ _ (λ _. on)
        (λ _. cases (λ (g : Filling). Few g (p + length t)) (passes ls L f t) _ _
        (λ e. cases (λ (g : Filling). Few g (p + length t)) (is_space_token ls t) _ _
        (λ _. few_on (close f) p (p + length t) (omega arith) (next e))
        (λ _. place_few (close f) t p h (next e)))
        (λ _. place_few f t p h few)))

    tokens_few : (ts : List Line) (f : Filling) (p : ℕ) → Some ts → Few f p → Few (put_tokens ls L f ts) (p + length (flatten ts))
    unfolding put_tokens flatten Some
    tokens_few [] f p s few = few_on f p (p + 0) (omega arith) few
    tokens_few (t ∷ ts) f p s few =
        let n = length-append t (flatten ts) in
        few_on _ (p + length t + length (flatten ts)) _ (omega arith)
        (tokens_few ts (put_token ls L f t) (p + length t) s.1 (token_few f t p s.0 few))

    -- what is kept of lines when the last is closed: it has letters of its own, or goes
    abbrev kept : Filling → List Line
    kept f = without_last is_empty_line (map (trim_trailing_space ls) f.closed)

    close_kept : (f : Filling) (p : ℕ) → Few f p → length (kept (close f)) ≤ p
    unfolding without_last
    close_kept f p few = by f.line refl
      where
        by : (l : Line) → f.line ≡ l → length (kept (close f)) ≤ p
        by [] e =
            let gone : kept (close f) ≡ kept f =
            ap (without_last is_empty_line) (map-append (trim_trailing_space ls) f.closed (f.line ∷ []))
            ∙ last_drop is_empty_line (map (trim_trailing_space ls) f.closed) (trim_trailing_space ls f.line) (ap (λ (l : Line). is_empty_line (trim_trailing_space ls l)) e) in
            let n = ap length gone in
            let short = last_short is_empty_line (map (trim_trailing_space ls) f.closed) in
            let same = length-map f.closed (trim_trailing_space ls) in
            let lines = few.lines in
            omega arith
        by (k ∷ l) e =
            let some = ap length e in
            let busy = few.busy (omega arith) in
            let n = length-append f.closed (f.line ∷ []) in
            let short = last_short is_empty_line (map (trim_trailing_space ls) (close f).closed) in
            let same = length-map (close f).closed (trim_trailing_space ls) in
            omega arith

    -- a logical line's tokens
    line_few : (l : Line) (f : Filling) (p : ℕ) → Few f p → Few (put_tokens ls L f (tokenise ls l)) (p + length l)
    line_few l f p few =
        subst (λ (n : ℕ). Few (put_tokens ls L f (tokenise ls l)) (p + n)) (ap length (tokens_all ls L l))
        (tokens_few (tokenise ls l) f p (tokens_some l) few)

    fill_few : (l : Line) (lines : List Line) (f : Filling) (p : ℕ) → Few f p
        → length (kept (fill ls L f (l ∷ lines))) ≤ p + length (flatten (l ∷ lines)) + length lines
    unfolding fill flatten
    fill_few l [] f p few =
        let n = length-append l [] in
        let last = close_kept (put_tokens ls L f (tokenise ls l)) (p + length l) (line_few l f p few) in
        omega arith
    fill_few l (m ∷ lines) f p few =
        let g : Filling = put_tokens ls L f (tokenise ls l) in
        let n = length-append l (flatten (m ∷ lines)) in
        let put = (line_few l f p few).lines in
        let rest = fill_few m lines (close g) (p + length l + 1) (close_few g (p + length l + 1) (omega arith)) in
        omega arith

  -- ---- logical lines: one more than breaks

  record Cut (ks : Line) (lines : List Line) : Type 0 where
    some : 1 ≤ length lines
    all : length (flatten lines) + length lines ≡ length ks + 1

  logical_cut : (ks : Line) → Cut ks (logical_lines ls ks)
  unfolding logical_lines flatten
  logical_cut [] = record { some = omega arith; all = refl }
  logical_cut (k ∷ ks) = by (logical_lines ls ks) (logical_cut ks)
    where
      by : (x : List Line) → Cut ks x → Cut (k ∷ ks) (cond (is_break (code_of ls k)) ([] ∷ x) (onto_first k x))
      by [] c = let n = c.some in absurd (omega arith)
      by (l ∷ r) c =
          let n = c.all in
          cases (Cut (k ∷ ks)) (is_break (code_of ls k)) _ _
          (λ _. record { some = omega arith; all = omega arith })
          (λ _. record { some = omega arith; all = omega arith })

  pub few_lines : (L : ℕ) → 1 ≤ L → length (wrap_runs ls L) ≤ length ls
  unfolding wrap_runs
  few_lines L one = by (logical_lines ls all) (logical_cut all)
    where
      all : Line
      all = up_from 0 (length ls)

      none : Few no_lines 0
      none = record { lines = omega arith; busy = λ z. absurd (omega arith) }

      by : (lines : List Line) → Cut all lines → length (kept L one (fill ls L no_lines lines)) ≤ length ls
      by [] cut = let some = cut.some in absurd (omega arith)
      by (l ∷ lines) cut =
          let most = fill_few L one l lines no_lines 0 none in
          let sum = cut.all in
          let up = length_up 0 (length ls) in
          omega arith
