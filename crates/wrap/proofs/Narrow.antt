-- THE LAW: no line has over L columns.
use mathlib.Core.Path.{◌≡◌, refl}
use mathlib.Core.Bool.{Bool, true, false, ◌&&◌, not}
use mathlib.Core.List.{List, [], ◌∷◌, ◌++◌, map}
use Prim.Native.Nat.{ℕ, zero, suc, ◌+◌, ◌-◌, ◌≤◌}
use native.Mathlib.Omega.{arith}
use lib.Dec.{eqb, leb, ltb}
use lib.ListN.{length, get_or}
use borrow.Author.Tests.{ltb-false}
use Rattle.tape.specs.Runs.{Letter}
use Rattle.wrap.specs.Columns.{is_space}
use Rattle.wrap.specs.Lines.{Line, Filling, up_from, onto_first, keep, without_last, code_of, visible_cols, logical_lines, tokenise, is_space_token, chunks, hard_break, no_lines, close, close_if, add, has_columns, put_chunk, put_chunks, add_or_break, passes, put_token, put_tokens, fill, filled, trim_trailing_space, is_empty_line, wrap_runs}
use Rattle.wrap.proofs.Lists.{cases}
use Rattle.wrap.proofs.ColumnCounts.{cols_append, cols_le, closed_none}

module _ (ls : List Letter) (L : ℕ) (one : 1 ≤ L) where
  -- of lines
  unfoldable Within : List Line → Type 0
  Within [] = Unit
  Within (l ∷ r) = (visible_cols ls l ≤ L) × Within r

  within_snoc : (r : List Line) (l : Line) → Within r → visible_cols ls l ≤ L → Within (r ++ (l ∷ []))
  unfolding Within
  within_snoc [] l w h = (h, tt)
  within_snoc (m ∷ r) l w h = (w.0, within_snoc r l w.1 h)

  within_at : (r : List Line) (i : ℕ) → Within r → visible_cols ls (get_or r i []) ≤ L
  unfolding Within visible_cols
  within_at [] i w = omega arith
  within_at (l ∷ r) zero w = w.0
  within_at (l ∷ r) (suc i) w = within_at r i w.1

  -- of chunks: the first has room for so many letters
  unfoldable Short : ℕ → List Line → Type 0
  Short spare [] = Unit
  Short spare (t ∷ ts) = (length t ≤ spare) × Within ts

  onto_short : (spare k : ℕ) (ts : List Line) → Short spare ts → Short (suc spare) (onto_first k ts)
  unfolding Short Within
  onto_short spare k [] s = (omega arith, tt)
  onto_short spare k (t ∷ ts) s = let h = s.0 in (omega arith, s.1)

  short_within : (spare : ℕ) (ts : List Line) → spare ≤ L → Short spare ts → Within ts
  unfolding Short Within
  short_within spare [] h s = tt
  short_within spare (t ∷ ts) h s = let n = s.0 in let c = cols_le ls t in (omega arith, s.1)

  chunks_short : (spare : ℕ) (t : Line) → spare ≤ L → Short spare (chunks L spare t)
  unfolding chunks Short Within
  chunks_short spare [] h = (omega arith, tt)
  chunks_short zero (k ∷ t) h =
      let rest : List Line = chunks L (L - 1) t in
      (omega arith, short_within (suc (L - 1)) (onto_first k rest) (omega arith) (onto_short (L - 1) k rest (chunks_short (L - 1) t (omega arith))))
  chunks_short (suc spare) (k ∷ t) h = onto_short spare k (chunks L spare t) (chunks_short spare t (omega arith))

  -- of a filling
  unfoldable Fine : Filling → Type 0
  Fine f = Within f.closed × (visible_cols ls f.line ≤ L)

  close_fine : (f : Filling) → Fine f → Fine (close f)
  unfolding Fine visible_cols
  close_fine f w = (within_snoc f.closed f.line w.0 w.1, omega arith)

  close_if_fine : (b : Bool) (f : Filling) → Fine f → Fine (close_if b f)
  close_if_fine true f w = close_fine f w
  close_if_fine false f w = w

  add_fine : (f : Filling) (t : Line) → Fine f → visible_cols ls f.line + visible_cols ls t ≤ L → Fine (add f t)
  unfolding Fine
  add_fine f t w h = (w.0, rw (cols_append ls f.line t) h)

  chunk_fine : (f : Filling) (t : Line) → Fine f → visible_cols ls t ≤ L → Fine (put_chunk ls L f t)
  chunk_fine f t w h =
      let g : Filling = close_if (has_columns ls L f) f in
      let z : visible_cols ls g.line ≡ 0 = closed_none ls L f in
      close_if_fine (leb L (visible_cols ls (add g t).line)) (add g t) (add_fine g t (close_if_fine (has_columns ls L f) f w) (omega arith))

  chunks_fine : (f : Filling) (ts : List Line) → Fine f → Within ts → Fine (put_chunks ls L f ts)
  unfolding put_chunks Within
  chunks_fine f [] w h = w
  chunks_fine f (t ∷ ts) w h = chunks_fine (put_chunk ls L f t) ts (chunk_fine f t w h.0) h.1

  add_or_break_fine : (f : Filling) (t : Line) → Fine f → (visible_cols ls t ≤ L → visible_cols ls f.line + visible_cols ls t ≤ L) → Fine (add_or_break ls L f t)
  unfolding add_or_break
  add_or_break_fine f t w h =
      cases Fine (ltb L (visible_cols ls t)) _ _
      (λ _. chunks_fine f (hard_break L t) w (short_within L _ (omega arith) (chunks_short L t (omega arith))))
      (λ e. add_fine f t w (h (ltb-false _ _ e)))

  -- where the token does not pass the limit, it has room
  fits : (f : Filling) (t : Line) → passes ls L f t ≡ false → visible_cols ls t ≤ L → visible_cols ls f.line + visible_cols ls t ≤ L
  fits f t e h = by (has_columns ls L f) refl e
    where
      by : (b : Bool) → has_columns ls L f ≡ b → (b && ltb L (visible_cols ls f.line + visible_cols ls t)) ≡ false
          → visible_cols ls f.line + visible_cols ls t ≤ L
      by true p q = ltb-false _ _ q
      by false p q = let z = ltb-false 0 (visible_cols ls f.line) p in omega arith

  fresh : (t : Line) → visible_cols ls t ≤ L → visible_cols ls [] + visible_cols ls t ≤ L
  unfolding visible_cols
  fresh t h = omega arith

  token_fine : (f : Filling) (t : Line) → Fine f → Fine (put_token ls L f t)
  unfolding put_token
  token_fine f t w =
      let next = close_fine f w in
      cases Fine (eqb (visible_cols ls t) 0) _ _ (λ _. w)
      (λ _. cases Fine (is_space_token ls t && not (has_columns ls L f)) _ _ (λ _. w)
      (λ _. cases Fine (passes ls L f t) _ _
      (λ _. cases Fine (is_space_token ls t) _ _ (λ _. next) (λ _. add_or_break_fine (close f) t next (fresh t)))
      (λ e. add_or_break_fine f t w (fits f t e))))

  tokens_fine : (f : Filling) (ts : List Line) → Fine f → Fine (put_tokens ls L f ts)
  unfolding put_tokens
  tokens_fine f [] w = w
  tokens_fine f (t ∷ ts) w = tokens_fine (put_token ls L f t) ts (token_fine f t w)

  fill_fine : (f : Filling) (ms : List Line) → Fine f → Fine (fill ls L f ms)
  unfolding fill
  fill_fine f [] w = w
  fill_fine f (m ∷ ms) w =
      let g : Filling = put_tokens ls L f (tokenise ls m) in
      fill_fine (close g) ms (close_fine g (tokens_fine f (tokenise ls m) w))

  -- what goes at the end
  keep_narrow : (k : ℕ) (l m : Line) → visible_cols ls m ≤ visible_cols ls l
      → visible_cols ls (keep (λ i. is_space (code_of ls i)) k m) ≤ visible_cols ls (k ∷ l)
  unfolding visible_cols
  keep_narrow k l [] h =
      cases (λ (x : Line). visible_cols ls x ≤ visible_cols ls (k ∷ l)) (is_space (code_of ls k)) _ _ (λ _. omega arith) (λ _. omega arith)
  keep_narrow k l (x ∷ m) h = omega arith

  trim_narrow : (l : Line) → visible_cols ls (trim_trailing_space ls l) ≤ visible_cols ls l
  unfolding without_last
  trim_narrow [] = omega arith
  trim_narrow (k ∷ l) = keep_narrow k l (trim_trailing_space ls l) (trim_narrow l)

  trim_within : (r : List Line) → Within r → Within (map (trim_trailing_space ls) r)
  unfolding Within
  trim_within [] w = tt
  trim_within (l ∷ r) w = (let h = trim_narrow l in let k = w.0 in omega arith, trim_within r w.1)

  keep_within : (l : Line) (r : List Line) → visible_cols ls l ≤ L → Within r → Within (keep is_empty_line l r)
  unfolding Within
  keep_within [] [] h w = tt
  keep_within (k ∷ l) [] h w = (h, tt)
  keep_within l (m ∷ r) h w = (h, w)

  last_within : (r : List Line) → Within r → Within (without_last is_empty_line r)
  unfolding Within without_last
  last_within [] w = tt
  last_within (l ∷ r) w = keep_within l (without_last is_empty_line r) w.0 (last_within r w.1)

  pub narrow : (i : ℕ) → visible_cols ls (get_or (wrap_runs ls L) i []) ≤ L
  unfolding wrap_runs Fine Within visible_cols
  narrow i =
      within_at (wrap_runs ls L) i
      (last_within _ (trim_within (filled ls L).closed (fill_fine no_lines (logical_lines ls (up_from 0 (length ls))) (tt, omega arith)).0))
