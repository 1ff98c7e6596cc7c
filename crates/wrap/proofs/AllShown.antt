-- THE LAW: the letters that are neither space, tab, break nor control occur on the lines once each, in tape order.
use mathlib.Core.Path.{◌≡◌, ◌∙◌, refl, sym, ap, ap₂}
use mathlib.Core.Bool.{Bool, true, false, ◌&&◌, not, cond, and-false}
use mathlib.Core.List.{List, [], ◌∷◌, ◌++◌, map, flatten, append_assoc, append-nil}
use Prim.Native.Nat.{ℕ}
use native.Mathlib.Omega.{arith}
use lib.Dec.{eqb, leb, ltb}
use lib.ListN.{length}
use borrow.Author.Tests.{eqb-true}
use Rattle.tape.specs.Runs.{Letter}
use Rattle.std.proofs.lemmas.Bool.{and_parts}
use Rattle.wrap.specs.Columns.{is_space, is_tab, is_blank, is_break, is_control, columns_of}
use Rattle.wrap.specs.Lines.{Line, Filling, up_from, keep, without_last, code_of, is_blank_letter, visible_cols, logical_lines, together, onto_token, tokenise, is_space_token, hard_break, no_lines, close, close_if, add, has_columns, put_chunk, put_chunks, add_or_break, passes, put_token, put_tokens, fill, filled, trim_trailing_space, wrap_runs}
use Rattle.wrap.specs.Shown.{is_shown, shown}
use Rattle.wrap.proofs.Lists.{cases, flatten_append, last_all}
use Rattle.wrap.proofs.Chunks.{chunks_all, onto_all}

-- ---- what is dropped is not shown

narrow_not : (c : ℕ) → columns_of c ≡ 0 → is_shown c ≡ false
narrow_not c e = by (is_blank c) (is_control c) (is_tab c) e
  where
    by : (b k t : Bool) → ◌≡◌ {A = ℕ} (cond (k && not t) 0 1) 0 → (not b && (not (is_break c) && not k)) ≡ false
    by true k t e = refl
    by false true t e = and-false (not (is_break c))
    by false false t e = absurd (omega arith)

break_not : (c : ℕ) → is_break c ≡ true → is_shown c ≡ false
break_not c e = rw e (and-false (not (is_blank c)))

space_not : (c : ℕ) → is_space c ≡ true → is_shown c ≡ false
space_not c e = rw e refl

module _ (ls : List Letter) where
  shown_append : (a b : Line) → shown ls (a ++ b) ≡ shown ls a ++ shown ls b
  unfolding shown
  shown_append [] b = refl
  shown_append (k ∷ a) b = by (is_shown (code_of ls k)) (shown_append a b)
    where
      by : (t : Bool) → shown ls (a ++ b) ≡ shown ls a ++ shown ls b
          → cond t (k ∷ shown ls (a ++ b)) (shown ls (a ++ b)) ≡ cond t (k ∷ shown ls a) (shown ls a) ++ shown ls b
      by true e = rw e
      by false e = e

  none_columns : (l : Line) → visible_cols ls l ≡ 0 → shown ls l ≡ []
  unfolding shown visible_cols
  none_columns [] e = refl
  none_columns (k ∷ l) e = rw (narrow_not (code_of ls k) (omega arith)) (none_columns l (omega arith))

  none_space : (l : Line) → is_space_token ls l ≡ true → shown ls l ≡ []
  unfolding shown is_space_token
  none_space [] e = refl
  none_space (k ∷ l) e = let h = and_parts (is_blank_letter ls k) (is_space_token ls l) e in rw h.0 (none_space l h.1)

  -- ---- all letters so far, line after line

  unfoldable pub laid : Filling → Line
  laid f = flatten f.closed ++ f.line

  pub close_laid : (f : Filling) → laid (close f) ≡ laid f
  unfolding laid flatten
  close_laid f = simp (flatten_append, append-nil)

  close_if_laid : (b : Bool) (f : Filling) → laid (close_if b f) ≡ laid f
  close_if_laid true f = close_laid f
  close_if_laid false f = refl

  add_laid : (f : Filling) (t : Line) → laid (add f t) ≡ laid f ++ t
  unfolding laid
  add_laid f t = sym (append_assoc (flatten f.closed) f.line t)

  -- g is f with the letters of t, as far as they are shown
  unfoldable Goes : Filling → Line → Filling → Type 0
  Goes f t g = shown ls (laid g) ≡ shown ls (laid f) ++ shown ls t

  drops : (f g : Filling) (t : Line) → laid g ≡ laid f → shown ls t ≡ [] → Goes f t g
  unfolding Goes
  drops f g t e z = rw z (ap (shown ls) e ∙ sym (append-nil (shown ls (laid f))))

  lays : (f g : Filling) (t : Line) → laid g ≡ laid f ++ t → Goes f t g
  unfolding Goes
  lays f g t e = ap (shown ls) e ∙ shown_append (laid f) t

  -- one thing after the other
  then : (f g h : Filling) (t u : Line) → Goes f t g → Goes g u h → Goes f (t ++ u) h
  unfolding Goes
  then f g h t u p q =
      q
      ∙ ap (λ (x : Line). x ++ shown ls u) p
      ∙ append_assoc (shown ls (laid f)) (shown ls t) (shown ls u)
      ∙ ap (λ (x : Line). shown ls (laid f) ++ x) (sym (shown_append t u))

  none : (f : Filling) → Goes f [] f
  unfolding shown
  none f = drops f f [] refl refl

  module _ (L : ℕ) where
    chunk_laid : (f : Filling) (t : Line) → laid (put_chunk ls L f t) ≡ laid f ++ t
    chunk_laid f t =
        let g : Filling = close_if (has_columns ls L f) f in
        close_if_laid (leb L (visible_cols ls (add g t).line)) (add g t)
        ∙ add_laid g t
        ∙ ap (λ (x : Line). x ++ t) (close_if_laid (has_columns ls L f) f)

    chunks_laid : (ts : List Line) (f : Filling) → laid (put_chunks ls L f ts) ≡ laid f ++ flatten ts
    unfolding put_chunks flatten
    chunks_laid [] f = sym (append-nil (laid f))
    chunks_laid (t ∷ ts) f =
        chunks_laid ts (put_chunk ls L f t)
        ∙ ap (λ (x : Line). x ++ flatten ts) (chunk_laid f t)
        ∙ append_assoc (laid f) t (flatten ts)

    pub add_or_break_laid : (f : Filling) (t : Line) → laid (add_or_break ls L f t) ≡ laid f ++ t
    unfolding add_or_break
    add_or_break_laid f t =
        cases (λ (g : Filling). laid g ≡ laid f ++ t) (ltb L (visible_cols ls t)) _ _
        (λ _. chunks_laid (hard_break L t) f ∙ ap (λ (x : Line). laid f ++ x) (chunks_all L L t))
        (λ _. add_laid f t)

    token_goes : (f : Filling) (t : Line) → Goes f t (put_token ls L f t)
    unfolding put_token
    token_goes f t =
        cases (Goes f t) (eqb (visible_cols ls t) 0) _ _ (λ e. drops f f t refl (none_columns t (eqb-true _ _ e)))
        (λ _. cases (Goes f t) (is_space_token ls t && not (has_columns ls L f)) _ _
        (λ e. drops f f t refl (none_space t (and_parts (is_space_token ls t) (not (has_columns ls L f)) e).0))
        (λ _. cases (Goes f t) (passes ls L f t) _ _
        (λ _. cases (Goes f t) (is_space_token ls t) _ _
        (λ e. drops f (close f) t (close_laid f) (none_space t e))
        (λ _. lays f _ t (add_or_break_laid (close f) t ∙ ap (λ (x : Line). x ++ t) (close_laid f))))
        (λ _. lays f _ t (add_or_break_laid f t))))

    tokens_go : (ts : List Line) (f : Filling) → Goes f (flatten ts) (put_tokens ls L f ts)
    unfolding put_tokens flatten
    tokens_go [] f = none f
    tokens_go (t ∷ ts) f = then f (put_token ls L f t) _ t (flatten ts) (token_goes f t) (tokens_go ts (put_token ls L f t))

    onto_token_lem : (k : ℕ) (ts : List Line) → flatten (onto_token ls k ts) ≡ k ∷ flatten ts
    unfolding flatten
    onto_token_lem k [] = refl
    onto_token_lem k ([] ∷ ts) = refl
    onto_token_lem k ((m ∷ t) ∷ ts) = cases (λ (x : List Line). flatten x ≡ k ∷ flatten ((m ∷ t) ∷ ts)) (together ls k m) _ _ (λ _. refl) (λ _. refl)

    pub tokens_all : (l : Line) → flatten (tokenise ls l) ≡ l
    unfolding tokenise flatten
    tokens_all [] = refl
    tokens_all (k ∷ l) = onto_token_lem k (tokenise ls l) ∙ ap (λ (x : Line). k ∷ x) (tokens_all l)

    line_goes : (f : Filling) (l : Line) → Goes f l (close (put_tokens ls L f (tokenise ls l)))
    unfolding Goes
    line_goes f l =
        let g : Filling = put_tokens ls L f (tokenise ls l) in
        ap (shown ls) (close_laid g)
        ∙ tokens_go (tokenise ls l) f
        ∙ ap (λ (x : Line). shown ls (laid f) ++ shown ls x) (tokens_all l)

    fill_goes : (lines : List Line) (f : Filling) → Goes f (flatten lines) (fill ls L f lines)
    unfolding fill flatten
    fill_goes [] f = none f
    fill_goes (l ∷ lines) f =
        let g : Filling = close (put_tokens ls L f (tokenise ls l)) in
        then f g _ l (flatten lines) (line_goes f l) (fill_goes lines g)

    pub fill_ended : (lines : List Line) (f : Filling) → f.line ≡ [] → (fill ls L f lines).line ≡ []
    unfolding fill
    fill_ended [] f e = e
    fill_ended (l ∷ lines) f e = fill_ended lines (close (put_tokens ls L f (tokenise ls l))) refl

  -- ---- breaks and what goes at the end

  logical_shown : (l : Line) → shown ls (flatten (logical_lines ls l)) ≡ shown ls l
  unfolding logical_lines flatten shown
  logical_shown [] = refl
  logical_shown (k ∷ l) =
      cases (λ (x : List Line). shown ls (flatten x) ≡ shown ls (k ∷ l)) (is_break (code_of ls k)) _ _
      (λ e. rw (break_not (code_of ls k) e) (logical_shown l))
      (λ e. ap (shown ls) (onto_all k (logical_lines ls l))
      ∙ shown_append (k ∷ []) (flatten (logical_lines ls l))
      ∙ rw (logical_shown l) (sym (shown_append (k ∷ []) l)))

  keep_shown : (k : ℕ) (l m : Line) → shown ls m ≡ shown ls l → shown ls (keep (λ i. is_space (code_of ls i)) k m) ≡ shown ls (k ∷ l)
  unfolding shown
  keep_shown k l [] e =
      cases (λ (x : Line). shown ls x ≡ shown ls (k ∷ l)) (is_space (code_of ls k)) _ _
      (λ p. rw (space_not (code_of ls k) p) e)
      (λ p. rw e)
  keep_shown k l (n ∷ m) e = rw e

  trim_shown : (l : Line) → shown ls (trim_trailing_space ls l) ≡ shown ls l
  unfolding without_last
  trim_shown [] = refl
  trim_shown (k ∷ l) = keep_shown k l (trim_trailing_space ls l) (trim_shown l)

  lines_shown : (r : List Line) → shown ls (flatten (map (trim_trailing_space ls) r)) ≡ shown ls (flatten r)
  unfolding flatten
  lines_shown [] = refl
  lines_shown (l ∷ r) =
      shown_append (trim_trailing_space ls l) (flatten (map (trim_trailing_space ls) r))
      ∙ ap₂ (λ (x y : Line). x ++ y) (trim_shown l) (lines_shown r)
      ∙ sym (shown_append l (flatten r))

  pub all_shown : (L : ℕ) → shown ls (flatten (wrap_runs ls L)) ≡ shown ls (up_from 0 (length ls))
  unfolding wrap_runs laid Goes flatten shown
  all_shown L =
      let all : Line = up_from 0 (length ls) in
      let f : Filling = filled ls L in
      ap (shown ls) (last_all (map (trim_trailing_space ls) f.closed))
      ∙ lines_shown f.closed
      ∙ ap (shown ls) (sym (append-nil (flatten f.closed)))
      ∙ ap (λ (x : Line). shown ls (flatten f.closed ++ x)) (sym (fill_ended L (logical_lines ls all) no_lines refl))
      ∙ fill_goes L (logical_lines ls all) no_lines
      ∙ logical_shown all
