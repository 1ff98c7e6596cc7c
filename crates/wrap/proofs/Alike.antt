-- THE LAW: wrapping asks little of a letter, whether it is a break, a space, a space or tab, how many columns it has, and
-- whether a run starts with it. Captions that agree in these have the same lines.
use mathlib.Core.Path.{◌≡◌, refl}
use mathlib.Core.Bool.{cond, not, ◌&&◌, beq}
use mathlib.Core.List.{List, [], ◌∷◌, map}
use Prim.Native.Nat.{ℕ, ◌+◌}
use lib.Dec.{eqb, leb, ltb}
use lib.ListN.{length}
use Rattle.tape.specs.Runs.{Letter}
use Rattle.wrap.specs.Columns.{is_break, is_space, columns_of}
use Rattle.wrap.specs.Lines.{Line, up_from, onto_first, without_last, letter_of, code_of, is_blank_letter, visible_cols, logical_lines, onto_token, tokenise, is_space_token, hard_break, Filling, no_lines, close, close_if, add, put_chunk, put_chunks, add_or_break, put_token, put_tokens, fill, is_empty_line, wrap_runs}

pub record Alike (a b : List Letter) : Type 0 where
  pub count : length a ≡ length b
  pub breaks : (k : ℕ) → is_break (code_of a k) ≡ is_break (code_of b k)
  pub spaces : (k : ℕ) → is_space (code_of a k) ≡ is_space (code_of b k)
  pub blanks : (k : ℕ) → is_blank_letter a k ≡ is_blank_letter b k
  pub columns : (k : ℕ) → columns_of (code_of a k) ≡ columns_of (code_of b k)
  pub starts : (k : ℕ) → (letter_of a k).start ≡ (letter_of b k).start

module _ {a b : List Letter} (alike : Alike a b) where
  pub same_columns_lem : (l : Line) → visible_cols a l ≡ visible_cols b l
  unfolding visible_cols
  same_columns_lem [] = refl
  same_columns_lem (k ∷ ks) = λ i. alike.columns k i + same_columns_lem ks i

  same_logical : (l : Line) → logical_lines a l ≡ logical_lines b l
  unfolding logical_lines
  same_logical [] = refl
  same_logical (k ∷ ks) = λ i. cond (alike.breaks k i) ([] ∷ same_logical ks i) (onto_first k (same_logical ks i))

  onto : (k : ℕ) (ts : List Line) → onto_token a k ts ≡ onto_token b k ts
  onto k [] = refl
  onto k ([] ∷ ts) = refl
  onto k ((m ∷ t) ∷ ts) =
      λ i. cond (beq (alike.blanks k i) (alike.blanks m i) && not (alike.starts m i)) ((k ∷ m ∷ t) ∷ ts) ((k ∷ []) ∷ (m ∷ t) ∷ ts)

  same_tokens : (l : Line) → tokenise a l ≡ tokenise b l
  unfolding tokenise
  same_tokens [] = refl
  same_tokens (k ∷ ks) = λ i. onto k (same_tokens ks i) i

  same_kind : (t : Line) → is_space_token a t ≡ is_space_token b t
  unfolding is_space_token
  same_kind [] = refl
  same_kind (k ∷ ks) = λ i. alike.blanks k i && same_kind ks i

  -- ---- filling lines

  module _ (L : ℕ) where
    chunk : (f : Filling) (t : Line) → put_chunk a L f t ≡ put_chunk b L f t
    chunk f t = λ i. let g = add (close_if (ltb 0 (same_columns_lem f.line i)) f) t in close_if (leb L (same_columns_lem g.line i)) g

    chunks_put : (f : Filling) (ts : List Line) → put_chunks a L f ts ≡ put_chunks b L f ts
    unfolding put_chunks
    chunks_put f [] = refl
    chunks_put f (t ∷ ts) = λ i. chunks_put (chunk f t i) ts i

    added : (f : Filling) (t : Line) → add_or_break a L f t ≡ add_or_break b L f t
    unfolding add_or_break
    added f t = λ i. cond (ltb L (same_columns_lem t i)) (chunks_put f (hard_break L t) i) (add f t)

    token : (f : Filling) (t : Line) → put_token a L f t ≡ put_token b L f t
    unfolding put_token
    token f t =
        λ i.
        let filled = same_columns_lem f.line i in
        cond (eqb (same_columns_lem t i) 0) f
        (cond (same_kind t i && not (ltb 0 filled)) f
        (cond (ltb 0 filled && ltb L (filled + same_columns_lem t i)) (cond (same_kind t i) (close f) (added (close f) t i))
        (added f t i)))

    tokens_put : (f : Filling) (ts : List Line) → put_tokens a L f ts ≡ put_tokens b L f ts
    unfolding put_tokens
    tokens_put f [] = refl
    tokens_put f (t ∷ ts) = λ i. tokens_put (token f t i) ts i

    filled_alike : (f : Filling) (ls : List Line) → fill a L f ls ≡ fill b L f ls
    unfolding fill
    filled_alike f [] = refl
    filled_alike f (l ∷ ls) = λ i. filled_alike (close (tokens_put f (same_tokens l i) i)) ls i

    pub same_lines_lem : wrap_runs a L ≡ wrap_runs b L
    unfolding wrap_runs
    same_lines_lem =
        λ i.
        without_last is_empty_line
        (map (without_last (λ k. alike.spaces k i)) (filled_alike no_lines (same_logical (up_from 0 (alike.count i)) i) i).closed)
