-- The definition passes letters a break or a token at a time.
use mathlib.Core.Path.{◌≡◌, ◌∙◌, refl, sym, ap, ap₂}
use mathlib.Core.Bool.{Bool, true, false, ◌&&◌, not, cond, beq}
use mathlib.Core.List.{List, [], ◌∷◌, ◌++◌}
use Prim.Native.Nat.{ℕ, suc, ◌+◌, ◌≤◌, ◌<◌}
use native.Mathlib.Omega.{arith}
use lib.ListN.{length, take, drop}
use borrow.Author.Tests.{not-true}
use Rattle.tape.specs.Runs.{Letter}
use Rattle.std.specs.Cmp.{booleans_Decides, bool_eq_equiv}
use Rattle.std.proofs.lemmas.Bool.{and_parts}
use Rattle.wrap.specs.Columns.{is_break}
use Rattle.wrap.specs.Lines.{Line, Filling, onto_first, letter_of, code_of, is_blank_letter, logical_lines, together, onto_token, tokenise, is_space_token, close, put_token, put_tokens, fill}
use Rattle.wrap.specs.Filled.{between, goes_on, more, end_of}
use Rattle.wrap.proofs.Lists.{cases, between_none, between_first, take_between, drop_between}

first : List Line → Line
first [] = []
first (l ∷ r) = l

others : List Line → List Line
others [] = []
others (l ∷ r) = r

module _ (ls : List Letter) where
  abbrev goes : Bool → ℕ → Bool
  goes b k = goes_on b (letter_of ls k).start (code_of ls k)

  -- a letter that goes on a token: it is no break, it is of the token's kind, and no run starts with it
  record Goes (b : Bool) (k : ℕ) : Type 0 where
    letter : is_break (code_of ls k) ≡ false
    kind : is_blank_letter ls k ≡ b
    mid : (letter_of ls k).start ≡ false

  goes_true : (b : Bool) (k : ℕ) → goes b k ≡ true → Goes b k
  goes_true b k e =
      let p = and_parts (not (is_break (code_of ls k))) (beq b (is_blank_letter ls k) && not (letter_of ls k).start) e in
      let q = and_parts (beq b (is_blank_letter ls k)) (not (letter_of ls k).start) p.1 in
      record { letter = not-true _ p.0; kind = sym ((booleans_Decides b (is_blank_letter ls k)).0 q.0); mid = not-true _ q.1 }

  together_goes : (b : Bool) (k m : ℕ) → is_blank_letter ls k ≡ b → Goes b m → together ls k m ≡ true
  together_goes b k m e g = rw (e, g.kind, g.mid, bool_eq_equiv.refl b)

  together_not : (b : Bool) (k m : ℕ) → is_blank_letter ls k ≡ b → is_break (code_of ls m) ≡ false → goes b m ≡ false → together ls k m ≡ false
  together_not b k m e x g = rw (← e, x) at g

  -- ---- logical lines

  some : (l : Line) → logical_lines ls l ≡ first (logical_lines ls l) ∷ others (logical_lines ls l)
  unfolding logical_lines first others
  some [] = refl
  some (k ∷ l) =
      cases (λ (x : List Line). x ≡ first x ∷ others x) (is_break (code_of ls k)) _ _ (λ _. refl) (λ _. onto (logical_lines ls l))
    where
      onto : (x : List Line) → onto_first k x ≡ first (onto_first k x) ∷ others (onto_first k x)
      onto [] = refl
      onto (m ∷ r) = refl

  on_first : (k : ℕ) (ks : Line) → is_break (code_of ls k) ≡ false → logical_lines ls (k ∷ ks) ≡ onto_first k (logical_lines ls ks)
  unfolding logical_lines
  on_first k ks e = rw e

  -- what is left after the letters that go on a token
  abbrev after : Bool → Line → List Line
  after b ks = logical_lines ls (drop (more ls b ks) ks)

  -- the first n letters, and then the rest of the first logical line and the others
  abbrev Split : Line → ℕ → Type 0
  Split l n = logical_lines ls l ≡ (take n l ++ first (logical_lines ls (drop n l))) ∷ others (logical_lines ls (drop n l))

  logical_more : (b : Bool) (ks : Line) → Split ks (more ls b ks)
  unfolding more
  logical_more b [] = some []
  logical_more b (k ∷ ks) = by (goes b k) refl (logical_more b ks)
    where
      by : (t : Bool) → goes b k ≡ t → Split ks (more ls b ks) → Split (k ∷ ks) (cond t (suc (more ls b ks)) 0)
      by true e ih = on_first k ks (goes_true b k e).letter ∙ ap (onto_first k) ih
      by false e ih = some (k ∷ ks)

  -- ---- tokens

  token_first : (k : ℕ) (l : Line) → (t : Line) × (ts : List Line) × (tokenise ls (k ∷ l) ≡ (k ∷ t) ∷ ts)
  unfolding tokenise
  token_first k l = by (tokenise ls l)
    where
      by : (x : List Line) → (t : Line) × (ts : List Line) × (onto_token ls k x ≡ (k ∷ t) ∷ ts)
      by [] = ([], [], refl)
      by ([] ∷ ts) = ([], ts, refl)
      by ((m ∷ t) ∷ ts) = pick (together ls k m)
        where
          pick : (b : Bool) → (u : Line) × (us : List Line) × (cond b ((k ∷ m ∷ t) ∷ ts) ((k ∷ []) ∷ (m ∷ t) ∷ ts) ≡ (k ∷ u) ∷ us)
          pick true = (m ∷ t, ts, refl)
          pick false = ([], (m ∷ t) ∷ ts, refl)

  token_onto : (k : ℕ) (l : Line) → tokenise ls (k ∷ l) ≡ onto_token ls k (tokenise ls l)
  unfolding tokenise
  token_onto k l = refl

  -- a letter before one that is no part of its token
  alone : (b : Bool) (k m : ℕ) (l : Line) → is_blank_letter ls k ≡ b → is_break (code_of ls m) ≡ false → goes b m ≡ false
      → tokenise ls (k ∷ m ∷ l) ≡ (k ∷ []) ∷ tokenise ls (m ∷ l)
  alone b k m l e x g =
      let u = token_first m l in
      token_onto k (m ∷ l)
      ∙ ap (onto_token ls k) u.2
      ∙ rw (together_not b k m e x g) (ap (λ (y : List Line). (k ∷ []) ∷ y) (sym u.2))

  -- k and the first n letters are a token
  abbrev Cut : ℕ → Line → ℕ → Type 0
  Cut k l n = tokenise ls (k ∷ (take n l ++ first (logical_lines ls (drop n l)))) ≡ (k ∷ take n l) ∷ tokenise ls (first (logical_lines ls (drop n l)))

  tokens_more : (b : Bool) (k : ℕ) → is_blank_letter ls k ≡ b → (ks : Line) → Cut k ks (more ls b ks)
  unfolding more tokenise logical_lines first
  tokens_more b k e [] = refl
  tokens_more b k e (m ∷ ks) = by (goes b m) refl (λ h. tokens_more b m h ks)
    where
      stops : (x : Bool) → is_break (code_of ls m) ≡ x → goes b m ≡ false →
          let l = first (cond x ([] ∷ logical_lines ls ks) (onto_first m (logical_lines ls ks))) in
          tokenise ls (k ∷ l) ≡ (k ∷ []) ∷ tokenise ls l
      stops true x g = refl
      stops false x g = rw (some ks) (alone b k m (first (logical_lines ls ks)) e x g)

      by : (t : Bool) → goes b m ≡ t → (is_blank_letter ls m ≡ b → Cut m ks (more ls b ks)) → Cut k (m ∷ ks) (cond t (suc (more ls b ks)) 0)
      by true g ih =
          let h = goes_true b m g in
          ap (onto_token ls k) (ih h.kind) ∙ rw (together_goes b k m e h)
      by false g ih = stops (is_break (code_of ls m)) refl g

  -- a space token is so by its first letter
  space_more : (ks : Line) → is_space_token ls (take (more ls true ks) ks) ≡ true
  unfolding more is_space_token
  space_more [] = refl
  space_more (k ∷ ks) = by (goes true k) refl (space_more ks)
    where
      by : (t : Bool) → goes true k ≡ t → is_space_token ls (take (more ls true ks) ks) ≡ true
          → is_space_token ls (take (cond t (suc (more ls true ks)) 0) (k ∷ ks)) ≡ true
      by true g ih = rw (goes_true true k g).kind ih
      by false g ih = refl

  kind_of_first : (k : ℕ) (ks : Line) → is_space_token ls (k ∷ take (more ls (is_blank_letter ls k) ks) ks) ≡ is_blank_letter ls k
  unfolding is_space_token
  kind_of_first k ks = by (is_blank_letter ls k) refl
    where
      by : (b : Bool) → is_blank_letter ls k ≡ b → (is_blank_letter ls k && is_space_token ls (take (more ls (is_blank_letter ls k) ks) ks)) ≡ is_blank_letter ls k
      by true e = rw (e, space_more ks)
      by false e = rw e

  -- ---- onward

  module _ (L : ℕ) where
    -- what a filling comes to at the end, with these letters still to come
    unfoldable pub onward : Filling → Line → Filling
    onward f ks = fill ls L f (logical_lines ls ks)

    on_end : (f : Filling) → onward f [] ≡ close f
    unfolding onward fill logical_lines put_tokens tokenise
    on_end f = refl

    on_break : (f : Filling) (k : ℕ) (ks : Line) → is_break (code_of ls k) ≡ true → onward f (k ∷ ks) ≡ onward (close f) ks
    unfolding onward fill logical_lines put_tokens tokenise
    on_break f k ks e = rw e

    on_token : (f : Filling) (k : ℕ) (ks : Line) → is_break (code_of ls k) ≡ false
        → onward f (k ∷ ks) ≡ onward (put_token ls L f (k ∷ take (more ls (is_blank_letter ls k) ks) ks)) (drop (more ls (is_blank_letter ls k) ks) ks)
    unfolding onward fill put_tokens
    on_token f k ks e =
        let b : Bool = is_blank_letter ls k in
        ap (fill ls L f) (on_first k ks e ∙ ap (onto_first k) (logical_more b ks))
        ∙ ap (λ (x : List Line). fill ls L (close (put_tokens ls L f x)) (others (after b ks))) (tokens_more b k refl ks)
        ∙ ap (fill ls L (put_token ls L f (k ∷ take (more ls b ks) ks))) (sym (some (drop (more ls b ks) ks)))

    -- the same of the letters from i to the last
    abbrev left : ℕ → Line
    left i = between i (length ls)

    pub go_end : (f : Filling) → onward f (left (length ls)) ≡ close f
    go_end f = rw (between_none (length ls)) (on_end f)

    pub go_break : (f : Filling) (i : ℕ) → i < length ls → is_break (code_of ls i) ≡ true → onward f (left i) ≡ onward (close f) (left (i + 1))
    go_break f i h e = rw (between_first i (length ls) h) (on_break f i (left (i + 1)) e)

    module _ (i j : ℕ) (ij : i < j) (jn : j ≤ length ls) (found : j ≡ end_of ls i) where
      span : between i j ≡ i ∷ take (more ls (is_blank_letter ls i) (left (i + 1))) (left (i + 1))
      span =
          let m : ℕ = more ls (is_blank_letter ls i) (left (i + 1)) in
          between_first i j ij
          ∙ ap (λ (x : ℕ). i ∷ between (i + 1) x) found
          ∙ ap (λ (x : Line). i ∷ x) (sym (take_between (i + 1) m (length ls) (omega arith)))

      pub go_kind : is_space_token ls (between i j) ≡ is_blank_letter ls i
      go_kind = ap (is_space_token ls) span ∙ kind_of_first i (left (i + 1))

      pub go_token : (f : Filling) → is_break (code_of ls i) ≡ false → onward f (left i) ≡ onward (put_token ls L f (between i j)) (left j)
      go_token f e =
          let m : ℕ = more ls (is_blank_letter ls i) (left (i + 1)) in
          ap (onward f) (between_first i (length ls) (omega arith))
          ∙ on_token f i (left (i + 1)) e
          ∙ ap₂ (λ (x y : Line). onward (put_token ls L f x) y) (sym span)
          (drop_between (i + 1) m (length ls) ∙ ap (λ (x : ℕ). left x) (sym found))
