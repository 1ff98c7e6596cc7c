-- THE LAW: the numbers on lines are some of the letters', each once and in order. So each is a letter's, and they are
-- no more than the letters.
use mathlib.Core.Path.{◌≡◌, ◌∙◌, refl, sym, ap, subst}
use mathlib.Core.Bool.{◌&&◌, not}
use mathlib.Core.List.Sublistᴰ
use mathlib.Core.List.{List, [], ◌∷◌, ◌++◌, map, flatten, append_assoc, append-nil, Sublistᴰ}
use Prim.Native.Nat.{ℕ, zero, suc, ◌+◌, ◌<◌, ◌≤◌}
use native.Mathlib.Omega.{arith}
use lib.Dec.{eqb}
use lib.ListN.{length, get_or}
use Rattle.tape.specs.Runs.{Letter}
use Rattle.wrap.specs.Columns.{is_break, is_space}
use Rattle.wrap.specs.Lines.{Line, Filling, up_from, onto_first, keep, without_last, code_of, visible_cols, logical_lines, tokenise, is_space_token, no_lines, close, has_columns, add_or_break, passes, put_token, put_tokens, fill, filled, trim_trailing_space, wrap_runs}
use Rattle.wrap.proofs.Lists.{cases, last_all, length_up}
use Rattle.wrap.proofs.AllShown.{laid, close_laid, add_or_break_laid, tokens_all}

-- the library's sublists: a is what is left of b when some go
abbrev pub SomeOf : List ℕ → List ℕ → Type 0
SomeOf a b = Sublistᴰ a b

kept : {k : ℕ} {a b : List ℕ} → SomeOf a b → SomeOf (k ∷ a) (k ∷ b)
kept p = Sublistᴰ.cons-cons refl p

pub some_length : {a b : List ℕ} → SomeOf a b → length a ≤ length b
some_length Sublistᴰ.slnil = omega arith
some_length (Sublistᴰ.cons p) = let n = some_length p in omega arith
some_length (Sublistᴰ.cons-cons e p) = let n = some_length p in omega arith

-- ---- numbers below n

unfoldable Below : ℕ → List ℕ → Type 0
Below n [] = Unit
Below n (k ∷ ks) = (k < n) × Below n ks

module _ (n : ℕ) where
  some_below : {a b : List ℕ} → SomeOf a b → Below n b → Below n a
  unfolding Below
  some_below Sublistᴰ.slnil q = q
  some_below (Sublistᴰ.cons p) q = some_below p q.1
  some_below (Sublistᴰ.cons-cons e p) q = let h = q.0 in (omega arith, some_below p q.1)

  below_up : (k m : ℕ) → k + m ≤ n → Below n (up_from k m)
  unfolding Below up_from
  below_up k zero h = tt
  below_up k (suc m) h = (omega arith, below_up (suc k) m (omega arith))

  below_at : (l : List ℕ) (j : ℕ) → j < length l → Below n l → get_or l j 0 < n
  unfolding Below
  below_at [] j h p = absurd (omega arith)
  below_at (k ∷ l) zero h p = p.0
  below_at (k ∷ l) (suc j) h p = below_at l j (omega arith) p.1

module _ (ls : List Letter) where
  -- ---- logical lines: breaks go

  onto : (k : ℕ) (lines : List Line) {ks : Line} → SomeOf (flatten lines) ks → SomeOf (flatten (onto_first k lines)) (k ∷ ks)
  unfolding flatten
  onto k [] p = kept p
  onto k (l ∷ lines) p = kept p

  logical : (ks : Line) → SomeOf (flatten (logical_lines ls ks)) ks
  unfolding flatten logical_lines
  logical [] = Sublistᴰ.slnil
  logical (k ∷ ks) =
      cases (λ (x : List Line). SomeOf (flatten x) (k ∷ ks)) (is_break (code_of ls k)) _ _
      (λ _. Sublistᴰ.cons (logical ks))
      (λ _. onto k (logical_lines ls ks) (logical ks))

  -- ---- filling: a token goes, or is laid whole

  -- what is laid is some of what came
  abbrev From : Filling → Line → Type 0
  From f came = SomeOf (laid ls f) came

  module _ (L : ℕ) where
    token_from : (f : Filling) (t came : Line) → From f came → From (put_token ls L f t) (came ++ t)
    unfolding put_token
    token_from f t came p =
        let drops : (g : Filling) → laid ls g ≡ laid ls f → From g (came ++ t) =
        λ g e. subst (λ (x : Line). SomeOf x (came ++ t)) (append-nil (laid ls f) ∙ sym e) (Sublistᴰ.append p (Sublistᴰ.nil-sublist t)) in
        let lays : (g : Filling) → laid ls g ≡ laid ls f → From (add_or_break ls L g t) (came ++ t) =
        λ g e. subst (λ (x : Line). SomeOf x (came ++ t)) (sym (add_or_break_laid ls L g t ∙ ap (λ (x : Line). x ++ t) e)) (Sublistᴰ.append p (Sublistᴰ.refl t)) in
        let P : Filling → Type 0 = λ g. From g (came ++ t) in
        cases P (eqb (visible_cols ls t) 0) _ _ (λ _. drops f refl)
        (λ _. cases P (is_space_token ls t && not (has_columns ls L f)) _ _ (λ _. drops f refl)
        (λ _. cases P (passes ls L f t) _ _
        (λ _. cases P (is_space_token ls t) _ _ (λ _. drops (close f) (close_laid ls f)) (λ _. lays (close f) (close_laid ls f)))
        (λ _. lays f refl)))

    tokens_from : (ts : List Line) (f : Filling) (came : Line) → From f came → From (put_tokens ls L f ts) (came ++ flatten ts)
    unfolding put_tokens flatten
    tokens_from [] f came p = subst (SomeOf (laid ls f)) (sym (append-nil came)) p
    tokens_from (t ∷ ts) f came p =
        subst (SomeOf _) (append_assoc came t (flatten ts)) (tokens_from ts (put_token ls L f t) (came ++ t) (token_from f t came p))

    fill_from : (lines : List Line) (f : Filling) (came : Line) → From f came → From (fill ls L f lines) (came ++ flatten lines)
    unfolding fill flatten
    fill_from [] f came p = subst (SomeOf (laid ls f)) (sym (append-nil came)) p
    fill_from (l ∷ lines) f came p =
        let g : Filling = put_tokens ls L f (tokenise ls l) in
        let put : From g (came ++ l) = subst (λ (x : Line). From g (came ++ x)) (tokens_all ls L l) (tokens_from (tokenise ls l) f came p) in
        let closed : From (close g) (came ++ l) = subst (λ (x : Line). SomeOf x (came ++ l)) (sym (close_laid ls g)) put in
        subst (SomeOf _) (append_assoc came l (flatten lines)) (fill_from lines (close g) (came ++ l) closed)

  -- ---- trailing spaces go

  keep_some : (k : ℕ) (l m : Line) → SomeOf m l → SomeOf (keep (λ i. is_space (code_of ls i)) k m) (k ∷ l)
  keep_some k l [] p = cases (λ (x : Line). SomeOf x (k ∷ l)) (is_space (code_of ls k)) _ _ (λ _. Sublistᴰ.cons p) (λ _. kept p)
  keep_some k l (x ∷ m) p = kept p

  trim_some : (l : Line) → SomeOf (trim_trailing_space ls l) l
  unfolding without_last
  trim_some [] = Sublistᴰ.slnil
  trim_some (k ∷ l) = keep_some k l (trim_trailing_space ls l) (trim_some l)

  trims_some : (r : List Line) → SomeOf (flatten (map (trim_trailing_space ls) r)) (flatten r)
  unfolding flatten
  trims_some [] = Sublistᴰ.slnil
  trims_some (l ∷ r) = Sublistᴰ.append (trim_some l) (trims_some r)

  -- ---- the lines

  pub once : (L : ℕ) → SomeOf (flatten (wrap_runs ls L)) (up_from 0 (length ls))
  unfolding wrap_runs laid flatten
  once L =
      let numbers : Line = up_from 0 (length ls) in
      let r : List Line = (filled ls L).closed in
      let trimmed = trims_some r in
      let lines = subst (λ (x : Line). SomeOf x (flatten r)) (sym (last_all (map (trim_trailing_space ls) r))) trimmed in
      let closed : SomeOf (flatten r) (flatten r ++ (filled ls L).line) =
      subst (λ (x : Line). SomeOf x (flatten r ++ (filled ls L).line)) (append-nil (flatten r)) (Sublistᴰ.append (Sublistᴰ.refl (flatten r)) (Sublistᴰ.nil-sublist (filled ls L).line)) in
      Sublistᴰ.trans lines
      (Sublistᴰ.trans closed (Sublistᴰ.trans (fill_from L (logical_lines ls numbers) no_lines [] Sublistᴰ.slnil) (logical numbers)))

  pub known : (L j : ℕ) → j < length (flatten (wrap_runs ls L)) → get_or (flatten (wrap_runs ls L)) j 0 < length ls
  known L j h =
      below_at (length ls) (flatten (wrap_runs ls L)) j h (some_below (length ls) (once L) (below_up (length ls) 0 (length ls) (omega arith)))

  pub few_letters : (L : ℕ) → length (flatten (wrap_runs ls L)) ≤ length ls
  few_letters L = let n = some_length (once L) in let m = length_up 0 (length ls) in omega arith
