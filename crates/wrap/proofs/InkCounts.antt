-- How many letters with ink lines have, and the totals of lines.
use mathlib.Core.Path.{◌≡◌, ◌∙◌, refl, sym, ap}
use mathlib.Core.Bool.{Bool, true, false, cond, ◌&&◌, not, false≢true}
use mathlib.Core.List.{List, [], ◌∷◌, ◌++◌, map, map-append, flatten, append-nil}
use Prim.Native.Nat.{ℕ, zero, suc, ◌+◌, ◌≤◌, ◌<◌}
use native.Mathlib.Omega.{arith}
use lib.Dec.{eqb, leb, ltb}
use lib.ListN.{length, get_or, take}
use borrow.Author.Tests.{eqb-true, ltb-true, leb-false, lt-leb}
use Rattle.font.specs.Ink.{is_inked}
use Rattle.tape.specs.Runs.{Letter}
use Rattle.wrap.specs.Columns.{is_space, columns_of}
use Rattle.wrap.specs.Lines.{Line, letter_of, code_of, keep, without_last, trim_trailing_space}
use Rattle.wrap.specs.Shown.{inked_letters}
use Rattle.wrap.specs.Laid.{inked_in, inked_totals}
use Rattle.wrap.proofs.Lists.{cases}

pub one_ink : (c : ℕ) → cond (is_inked c) 1 0 ≤ 1
one_ink c = cases (λ (n : ℕ). n ≤ 1) (is_inked c) 1 0 (λ _. omega arith) (λ _. omega arith)

-- a letter with ink has a column
pub inked_column : (c : ℕ) → is_inked c ≡ true → columns_of c ≡ 1
inked_column c e = by (ltb 0x20 c) (leb 0x7f c) (leb c 0xa0) refl refl refl e
  where
    by : (a b d : Bool) → ltb 0x20 c ≡ a → leb 0x7f c ≡ b → leb c 0xa0 ≡ d → (a && (not (b && d) && not (eqb c 0xad))) ≡ true → columns_of c ≡ 1
    by false b d p q r t = absurd (false≢true t)
    by true true true p q r t = absurd (false≢true t)
    by true true false p q r t = let h = leb-false c 0xa0 r in simp (lt-leb c 0x1f (omega arith), lt-leb c 0x9f (omega arith), q)
    by true false d p q r t = let h = ltb-true 0x20 c p in simp (lt-leb c 0x1f (omega arith), q)

-- of letters no more have ink than there are
pub inked_few : (ls : List Letter) → inked_letters ls ≤ length ls
unfolding inked_letters
inked_few [] = omega arith
inked_few (l ∷ ls) = let rest = inked_few ls in let one = one_ink l.code in omega arith

pub inked_append : (a b : List Letter) → inked_letters (a ++ b) ≡ inked_letters a + inked_letters b
unfolding inked_letters
inked_append [] b = omega arith
inked_append (l ∷ a) b = let rest = inked_append a b in omega arith

module _ (ls : List Letter) where
  pub ink_append : (a b : Line) → inked_in ls (a ++ b) ≡ inked_in ls a + inked_in ls b
  ink_append a b = ap inked_letters (map-append (letter_of ls) a b) ∙ inked_append (map (letter_of ls) a) (map (letter_of ls) b)

  -- spaces have none
  keep_ink : (k : ℕ) (l : Line) → inked_in ls (keep (λ k. is_space (code_of ls k)) k l) ≡ inked_in ls (k ∷ l)
  unfolding inked_letters
  keep_ink k [] = cases (λ (l : Line). inked_in ls l ≡ inked_in ls (k ∷ [])) (is_space (code_of ls k)) [] (k ∷ []) (λ e. rw (eqb-true (code_of ls k) 0x20 e) refl) (λ _. refl)
  keep_ink k (m ∷ l) = refl

  pub trim_ink : (l : Line) → inked_in ls (trim_trailing_space ls l) ≡ inked_in ls l
  unfolding without_last inked_letters
  trim_ink [] = refl
  trim_ink (k ∷ l) = keep_ink k (trim_trailing_space ls l) ∙ ap (λ (n : ℕ). cond (is_inked (code_of ls k)) 1 0 + n) (trim_ink l)

  -- ---- totals

  pub length_totals : (n : ℕ) (r : List Line) → length (inked_totals ls n r) ≡ length r
  unfolding inked_totals
  length_totals n [] = refl
  length_totals n (l ∷ r) = ap suc (length_totals (n + inked_in ls l) r)

  pub totals_snoc : (n : ℕ) (r : List Line) (l : Line) → inked_totals ls n (r ++ (l ∷ [])) ≡ inked_totals ls n r ++ ((n + inked_in ls (flatten r) + inked_in ls l) ∷ [])
  unfolding inked_totals inked_letters flatten
  totals_snoc n [] l = let e : n + inked_in ls l ≡ n + 0 + inked_in ls l = omega arith in rw e
  totals_snoc n (m ∷ r) l =
      let e : n + inked_in ls m + inked_in ls (flatten r) ≡ n + inked_in ls (m ++ flatten r) = let q = ink_append m (flatten r) in omega arith in
      rw (totals_snoc (n + inked_in ls m) r l, e)

  pub take_totals : (k n : ℕ) (r : List Line) → take k (inked_totals ls n r) ≡ inked_totals ls n (take k r)
  unfolding inked_totals
  take_totals zero n r = refl
  take_totals (suc k) n [] = refl
  take_totals (suc k) n (l ∷ r) = ap (λ (x : List ℕ). (n + inked_in ls l) ∷ x) (take_totals k (n + inked_in ls l) r)

  -- line i's
  pub totals_at : (n : ℕ) (r : List Line) (i : ℕ) → i < length r → get_or (inked_totals ls n r) i 0 ≡ n + inked_in ls (flatten (take (suc i) r))
  unfolding inked_totals flatten
  totals_at n [] i h = absurd (omega arith)
  totals_at n (l ∷ r) zero h = ap (λ (x : Line). n + inked_in ls x) (sym (append-nil l))
  totals_at n (l ∷ r) (suc i) h = let e = totals_at (n + inked_in ls l) r i (omega arith) in let q = ink_append l (flatten (take (suc i) r)) in e ∙ omega arith
