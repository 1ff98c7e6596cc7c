-- THE LAW: at every limit the letters on lines have as many with ink as all letters (document 02, S-6).
use mathlib.Core.Path.{◌≡◌, ◌∙◌, refl, sym, ap}
use mathlib.Core.Bool.{Bool, true, false, cond, ◌&&◌, ◌||◌, not, and-false, true≢false, false≢true}
use mathlib.Core.List.{List, [], ◌∷◌, map, map-map, flatten}
use Prim.Native.Nat.{ℕ, zero, suc, ◌+◌}
use native.Mathlib.Omega.{arith}
use lib.Dec.{eqb, leb, ltb}
use lib.ListN.{length}
use borrow.Author.Tests.{eqb-true, leb-true, le-leb, le-ltb}
use Rattle.font.specs.Ink.{is_inked}
use Rattle.tape.specs.Runs.{Letter}
use Rattle.wrap.specs.Columns.{is_blank, is_break, is_control}
use Rattle.wrap.specs.Lines.{Line, up_from, letter_of, code_of, wrap_runs}
use Rattle.wrap.specs.Shown.{is_shown, shown, inked_letters}
use Rattle.wrap.specs.Laid.{inked_in}
use Rattle.wrap.proofs.AllShown.{all_shown}

-- ---- what is not shown has no ink

blank_bare : (c : ℕ) (a b : Bool) → eqb c 0x20 ≡ a → eqb c 0x09 ≡ b → (a || b) ≡ true → is_inked c ≡ false
blank_bare c true b p q e = ap is_inked (eqb-true c 0x20 p)
blank_bare c false true p q e = ap is_inked (eqb-true c 0x09 q)
blank_bare c false false p q e = absurd (false≢true e)

control_bare : (c : ℕ) (a b d : Bool) → leb c 0x1f ≡ a → leb 0x7f c ≡ b → leb c 0x9f ≡ d → (a || (b && d)) ≡ true → is_inked c ≡ false
control_bare c true b d p q r e = let h = leb-true c 0x1f p in simp (le-ltb 0x20 c (omega arith))
control_bare c false true true p q r e =
    let h = leb-true c 0x9f r in
    let inner : is_inked c ≡ (ltb 0x20 c && false) = simp (q, le-leb c 0xa0 (omega arith)) in
    inner ∙ and-false (ltb 0x20 c)
control_bare c false true false p q r e = absurd (false≢true e)
control_bare c false false d p q r e = absurd (false≢true e)

hidden_bare : (c : ℕ) → is_shown c ≡ false → is_inked c ≡ false
hidden_bare c e = by (is_blank c) (is_break c) (is_control c) refl refl refl e
  where
    by : (a b d : Bool) → is_blank c ≡ a → is_break c ≡ b → is_control c ≡ d → (not a && (not b && not d)) ≡ false → is_inked c ≡ false
    by true b d p q r e = blank_bare c (eqb c 0x20) (eqb c 0x09) refl refl p
    by false true d p q r e = ap is_inked (eqb-true c 0x0a q)
    by false false true p q r e = control_bare c (leb c 0x1f) (leb 0x7f c) (leb c 0x9f) refl refl refl r
    by false false false p q r e = absurd (true≢false e)

module _ (ls : List Letter) where
  shown_ink : (l : Line) → inked_in ls (shown ls l) ≡ inked_in ls l
  unfolding shown inked_letters
  shown_ink [] = refl
  shown_ink (k ∷ l) = by (is_shown (code_of ls k)) refl (shown_ink l)
    where
      by : (b : Bool) → is_shown (code_of ls k) ≡ b → inked_in ls (shown ls l) ≡ inked_in ls l
          → inked_in ls (cond b (k ∷ shown ls l) (shown ls l)) ≡ cond (is_inked (code_of ls k)) 1 0 + inked_in ls l
      by true p e = ap (λ (n : ℕ). cond (is_inked (code_of ls k)) 1 0 + n) e
      by false p e = rw (hidden_bare (code_of ls k) p) (e ∙ omega arith)

-- ---- all letters by their numbers

up_suc : (k n : ℕ) → up_from (suc k) n ≡ map suc (up_from k n)
unfolding up_from
up_suc k zero = refl
up_suc k (suc n) = ap (λ (l : Line). suc k ∷ l) (up_suc (suc k) n)

all_letters : (ls : List Letter) → map (letter_of ls) (up_from 0 (length ls)) ≡ ls
unfolding up_from
all_letters [] = refl
all_letters (l ∷ ls) =
    ap (λ (xs : List Letter). l ∷ xs)
    (ap (map (letter_of (l ∷ ls))) (up_suc 0 (length ls)) ∙ map-map (letter_of (l ∷ ls)) suc (up_from 0 (length ls)) ∙ all_letters ls)

pub all_inked : (ls : List Letter) (L : ℕ) → inked_in ls (flatten (wrap_runs ls L)) ≡ inked_letters ls
all_inked ls L =
    sym (shown_ink ls (flatten (wrap_runs ls L)))
    ∙ ap (inked_in ls) (all_shown ls L)
    ∙ shown_ink ls (up_from 0 (length ls))
    ∙ ap inked_letters (all_letters ls)
