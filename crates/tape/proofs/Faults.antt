-- The table of faults, test by test, and what a command without a fault has.
use mathlib.Core.Path.{◌≡◌, refl}
use mathlib.Core.Bool.{Bool, true, false, cond, not, ◌&&◌, ◌||◌}
use mathlib.Core.List.{List, [], ◌∷◌}
use Prim.Native.Nat.{ℕ, zero, suc, ◌+◌, ◌≤◌, ◌<◌}
use native.Mathlib.Omega.{arith}
use borrow.Author.Tests.{leb-true, le-leb, lt-leb, le-ltb, ltb-false, eq-eqb, ne_eqb, eqb-false}
use lib.Dec.{T, lit≤, leb, leb→le, ltb, ltb→lt, eqb}
use lib.Ieee.Fits.{and_l, and_r}
use lib.ListN.{length}
use Rattle.std.proofs.lemmas.Bool.{and_parts}
use Rattle.tape.specs.Outcome.{accepted, refused, unless}
use Rattle.tape.specs.Command.{deepest, most_letters, operand_width, code_point, is_letter, is_opener, is_scalar, added, fault_tests, first_of, fault_of}

-- the test of a number in a table
abbrev test_of : ℕ → List (ℕ × Bool) → Bool
test_of k [] = false
test_of k (t ∷ ts) = cond (eqb t.0 k) t.1 (test_of k ts)

-- the numbers of a table are from 1 to 7
abbrev numbered : List (ℕ × Bool) → Bool
numbered [] = true
numbered (t ∷ ts) = (ltb 0 t.0 && leb t.0 7) && numbered ts

cond_most : (b : Bool) (x y : ℕ) → x ≤ 7 → y ≤ 7 → cond b x y ≤ 7
cond_most true x y h k = h
cond_most false x y h k = k

cond_zero : (b : Bool) (x y : ℕ) → 0 < x → cond b x y ≡ 0 → (b ≡ false) × (y ≡ 0)
cond_zero true x y h e = absurd (omega arith)
cond_zero false x y h e = (refl, e)

cond_false : (b x y : Bool) → x ≡ false → y ≡ false → cond b x y ≡ false
cond_false true x y h k = h
cond_false false x y h k = k

first_most : (ts : List (ℕ × Bool)) → T (numbered ts) → first_of ts ≤ 7
first_most [] h = lit≤ tt
first_most (t ∷ ts) h =
    let one = and_l (ltb 0 t.0 && leb t.0 7) (numbered ts) h in
    cond_most t.1 t.0 (first_of ts) (leb→le t.0 7 (and_r (ltb 0 t.0) (leb t.0 7) one))
    (first_most ts (and_r (ltb 0 t.0 && leb t.0 7) (numbered ts) h))

-- where the first number is 0, no test holds
none_holds : (ts : List (ℕ × Bool)) → T (numbered ts) → first_of ts ≡ 0 → (k : ℕ) → test_of k ts ≡ false
none_holds [] h e k = refl
none_holds (t ∷ ts) h e k =
    let one = and_l (ltb 0 t.0 && leb t.0 7) (numbered ts) h in
    let z = cond_zero t.1 t.0 (first_of ts) (ltb→lt 0 t.0 (and_l (ltb 0 t.0) (leb t.0 7) one)) e in
    cond_false (eqb t.0 k) t.1 (test_of k ts) z.0
    (none_holds ts (and_r (ltb 0 t.0 && leb t.0 7) (numbered ts) h) z.1 k)

-- no test of the table holds
pub record Clean (naming : Bool) (depth n c : ℕ) (rest : List ℕ) : Type 0 where
  pub known : c < 12
  pub plain : (naming && not (eqb c 0 || is_letter c)) ≡ false
  pub shallow : (is_opener c && eqb depth deepest) ≡ false
  pub whole : operand_width c ≤ length rest
  pub scalar : (is_letter c && not (is_scalar (code_point c rest))) ≡ false
  pub few : n + added naming c ≤ most_letters
  pub nested : (eqb c 0 && (not naming && eqb depth 0)) ≡ false

module _ (naming : Bool) (depth n c : ℕ) (rest : List ℕ) where
  pub fault_most : fault_of naming depth n c rest ≤ 7
  unfolding fault_of
  fault_most = first_most (fault_tests naming depth n c rest) tt

  pub clean : fault_of naming depth n c rest ≡ 0 → Clean naming depth n c rest
  unfolding fault_of
  clean e =
      let no : (k : ℕ) → test_of k (fault_tests naming depth n c rest) ≡ false = none_holds (fault_tests naming depth n c rest) tt e in
      let known = ltb-false 11 c (no 1) in
      record {
        known = omega arith;
        plain = no 7;
        shallow = no 5;
        whole = ltb-false (length rest) (operand_width c) (no 2);
        scalar = no 4;
        few = ltb-false most_letters (n + added naming c) (no 6);
        nested = no 3;
      }

  -- and the other way round
  pub no_fault : Clean naming depth n c rest → fault_of naming depth n c rest ≡ 0
  unfolding fault_of
  no_fault ok =
      let known : c ≤ 11 = omega arith in
      rw (
        le-ltb 11 c known,
        ok.plain,
        ok.shallow,
        le-ltb (length rest) (operand_width c) ok.whole,
        ok.scalar,
        le-ltb most_letters (n + added naming c) ok.few,
        ok.nested,
      )

-- a list that a 00 ends is not the outer one
pub not_outer : {naming : Bool} {depth n c : ℕ} {rest : List ℕ} → Clean naming depth n c rest → c ≡ 0 → naming ≡ false → depth ≡ 0 → ⊥
not_outer {depth = depth} {c = c} ok e f d = eqb-false depth 0 (rw (eq-eqb c 0 e, f) at ok.nested) d

-- a list that opens is not too deep
pub not_deepest : {naming : Bool} {depth n c : ℕ} {rest : List ℕ} → Clean naming depth n c rest → is_opener c ≡ true → depth ≡ deepest → ⊥
not_deepest {depth = depth} ok o d = eqb-false depth deepest (rw o at ok.shallow) d

-- a name holds no opener
pub opens_in_list : (naming : Bool) {depth n c : ℕ} {rest : List ℕ} → Clean naming depth n c rest → is_opener c ≡ true → naming ≡ false
unfolding is_opener is_letter
opens_in_list true {c = c} ok o =
    let six = leb-true 6 c (and_parts (leb 6 c) (leb c 10) o).0 in
    rw (ne_eqb c 0 (λ e. omega arith), le-leb 2 c (omega arith), lt-leb c 4 (omega arith)) at ok.plain
opens_in_list false ok o = refl

-- ---- a command that is checked

-- what a check comes to whose first fault is f
pub passed_check : (f place : ℕ) {u : Unit {0}} → accepted u ≡ unless f place (accepted tt) → f ≡ 0
passed_check zero place e = refl
passed_check (suc f) place e = let z : ◌≡◌ {A = ℕ} 0 1 = cc in absurd (omega arith)

pub record Fault (f place number at : ℕ) : Type 0 where
  pub is : number ≡ f
  pub some : number ≡ 0 → ⊥
  pub there : at ≡ place

pub failed_check : (f place : ℕ) {number at : ℕ} → refused number at ≡ unless {A = Unit {0}} f place (accepted tt) → Fault f place number at
failed_check zero place e = let z : ◌≡◌ {A = ℕ} 0 1 = cc in absurd (omega arith)
failed_check (suc f) place {number = number} e =
    let is : number ≡ suc f = cc in
    record { is = is; some = λ z. omega arith; there = cc }
