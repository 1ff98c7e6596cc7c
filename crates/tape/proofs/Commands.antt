-- What single commands are, and how many letters they add.
use mathlib.Core.Path.{◌≡◌, ◌∙◌, refl, sym, ap}
use mathlib.Core.Bool.{Bool, true, false, cond}
use mathlib.Core.List.{List, [], ◌∷◌}
use Prim.Native.Nat.{ℕ, zero, suc, ◌≤◌, ◌<◌}
use native.Mathlib.Omega.{arith}
use borrow.Author.Tests.{leb-true, leb-false, le-leb, lt-leb, ne_eqb}
use lib.Dec.{leb, eqb}
use lib.ListN.{length}
use Rattle.std.specs.Prelude.{Option}
use Rattle.tape.specs.declared.Style.{Style}
use Rattle.tape.specs.Style.{Opener}
use Rattle.tape.specs.Command.{code_point, is_letter, is_opener, added, Command, shows, opens, names, time_mark, opener_of, command_of}
use Rattle.tape.specs.Runs.{Run}
use Rattle.tape.specs.Tape.{says}
use Rattle.tape.specs.Marks.{marked}
use Rattle.std.proofs.lemmas.Bool.{and_parts}

-- from 06 on a command is an opener, a voice or a time mark
from_six : (c : ℕ) (rest : List ℕ) → 6 ≤ c
    → command_of c rest ≡ cond (eqb c 9) names (cond (eqb c 11) time_mark (opens (opener_of c rest)))
unfolding command_of is_letter
from_six c rest h =
    rw (
      ne_eqb c 0 (λ e. omega arith),
      ne_eqb c 1 (λ e. omega arith),
      le-leb 2 c (omega arith),
      lt-leb c 4 (omega arith),
      ne_eqb c 5 (λ e. omega arith),
    )

-- which adds no letter
silent : (v m : Bool) (o : Opener) (naming : Bool) (s : Style) → says (cond v names (cond m time_mark (opens o))) s naming ≡ []
silent true m o naming s = refl
silent false true o naming s = refl
silent false false o naming s = refl

from_six_adds : (c : ℕ) (naming : Bool) → 6 ≤ c → 0 ≡ added naming c
unfolding added
from_six_adds c naming h = rw (le-leb 2 c (omega arith), lt-leb c 5 (omega arith), ne_eqb c 0 (λ e. omega arith))

-- a command adds as many letters as its runs have
pub says_added : (c : ℕ) (rest : List ℕ) (naming : Bool) (l : Option Style) (s : Style)
    → length (marked l (says (command_of c rest) s naming)) ≡ added naming c
unfolding command_of added is_letter
says_added zero rest true l s = refl
says_added zero rest false l s = refl
says_added (suc zero) rest naming l s = refl
says_added (suc (suc zero)) rest naming l s = refl
says_added (suc (suc (suc zero))) rest naming l s = refl
says_added (suc (suc (suc (suc zero)))) rest naming l s = refl
says_added (suc (suc (suc (suc (suc zero))))) rest naming l s = refl
says_added (suc (suc (suc (suc (suc (suc k)))))) rest naming l s =
    let c : ℕ = suc (suc (suc (suc (suc (suc k))))) in
    ap (λ (x : Command). length (marked l (says x s naming))) (from_six c rest (omega arith))
    ∙ ap (λ (x : List Run). length (marked l x)) (silent (eqb c 9) (eqb c 11) (opener_of c rest) naming s)
    ∙ from_six_adds c naming (omega arith)

-- ---- what is no opener

not_open : (c : ℕ) → is_opener c ≡ false → 6 ≤ c → c ≤ 10 → ⊥
unfolding is_opener
not_open c o h k =
    let e : is_opener c ≡ true = rw (le-leb 6 c h, le-leb c 10 k) in
    let z : true ≡ false = sym e ∙ o in
    let w : ◌≡◌ {A = ℕ} 0 1 = cc in
    omega arith

-- a command that is not 00, 01, 05, 0B or an opener is a letter
pub else_letter : (c : ℕ) → c < 12 → 0 < c → is_opener c ≡ false → (c ≡ 1 → ⊥) → (c ≡ 5 → ⊥) → (c ≡ 11 → ⊥) → is_letter c ≡ true
unfolding is_letter
else_letter c h z o a b e = go (leb c 5) refl
  where
    go : (t : Bool) → leb c 5 ≡ t → is_letter c ≡ true
    go true p =
        let five = leb-true c 5 p in
        rw (le-leb 2 c (omega (arith, a)), le-leb c 4 (omega (arith, b)))
    go false p = let six = leb-false c 5 p in absurd (not_open c o six (omega (arith, e)))

pub letter_range : (c : ℕ) → is_letter c ≡ true → (2 ≤ c) × (c ≤ 4)
unfolding is_letter
letter_range c e = let p = and_parts (leb 2 c) (leb c 4) e in (leb-true 2 c p.0, leb-true c 4 p.1)

pub letter_command : (c : ℕ) (rest : List ℕ) → is_letter c ≡ true → command_of c rest ≡ shows (code_point c rest ∷ [])
unfolding command_of
letter_command c rest e =
    let r = letter_range c e in
    rw (ne_eqb c 0 (λ z. omega arith), ne_eqb c 1 (λ z. omega arith), e)

pub letter_adds : (c : ℕ) (naming : Bool) → is_letter c ≡ true → added naming c ≡ 1
unfolding added is_letter
letter_adds c naming e =
    let r = letter_range c e in
    rw (le-leb 2 c r.0, le-leb c 5 (omega arith))

-- outside of a name, and behind its 00, no command adds two
pub added_either : (c : ℕ) (naming : Bool) → 0 < c → added naming c ≡ added false c
unfolding added
added_either c naming h = rw (ne_eqb c 0 (λ e. omega arith))

pub letter_flat : (c : ℕ) → is_letter c ≡ true → is_opener c ≡ false
unfolding is_opener is_letter
letter_flat c e =
    let r = letter_range c e in
    rw (lt-leb 6 c (omega arith))

-- ---- openers

pub opener_range : (c : ℕ) → is_opener c ≡ true → (6 ≤ c) × (c ≤ 10)
unfolding is_opener
opener_range c e =
    (leb-true 6 c (and_parts (leb 6 c) (leb c 10) e).0, leb-true c 10 (and_parts (leb 6 c) (leb c 10) e).1)

pub open_command : (c : ℕ) (rest : List ℕ) → is_opener c ≡ true → (c ≡ 9 → ⊥) → command_of c rest ≡ opens (opener_of c rest)
open_command c rest o h =
    let r = opener_range c o in
    from_six c rest r.0 ∙ rw (ne_eqb c 9 h, ne_eqb c 11 (λ e. omega arith))
