-- Letters of one byte: they have no fault, and storing one reads it. Leaves without a fault, of which they are one.
use mathlib.Core.Path.{◌≡◌, refl, sym, ap, subst}
use mathlib.Core.Bool.{Bool, true, false, ◌&&◌, ◌||◌, and-false}
use mathlib.Core.List.{List, [], ◌∷◌}
use Prim.Native.Nat.{ℕ, ◌+◌, ◌*◌, ◌≤◌, ◌<◌}
use native.Mathlib.Omega.{arith}
use borrow.Author.Tests.{ltb-true, leb-true, eqb-true, lt-ltb, lt-leb}
use lib.Dec.{leb, ltb, eqb}
use lib.ListN.{length, get_or, length-drop}
use Rattle.tape.specs.declared.Style.{Style}
use Rattle.tape.specs.declared.State.{State}
use Rattle.tape.specs.Command.{most_letters, operand_width, code_point, is_letter, is_opener, is_scalar, added, fault_of, shows, command_of}
use Rattle.tape.specs.Runs.{run}
use Rattle.tape.specs.Reading.{byte_at, rest_at, byte_of, rest_of, place_after, Wrote, Sound, short_letter, is_kind, leaf_at, WentOn}
use Rattle.tape.proofs.Faults.{Clean, no_fault}
use Rattle.tape.proofs.Operands.{spells_1}
use Rattle.std.proofs.lemmas.Bool.{and_parts}
use Rattle.tape.proofs.TapeParts.{went_command}

-- what such a letter has
pub record ShortLetter (tape : List ℕ) (at count : ℕ) : Type 0 where
  pub letter : byte_at tape at ≡ 0x02
  pub whole : at + operand_width 0x02 < length tape
  pub room : count < most_letters

pub short_letter_lem : (tape : List ℕ) (at count : ℕ) → short_letter tape at count ≡ true → ShortLetter tape at count
unfolding short_letter
short_letter_lem tape at count e =
    let p = and_parts (eqb (byte_at tape at) 0x02) (leb (operand_width 0x02) (length (rest_at tape at)) && ltb count most_letters) e in
    let q = and_parts (leb (operand_width 0x02) (length (rest_at tape at))) (ltb count most_letters) p.1 in
    let whole = leb-true (operand_width 0x02) (length (rest_at tape at)) q.0 in
    let n = length-drop (at + 1) tape in
    record { letter = eqb-true (byte_at tape at) 0x02 p.0; whole = omega arith; room = ltb-true count most_letters q.1 }

short_clean : (naming : Bool) (depth n : ℕ) (rest : List ℕ) → operand_width 0x02 ≤ length rest → code_point 2 rest < 256 → n < most_letters → Clean naming depth n 2 rest
unfolding is_letter is_opener is_scalar added
short_clean naming depth n rest h v few =
    record {
      known = omega arith;
      plain = and-false naming;
      shallow = refl;
      whole = h;
      scalar = rw (lt-ltb (code_point 2 rest) 0xd800 (omega arith));
      few = omega arith;
      nested = refl;
    }

module _ (tape ws : List ℕ) (a : State) (short : ShortLetter tape a.at a.count) (byte : get_or tape (a.at + 1) 0 < 256)
    (space : 8 * most_letters ≤ length ws) where
  is_code : code_point 0x02 (rest_of tape a) ≡ get_or tape (a.at + 1) 0
  unfolding code_point
  is_code = spells_1 tape a.at short.whole

  sound : (naming : Bool) (depth : ℕ) → Sound tape ws a naming depth
  sound naming depth =
      let whole = short.whole in
      let n = length-drop (a.at + 1) tape in
      let v = is_code in
      let clean = short_clean naming depth a.count (rest_of tape a) (omega arith) (omega arith) short.room in
      record { inside = omega arith; clear = rw short.letter (no_fault naming depth a.count 2 (rest_of tape a) clean); space = space }

  is_text : command_of (byte_of tape a) (rest_of tape a) ≡ shows (get_or tape (a.at + 1) 0 ∷ [])
  unfolding command_of is_letter
  is_text = rw short.letter (ap (λ (v : ℕ). shows (v ∷ [])) is_code)

  ends_at : a.at + 1 + operand_width 0x02 ≡ place_after tape a
  ends_at = ap (λ (c : ℕ). a.at + 1 + operand_width c) (sym short.letter)

  pub short_read : (s : Style) {ws' : List ℕ} {b : State}
      → Wrote ws ws' a b (run s (get_or tape (a.at + 1) 0 ∷ []) ∷ []) (a.at + 1 + operand_width 0x02)
      → WentOn tape ws ws' s a b
  short_read s {ws'} {b} w naming depth =
      went_command tape depth naming s (shows (get_or tape (a.at + 1) 0 ∷ [])) (sound naming depth) is_text
      (subst (λ (p : ℕ). Wrote ws ws' a b (run s (get_or tape (a.at + 1) 0 ∷ []) ∷ []) p) ends_at w)

-- so such a letter is shown
pub short_shown : (tape : List ℕ) (naming : Bool) (depth at count : ℕ) → get_or tape (at + 1) 0 < 256 → short_letter tape at count ≡ true
    → leaf_at tape true naming depth at count ≡ true
unfolding code_point
short_shown tape naming depth at count byte e =
    let short = short_letter_lem tape at count e in
    let whole = short.whole in
    let n = length-drop (at + 1) tape in
    let v = spells_1 tape at short.whole in
    let clean = short_clean naming depth count (rest_at tape at) (omega arith) (omega arith) short.room in
    rw (short.letter, no_fault naming depth count 2 (rest_at tape at) clean) refl

-- a leaf neither opens nor ends anything
kind_parts : (shown : Bool) (c : ℕ) → is_kind shown c ≡ true → (0 < c) × (is_opener c ≡ false)
unfolding is_opener
kind_parts true c e =
    let p = and_parts (leb 0x02 c) (leb c 0x05) e in
    let least = leb-true 0x02 c p.0 in
    let most = leb-true c 0x05 p.1 in
    (omega arith, rw (lt-leb 0x06 c (omega arith)) refl)
kind_parts false c e = one (eqb c 0x01) refl e
  where
    one : (t : Bool) → eqb c 0x01 ≡ t → (t || eqb c 0x0b) ≡ true → (0 < c) × (is_opener c ≡ false)
    one true f h = let is = eqb-true c 0x01 f in (omega arith, rw is refl)
    one false f h = let is = eqb-true c 0x0b h in (omega arith, rw is refl)

pub record LeafAt (tape : List ℕ) (naming : Bool) (depth at count : ℕ) : Type 0 where
  pub some : 0 < byte_at tape at
  pub flat : is_opener (byte_at tape at) ≡ false
  pub clear : fault_of naming depth count (byte_at tape at) (rest_at tape at) ≡ 0

pub leaf_at_lem : (tape : List ℕ) (shown naming : Bool) (depth at count : ℕ) → leaf_at tape shown naming depth at count ≡ true → LeafAt tape naming depth at count
leaf_at_lem tape shown naming depth at count e =
    let p = and_parts (is_kind shown (byte_at tape at)) (eqb (fault_of naming depth count (byte_at tape at) (rest_at tape at)) 0) e in
    let k = kind_parts shown (byte_at tape at) p.0 in
    record { some = k.0; flat = k.1; clear = eqb-true _ 0 p.1 }
