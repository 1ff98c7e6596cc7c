-- Commands that neither open nor end anything.
use mathlib.Core.Path.{◌≡◌, refl}
use mathlib.Core.Logic.{◌⊎◌, inl, inr, ⊎_elim}
use mathlib.Core.Bool.{Bool, true, false}
use mathlib.Core.List.{List, [], ◌∷◌}
use Prim.Native.Nat.{ℕ, ◌+◌, ◌<◌}
use native.Mathlib.Omega.{arith}
use borrow.Author.Tests.{eqb-true, eqb-false}
use lib.Dec.{eqb}
use lib.ListN.{length-drop}
use Rattle.tape.specs.declared.Style.{Style}
use Rattle.tape.specs.declared.State.{State}
use Rattle.tape.specs.Command.{code_point, is_letter, is_opener, Command, shows, time_mark, command_of}
use Rattle.tape.specs.Tape.{frame, says}
use Rattle.tape.specs.Reading.{Wrote, byte_of, rest_of, place_after, Sound, Leaf, Went}
use Rattle.tape.proofs.Commands.{else_letter, letter_command, added_either}
use Rattle.tape.proofs.Faults.{Clean, clean}
use Rattle.tape.proofs.TapeParts.{went_command}

-- such a command is a text or a time mark
abbrev Quiet : Command → Type 0
Quiet cm = ((vs : List ℕ) × (cm ≡ shows vs)) ⊎ (cm ≡ time_mark)

quiet : (c : ℕ) (rest : List ℕ) → c < 12 → 0 < c → is_opener c ≡ false → Quiet (command_of c rest)
unfolding command_of is_letter
quiet c rest h z o = one (eqb c 1) refl
  where
    eleven : (eqb c 1 ≡ false) → (eqb c 5 ≡ false) → (t : Bool) → eqb c 11 ≡ t → Quiet (command_of c rest)
    eleven a b true e = inr (rw (eqb-true c 11 e))
    eleven a b false e =
        inl (code_point c rest ∷ [], letter_command c rest (else_letter c h z o (eqb-false c 1 a) (eqb-false c 5 b) (eqb-false c 11 e)))

    five : (eqb c 1 ≡ false) → (t : Bool) → eqb c 5 ≡ t → Quiet (command_of c rest)
    five a true e = inl (0x0a ∷ [], rw (eqb-true c 5 e))
    five a false e = eleven a e (eqb c 11) refl

    one : (t : Bool) → eqb c 1 ≡ t → Quiet (command_of c rest)
    one true e = inl ([], rw (eqb-true c 1 e))
    one false e = five e (eqb c 5) refl

module _ (tape : List ℕ) (depth : ℕ) (naming : Bool) (ws : List ℕ) (a : State) (h : Sound tape ws a naming depth) (z : 0 < byte_of tape a) (o : is_opener (byte_of tape a) ≡ false) where
  pub leaf : Leaf tape ws a
  leaf =
      let ok : Clean naming depth a.count (byte_of tape a) (rest_of tape a) = clean _ _ _ _ _ h.clear in
      let l = length-drop (a.at + 1) tape in
      let in-tape = h.inside in
      let whole = ok.whole in
      let few = ok.few in
      let same = added_either (byte_of tape a) naming z in
      record { known = ok.known; some = z; flat = o; whole = omega arith; few = omega arith; space = h.space }

  pub went_leaf : (s : Style) (ws' : List ℕ) (b : State)
      → Wrote ws ws' a b (says (command_of (byte_of tape a) (rest_of tape a)) s false) (place_after tape a)
      → Went tape ws ws' depth (λ around. frame s around naming) (λ around. frame s around naming) a b
  went_leaf s ws' b w =
      ⊎_elim
      (λ (q : (vs : List ℕ) × (command_of (byte_of tape a) (rest_of tape a) ≡ shows vs)).
      went_command tape depth naming s (shows q.0) h q.1 (rw q.1 at w))
      (λ q. went_command tape depth naming s time_mark h q (rw q at w))
      (quiet (byte_of tape a) (rest_of tape a) leaf.known z o)
