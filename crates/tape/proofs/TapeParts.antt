-- Parts of a tape that are read one after the other are read together.
use mathlib.Core.Path.{◌≡◌, ◌∙◌, refl, sym, ap, ap₂, subst}
use mathlib.Core.Bool.{Bool}
use mathlib.Core.List.{List, [], ◌∷◌, ◌++◌}
use Prim.Native.Nat.{ℕ, suc, ◌+◌, ◌*◌, ◌≤◌, ◌<◌}
use native.Mathlib.Nat.{add-zero}
use native.Mathlib.Numerals.{add-one}
use native.Mathlib.Omega.{arith}
use lib.ListN.{length, length-drop}
use lib.Seq.{length-sets}
use Rattle.tape.specs.declared.Style.{Style}
use Rattle.tape.specs.declared.State.{State}
use Rattle.tape.specs.declared.refusal.Refusal.{Refusal}
use Rattle.std.specs.Prelude.{Result, Ok, Err}
use Rattle.tape.specs.Command.{most_letters, added, fault_of, Command, command_of}
use Rattle.tape.specs.Runs.{Run}
use Rattle.tape.specs.Tape.{Frame, frame, says, next, after}
use Rattle.tape.specs.Marks.{marked}
use Rattle.tape.specs.TapeRead.{stored_letters}
use Rattle.tape.specs.Reading.{Wrote, byte_of, rest_of, place_after, Ready, Sound, Went, Stopped, Reads, Onward, from}
use Rattle.tape.proofs.Commands.{says_added}
use Rattle.tape.proofs.Faults.{Clean, clean}
use Rattle.tape.proofs.MeaningSteps.{after_none, after_after, command_from, fault_from}
use Rattle.tape.proofs.StoredRuns.{wrote_then}

pub wrote_length : {ws ws' : List ℕ} {a b : State} {rs : List Run} {at : ℕ} → Wrote ws ws' a b rs at → length ws' ≡ length ws
wrote_length {ws} {a = a} {rs = rs} w = ap length w.bytes ∙ length-sets ws (8 * a.count) (stored_letters (marked a.last rs))

-- the same reading, seen in other frames
reframed : {tape u v : List ℕ} {d d' : ℕ} {X Y X' Y' : List Style → Frame} {a b : State} (h : Went tape u v d X Y a b)
    → ((around : List Style) → length around ≡ d' → from tape (X' around) a.at a.count ≡ after h.runs (from tape (Y' around) b.at b.count))
    → Went tape u v d' X' Y' a b
reframed h same = record { runs = h.runs; stored = h.stored; on = h.on; to = h.to; few = h.few; same = same }

module _ (tape : List ℕ) (depth : ℕ) where
  -- nothing has been read yet
  pub went_none : (X : List Style → Frame) (ws : List ℕ) (a : State) → a.at ≤ length tape → a.count ≤ most_letters
      → Went tape ws ws depth X X a a
  went_none X ws a h k =
      record {
        runs = [];
        stored = record { state = rw add-zero; bytes = refl };
        on = omega arith;
        to = h;
        few = k;
        same = λ around e. sym (after_none _);
      }

  pub went_then : {X Y Z : List Style → Frame} {u v w : List ℕ} {a b c : State} → Went tape u v depth X Y a b → Went tape v w depth Y Z b c
      → Went tape u w depth X Z a c
  went_then {Z = Z} {c = c} h k =
      record {
        runs = h.runs ++ k.runs;
        stored = wrote_then h.stored k.stored;
        on = omega arith;
        to = k.to;
        few = k.few;
        same = λ around e. h.same around e ∙ ap (after h.runs) (k.same around e) ∙ after_after h.runs k.runs (from tape (Z around) c.at c.count);
      }

  -- and from there it can be read on
  pub went_ready : {X Y : List Style → Frame} {u v : List ℕ} {a b : State} → 8 * most_letters ≤ length u → Went tape u v depth X Y a b
      → Ready tape v b
  went_ready space h = let same = wrote_length h.stored in record { on = h.to; few = h.few; space = omega arith }

  pub went_stopped : {X Y : List Style → Frame} {u v : List ℕ} {a b : State} {number place : ℕ} → Went tape u v depth X Y a b
      → Stopped tape depth Y b number place → Stopped tape depth X a number place
  went_stopped h k around e = h.same around e ∙ ap (after h.runs) (k around e)

  pub then_reads : {X Y : List Style → Frame} (Z : List Style → Frame) {u v : List ℕ} (w : List ℕ) {a b : State} (r : Result State Refusal)
      → Went tape u v depth X Y a b
      → Reads tape v w depth Y Z b r → Reads tape u w depth X Z a r
  then_reads Z w (Ok c) h k = went_then h k
  then_reads Z w (Err r) h k = went_stopped h k

  pub onward : (X Y : List Style → Frame) (u v : List ℕ) (a b : State) (r : Result State Refusal) → a.at < b.at → Reads tape u v depth X Y b r
      → Onward a r
  onward X Y u v a b (Ok c) h k = let on = k.on in omega arith
  onward X Y u v a b (Err r) h k = tt

  -- a list inside, for the list around it
  pub inner_reads : (X Y : List Style → Frame) (u v : List ℕ) (a : State) (s : Style) (r : Result State Refusal) → Reads tape u v (depth + 1) X Y a r
      → Reads tape u v depth (λ around. X (s ∷ around)) (λ around. Y (s ∷ around)) a r
  inner_reads X Y u v a s (Ok b) h = reframed h (λ around e. h.same (s ∷ around) (ap suc e ∙ sym (add-one depth)))
  inner_reads X Y u v a s (Err r) h = λ around e. h (s ∷ around) (ap suc e ∙ sym (add-one depth))

  -- a command with a fault
  pub stopped_fault : (naming : Bool) (s : Style) (a : State) (number place : ℕ) → a.at < length tape
      → number ≡ fault_of naming depth a.count (byte_of tape a) (rest_of tape a)
      → (number ≡ 0 → ⊥)
      → place ≡ a.at
      → Stopped tape depth (λ around. frame s around naming) a number place
  stopped_fault naming s a number place h e z p around d =
      rw p (fault_from tape a.at a.count h s around naming number (rw d e) z)

  -- a command without a fault, stored
  pub went_command : (naming : Bool) (s : Style) (cm : Command) {ws ws' : List ℕ} {a b : State} → Sound tape ws a naming depth
      → command_of (byte_of tape a) (rest_of tape a) ≡ cm
      → Wrote ws ws' a b (says cm s naming) (place_after tape a)
      → Went tape ws ws' depth (λ around. frame s around naming) (λ around. next cm s around naming) a b
  went_command naming s cm {ws} {ws'} {a} {b} h e w =
      let ok : Clean naming depth a.count (byte_of tape a) (rest_of tape a) = clean _ _ _ _ _ h.clear in
      let whole = ok.whole in
      let few = ok.few in
      let l = length-drop (a.at + 1) tape in
      let in-tape = h.inside in
      let at : b.at ≡ place_after tape a = ap (λ (x : State). x.at) w.state in
      let count : b.count ≡ a.count + added naming (byte_of tape a) =
      ap (λ (x : State). x.count) w.state
      ∙ ap (λ (x : Command). a.count + length (marked a.last (says x s naming))) (sym e)
      ∙ ap (λ (n : ℕ). a.count + n) (says_added (byte_of tape a) (rest_of tape a) naming a.last s) in
      record {
        runs = says cm s naming;
        stored = subst (λ (p : ℕ). Wrote ws ws' a b (says cm s naming) p) (sym at) w;
        on = omega arith;
        to = omega arith;
        few = omega arith;
        same = λ around d.
            command_from tape a.at a.count h.inside s around naming cm (rw d h.clear) e
            ∙ ap₂ (λ (p n : ℕ). after (says cm s naming) (from tape (next cm s around naming) p n)) (sym at) (sym count);
      }
