-- From the outer list to the call.
use mathlib.Core.Path.{◌≡◌, ◌∙◌, refl, sym, ap, subst}
use Rattle.std.specs.Prelude.{None}
use mathlib.Core.Bool.{false}
use mathlib.Core.List.{List, [], append-nil}
use Prim.Native.Nat.{ℕ, ◌≤◌, ◌<◌}
use native.Mathlib.Nat.{zero-add}
use native.Mathlib.Omega.{arith}
use borrow.Author.Tests.{lt-ltb, le-ltb}
use lib.ListN.{length}
use Rattle.tape.specs.declared.Style.{Style}
use Rattle.tape.specs.declared.State.{State}
use Rattle.tape.specs.Outcome.{Outcome, accepted, refused, on_accepted}
use Rattle.tape.specs.Runs.{Run, merge, Letter, letters_of}
use Rattle.tape.specs.Tape.{most_bytes, least_room, after, tape_runs, tape_letters, read_call}
use Rattle.tape.specs.Marks.{marked}
use Rattle.tape.specs.TapeRead.{TapeRead}
use Rattle.tape.specs.Reading.{within, past, Went, Stopped, from}
use Rattle.tape.proofs.MarkedRuns.{marked_merged}
use Rattle.tape.proofs.Bounds.{Bounded, letters_bounded}
use Rattle.tape.proofs.Calls.{refuses, accepts, keeps_least}
use Rattle.tape.proofs.Answers.{read_is}
use Rattle.tape.proofs.MeaningSteps.{end_from}

pub too_long : (tape ws : List ℕ) (s : Style) → most_bytes < length tape → TapeRead tape ws ws s (refused 10 0)
unfolding read_call
too_long tape ws s h = refuses (rw (lt-ltb most_bytes (length tape) h)) (λ k. refl)

pub too_small : (tape ws : List ℕ) (s : Style) → length tape ≤ most_bytes → length ws < least_room
    → TapeRead tape ws ws s (refused 11 0)
unfolding read_call
too_small tape ws s h k = refuses (rw (le-ltb most_bytes (length tape) h, lt-ltb (length ws) least_room k)) (λ n. refl)

abbrev pub start : State
start = record { at = 0; count = 0; last = None }

module _ (tape ws ws' : List ℕ) (s : Style) (h : length tape ≤ most_bytes) (k : least_room ≤ length ws) where
  unfolds : tape_letters s tape ≡ on_accepted letters_of (on_accepted merge (from tape (within s false []) 0 0))
  unfolding tape_letters tape_runs from
  unfolds = refl

  pub tape_refused : (number place : ℕ) → Stopped tape 0 (within s false) start number place
      → TapeRead tape ws ws' s (refused number place)
  tape_refused number place f =
      let e : tape_letters s tape ≡ refused number place = unfolds ∙ ap (λ (o : Outcome (List Run)). on_accepted letters_of (on_accepted merge o)) (f [] refl) in
      let own = subst (λ (o : Outcome (List Letter)). Bounded (length tape) o) e (letters_bounded s tape) in
      refuses (read_is s (length ws) tape h k ∙ e) (λ kept. let most = own.most in let least = keeps_least number kept in absurd (omega arith))

  pub tape_accepted : (end : State) → Went tape ws ws' 0 (within s false) (past s false) start end → length tape ≤ end.at
      → TapeRead tape ws ws' s (accepted end.count)
  tape_accepted end w g =
      let ls : List Letter = marked None w.runs in
      let rs : from tape (within s false []) 0 0 ≡ accepted w.runs =
      w.same [] refl ∙ ap (after w.runs) (end_from tape (past s false []) end.at end.count g) ∙ ap accepted (append-nil w.runs) in
      let e : tape_letters s tape ≡ accepted ls =
      unfolds ∙ ap (λ (o : Outcome (List Run)). on_accepted letters_of (on_accepted merge o)) rs ∙ ap accepted (sym (marked_merged w.runs)) in
      let n : end.count ≡ length ls = ap (λ (x : State). x.count) w.stored.state ∙ zero-add (length ls) in
      accepts (read_is s (length ws) tape h k ∙ e) n refl w.stored.bytes
