-- The letters that were read lie in the workspace.
use Rattle.std.proofs.Common.{◌≡◌, ℕ, ◌*◌, ◌≤◌, List, length, refl, sym, arith, length-take-le}
use Rattle.tape.specs.Outcome.{accepted}
use Rattle.tape.specs.declared.Style.{Style}
use Rattle.tape.specs.TapeRead.{TapeRead}
use Rattle.tape.proofs.Calls.{accepted_is}
use Rattle.tape.proofs.Answers.{letters_fit}
use Rattle.letters.proofs.print_tape.Goals as goal

-- so many bytes of a workspace hold letters
lie : (tape ws : List ℕ) {ws' : List ℕ} (s : Style) {n : ℕ} → TapeRead tape ws ws' s (accepted n) → 8 * n ≤ length ws
lie tape ws s w =
    let read = accepted_is w refl in
    let fit = letters_fit s tape ws read in
    omega (arith, read.counts, fit.few, fit.enough)

pub overflow_mul-count : goal.overflow_mul-count
overflow_mul-count g c = omega (arith, lie _ _ _ (c.in-Ok.ensures {u = tt}))

pub slice_bounds-digest-end : goal.slice_bounds-digest-end
slice_bounds-digest-end g c = omega (arith, lie _ _ _ (c.in-Ok.ensures {u = tt}))

pub slice_bounds-digest-end-in-Ok : goal.slice_bounds-digest-end-in-Ok
slice_bounds-digest-end-in-Ok g c =
    sym (length-take-le _ _ (omega (arith, lie _ _ _ (c.in-Ok.ensures {u = tt}))))
