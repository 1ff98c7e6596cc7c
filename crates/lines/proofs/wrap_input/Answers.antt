-- The lines that were made lie in the workspace.
use Rattle.std.proofs.Common.{◌≡◌, ℕ, ◌*◌, ◌≤◌, List, length, refl, sym, arith, length-take-le}
use Rattle.tape.specs.Outcome.{accepted}
use Rattle.wrap.specs.Wrapped.{Wrapped}
use Rattle.wrap.proofs.Answers.{lines_fit}
use Rattle.lines.proofs.wrap_input.Goals as goal

-- so many bytes of a workspace hold lines
lie : (tape ws : List ℕ) {ws' : List ℕ} (limit : ℕ) {lines : ℕ} → Wrapped tape ws ws' limit (accepted lines) → 4 * lines ≤ length ws
lie tape ws limit w = let fit = lines_fit tape ws limit w refl in omega (arith, fit.0, fit.1)

pub overflow_mul-lines : goal.overflow_mul-lines
overflow_mul-lines g c = omega (arith, lie _ _ _ (c.in-Ok.ensures {u = tt}))

pub slice_bounds-write_lines-end : goal.slice_bounds-write_lines-end
slice_bounds-write_lines-end g c = omega (arith, lie _ _ _ (c.in-Ok.ensures {u = tt}))

pub slice_bounds-write_lines-end-in-Ok : goal.slice_bounds-write_lines-end-in-Ok
slice_bounds-write_lines-end-in-Ok g c = sym (length-take-le _ _ (omega (arith, lie _ _ _ (c.in-Ok.ensures {u = tt}))))
