use mathlib.Core.Path.{◌∙◌, refl, sym, ap}
use Rattle.std.proofs.lemmas.Result.{err_from_is_err_and}
use Prim.Native.Nat.{ℕ, ◌*◌}
use native.Mathlib.Omega.{arith}
use Rattle.tape.specs.Outcome.{on_accepted}
use Rattle.tape.proofs.Calls.{accepted_is, refused_is}
use Rattle.tape.proofs.Answers.{letters_fit, read_is}
use Rattle.wrap.proofs.CallWrap.{letters_held}
use Rattle.compositor.specs.Outline.{outline_of}
use Rattle.compositor.specs.Draw.{tape_strokes}
use Rattle.compositor.specs.Order.{drawing}
use Rattle.compositor.proofs.Ranges.{outline_small}
use Rattle.compositor.proofs.WrappedLines.{total_small, cue_laid}
use Rattle.compositor.proofs.lay_cue.Goals as goal

pub wrap_runs-made-requires : goal.wrap_runs-made-requires
wrap_runs-made-requires c =
    let a = accepted_is (rw c.default_with-style.ensures at (c.in_ok-count.ensures {u = tt})) refl in
    let n = c.read_tape.auto.ws in
    let fit = letters_fit _ _ _ a in
    let count = a.counts in
    let few = fit.few in
    let room = fit.enough in
    (omega arith, omega arith)

pub overflow_mul-result : goal.overflow_mul-result
overflow_mul-result c =
    let a = accepted_is (rw c.default_with-style.ensures at (c.in_ok-count.ensures {u = tt})) refl in
    let count = a.counts in
    let few = (letters_fit _ _ _ a).few in
    let inked = c.wrap_runs-made.ensures.2 in
    let n = c.wrap_runs-made.result.inked in
    let each = ap (λ (m : ℕ). n * m) c.letter_strokes.ensures.0 in
    let small = total_small n (outline_of c.args.layout.settings) (omega arith) (outline_small _ c.args.layout.in_range) in
    omega arith

pub returns : goal.returns
unfolding tape_strokes
returns c =
    let a = accepted_is (rw c.default_with-style.ensures at (c.in_ok-count.ensures {u = tt})) refl in
    let w = c.wrap_runs-made in
    let limit = c.column_limit.ensures in
    let each = c.letter_strokes.ensures.0 in
    let laid = w.ensures.3 a.given a.counts (letters_held _ _ _ a) in
    let fit = letters_fit _ _ _ a in
    let count = a.counts in
    let few = fit.few in
    let room = fit.enough in
    let n = c.read_tape.auto.ws in
    let m = w.auto.ws in
    let lines = w.ensures.0 in
    let on-lines = w.ensures.1 in
    let inked = w.ensures.2 in
    let means = sym (read_is _ _ _ c.requires.0 c.requires.1) ∙ a.means in
    cue_laid laid c.args.layout.settings limit c.args.layout refl _ (ap (on_accepted (drawing c.args.layout.settings)) means) _ each (omega arith) (omega arith) (omega arith) (omega arith)

pub returns-in_err-count : goal.returns-in_err-count
unfolding tape_strokes
returns-in_err-count c =
    let p = err_from_is_err_and c.from_residual.result c.from_residual.ensures.1 in
    let r = refused_is (rw c.default_with-style.ensures at (c.in_err-count.ensures {u = tt})) refl in
    rw (p.1, p.2) (
      ap (on_accepted (drawing c.args.layout.settings)) (sym (read_is _ _ _ c.requires.0 c.requires.1) ∙ r.means),
      r.keeps,
    )
