use mathlib.Core.Path.{refl}
use native.Mathlib.Omega.{arith}
use Rattle.std.proofs.lemmas.Result.{err_from_is_err_and}
use Rattle.tape.proofs.Calls.{accepted_is, refused_is}
use Rattle.tape.proofs.Answers.{letters_fit}
use Rattle.wrap.proofs.CallWrap.{limit_refused, letters_held, wrapped, tape_refused}
use Rattle.wrap.proofs.wrap.Goals as goal

pub returns-in_err-limit : goal.returns-in_err-limit
returns-in_err-limit c =
    let p = err_from_is_err_and c.from_residual.result c.from_residual.ensures.1 in
    let r = c.in_err-limit.ensures {u = tt} in
    rw (p.1, p.2, r.0) (limit_refused _ _ _ r.1)

pub returns-in_err-count : goal.returns-in_err-count
returns-in_err-count c =
    let s = c.from_residual-in_err-count in
    let p = err_from_is_err_and s.result s.ensures.1 in
    let r = refused_is (rw c.default_with.ensures at (c.in_err-count.ensures {u = tt})) refl in
    rw (p.1, p.2) (tape_refused _ _ _ (c.in_ok-limit.ensures {u = tt}).1 r)

pub bring_lines-requires : goal.bring_lines-requires
bring_lines-requires c =
    let a = accepted_is (rw c.default_with.ensures at (c.in_ok-count.ensures {u = tt})) refl in
    let n = c.read_tape.auto.ws in
    let count = a.counts in
    let fit = letters_fit _ _ _ a in
    let few = fit.few in
    let room = fit.enough in
    (omega arith, omega arith)

pub returns : goal.returns
returns c =
    let b = c.bring_lines in
    let a = accepted_is (rw c.default_with.ensures at (c.in_ok-count.ensures {u = tt})) refl in
    let limit = c.in_ok-limit.ensures {u = tt} in
    wrapped _ _ _ limit.1 a b.result b.new.ws (rw limit.0 at (b.ensures a.given a.counts (letters_held _ _ _ a)))
