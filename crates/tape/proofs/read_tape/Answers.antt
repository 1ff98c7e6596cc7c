use Rattle.std.proofs.Common.{rules, arith}
use mathlib.Core.Path.{refl}
use Rattle.std.proofs.lemmas.Result.{err_from_is_err_and}
use Rattle.tape.specs.Outcome.{refused}
use Rattle.tape.specs.TapeRead.{TapeRead}
use Rattle.tape.proofs.CallRead.{too_long, too_small, tape_refused, tape_accepted}
use Rattle.tape.proofs.read_tape.Goals as goal

pub returns-then-tape-gt-MOST_BYTES : goal.returns-then-tape-gt-MOST_BYTES
returns-then-tape-gt-MOST_BYTES c =
    let a = c.args in
    let long : TapeRead a.tape.now a.ws.now a.ws.now a.style (refused 10 0) = too_long a.tape.now a.ws.now a.style c.if-tape-gt-MOST_BYTES.true in
    search rules

pub returns-then-ws-lt-LEAST_ROOM : goal.returns-then-ws-lt-LEAST_ROOM
returns-then-ws-lt-LEAST_ROOM c =
    let a = c.args in
    let short : TapeRead a.tape.now a.ws.now a.ws.now a.style (refused 11 0) =
    too_small a.tape.now a.ws.now a.style (omega arith) c.if-ws-lt-LEAST_ROOM.true in
    search rules

pub returns : goal.returns
returns c =
    let a = c.args in
    let l = c.in_ok-end.ensures {u = tt} in
    tape_accepted a.tape.now a.ws.now c.read_list.new.ws a.style c.if-tape-gt-MOST_BYTES.false c.if-ws-lt-LEAST_ROOM.false _ l.0 (l.1 refl refl)

pub returns-in_err-end : goal.returns-in_err-end
returns-in_err-end c =
    let a = c.args in
    let p = err_from_is_err_and c.from_residual.result c.from_residual.ensures.1 in
    rw (p.1, p.2) (
    tape_refused a.tape.now a.ws.now c.read_list.new.ws a.style c.if-tape-gt-MOST_BYTES.false c.if-ws-lt-LEAST_ROOM.false _ _ (c.in_err-end.ensures {u = tt}).0
    )
