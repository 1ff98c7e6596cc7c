use Rattle.std.proofs.Common.{◌+◌, false, arith, sym}
use Rattle.tape.proofs.ShortLetters.{short_letter_lem, short_read}
use Rattle.tape.proofs.TapeParts.{wrote_length, went_then}
use Rattle.tape.proofs.reader.read_letters.Goals as goal

pub bounds-tape-after : goal.bounds-tape-after
bounds-tape-after c = (short_letter_lem _ _ _ (sym (c.if-is_short_letter.ensures {u = tt}))).whole

pub put_short-after-requires : goal.put_short-after-requires
put_short-after-requires c =
    let same = wrote_length (c.loop-after.invariant false 0).stored in
    let space = c.requires.space in
    let room = (short_letter_lem _ _ _ (sym (c.if-is_short_letter.ensures {u = tt}))).room in
    omega arith

pub loop-after-preserved : goal.loop-after-preserved
loop-after-preserved c =
    let l = c.loop-after in
    let a = c.args in
    let same = wrote_length (l.invariant false 0).stored in
    let space = c.requires.space in
    let byte = c.type_inv.tape (l.after.at + 1) in
    let short = short_letter_lem _ _ _ (sym (c.if-is_short_letter.ensures {u = tt})) in
    λ naming depth.
    went_then a.tape.now depth (l.invariant naming depth)
    (short_read a.tape.now l.ws l.after short (omega arith) (omega arith) a.style
    (rw (c.operand_width.ensures.0) at c.put_short-after.ensures) naming depth)
