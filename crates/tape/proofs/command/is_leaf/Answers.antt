use Rattle.std.proofs.Common.{◌∙◌, ◌+◌, sym, arith}
use Rattle.tape.proofs.ShortLetters.{short_shown}
use Rattle.tape.proofs.command.is_leaf.Goals as goal

pub returns-then-is_short_letter : goal.returns-then-is_short_letter
returns-then-is_short_letter c =
    let a = c.args in
    let e = sym c.is_short_letter.ensures ∙ c.if-is_short_letter.true in
    let byte = c.type_inv.tape (a.at + 1) in
    rw c.if-shown.true (sym (short_shown a.tape.now a.naming a.depth a.at a.count (omega arith) e))
