use Rattle.std.proofs.Common.{rules, ◌≡◌, ◌*◌}
use native.Mathlib.Omega.{arith}
use Rattle.tape.specs.TapeRead.{stored_letter}
use Rattle.tape.proofs.Copied.{copied}
use Rattle.tape.proofs.letter.put_short_letter.Goals as goal

pub returns : goal.returns
returns c =
    let a = c.args in
    let letter = stored_letter a.code a.s a.start in
    let bytes : c.put_bytes.new.slot ≡ letter = search rules in
    rw bytes (copied a.ws.now letter (8 * a.count) (omega (arith, c.requires)))
