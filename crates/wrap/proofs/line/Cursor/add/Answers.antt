use native.Mathlib.Omega.{arith}
use Rattle.wrap.specs.Filled.{numbers_of}
use Rattle.wrap.proofs.Lists.{length_between}
use Rattle.wrap.proofs.CursorHolds.{held_add}
use Rattle.wrap.proofs.line.Cursor.add.Goals as goal

pub returns : goal.returns
returns c =
    let a = c.args in
    let t = a.token in
    let b = c.behind-after.ensures in
    record {
      sane = b.0;
      held = λ ls f n counted held.
          let m = length_between t.from t.to in
          let sane = c.requires.sane in
          let some = t.some in
          let few = t.few in
          rw (b.1 ls n counted held.letters, c.put_numbers.ensures)
          (held_add ls f a.self a.ws.now held c.requires.room (numbers_of t) (omega arith));
    }
