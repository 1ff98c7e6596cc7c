use mathlib.Core.Path.{refl}
use Rattle.wrap.proofs.line.Cursor.close_if.Goals as goal

pub returns-else-full : goal.returns-else-full
returns-else-full c = rw c.if-full.false (record { cursor = refl; held = λ ls f h. h })
