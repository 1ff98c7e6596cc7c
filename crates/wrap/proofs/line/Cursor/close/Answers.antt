use mathlib.Core.Path.{◌∙◌, refl, ap}
use mathlib.Core.List.{List}
use Prim.Native.Nat.{ℕ, ◌+◌, ◌*◌, ◌-◌}
use lib.Seq.{sets}
use Rattle.tape.proofs.StoredRuns.{sets_append}
use Rattle.wrap.specs.Wrap.{two}
use Rattle.wrap.specs.Laid.{table_from, inked_from}
use Rattle.wrap.proofs.CursorHolds.{held_close}
use Rattle.wrap.proofs.line.Cursor.close.Goals as goal

pub returns : goal.returns
returns c =
    let a = c.args in
    let at : ℕ = table_from + 4 * a.self.lines in
    let letters : List ℕ = two (a.self.kept - a.self.start) in
    let columns : List ℕ = two a.self.kept_columns in
    let bytes =
    c.put_two-3.ensures
    ∙ ap (λ (x : List ℕ). sets x (inked_from + 2 * a.self.lines) (two a.self.inked))
    (c.put_two-2.ensures
    ∙ ap (λ (x : List ℕ). sets x (at + 2) columns) c.put_two.ensures
    ∙ sets_append a.ws.now at letters columns) in
    record { cursor = refl; held = λ ls f h. rw bytes (held_close ls f a.self a.ws.now h c.requires.2 c.requires.0 c.requires.1) }
