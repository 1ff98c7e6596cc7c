use mathlib.Core.Path.{◌∙◌, ap}
use Prim.Native.Nat.{ℕ}
use Rattle.compositor.specs.Picture.{picture_after}
use Rattle.compositor.specs.Read.{strokes_in}
use Rattle.compositor.proofs.ClearedPicture.{picture_drawn}
use Rattle.compositor.proofs.draw_cue.Goals as goal

pub returns : goal.returns
returns c =
    let a = c.args in
    let s = a.laid.layout.settings in
    let cleared = rw c.picture_bytes.ensures at c.clear.ensures in
    let ts = strokes_in s a.ws.now a.laid.lines in
    c.draw_lines.ensures
    ∙ rw cleared (picture_drawn s ts a.laid.strokes a.picture.now)
    ∙ ap (λ (n : ℕ). picture_after s ts n a.picture.now) c.requires.2
