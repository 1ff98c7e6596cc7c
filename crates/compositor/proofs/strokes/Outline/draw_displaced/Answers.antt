use mathlib.Core.Path.{◌∙◌, sym}
use Rattle.compositor.proofs.Painting.{nothing}
use Rattle.compositor.proofs.Outlines.{one_on, one_off}
use Rattle.compositor.proofs.strokes.Outline.draw_displaced.Goals as goal

pub returns-then-not-is_at_distance : goal.returns-then-not-is_at_distance
returns-then-not-is_at_distance c =
    let a = c.args in
    let off = one_off a.self.now.o a.dy a.dx (sym c.is_at_distance.ensures ∙ c.if-not-is_at_distance.true) in
    rw off (nothing a.rows a.window _)

pub returns : goal.returns
returns c =
    let a = c.args in
    let on = one_on a.self.now.o a.dy a.dx (sym c.is_at_distance.ensures ∙ c.if-not-is_at_distance.false) in
    rw on c.draw_stroke.ensures
