use mathlib.Core.Path.{◌∙◌, refl, sym}
use Rattle.compositor.proofs.Painting.{missed, drawn}
use Rattle.compositor.proofs.strokes.Stamp.draw_stroke.Goals as goal
use Rattle.compositor.proofs.strokes.Stamp.draw_stroke.Goals.{then-not-misses, else-not-misses}

pub returns : goal.returns
returns c =
    rw c.past.ensures (elim c.if-not-misses.branch [
      | then-not-misses w ↦ rw (w.part-is, w.draw_glyph_sheared.ensures) (drawn _ _ _ _ (sym c.misses.ensures ∙ w.if-not-misses.true))
      | else-not-misses w ↦ rw w.part-is (missed _ _ _ _ refl (sym c.misses.ensures ∙ w.if-not-misses.false))
    ])
