use mathlib.Core.Path.{◌≡◌, ◌∙◌, refl, ap}
use mathlib.Core.Bool.{cond}
use Rattle.font.specs.Shear.{pen_of}
use Rattle.compositor.specs.Order.{color_of}
use Rattle.compositor.proofs.Ranges.{slant_small}
use Rattle.compositor.proofs.ReadBack.{prepared}
use Rattle.compositor.proofs.strokes.Painter.stamp.Goals as goal
use Rattle.compositor.proofs.strokes.Painter.stamp.Goals.{After-new}

-- the pen leans as the letter does
pen : (c : After-new) →
    let a = c.args in
    c.new.result ≡ pen_of (color_of a.style) a.style.bold (cond a.style.italic a.self.now.layout.settings.slant 0)
pen c = c.new.ensures ∙ ap (pen_of (color_of c.args.style) c.args.style.bold) c.slant_of-slant.ensures

pub invariant_of-result : goal.invariant_of-result
invariant_of-result c =
    let a = c.args in
    let few = slant_small a.self.now.layout.in_range.slanted a.style.italic in
    record { prepared = prepared a.key _ a.style.bold _ few (pen c) c.glyph_of.ensures c.offsets_of.ensures }

pub returns : goal.returns
returns c = (refl, pen (goal.at.returns c).After-new)
