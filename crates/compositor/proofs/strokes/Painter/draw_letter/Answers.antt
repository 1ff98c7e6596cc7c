use mathlib.Core.Path.{◌≡◌, ◌∙◌, sym, ap}
use mathlib.Core.Bool.{cond}
use Rattle.font.specs.Ink.{is_inked}
use Rattle.font.specs.declared.Pen.{Pen}
use Rattle.font.specs.Shear.{pen_of}
use Rattle.tape.specs.declared.Style.{Style}
use Rattle.tape.specs.Stored.{letter_at}
use Rattle.compositor.specs.Order.{color_of}
use Rattle.compositor.proofs.Ranges.{slant_small}
use Rattle.compositor.proofs.Painting.{nothing, missed, then, same}
use Rattle.compositor.proofs.ReadBack.{key_of, letter_strokes_lem}
use Rattle.compositor.proofs.Total.{letter_inked, letter_bare, letter_length}
use Rattle.compositor.proofs.strokes.Painter.draw_letter.Goals as goal
use Rattle.compositor.proofs.strokes.Painter.draw_letter.Goals.{After-has_ink}

-- whether the letter has ink
told : (c : After-has_ink) → c.has_ink.result ≡ is_inked (letter_at c.args.self.now.ws.now c.args.number).code
told c = c.has_ink.ensures ∙ ap is_inked c.code-code.ensures

pub returns-then-not-has_ink : goal.returns-then-not-has_ink
returns-then-not-has_ink c =
    let a = c.args in
    let bare = sym (told (goal.at.returns-then-not-has_ink c).After-has_ink) ∙ c.if-not-has_ink.true in
    same a.rows (sym (letter_bare a.self.now.layout.settings (letter_at a.self.now.ws.now a.number) a.at.x a.at.base bare)) (nothing a.rows a.window a.part.now)

pub returns-then-misses : goal.returns-then-misses
returns-then-misses c =
    let a = c.args in
    let l = letter_at a.self.now.ws.now a.number in
    let ink = sym (told (goal.at.returns-then-misses c).After-has_ink) ∙ c.if-not-has_ink.false in
    rw c.past.ensures
    (missed a.rows _ _ _ (c.letter_strokes-strokes.ensures.0 ∙ sym (letter_length a.self.now.layout.settings l a.at.x a.at.base ink))
    (sym c.misses.ensures ∙ c.if-misses.true))

pub returns : goal.returns
returns c =
    let a = c.args in
    let s = a.self.now.layout.settings in
    let l = letter_at a.self.now.ws.now a.number in
    let ink = sym (told (goal.at.returns c).After-has_ink) ∙ c.if-not-has_ink.false in
    let key = c.stamp-own.ensures.0 ∙ ap (key_of s) c.code-code.ensures in
    let pen = c.stamp-own.ensures.1 ∙ ap (λ (t : Style). pen_of (color_of t) t.bold (cond t.italic s.slant 0)) c.style-style.ensures in
    let around = c.in_color-around.ensures in
    let whole = letter_strokes_lem s l a.at c.outline.ensures.0 (slant_small a.self.now.layout.in_range.slanted l.style.italic)
    (around.0 ∙ key) (around.1 ∙ ap (λ (p : Pen). record { color = s.outline_color; bold = p.bold; shear = p.shear }) pen) key pen in
    same a.rows (whole ∙ sym (letter_inked s l a.at.x a.at.base ink))
    (then a.rows _ _ c.requires.0 c.draw_outline-left.ensures c.draw_stroke.ensures)
