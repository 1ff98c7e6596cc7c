use mathlib.Core.Path.{◌≡◌, ◌∙◌, sym, ap, ap₂}
use Prim.Native.Nat.{ℕ, ◌*◌}
use native.Mathlib.Omega.{arith}
use lib.ListN.{length}
use Rattle.compositor.specs.Layout.{line_width, line_start}
use Rattle.compositor.specs.Outline.{outline_of}
use Rattle.compositor.specs.Order.{line_strokes}
use Rattle.compositor.specs.Read.{letters_at}
use Rattle.wrap.specs.Laid.{columns_on}
use Rattle.wrap.proofs.InkCounts.{inked_few}
use Rattle.compositor.proofs.LinesOff.{line_around, missing}
use Rattle.compositor.proofs.Painting.{missed}
use Rattle.compositor.proofs.ReadBack.{letters_length}
use Rattle.compositor.proofs.Total.{line_length}
use Rattle.compositor.proofs.Ranges.{outline_small}
use Rattle.compositor.proofs.WrappedLines.{total_small}
use Rattle.compositor.proofs.strokes.Painter.place_line.Goals as goal
use Rattle.compositor.proofs.strokes.Painter.place_line.Goals.{After-letter_strokes, then-is_off-via-then-is_off, then-is_off-via-else-is_off+then-misses}

-- the line's strokes are as many as its letters with ink have
strokes_are : (c : After-letter_strokes) →
    let a = c.args in
    a.span.inked * c.letter_strokes.result
    ≡ length (line_strokes a.self.now.layout.settings (line_start a.self.now.layout.settings (line_width (columns_on a.self.now.ws.now a.line))) a.y (letters_at a.self.now.ws.now a.span.first a.span.letters))
strokes_are c =
    let a = c.args in
    let ls = letters_at a.self.now.ws.now a.span.first a.span.letters in
    ap₂ (λ (n m : ℕ). n * m) c.requires.2 c.letter_strokes.ensures.0
    ∙ sym (line_length a.self.now.layout.settings _ a.y ls)

pub overflow_mul-strokes : goal.overflow_mul-strokes
overflow_mul-strokes c =
    let a = c.args in
    let n = a.span.inked in
    let span = c.requires.1 in
    let few = a.self.now.lined.readable.few in
    let inked = c.requires.2 in
    let some = inked_few (letters_at a.self.now.ws.now a.span.first a.span.letters) in
    let letters = letters_length a.self.now.ws.now a.span.first a.span.letters in
    let each = ap (λ (m : ℕ). n * m) c.letter_strokes.ensures.0 in
    let small = total_small n (outline_of a.self.now.layout.settings) (omega arith) (outline_small a.self.now.layout.settings a.self.now.layout.in_range) in
    omega arith

pub returns-then-is_off : goal.returns-then-is_off
returns-then-is_off c =
    let a = c.args in
    let s = a.self.now.layout.settings in
    let outline = c.outline.ensures in
    let small = outline_small s a.self.now.layout.in_range in
    let are = strokes_are (goal.at.returns-then-is_off c).After-letter_strokes in
    rw c.past.ensures (elim c.then-is_off.branch [
      | then-is_off-via-then-is_off w ↦
          let off = rw outline.0 at (sym c.is_off.ensures ∙ w.if-is_off.true) in
          missing a.rows a.y a.y (outline_of s) c.requires.4 (omega arith) off _ _ _ are (line_around s _ a.y _)
      | then-is_off-via-else-is_off+then-misses w ↦ missed a.rows _ _ _ are (sym w.misses.ensures ∙ w.if-misses.true)
    ])
