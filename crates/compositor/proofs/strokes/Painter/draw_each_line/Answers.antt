use mathlib.Core.Path.{◌≡◌, sym, subst}
use Prim.Native.Nat.{ℕ, ◌+◌, ◌≤◌}
use native.Mathlib.Omega.{arith}
use Rattle.compositor.specs.Read.{letters_at, letters_from}
use Rattle.wrap.specs.Shown.{inked_letters}
use Rattle.font.specs.Lent.{Lent}
use Rattle.compositor.proofs.Painting.{begin, turn, done}
use Rattle.compositor.proofs.ReadBack.{lines_begin, lines_turn, lines_end, Reached, reached_none, reached_fits, reached_line, reached_turn}
use Rattle.compositor.proofs.strokes.Painter.draw_each_line.Goals as goal
use Rattle.compositor.proofs.strokes.Painter.draw_each_line.Goals.{After-inked_through-through}

pub loop-i-init : goal.loop-i-init
loop-i-init c =
    let a = c.args in
    record { reached = reached_none a.self.now.ws.now; still = begin _ _ _ _ (lines_begin a.self.now.layout.settings a.self.now.ws.now a.self.now.lines) }

-- a line that is read: its letters are among those that can be read, and its total is theirs and the one before
line : (c : After-inked_through-through) →
    let a = c.args in
    let l = c.loop-i in
    let letters = c.letters_on-letters.result in
    let through = c.inked_through-through.result in
    (l.first + letters ≤ letters_from a.self.now.ws.now 0 a.self.now.lines)
    × (through ≡ l.before + inked_letters (letters_at a.self.now.ws.now l.first letters))
    × Reached a.self.now.ws.now (l.i + 1) (l.first + letters) through
line c =
    let lined = c.args.self.now.lined in
    let h = c.loop-i-test.true in
    let reached = c.loop-i.invariant.reached in
    let n = c.letters_on-letters.ensures in
    let total = c.inked_through-through.ensures in
    (reached_fits lined h reached n total, reached_line lined h reached n total, reached_turn lined h reached n total)

pub overflow_sub-span : goal.overflow_sub-span
overflow_sub-span c = let own = (line (goal.at.overflow_sub-span c).After-inked_through-through).1 in omega arith

pub place_line-left-requires : goal.place_line-left-requires
place_line-left-requires c =
    let l = c.loop-i in
    let y = c.baseline-y.ensures in
    let own = line (goal.at.place_line-left-requires c).After-inked_through-through in
    let inked = own.1 in
    let fits = subst (λ (n : ℕ). Lent n c.args.rows) (sym l.auto.part) c.requires in
    (fits, own.0, omega arith, c.loop-i-test.true, y.1, y.2)

pub overflow_add-first : goal.overflow_add-first
overflow_add-first c =
    let fits = (line (goal.at.overflow_add-first c).After-inked_through-through).0 in
    let few = c.args.self.now.lined.readable.few in
    omega arith

pub loop-i-preserved : goal.loop-i-preserved
loop-i-preserved c =
    let a = c.args in
    let l = c.loop-i in
    let n = c.letters_on-letters.ensures in
    let y = c.baseline-y.ensures.0 in
    record {
      reached = (line (goal.at.loop-i-preserved c).After-inked_through-through).2;
      still = rw n
          (turn _ _ _ _ _ _ (lines_turn a.self.now.layout.settings a.self.now.ws.now a.self.now.lines l.first l.i c.loop-i-test.true) c.requires l.auto.part
          (rw (n, y) at c.place_line-left.ensures) l.invariant.still);
    }

pub returns : goal.returns
returns c =
    let a = c.args in
    let l = c.loop-i in
    (done _ _ _ _ (lines_end a.self.now.layout.settings a.self.now.ws.now a.self.now.lines l.first l.i c.loop-i-test.false) l.invariant.still).paints
