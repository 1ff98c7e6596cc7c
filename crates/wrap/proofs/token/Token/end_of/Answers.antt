use mathlib.Core.Path.{◌≡◌, refl}
use native.Mathlib.Omega.{arith}
use lib.ListN.{length}
use Rattle.wrap.specs.Lines as Lines
use Rattle.wrap.specs.Filled.{between, more}
use Rattle.wrap.proofs.Lists.{between_none}
use Rattle.wrap.proofs.LoopTurns.{scan_stops, scan_goes}
use Rattle.wrap.proofs.token.Token.end_of.Goals as goal

pub returns-then-not-goes_on : goal.returns-then-not-goes_on
returns-then-not-goes_on c =
    let l = c.loop-j in
    let s = c.is_blank_letter-blank in
    let g = c.goes_on in (
      omega arith,
      omega arith,
      λ ls e h.
          let so_far = l.invariant ls e h in
          let none = scan_stops h _ l.j s.result g.result (omega arith) (omega arith) s.ensures g.ensures c.if-not-goes_on.true in
          omega arith,
    )

pub loop-j-preserved : goal.loop-j-preserved
loop-j-preserved c =
    let l = c.loop-j in
    let s = c.is_blank_letter-blank in
    let g = c.goes_on in
    λ ls e h.
    let so_far = l.invariant ls e h in
    let one = scan_goes h _ l.j s.result g.result (omega arith) (omega arith) s.ensures g.ensures c.if-not-goes_on.false in
    omega arith

pub returns : goal.returns
unfolding more
returns c =
    let l = c.loop-j in
    let a = c.args in (
      omega arith,
      omega arith,
      λ ls e h.
          let q : l.j ≡ length ls = omega arith in
          let so_far = l.invariant ls e h in
          let none : more ls (Lines.is_blank_letter ls a.i) (between l.j (length ls)) ≡ 0 = rw (q, between_none (length ls)) refl in
          omega arith,
    )
