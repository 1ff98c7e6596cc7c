use mathlib.Core.Path.{◌≡◌, ◌∙◌, sym}
use Prim.Native.Nat.{ℕ, ◌+◌, ◌-◌, ◌*◌, ◌≤◌, ◌<◌}
use native.Mathlib.Omega.{arith}
use lib.ListN.{length, get_or}
use Rattle.tape.specs.Command.{operand_width, code_point}
use Rattle.tape.specs.Reading.{byte_at}
use Rattle.tape.proofs.Commands.{letter_range}
use Rattle.tape.proofs.Operands.{letter_width, spells_1, spells_2, spells_3}
use Rattle.tape.proofs.command.code_point.Goals as goal
use Rattle.tape.proofs.command.code_point.Goals.{Start, In_default}

-- the command is 02, 03 or 04, has as many operands as the table says, and is whole
reach : (c : Start) →
    let a = c.args in
    let k = byte_at a.tape.now a.at in
    (2 ≤ k) × (k ≤ 4) × (operand_width k ≡ k - 1) × (a.at + operand_width k < length a.tape.now)
reach c = let r = letter_range _ c.requires.0 in (r.0, r.1, letter_width _ r.0 r.1, c.requires.1)

-- so many
has : (c : Start) (w : ℕ) → byte_at c.args.tape.now c.args.at ≡ w + 1 → operand_width (byte_at c.args.tape.now c.args.at) ≡ w
has c w e = let r = reach c in omega arith

-- else it is 04
four : (c : In_default) → byte_at c.args.tape.now c.args.at ≡ 4
four c =
    let r = reach (goal.at.In_default c).Start in
    omega arith

pub bounds-tape-at-in_default : goal.bounds-tape-at-in_default
bounds-tape-at-in_default c =
    let r = reach (goal.at.bounds-tape-at-in_default c).Start in
    omega arith

pub bounds-tape-at-in_default-2 : goal.bounds-tape-at-in_default-2
bounds-tape-at-in_default-2 c =
    let r = reach (goal.at.bounds-tape-at-in_default-2 c).Start in
    omega (arith, four (goal.at.bounds-tape-at-in_default-2 c).In_default)

pub bounds-tape-at-in_default-3 : goal.bounds-tape-at-in_default-3
bounds-tape-at-in_default-3 c =
    let r = reach (goal.at.bounds-tape-at-in_default-3 c).Start in
    omega (arith, four (goal.at.bounds-tape-at-in_default-3 c).In_default)

pub returns-in-2 : goal.returns-in-2
unfolding code_point
returns-in-2 c =
    let s = (goal.at.returns-in-2 c).Start in
    let r = reach s in
    (rw (has s 1 c.in-2.is) (c.from.ensures ∙ sym (spells_1 c.args.tape.now c.args.at (omega arith))), omega arith)

pub returns-in-3 : goal.returns-in-3
unfolding code_point
returns-in-3 c =
    let s = (goal.at.returns-in-3 c).Start in
    let r = reach s in
    let tape = c.args.tape.now in
    let at = c.args.at in
    let is : c.from_be_bytes.result ≡ get_or tape (at + 1) 0 * 256 + get_or tape (at + 2) 0 = omega (arith, c.from_be_bytes.ensures) in (
      rw (has s 2 c.in-3.is) (is ∙ sym (spells_2 tape at (omega arith))),
      omega (arith, is, c.type_inv.tape (at + 1), c.type_inv.tape (at + 2)),
    )

pub returns-in_default : goal.returns-in_default
unfolding code_point
returns-in_default c =
    let s = (goal.at.returns-in_default c).Start in
    let r = reach s in
    let tape = c.args.tape.now in
    let at = c.args.at in
    let is : c.from_be_bytes-in_default.result ≡ (get_or tape (at + 1) 0 * 256 + get_or tape (at + 2) 0) * 256 + get_or tape (at + 3) 0 =
    omega (arith, c.from_be_bytes-in_default.ensures) in (
      rw (has s 3 (four (goal.at.returns-in_default c).In_default)) (is ∙ sym (spells_3 tape at (omega arith))),
      omega (arith, is, c.type_inv.tape (at + 1), c.type_inv.tape (at + 2), c.type_inv.tape (at + 3)),
    )
