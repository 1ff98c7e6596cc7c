-- `round` meets its contract, in each of the 144 cases of `Moved`.
use Rattle.std.proofs.Common.{◌+◌, ◌/◌, ◌≤◌, arith}
use lib.Ieee.{of_bits, of_int}
use Rattle.font.specs.Slant.{unmoved}
use Rattle.font.proofs.Rounding.{moved_rounds}
use Rattle.font.proofs.round.Goals as goal
use Rattle.font.proofs.round.Goals.{After-truncating_f32_to_u64-twice}

pub truncating_f32_to_u64-twice-requires : goal.truncating_f32_to_u64-twice-requires
unfolding of_bits
truncating_f32_to_u64-twice-requires c =
    let r = moved_rounds _ _ c.abs.ensures.value c.requires in
    record { lower_bound = r.low; upper_bound = r.high }

-- how far it moves at most
few : (c : After-truncating_f32_to_u64-twice) → (c.truncating_f32_to_u64-twice.result + 1) / 2 ≤ unmoved
unfolding of_bits
few c = omega (arith, (moved_rounds _ _ c.abs.ensures.value c.requires).small, c.truncating_f32_to_u64-twice.ensures)

pub overflow_add-result : goal.overflow_add-result
overflow_add-result c = omega (arith, few (goal.at.overflow_add-result c).After-truncating_f32_to_u64-twice)

pub overflow_cast-result : goal.overflow_cast-result
overflow_cast-result c = omega (arith, few (goal.at.overflow_cast-result c).After-truncating_f32_to_u64-twice)

pub overflow_sub-result : goal.overflow_sub-result
overflow_sub-result c = omega (arith, few (goal.at.overflow_sub-result c).After-truncating_f32_to_u64-twice)

pub overflow_add-result-else-x : goal.overflow_add-result-else-x
overflow_add-result-else-x c = omega (arith, few (goal.at.overflow_add-result-else-x c).After-truncating_f32_to_u64-twice)

pub overflow_cast-result-else-x : goal.overflow_cast-result-else-x
overflow_cast-result-else-x c = omega (arith, few (goal.at.overflow_cast-result-else-x c).After-truncating_f32_to_u64-twice)

pub overflow_add-result-else-x-2 : goal.overflow_add-result-else-x-2
overflow_add-result-else-x-2 c = omega (arith, few (goal.at.overflow_add-result-else-x-2 c).After-truncating_f32_to_u64-twice)

pub returns-then-x : goal.returns-then-x
unfolding of_bits of_int
returns-then-x c = rw c.truncating_f32_to_u64-twice.ensures (rw c.if-x.true at (moved_rounds _ _ c.abs.ensures.value c.requires).is)

pub returns-else-x : goal.returns-else-x
unfolding of_bits of_int
returns-else-x c = rw c.truncating_f32_to_u64-twice.ensures (rw c.if-x.false at (moved_rounds _ _ c.abs.ensures.value c.requires).is)
