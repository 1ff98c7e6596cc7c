-- `row_offset` meets its contract.
use Rattle.std.proofs.Common.{◌≡◌, ℕ, ◌<◌, pos, ◌-ℤ◌, ap, ◌∙◌, arith, w16}
use lib.Ieee.{Float, binary32, of_bits, of_int, mul, div}
use mir.ValLaws.{to_z-of_z, to_z_pos}
use mir.Val.{to_z, of_z}
use Rattle.font.specs.Shear.{slant_of, moved, rounded, Shear}
use Rattle.font.proofs.Rounding.{moved_offset, distance_fits}
use Rattle.font.proofs.row_offset.Goals as goal

-- what row r moves by, as the code works it out
moves : (shear : Float) (r : ℕ) → Shear shear → r < 16
    → div binary32 (mul binary32 (of_int binary32 (to_z w16 (of_z w16 (pos 12 -ℤ to_z w16 r)))) shear) (of_int binary32 (pos 16)) ≡ moved (slant_of shear) r
unfolding of_int moved
moves shear r s h = rw (to_z_pos w16 r (omega arith), to_z-of_z w16 (pos 12 -ℤ pos r) (distance_fits r h), ← s.is)

pub round-requires : goal.round-requires
unfolding of_bits of_int
round-requires c =
    record {
      slant = slant_of c.args.shear;
      row = c.args.r;
      few = c.requires.0.few;
      below = c.requires.1;
      is = moves c.args.shear c.args.r c.requires.0 c.requires.1;
    }

pub returns : goal.returns
unfolding of_bits of_int
returns c =
    c.round.ensures ∙ ap rounded (moves c.args.shear c.args.r c.requires.0 c.requires.1) ∙ moved_offset _ _ c.requires.0.few c.requires.1
