-- `Pen::new` meets its contract.
use Rattle.std.proofs.Common.{◌^◌, refl, arith, le→leb}
use lib.Ieee.{of_bits, of_int, mul, div, in_float}
use Rattle.font.specs.Shear.{shear_of}
use Rattle.font.proofs.Pen.new.Goals as goal

pub int_to_float-shear : goal.int_to_float-shear
unfolding in_float
int_to_float-shear c = tt

pub int_to_float-shear-2 : goal.int_to_float-shear-2
unfolding in_float
int_to_float-shear-2 c = le→leb c.args.slant (2 ^ 24) (omega arith)

pub returns : goal.returns
unfolding of_bits of_int mul div shear_of
returns c = refl
