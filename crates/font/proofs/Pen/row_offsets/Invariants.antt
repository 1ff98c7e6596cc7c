-- `Pen::row_offsets` meets its contract: the offsets before row r are done.
use Rattle.std.proofs.Common.{◌≡◌, ℕ, ◌<◌, get_or}
use Rattle.font.specs.Slant.{row_offset}
use Rattle.font.specs.Shear.{slant_of}
use Rattle.font.proofs.Pen.row_offsets.Given as goal

abbrev pub invariant-loop-r : goal.invariant-loop-r
invariant-loop-r l = (k : ℕ) → k < l.r → get_or l.offset-items k 0 ≡ row_offset (slant_of l.self.shear) k
