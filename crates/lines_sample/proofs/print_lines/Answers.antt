-- The lines that were made lie in the workspace.
use Rattle.std.proofs.Common.{arith, refl}
use Rattle.wrap.proofs.Answers.{lines_fit}
use Rattle.lines_sample.proofs.print_lines.Goals as goal

pub write_lines-requires : goal.write_lines-requires
write_lines-requires g c =
    let fit = lines_fit _ _ _ (c.in-Ok.ensures {u = tt}) refl in
    (omega (arith, fit.0, fit.1), fit.0)
