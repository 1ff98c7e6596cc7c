use Rattle.std.proofs.Common.{rules, ◌≡◌, ◌∙◌}
use Rattle.std.specs.Prelude.{take}
use native.Mathlib.Omega.{arith}
use lib.Seq.{take_all}
use Rattle.captions.proofs.taken.Goals as goal

pub returns : goal.returns
returns c =
    let first : c.unwrap.result.now ≡ take 64 c.args.part.now = search rules in
    first ∙ take_all 64 c.args.part.now (omega (arith, c.requires))
