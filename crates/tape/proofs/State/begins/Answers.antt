use Rattle.std.proofs.Common.{not, ap, ◌∙◌}
use Rattle.tape.proofs.EqualStyles.{same_is}
use Rattle.tape.proofs.State.begins.Goals as goal

pub returns-in-Some : goal.returns-in-Some
returns-in-Some c = rw c.in-Some.is (c.ne.ensures ∙ ap not (same_is c.in-Some.last c.args.s))
