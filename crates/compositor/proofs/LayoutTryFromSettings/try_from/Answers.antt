use Rattle.std.proofs.Common.{sym, ◌∙◌}
use Rattle.compositor.proofs.Ranges.{in_range}
use Rattle.compositor.proofs.LayoutTryFromSettings.try_from.Goals as goal

pub invariant_of-result : goal.invariant_of-result
invariant_of-result c = record { in_range = in_range _ (sym c.is_out_of_range.ensures ∙ c.if-is_out_of_range.false) }
