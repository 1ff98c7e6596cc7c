-- What is admitted is what the painter asks.
use Rattle.std.proofs.Common.{◌≡◌, ℕ, ◌≤◌, true, arith}
use Rattle.std.proofs.lemmas.Grind.{common_steps}
use Rattle.font.specs.Slant.{most_slant}
use Rattle.font.specs.Lent.{Lent, Reachable}
use Rattle.font_c.specs.Exported.{near, admitted}

module _ (n width count first slant x y : ℕ) (yes : admitted n width count first slant x y ≡ true) where
  pub few : slant ≤ most_slant
  unfolding admitted near
  few = grind (arith, common_steps)

  pub lent : Lent n record { width = width; count = count; first = first }
  unfolding admitted near
  lent = grind (arith, common_steps)

  pub reachable : Reachable record { x = x; base = y }
  unfolding admitted near
  reachable = grind (arith, common_steps)

pub ruleset asked = (few, lent, reachable)
