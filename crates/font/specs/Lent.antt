-- Promises: what the painter's functions ask of the bytes that they are lent. No reader of the deposit needs this file.
use Rattle.std.specs.Prelude.{ℕ, ◌*◌, ◌<◌, ◌≤◌}
use Rattle.font.specs.Font.{bearing_y}
use Rattle.font.specs.Slant.{unmoved}
use Rattle.font.specs.Paint.{origin}
use Rattle.font.specs.declared.paint.Rows.{Rows}
use Rattle.font.specs.declared.paint.Spot.{Spot}

-- the most columns, and the most rows, of a picture of which the painter is lent a part
abbrev pub most_lent : ℕ
most_lent = 4096

-- a part of n bytes holds these rows of a picture
pub record Lent (n : ℕ) (rows : Rows) : Type 0 where
  pub narrow : rows.width ≤ most_lent
  pub short : rows.count ≤ most_lent
  pub high : rows.first ≤ most_lent
  pub long : rows.count * (4 * rows.width) ≤ n

-- a spot that is not too far off, for a glyph
pub record Reachable (at : Spot) : Type 0 where
  pub x_least : unmoved ≤ at.x
  pub x_most : at.x < 2 * origin
  pub base_least : bearing_y ≤ at.base
  pub base_most : at.base < 2 * origin
