-- A COLOR AS ONE NUMBER, as the functions for C take it. Definitions only.
use Rattle.std.specs.Prelude.{ℕ, ◌/◌, ◌%◌, ◌^◌, List, [], ◌∷◌}

-- the four bytes of a color that is written as the number 0xRRGGBBAA, below 2^32
abbrev pub color_bytes : ℕ → List ℕ
color_bytes v = v / 2 ^ 24 ∷ v / 2 ^ 16 % 256 ∷ v / 2 ^ 8 % 256 ∷ v % 256 ∷ []
