-- The outline's displacements: document 01, "Places and strokes", second paragraph; 02, S-10. Definitions only.
use Rattle.std.specs.Prelude.{Bool, cond, List, [], ◌∷◌, ◌++◌, ℕ, zero, suc, ◌+◌, ◌-◌, ◌*◌, min, max, ◌==◌}
use Rattle.compositor.specs.declared.Settings.{Settings}

-- o, how many pixels of outline are drawn
abbrev pub outline_of : Settings → ℕ
outline_of s = min s.outline_px s.outline_cap_px

-- A displacement moves a glyph by columns to the right and by rows down, each from −o to o. Both are written o larger,
-- from 0 to 2o: dx is o more than the columns, and dy o more than the rows. A distance is how far one is from o.
abbrev pub distance : ℕ → ℕ → ℕ
distance o d = d - o + (o - d)

-- the larger of the two distances is exactly o
abbrev pub at_distance : ℕ → ℕ → ℕ → Bool
at_distance o dx dy = max (distance o dx) (distance o dy) == o

-- of the row dy, the displacements of the n columns from dx on
unfoldable pub displacement_row : ℕ → ℕ → ℕ → ℕ → List (ℕ × ℕ)
displacement_row o dy dx zero = []
displacement_row o dy dx (suc n) = cond (at_distance o dx dy) ((dx, dy) ∷ displacement_row o dy (suc dx) n) (displacement_row o dy (suc dx) n)

-- of n rows from dy on, in each all columns
unfoldable pub displacement_rows : ℕ → ℕ → ℕ → List (ℕ × ℕ)
displacement_rows o dy zero = []
displacement_rows o dy (suc n) = displacement_row o dy 0 (2 * o + 1) ++ displacement_rows o (suc dy) n

-- the outline's displacements, rows from −o up, in each columns from −o up; none where o is 0
unfoldable pub displacements : ℕ → List (ℕ × ℕ)
displacements o = cond (o == 0) [] (displacement_rows o 0 (2 * o + 1))
