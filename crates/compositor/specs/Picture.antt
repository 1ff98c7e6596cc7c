-- WHAT STROKES LEAVE OF A PICTURE: document 01, "Places and strokes" and "Open and Work". Definitions only.
use Rattle.std.specs.Prelude.{List, [], ◌∷◌, ◌++◌, ℕ, take, drop, replicate}
use Rattle.font.specs.Paint.{stroke_row, each_row}
use Rattle.compositor.specs.declared.Settings.{Settings}
use Rattle.compositor.specs.Settings.{row_bytes, picture_bytes}
use Rattle.compositor.specs.Order.{Stroke}

-- the picture's row y with what a stroke has there
abbrev pub stroke_on : Stroke → ℕ → List ℕ → List ℕ
stroke_on t y row = stroke_row t.rows t.offsets t.color t.x t.base y row

-- with stroke after stroke
unfoldable pub strokes_on : List Stroke → ℕ → List ℕ → List ℕ
strokes_on [] y row = row
strokes_on (t ∷ ts) y row = strokes_on ts y (stroke_on t y row)

-- row y as the first c strokes leave it on zeros
unfoldable pub row_after : Settings → List Stroke → ℕ → ℕ → List ℕ
row_after s ts c y = strokes_on (take c ts) y (replicate (row_bytes s) 0)

-- the picture's buffer, which held `bytes`, with every row as the first c strokes leave it on zeros: what the picture's
-- rows held before is not looked at, and the bytes after the picture stay
abbrev pub picture_after : Settings → List Stroke → ℕ → List ℕ → List ℕ
picture_after s ts c bytes = each_row (λ y row. row_after s ts c y) (row_bytes s) s.height 0 bytes

-- the picture's buffer with its picture zeroed, as Open leaves it
abbrev pub cleared : Settings → List ℕ → List ℕ
cleared s bytes = replicate (picture_bytes s) 0 ++ drop (picture_bytes s) bytes
