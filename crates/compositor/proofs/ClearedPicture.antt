-- Strokes on a picture that was cleared.
use mathlib.Core.Path.{◌≡◌, ◌∙◌, ap}
use mathlib.Core.List.{List, ◌++◌, append_assoc}
use Prim.Native.Nat.{ℕ, zero, suc, ◌+◌, ◌*◌}
use native.Mathlib.Nat.{zero-mul, suc-mul, add_comm}
use lib.ListN.{length, take, drop, replicate, length-replicate, replicate-append-replicate}
use lib.Seq.{take_at, drop_at, drop-drop}
use Rattle.font.specs.Paint.{each_row}
use Rattle.compositor.specs.declared.Settings.{Settings}
use Rattle.compositor.specs.Settings.{row_bytes, picture_bytes}
use Rattle.compositor.specs.Order.{Stroke}
use Rattle.compositor.specs.Picture.{strokes_on, row_after, picture_after}
use Rattle.compositor.specs.Painting.{painted}

abbrev zeros : ℕ → List ℕ
zeros n = replicate n 0

-- rows of zeros, each changed, whatever was there before them
rows_cleared : (f : ℕ → List ℕ → List ℕ) (size n y : ℕ) (bytes : List ℕ)
    → each_row f size n y (zeros (n * size) ++ drop (n * size) bytes) ≡ each_row (λ j row. f j (zeros size)) size n y bytes
unfolding each_row
rows_cleared f size zero y bytes = rw (zero-mul size)
rows_cleared f size (suc n) y bytes =
    let wide : suc n * size ≡ size + n * size = suc-mul n size ∙ add_comm (n * size) size in
    let back : List ℕ = zeros (n * size) ++ drop (n * size) (drop size bytes) in
    let cut : zeros (suc n * size) ++ drop (suc n * size) bytes ≡ zeros size ++ back =
    ap (λ (k : ℕ). zeros k ++ drop k bytes) wide
    ∙ rw (← (replicate-append-replicate {A = ℕ} size (n * size) 0), ← (drop-drop (n * size) size bytes)) (append_assoc (zeros size) (zeros (n * size)) (drop (n * size) (drop size bytes))) in
    let long : length (zeros size) ≡ size = length-replicate size 0 in
    rw (
      cut,
      take_at (zeros size) back size long,
      drop_at (zeros size) back size long,
      rows_cleared f size n (suc y) (drop size bytes),
    )

-- the first c strokes on the whole picture
pub picture_drawn : (s : Settings) (ts : List Stroke) (c : ℕ) (bytes : List ℕ)
    → painted (record { width = s.width; count = s.height; first = 0 }) (take c ts) (zeros (picture_bytes s) ++ drop (picture_bytes s) bytes)
    ≡ picture_after s ts c bytes
unfolding row_after
picture_drawn s ts c bytes = rows_cleared (strokes_on (take c ts)) (row_bytes s) s.height 0 bytes
