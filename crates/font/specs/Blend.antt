-- Blending a color into a pixel: document 01, "Blend, alpha a > 0 ..", and document 02, S-8. Definitions only.
use Rattle.std.specs.Prelude.{ℕ, ◌+◌, ◌-◌, ◌*◌, ◌/◌, cond, List, ◌==◌, slice_index, slice_set}

-- the color byte s with alpha a over the picture's byte d
unfoldable pub blend_byte : ℕ → ℕ → ℕ → ℕ
blend_byte s a d = (s * a + d * (255 - a) + 127) / 255

-- Alpha a over the picture's alpha d. No cap is needed: d is at most 255, so the quotient is at most 255 − a, and the
-- sum at most 255. Alpha mixes as a color byte of 255 does: this is `blend_byte 255 a d`. Both are proved.
unfoldable pub blend_alpha : ℕ → ℕ → ℕ
blend_alpha a d = a + (d * (255 - a) + 127) / 255

-- the bytes l with the color k blended into the pixel whose four bytes begin at i; a color and a pixel are red, green,
-- blue, alpha
unfoldable pub blend_over : List ℕ → ℕ → List ℕ → List ℕ
blend_over k i l =
    let a = slice_index k 3 in
    slice_set
    (slice_set
    (slice_set
    (slice_set l i (blend_byte (slice_index k 0) a (slice_index l i)))
    (i + 1)
    (blend_byte (slice_index k 1) a (slice_index l (i + 1))))
    (i + 2)
    (blend_byte (slice_index k 2) a (slice_index l (i + 2))))
    (i + 3)
    (blend_alpha a (slice_index l (i + 3)))

-- the same, and plainly nothing where alpha is 0
unfoldable pub blend_pixel : List ℕ → ℕ → List ℕ → List ℕ
blend_pixel k i l = cond (slice_index k 3 == 0) l (blend_over k i l)
