-- What is in range, and the bounds of positions.
use mathlib.Core.Path.{◌≡◌}
use mathlib.Core.Bool.{Bool, true, false, cond}
use mathlib.Mathlib.Data.Bool.Basic.{or-eq-false-eq-eq-false-and-eq-false}
use Prim.Native.Nat.{ℕ, ◌*◌, ◌≤◌}
use native.Mathlib.Nat.{mul-le-mul}
use native.Mathlib.Omega.{arith}
use borrow.Author.Tests.{ltb-false}
use lib.Dec.{ltb}
use Rattle.font.specs.Slant.{most_slant}
use Rattle.tape.specs.Command.{most_letters}
use Rattle.compositor.specs.declared.Settings.{Settings}
use Rattle.compositor.specs.Settings.{most_pixels, most_line_height, last_align, last_glyph_mode, most_side_margin, most_outline_cap, out_of_range, row_bytes, picture_bytes}
use Rattle.compositor.specs.Outline.{outline_of}
use Rattle.compositor.specs.Ready.{InRange, most_picture, most_rise}

pub in_range : (s : Settings) → out_of_range s ≡ false → InRange s
unfolding out_of_range
in_range s e =
    let width = (or-eq-false-eq-eq-false-and-eq-false (ltb most_pixels s.width) _).0 e in
    let height = (or-eq-false-eq-eq-false-and-eq-false (ltb most_pixels s.height) _).0 width.1 in
    let lines = (or-eq-false-eq-eq-false-and-eq-false (ltb most_line_height s.line_height_px) _).0 height.1 in
    let align = (or-eq-false-eq-eq-false-and-eq-false (ltb last_align s.align) _).0 lines.1 in
    let mode = (or-eq-false-eq-eq-false-and-eq-false (ltb last_glyph_mode s.glyph_mode) _).0 align.1 in
    let margin = (or-eq-false-eq-eq-false-and-eq-false (ltb most_side_margin s.side_margin_px) _).0 mode.1 in
    let slant = (or-eq-false-eq-eq-false-and-eq-false (ltb most_slant s.slant) _).0 margin.1 in
    record {
      narrow = ltb-false _ _ width.0;
      low = ltb-false _ _ height.0;
      lines = ltb-false _ _ lines.0;
      margin = ltb-false _ _ margin.0;
      slanted = ltb-false _ _ slant.0;
      cap = ltb-false _ _ slant.1;
    }

-- a letter's slant is as small as that of italic
pub slant_small : {slant : ℕ} → slant ≤ most_slant → (italic : Bool) → cond italic slant 0 ≤ most_slant
slant_small h true = h
slant_small h false = omega arith

pub outline_small : (s : Settings) → InRange s → outline_of s ≤ most_outline_cap
outline_small s r = let cap = r.cap in omega arith

pub picture_small : (s : Settings) → InRange s → picture_bytes s ≤ most_picture
picture_small s r =
    let n = r.narrow in
    let wide : row_bytes s ≤ 4 * most_pixels = omega arith in
    mul-le-mul r.low wide

pub rise : (below h : ℕ) → below ≤ most_letters → h ≤ most_line_height → below * h ≤ most_rise
rise below h p q = mul-le-mul p q
