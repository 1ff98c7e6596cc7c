-- DOCUMENT 01'S CASES a TO l, cases of letters without ink, of other house settings, and some more: tapes and settings,
-- and what Wrap and Draw make of them, by computation.
use mathlib.Core.Path.{◌≡◌, refl}
use mathlib.Core.List.{List, [], ◌∷◌, ◌++◌, map, flatten}
use Prim.Native.Nat.{ℕ, ◌+◌, ◌-◌, ◌*◌}
use lib.IntN.{negsuc}
use lib.ListN.{length, get_or, replicate}
use Rattle.font.specs.Blend.{blend_byte, blend_alpha, blend_over, blend_pixel}
use Rattle.font.specs.Modes.{replaced}
use Rattle.font.specs.Font.{embolden, tabulate, regular_table, bold_table}
use Rattle.font.specs.Ink.{has_ink}
use Rattle.font.specs.Paint.{origin, paint_column, paint_columns, stroke_row}
use Rattle.tape.specs.Outcome.{accepted, refused, on_accepted}
use Rattle.tape.specs.Style.{same_style}
use Rattle.tape.specs.Command.{code_point, is_letter, is_opener, is_scalar, added, fault_of, command_of}
use Rattle.tape.specs.Runs.{merge_into, letters_of}
use Rattle.tape.specs.Tape.{least_room, read, tape_runs, tape_letters, read_call}
use Rattle.tape.specs.Segments.{letter_bytes, letters_bytes}
use Rattle.wrap.specs.Lines.{Line, up_from, without_last, visible_cols, logical_lines, tokenise, is_space_token, chunks, put_chunks, add_or_break, put_token, put_tokens, fill, wrap_runs}
use Rattle.wrap.specs.Wrap.{wrap_call}
use Rattle.wrap.proofs.Cases as Wrap
use Rattle.compositor.specs.declared.Settings.{Settings}
use Rattle.compositor.specs.Settings.{out_of_range}
use Rattle.compositor.specs.Layout.{last_base_line, base_line, line_start}
use Rattle.compositor.specs.Outline.{displacement_row, displacement_rows, displacements}
use Rattle.compositor.specs.Order.{Stroke, glyph_strokes, line_strokes, lines_strokes, drawing}
use Rattle.compositor.specs.Picture.{strokes_on, row_after}
use Rattle.compositor.specs.Draw.{tape_strokes, cue_call, draw_call}
use Rattle.compositor.specs.Plain.{plain_start}
use Rattle.compositor.specs.House.{with_house}

-- white letters with a black outline, in lines as high as a cell, drawn in a glyph mode; side margin, slant and outline
-- cap are the old numbers
abbrev pub settings_in : ℕ → ℕ → ℕ → ℕ → ℕ → ℕ → Settings
settings_in mode width height margin outline align =
    record {
      width = width;
      height = height;
      default_color = 255 ∷ 255 ∷ 255 ∷ 255 ∷ [];
      outline_color = 0 ∷ 0 ∷ 0 ∷ 255 ∷ [];
      line_height_px = 0;
      bottom_margin_px = margin;
      outline_px = outline;
      align = align;
      glyph_mode = mode;
      side_margin_px = 8;
      slant = 2;
      outline_cap_px = 2;
    }

-- in mode 0
abbrev pub settings : ℕ → ℕ → ℕ → ℕ → ℕ → Settings
settings = settings_in 0

-- a picture without rows, L columns wide
abbrev columns : ℕ → Settings
columns L = settings (8 * L) 0 0 0 0

-- at L columns the tape makes these lines, in a call of Wrap, and a call of Draw has so many strokes, one for each letter
-- with ink
abbrev Makes : ℕ → List ℕ → List Line → ℕ → Type 0
Makes L tape lines inked =
    Wrap.Makes L tape lines × (on_accepted length (draw_call (columns L) least_room 0 tape) ≡ accepted inked)

abbrev Refuses : Settings → ℕ → List ℕ → ℕ → ℕ → Type 0
Refuses s size tape number place = draw_call s least_room size tape ≡ refused number place

-- what f tells of each stroke
abbrev Strokes : {A : Type 0} → (Stroke → A) → Settings → ℕ → List ℕ → List A → Type 0
Strokes f s size tape told = on_accepted (map f) (draw_call s least_room size tape) ≡ accepted told

-- T
abbrev Total : ℕ → List ℕ → ℕ → Type 0
Total outline tape n = on_accepted length (draw_call (settings 32 0 0 outline 0) least_room 0 tape) ≡ accepted n

abbrev pub AB : List ℕ
AB = letters_bytes (0x41 ∷ 0x42 ∷ [])

-- document 01's cases
pub record Document01 : Type 0 where
  pub a : Makes 4 [] [] 0
  pub b : Makes 4 (letters_bytes (0x41 ∷ 0x42 ∷ 0x43 ∷ 0x44 ∷ [])) ((0 ∷ 1 ∷ 2 ∷ 3 ∷ []) ∷ []) 4
  pub c : Makes 4 (letters_bytes (0x41 ∷ 0x42 ∷ 0x43 ∷ 0x44 ∷ 0x45 ∷ [])) ((0 ∷ 1 ∷ 2 ∷ 3 ∷ []) ∷ (4 ∷ []) ∷ []) 5
  pub d :
      Makes 4 (letters_bytes (0x41 ∷ 0x42 ∷ 0x43 ∷ 0x44 ∷ 0x45 ∷ 0x46 ∷ 0x47 ∷ 0x48 ∷ []) ++ (0x05 ∷ 0x02 ∷ 0x49 ∷ []))
      ((0 ∷ 1 ∷ 2 ∷ 3 ∷ []) ∷ (4 ∷ 5 ∷ 6 ∷ 7 ∷ []) ∷ [] ∷ (9 ∷ []) ∷ []) 9
  pub e : Makes 4 (letters_bytes (0x41 ∷ 0x42 ∷ 0x01 ∷ 0x43 ∷ 0x44 ∷ 0x45 ∷ [])) ((0 ∷ 1 ∷ 2 ∷ 3 ∷ []) ∷ (4 ∷ 5 ∷ []) ∷ []) 5
  pub f : Makes 2 (letters_bytes (0x41 ∷ 0x20 ∷ 0x20 ∷ 0x42 ∷ [])) ((0 ∷ []) ∷ (3 ∷ []) ∷ []) 2
  pub g :
      Makes 3 (0x02 ∷ 0x58 ∷ 0x02 ∷ 0x20 ∷ 0x02 ∷ 0x41 ∷ 0x06 ∷ 0x01 ∷ 0x00 ∷ 0x02 ∷ 0x42 ∷ [])
      ((0 ∷ 1 ∷ 2 ∷ []) ∷ (3 ∷ []) ∷ []) 3
  pub g_without : Makes 3 (letters_bytes (0x58 ∷ 0x20 ∷ 0x41 ∷ 0x42 ∷ [])) ((0 ∷ []) ∷ (2 ∷ 3 ∷ []) ∷ []) 3
  pub h : (blend_byte 200 128 100 ≡ 150) × (blend_alpha 128 255 ≡ 255)
  -- a column of 8 pixels on a picture of 5
  pub i : (plain_start (settings 5 0 0 0 0) 8 ≡ negsuc 0) × (line_start (settings 5 0 0 0 0) 8 ≡ origin - 1)
  pub j : embolden 0x81 ≡ 0xc1
  pub k_06 : Refuses (columns 4) 0 (0x06 ∷ []) 3 1
  pub k_00 : Refuses (columns 4) 0 (0x00 ∷ []) 3 0
  pub k_02 : Refuses (columns 4) 0 (0x02 ∷ []) 2 0
  pub k_surrogate : Refuses (columns 4) 0 (0x04 ∷ 0x00 ∷ 0xd8 ∷ 0x00 ∷ []) 4 0
  pub k_last : Total 0 (0x04 ∷ 0x10 ∷ 0xff ∷ 0xff ∷ []) 1
  pub k_0c : Refuses (columns 4) 0 (0x0c ∷ []) 1 0
  pub l : Total 0 AB 2 × Total 1 AB 18 × Total 2 AB 34 × Total 9 AB 34

-- letters without ink
pub record BareCases : Type 0 where
  -- a control between letters; a space; a tab; a bold space; a no-break space, and a soft hyphen
  pub control : Total 0 (letters_bytes (0x41 ∷ 0x01 ∷ 0x42 ∷ [])) 2 × Total 1 (letters_bytes (0x41 ∷ 0x01 ∷ 0x42 ∷ [])) 18
  pub space : Total 1 (letters_bytes (0x41 ∷ 0x20 ∷ 0x42 ∷ [])) 18
  pub tab : Total 2 (letters_bytes (0x41 ∷ 0x09 ∷ [])) 17
  pub bold_space : Total 1 (0x02 ∷ 0x41 ∷ 0x06 ∷ 0x02 ∷ 0x20 ∷ 0x00 ∷ 0x02 ∷ 0x42 ∷ []) 18
  pub latin_1 : Total 1 (letters_bytes (0x41 ∷ 0xa0 ∷ 0xad ∷ 0xa1 ∷ [])) 18
  -- a line of such letters alone has no strokes
  pub none : Wrap.Makes 4 (letters_bytes (0xa0 ∷ 0xad ∷ [])) ((0 ∷ 1 ∷ []) ∷ []) × Total 2 (letters_bytes (0xa0 ∷ 0xad ∷ [])) 0
  -- the box has ink
  pub box : Total 0 (0x03 ∷ 0x01 ∷ 0x00 ∷ []) 1
  -- each has a cell of its own
  pub cells :
      Strokes (λ t. t.x - origin) (settings 48 0 0 0 1) 0 (letters_bytes (0x41 ∷ 0x01 ∷ 0x42 ∷ 0x20 ∷ 0xad ∷ 0x43 ∷ [])) (8 ∷ 24 ∷ 48 ∷ [])

-- an italic letter
abbrev italic : ℕ → List ℕ
italic code = 0x07 ∷ letter_bytes code ++ (0x00 ∷ [])

-- T of AB at an outline and a cap
abbrev Capped : ℕ → ℕ → ℕ → Type 0
Capped outline cap n = on_accepted length (draw_call (with_house 8 2 cap (settings 32 0 0 outline 0)) least_room 0 AB) ≡ accepted n

-- side margins, slants and outline caps
pub record HouseCases : Type 0 where
  -- a line of 40 pixels, left and right, at both ends of the range; the centre stays
  pub margins :
      (line_start (with_house 0 2 2 (settings 101 0 0 0 1)) 40 ≡ origin)
      × (line_start (with_house 0 2 2 (settings 101 0 0 0 3)) 40 ≡ origin + 61)
      × (line_start (with_house 255 2 2 (settings 101 0 0 0 2)) 40 ≡ origin + 255)
      × (line_start (with_house 255 2 2 (settings 101 0 0 0 4)) 40 ≡ origin - 194)
      × (line_start (with_house 255 2 2 (settings 101 0 0 0 0)) 40 ≡ origin + 30)
  -- an A aligned right on a picture of one cell begins left of it
  pub off : plain_start (with_house 1 2 2 (settings 8 0 0 0 3)) 8 ≡ negsuc 0
  -- the margin enters neither the column limit nor the centre: two letters on one line
  pub centre : Strokes (λ t. t.x - origin) (with_house 16 2 2 (settings 16 0 0 0 0)) 0 AB (0 ∷ 8 ∷ [])
  -- an italic letter and an upright one
  pub leans :
      Strokes (λ t. t.offsets) (with_house 8 8 2 (settings 32 0 0 0 1)) 0 (italic 0x41 ++ (0x02 ∷ 0x42 ∷ []))
      ((14 ∷ 14 ∷ 13 ∷ 13 ∷ 12 ∷ 12 ∷ 11 ∷ 11 ∷ 10 ∷ 10 ∷ 9 ∷ 9 ∷ 8 ∷ 7 ∷ 7 ∷ 6 ∷ []) ∷ replicate 16 8 ∷ [])
  pub upright : Strokes (λ t. t.offsets) (with_house 8 0 2 (settings 32 0 0 0 1)) 0 (italic 0x41) (replicate 16 8 ∷ [])
  -- the box's row 13 is 7E hexadecimal; below the base line it leans to the left by a half column, rounded to a whole one
  pub below :
      on_accepted (λ ts. row_after (with_house 0 8 2 (settings 8 16 0 0 1)) ts 1 13)
      (draw_call (with_house 0 8 2 (settings 8 16 0 0 1)) least_room 512 (0x07 ∷ 0x03 ∷ 0x01 ∷ 0x00 ∷ 0x00 ∷ []))
      ≡ accepted (replicate 24 255 ++ replicate 8 0)
  -- an outline of 9 is the cap's, and one below the cap is its own
  pub caps : Capped 9 0 2 × Capped 9 1 18 × Capped 9 3 50 × Capped 9 4 66 × Capped 4 4 66 × Capped 3 4 50
  -- what is refused, and what is not yet
  pub margin_range : Refuses (with_house 256 2 2 (settings 1 1 0 0 0)) 0 (0x0c ∷ []) 8 0
  pub slant_range : Refuses (with_house 8 9 2 (settings 1 1 0 0 0)) 0 (0x0c ∷ []) 8 0
  pub cap_range : Refuses (with_house 8 2 5 (settings 1 1 0 0 0)) 0 (0x0c ∷ []) 8 0
  pub most : Refuses (with_house 255 8 4 (settings 1 1 0 0 0)) 4 (0x0c ∷ []) 1 0

-- some more
pub record Cases : Type 0 where
  -- the order: each letter's outline and then the letter
  pub order :
      Strokes (λ t. get_or t.color 0 0) (settings 32 0 0 1 0) 0 AB
      (0 ∷ 0 ∷ 0 ∷ 0 ∷ 0 ∷ 0 ∷ 0 ∷ 0 ∷ 255 ∷ 0 ∷ 0 ∷ 0 ∷ 0 ∷ 0 ∷ 0 ∷ 0 ∷ 0 ∷ 255 ∷ [])
  -- an outline of 2 is not filled
  pub outline_2 :
      displacements 2
      ≡ (0, 0) ∷ (1, 0) ∷ (2, 0) ∷ (3, 0) ∷ (4, 0) ∷ (0, 1) ∷ (4, 1) ∷ (0, 2) ∷ (4, 2) ∷ (0, 3) ∷ (4, 3)
      ∷ (0, 4) ∷ (1, 4) ∷ (2, 4) ∷ (3, 4) ∷ (4, 4) ∷ []
  -- a curly quote: in mode 0 the box, whose row 2 is 7E hexadecimal, and in mode 1 a quote, whose row 2 is 18, in bold 1C
  pub curly_quote :
      Strokes (λ t. get_or t.rows 2 0) (settings_in 0 16 0 0 0 1) 0 (0x03 ∷ 0x20 ∷ 0x19 ∷ []) (0x7e ∷ [])
      × Strokes (λ t. get_or t.rows 2 0) (settings_in 1 16 0 0 0 1) 0 (0x03 ∷ 0x20 ∷ 0x19 ∷ []) (0x18 ∷ [])
      × Strokes (λ t. get_or t.rows 2 0) (settings_in 1 16 0 0 0 1) 0 (0x06 ∷ 0x03 ∷ 0x20 ∷ 0x19 ∷ 0x00 ∷ []) (0x1c ∷ [])
  -- three lines: the last one's base line is 4 rows above the margin
  pub base_lines :
      Strokes (λ t. t.base - origin) (settings 8 60 10 0 1) 1920 (letters_bytes (0x41 ∷ 0x42 ∷ 0x43 ∷ [])) (14 ∷ 30 ∷ 46 ∷ [])
  -- each subtraction stops at 0
  pub stops :
      (last_base_line (settings 8 10 3 0 0) ≡ 3)
      × (last_base_line (settings 8 10 7 0 0) ≡ 0)
      × (last_base_line (settings 8 10 0xffff_ffff 0 0) ≡ 0)
  -- the five alignments of a line of 40 pixels
  pub starts :
      (line_start (settings 101 0 0 0 0) 40 ≡ origin + 30)
      × (line_start (settings 101 0 0 0 1) 40 ≡ origin + 8)
      × (line_start (settings 101 0 0 0 2) 40 ≡ origin + 8)
      × (line_start (settings 101 0 0 0 3) 40 ≡ origin + 53)
      × (line_start (settings 101 0 0 0 4) 40 ≡ origin + 53)
  -- what is refused first
  pub range_first : Refuses (settings 4097 1 0 0 0) 0 (0x0c ∷ []) 8 0
  pub height_range : Refuses (settings 1 4097 0 0 0) 0 (0x0c ∷ []) 8 0
  pub align_range : Refuses (settings 1 1 0 0 5) 4 (0x0c ∷ []) 8 0
  pub mode_range : Refuses (settings_in 2 1 1 0 0 0) 0 (0x0c ∷ []) 8 0
  pub short_picture : Refuses (settings 2 3 0 0 0) 23 (0x0c ∷ []) 9 0
  pub long_enough : Refuses (settings 2 3 0 0 0) 24 (0x0c ∷ []) 1 0
  -- the A of a picture of one cell: its row 1 is 18 hexadecimal
  pub row :
      on_accepted (λ ts. row_after (settings 8 16 0 0 0) ts 1 1) (draw_call (settings 8 16 0 0 0) least_room 512 (0x02 ∷ 0x41 ∷ []))
      ≡ accepted (replicate 12 0 ++ (replicate 8 255 ++ replicate 12 0))

pub document_01 : Document01
unfolding has_ink wrap_call read_call cue_call tape_strokes out_of_range drawing lines_strokes line_strokes glyph_strokes displacements displacement_rows displacement_row line_start base_line row_after strokes_on stroke_row paint_columns paint_column blend_pixel blend_over blend_byte blend_alpha tabulate regular_table wrap_runs visible_cols logical_lines tokenise is_space_token chunks put_chunks add_or_break put_token put_tokens fill without_last up_from flatten tape_letters tape_runs read fault_of command_of code_point is_letter is_opener is_scalar added merge_into letters_of same_style letter_bytes
document_01 =
    record {
      a = (refl, refl);
      b = (refl, refl);
      c = (refl, refl);
      d = (refl, refl);
      e = (refl, refl);
      f = (refl, refl);
      g = (refl, refl);
      g_without = (refl, refl);
      h = (refl, refl);
      i = (refl, refl);
      j = refl;
      k_06 = refl;
      k_00 = refl;
      k_02 = refl;
      k_surrogate = refl;
      k_last = refl;
      k_0c = refl;
      l = (refl, refl, refl, refl);
    }

pub bare_cases : BareCases
unfolding has_ink bold_table wrap_call read_call cue_call tape_strokes out_of_range drawing lines_strokes line_strokes glyph_strokes displacements displacement_rows displacement_row line_start base_line row_after strokes_on stroke_row paint_columns paint_column blend_pixel blend_over blend_byte blend_alpha tabulate regular_table wrap_runs visible_cols logical_lines tokenise is_space_token chunks put_chunks add_or_break put_token put_tokens fill without_last up_from flatten tape_letters tape_runs read fault_of command_of code_point is_letter is_opener is_scalar added merge_into letters_of same_style letter_bytes
bare_cases =
    record {
      control = (refl, refl);
      space = refl;
      tab = refl;
      bold_space = refl;
      latin_1 = refl;
      none = (refl, refl);
      box = refl;
      cells = refl;
    }

pub house_cases : HouseCases
unfolding has_ink bold_table cue_call tape_strokes out_of_range drawing lines_strokes line_strokes glyph_strokes displacements displacement_rows displacement_row line_start base_line row_after strokes_on stroke_row paint_columns paint_column blend_pixel blend_over blend_byte blend_alpha tabulate regular_table wrap_runs visible_cols logical_lines tokenise is_space_token chunks put_chunks add_or_break put_token put_tokens fill without_last up_from flatten tape_letters tape_runs read fault_of command_of code_point is_letter is_opener is_scalar added merge_into letters_of same_style letter_bytes
house_cases =
    record {
      margins = (refl, refl, refl, refl, refl);
      off = refl;
      centre = refl;
      leans = refl;
      upright = refl;
      below = refl;
      caps = (refl, refl, refl, refl, refl, refl);
      margin_range = refl;
      slant_range = refl;
      cap_range = refl;
      most = refl;
    }

pub cases : Cases
unfolding has_ink replaced bold_table cue_call tape_strokes out_of_range drawing lines_strokes line_strokes glyph_strokes displacements displacement_rows displacement_row line_start base_line row_after strokes_on stroke_row paint_columns paint_column blend_pixel blend_over blend_byte blend_alpha tabulate regular_table wrap_runs visible_cols logical_lines tokenise is_space_token chunks put_chunks add_or_break put_token put_tokens fill without_last up_from flatten tape_letters tape_runs read fault_of command_of code_point is_letter is_opener is_scalar added merge_into letters_of same_style letter_bytes
cases =
    record {
      order = refl;
      outline_2 = refl;
      curly_quote = (refl, refl, refl);
      base_lines = refl;
      stops = (refl, refl, refl);
      starts = (refl, refl, refl, refl, refl);
      range_first = refl;
      height_range = refl;
      align_range = refl;
      mode_range = refl;
      short_picture = refl;
      long_enough = refl;
      row = refl;
    }
