-- What the functions mean that programs in C and Rust call, over the contracts of the calls. Definitions only.
-- Each does what its call does, on the settings, the stripes and the record that numbers stand for, and gives the
-- call's answer as one number.
use Rattle.std.specs.Prelude.{List, ℕ, ◌+◌, take, drop, slice_index}
use Rattle.font.specs.Colors.{color_bytes}
use Rattle.tape.specs.Packed.{Numbered}
use Rattle.wrap.specs.Wrapped.{Wrapped}
use Rattle.compositor.specs.declared.Settings.{Settings}
use Rattle.compositor.specs.Draw.{Tapes}
use Rattle.compositor.specs.Drawn.{Drawn}
use Rattle.job.specs.declared.Stripes.{Stripes}
use Rattle.job.specs.declared.JobRecord.{JobRecord}
use Rattle.job.specs.Stripes.{most_stripes, division_of}
use Rattle.job.specs.Worked.{Opened, Worked}

-- the settings from twelve numbers; a color is 0xRRGGBBAA
abbrev pub settings_of : List ℕ → Settings
settings_of words =
    record {
      width = slice_index words 0;
      height = slice_index words 1;
      default_color = color_bytes (slice_index words 2);
      outline_color = color_bytes (slice_index words 3);
      line_height_px = slice_index words 4;
      bottom_margin_px = slice_index words 5;
      outline_px = slice_index words 6;
      align = slice_index words 7;
      glyph_mode = slice_index words 8;
      side_margin_px = slice_index words 9;
      slant = slice_index words 10;
      outline_cap_px = slice_index words 11;
    }

-- the stripes from 65 numbers, or from the first 65 of more: the count, and then the end rows
abbrev pub stripes_of : List ℕ → Stripes
stripes_of words = record { stripe_count = slice_index words 0; end_rows = take most_stripes (drop 1 words) }

-- a job record from 129 numbers: its stripes, and then the counters
abbrev pub record_of : List ℕ → JobRecord
record_of words = record { stripes = stripes_of words; counters = drop (1 + most_stripes) words }

-- Wrap: the workspace before and after, and the answer
abbrev pub WrapAnswered : List ℕ → List ℕ → List ℕ → ℕ → ℕ → Type 0
WrapAnswered tape ws ws' L result = Numbered (Wrapped tape ws ws' L) result

-- Draw: the picture's buffer before and after too
abbrev pub DrawAnswered : List ℕ → Tapes → List ℕ → List ℕ → List ℕ → List ℕ → ℕ → Type 0
DrawAnswered settings tape ws ws' picture picture' result = Numbered (Drawn (settings_of settings) tape ws ws' picture picture') result

-- Open: the stripes, and the record that it gives, as numbers too
abbrev pub OpenAnswered : List ℕ → Tapes → List ℕ → List ℕ → List ℕ → List ℕ → List ℕ → List ℕ → ℕ → Type 0
OpenAnswered settings tape ws ws' picture picture' stripes words' result =
    Numbered
    (λ a. Opened (settings_of settings) tape ws ws' picture picture' (division_of (stripes_of stripes)) a (record_of words'))
    result

-- Work on stripe k with budget n: the record before and after
abbrev pub WorkAnswered : List ℕ → Tapes → List ℕ → List ℕ → List ℕ → List ℕ → List ℕ → List ℕ → ℕ → ℕ → ℕ → Type 0
WorkAnswered settings tape ws ws' picture picture' words words' k n result =
    Numbered (λ a. Worked (settings_of settings) tape ws ws' picture picture' (record_of words) k n a (record_of words')) result
