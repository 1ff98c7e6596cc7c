-- The call Draw, and what calls that draw have in common: document 01, "Carried over, and added". Definitions only.
use Rattle.std.specs.Prelude.{List, ℕ, length, nat_lt}
use Rattle.tape.specs.Outcome.{Outcome, refuse_if, unless, on_accepted}
use Rattle.tape.specs.Style.{default_with}
use Rattle.tape.specs.Tape.{tape_letters, refuse_lengths}
use Rattle.compositor.specs.declared.Settings.{Settings}
use Rattle.compositor.specs.Settings.{out_of_range, picture_bytes}
use Rattle.compositor.specs.Order.{Stroke, drawing}
use Rattle.compositor.specs.Picture.{picture_after}

-- what a call is handed to draw: one tape, though the name leaves room for more
abbrev pub Tapes : Type 0
Tapes = List ℕ

-- the strokes of a tape's caption, or the tape's first fault
unfoldable pub tape_strokes : Settings → Tapes → Outcome (List Stroke)
tape_strokes s tape = on_accepted (drawing s) (tape_letters (default_with s.default_color) tape)

-- what is refused of settings, and of a picture's buffer of `size` bytes, before anything else: 8, and then 9
abbrev pub refuse_settings : {A : Type 0} → Settings → ℕ → Outcome A → Outcome A
refuse_settings s size o = refuse_if (out_of_range s) 8 0 (refuse_if (nat_lt size (picture_bytes s)) 9 0 o)

-- What a call that draws comes to, with a workspace of `room` bytes and a picture's buffer of `size`: 8, 9, 10, 11;
-- then the number `extra`, where it is not 0, for what the call has to check besides; and then what the tape comes to.
-- Accepted, it has the caption's strokes.
unfoldable pub cue_call : Settings → ℕ → ℕ → Tapes → ℕ → Outcome (List Stroke)
cue_call s room size tape extra = refuse_settings s size (refuse_lengths tape room (unless extra 0 (tape_strokes s tape)))

-- Draw has nothing else to check
abbrev pub draw_call : Settings → ℕ → ℕ → Tapes → Outcome (List Stroke)
draw_call s room size tape = cue_call s room size tape 0

-- the picture's buffer, which held `bytes`, with all strokes on zeros
abbrev pub draw_picture : Settings → List ℕ → List Stroke → List ℕ
draw_picture s bytes ts = picture_after s ts (length ts) bytes
