-- Ink: document 02, S-6. Definitions only.
-- A glyph has ink, or its sixteen rows are all zero, as those of space are. The strokes of a glyph without ink would
-- change nothing, and a letter with such a glyph has none.
use Rattle.std.specs.Prelude.{ℕ, Bool, false, not, ◌&&◌, ◌||◌, List, [], ◌∷◌, ◌==◌, nat_le, nat_lt}

-- some row of a glyph is not zero
unfoldable pub has_ink : List ℕ → Bool
has_ink [] = false
has_ink (bits ∷ rows) = not (bits == 0) || has_ink rows

-- The code points whose glyphs have ink, by a rule: all but 00 to 20, 7F to A0, and AD, the soft hyphen. It is proved
-- that `has_ink` of a code point's glyph is this, in both fonts and in every mode.
abbrev pub is_inked : ℕ → Bool
is_inked code = nat_lt 0x20 code && (not (nat_le 0x7f code && nat_le code 0xa0) && not (code == 0xad))
