-- Glyph modes: document 02, S-3. Definitions only.
-- A caption is drawn in one of two glyph modes, which is a setting: 0, or 1, in which four curly quotes and two dashes
-- have the glyphs of 27, 22 and 2D. The mode decides which glyphs are drawn, and nothing else: lines are broken by the
-- letters that the tape has.
use Rattle.std.specs.Prelude.{ℕ, cond, List, [], ◌∷◌, ◌==◌}

-- The code points that mode 1 draws as others, each before the one that it is drawn as: the single and the double
-- quotes, opening and closing, and the shorter dash and the longer one.
abbrev pub replacements : List (ℕ × ℕ)
replacements =
    (0x2018, 0x27) ∷ (0x2019, 0x27)
    ∷ (0x201c, 0x22) ∷ (0x201d, 0x22)
    ∷ (0x2013, 0x2d) ∷ (0x2014, 0x2d)
    ∷ []

-- what pairs have for a code point: the second of the first pair that begins with it, or the code point itself, where
-- none does
abbrev pub paired_with : List (ℕ × ℕ) → ℕ → ℕ
paired_with [] code = code
paired_with (p ∷ ps) code = cond (code == p.0) p.1 (paired_with ps code)

-- the code point that replaces another in mode 1
unfoldable pub replaced : ℕ → ℕ
replaced code = paired_with replacements code

-- the code point whose glyph is drawn for a code point, in a glyph mode
abbrev pub drawn_code : ℕ → ℕ → ℕ
drawn_code mode code = cond (mode == 1) (replaced code) code
