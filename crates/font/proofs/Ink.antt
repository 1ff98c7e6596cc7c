-- THE LAWS of ink (document 02, S-6).
use Rattle.std.proofs.Common.{◌≡◌, ℕ, zero, suc, ◌+◌, ◌-◌, ◌*◌, ◌<◌, Bool, true, false, cond, not, ◌&&◌, ◌||◌, T, eqb, ltb, leb, List, [], ◌∷◌, ◌++◌, map, length, get_or, sym, refl, ap, ◌∙◌, true≢false, arith, ltb-false, ltb-true, lt-ltb, ne_eqb, eqb-true, le-leb}
use mathlib.Core.Bool.{beq}
use mathlib.Core.List.{map-append}
use borrow.Author.Tests.{lt-leb}
use lib.Ieee.Fits.{and_l, and_r}
use Rattle.font.specs.Glyphs.{glyphs, printable, printable_glyph, glyph_of, latin1}
use Rattle.font.specs.Modes.{replaced}
use Rattle.font.specs.Font.{tabulate, rows_of, regular_table, bold_table, embolden, bearing_y, cell_w, cell_h, table_of, rows_at, glyph_rows, missing_rows}
use Rattle.font.specs.Ink.{has_ink, is_inked}
use Rattle.font.specs.Slant.{unmoved}
use Rattle.font.specs.Paint.{origin, stroke_row}
use Rattle.font.proofs.Columns.{cond_same, columns_blank}
use Rattle.font.proofs.EveryEntry.{every, at}
use Rattle.font.proofs.GlyphRules.{bold_rule, regular_row_lem}
use Rattle.font.proofs.Modes.{not_told_apart}

-- ---- over the whole table

-- a code point's glyph, regular and bold, is by the rule
ink? : ℕ → ℕ → Bool
ink? code g = let rows = rows_of cell_h g in beq (has_ink rows) (is_inked code) && beq (has_ink (map embolden rows)) (is_inked code)

passed : T (every ink? 0 glyphs)
unfolding ink? has_ink glyphs printable_glyph printable glyph_of latin1
passed = tt

-- sixteen rows, one by one
tabulate_map : (f : ℕ → ℕ) (g : ℕ → ℕ) (n : ℕ) → tabulate (λ r. f (g r)) n ≡ map f (tabulate g n)
unfolding tabulate
tabulate_map f g zero = refl
tabulate_map f g (suc n) = ap (λ (xs : List ℕ). xs ++ (f (g n) ∷ [])) (tabulate_map f g n) ∙ sym (map-append f (tabulate g n) (g n ∷ []))

tabulate_alike : (f g : ℕ → ℕ) (n : ℕ) → ((r : ℕ) → r < n → f r ≡ g r) → tabulate f n ≡ tabulate g n
unfolding tabulate
tabulate_alike f g zero e = refl
tabulate_alike f g (suc n) e = rw (tabulate_alike f g n (λ r h. e r (omega arith)), e n (omega arith))

regular_rows : (code : ℕ) → code < 256 → rows_at regular_table code ≡ rows_of cell_h (get_or glyphs code 0)
unfolding tabulate
regular_rows code h = tabulate_alike _ _ 16 (λ r j. regular_row_lem code r h j)

bold_rows : (code : ℕ) → rows_at bold_table code ≡ map embolden (rows_at regular_table code)
bold_rows code = tabulate_alike _ _ 16 (λ r j. bold_rule (code * cell_h + r)) ∙ tabulate_map embolden (λ r. get_or regular_table (code * cell_h + r) 0) 16

same : (a b : Bool) → T (beq a b) → a ≡ b
same true true t = refl
same false false t = refl
same false true t = elim t [ ]
same true false t = elim t [ ]

count : length glyphs ≡ 256
unfolding glyphs printable latin1
count = refl

-- in the tables of both fonts
table_ink : (bold : Bool) (code : ℕ) → code < 256 → has_ink (rows_at (table_of bold) code) ≡ is_inked code
unfolding ink?
table_ink bold code h = by bold
  where
    rows : List ℕ
    rows = rows_of cell_h (get_or glyphs code 0)

    regular : Bool
    regular = beq (has_ink rows) (is_inked code)

    heavy : Bool
    heavy = beq (has_ink (map embolden rows)) (is_inked code)

    tested : T (regular && heavy)
    tested = at ink? 0 glyphs passed code (omega (arith, count))

    by : (b : Bool) → has_ink (rows_at (table_of b) code) ≡ is_inked code
    by true = ap has_ink (bold_rows code ∙ ap (map embolden) (regular_rows code h)) ∙ same (has_ink (map embolden rows)) (is_inked code) (and_r regular heavy tested)
    by false = ap has_ink (regular_rows code h) ∙ same (has_ink rows) (is_inked code) (and_l regular heavy tested)

-- ---- whatever is drawn

-- the box has ink, and stands for every code point from 256 on
drawn_ink : (bold : Bool) (code : ℕ) → has_ink (glyph_rows (table_of bold) 0 code) ≡ is_inked code
unfolding has_ink
drawn_ink bold code = by (ltb code 256) refl
  where
    by : (b : Bool) → ltb code 256 ≡ b → has_ink (cond b (rows_at (table_of bold) code) missing_rows) ≡ is_inked code
    by true e = table_ink bold code (ltb-true code 256 e)
    by false e =
        let h = ltb-false code 256 e in
        sym (simp (lt-ltb 0x20 code (omega arith), lt-leb code 0xa0 (omega arith), le-leb 0x7f code (omega arith), ne_eqb code 0xad (λ q. omega arith)))

-- THE RULE: which code points' glyphs have ink, in both fonts and in every mode
pub ink_rule : (bold : Bool) (mode code : ℕ) → has_ink (glyph_rows (table_of bold) mode code) ≡ is_inked code
ink_rule bold mode code = by (eqb mode 1)
  where
    by : (b : Bool) → has_ink (glyph_rows (table_of bold) 0 (cond b (replaced code) code)) ≡ is_inked code
    by true = drawn_ink bold (replaced code) ∙ not_told_apart is_inked (refl, (refl, (refl, (refl, (refl, (refl, tt)))))) code
    by false = drawn_ink bold code

-- so a bold glyph has ink exactly if the regular one has
pub bold_ink : (mode code : ℕ) → has_ink (glyph_rows bold_table mode code) ≡ has_ink (glyph_rows regular_table mode code)
bold_ink mode code = ink_rule true mode code ∙ sym (ink_rule false mode code)

-- ---- a stroke of a glyph without ink changes nothing

zero_rows : (rows : List ℕ) → has_ink rows ≡ false → (r : ℕ) → get_or rows r 0 ≡ 0
unfolding has_ink
zero_rows [] e r = refl
zero_rows (bits ∷ rows) e r = by (eqb bits 0) refl e r (zero_rows rows)
  where
    by : (b : Bool) → eqb bits 0 ≡ b → not b || has_ink rows ≡ false → (r : ℕ) → (has_ink rows ≡ false → (r : ℕ) → get_or rows r 0 ≡ 0)
        → get_or (bits ∷ rows) r 0 ≡ 0
    by true q e zero others = eqb-true bits 0 q
    by true q e (suc r) others = others e r
    by false q e r others = absurd (true≢false e)

pub no_ink_lem : (rows offsets k : List ℕ) (x base y : ℕ) (row : List ℕ) → has_ink rows ≡ false → stroke_row rows offsets k x base y row ≡ row
unfolding stroke_row
no_ink_lem rows offsets k x base y row e =
    let r = origin + y - (base - bearing_y) in
    rw (zero_rows rows e r, columns_blank k (x + get_or offsets r 0 - unmoved) cell_w row) (cond_same (leb (base - bearing_y) (origin + y) && ltb r cell_h) row)
