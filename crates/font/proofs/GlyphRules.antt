-- The two rules of the glyph tables, over the whole table (document 01, "Glyph tables").
use Rattle.std.proofs.Common.{◌≡◌, ℕ, zero, suc, ◌+◌, ◌-◌, ◌*◌, ◌/◌, ◌%◌, ◌^◌, ◌<◌, ◌≤◌, Bool, true, cond, ◌&&◌, T, eqb, ltb, leb, List, [], ◌∷◌, ◌++◌, map, length, get_or, replicate, sym, refl, ap, ◌∙◌, le_of_suc-le-suc, not-suc-le-zero, suc-mul, zero-add, zero-mul, arith, eqb→eq, ltb→lt, leb→le, get_or-append-add}
use lib.Ieee.Fits.{and_l, and_r}
use lib.ListN.{get_or-append, get_or-map}
use Rattle.font.specs.Glyphs.{Shape, whole, accented, printable, printable_glyph, glyph_of, latin1, glyphs}
use Rattle.font.specs.Font.{rows_of, table_rows, regular_table, bold_table, embolden, cell_h}
use Rattle.font.proofs.EveryEntry.{every, at}

-- ---- every bold row is the regular one or that shifted right by one

-- that the code's 4,096 bold rows are these is computed in the proof of `BitmapFont::table`
pub bold_rule : (i : ℕ) → get_or bold_table i 0 ≡ embolden (get_or regular_table i 0)
unfolding bold_table
bold_rule i = get_or-map embolden regular_table i 0

-- ---- an accent replaces rows 0 and 1 of its letter, and no other

abbrev pub row_of : ℕ → ℕ → ℕ
row_of g r = get_or (rows_of cell_h g) r 0

-- row r of a letter under an accent, where the letter alone has the row `bare`
abbrev pub accent_row : ℕ → ℕ → ℕ → ℕ
accent_row accent bare r = cond (ltb r 2) (accent / 256 ^ (1 - r) % 256) bare

row? : ℕ → ℕ → ℕ → Bool
row? accent c r = eqb (row_of (glyph_of (accented accent c)) r) (accent_row accent (row_of (printable_glyph c) r) r)

-- a shape with an accent has a printable letter under it, and its sixteen rows are by the rule
accent? : ℕ → Shape → Bool
accent? i (whole g) = true
accent? i (accented accent c) = (leb 0x21 c && ltb c 0x7f) && every {A = ℕ} (λ r _. row? accent c r) 0 (replicate 16 0)

passed : T (every accent? 0 latin1)
unfolding accent? row? printable_glyph printable glyph_of latin1
passed = tt

past : (xs ys : List ℕ) (n i : ℕ) → length xs ≡ n → get_or (xs ++ ys) (n + i) 0 ≡ get_or ys i 0
past xs ys n i e = rw (← e) (get_or-append-add xs ys i 0)

-- the glyphs of the printable letters and of the shapes, in the list of all glyphs
abbrev upper : List ℕ
upper = replicate 34 0 ++ map glyph_of latin1

letter_at_lem : (c : ℕ) → 0x21 ≤ c → c < 0x7f → get_or glyphs c 0 ≡ printable_glyph c
unfolding glyphs printable_glyph printable
letter_at_lem c h j =
    let e : c ≡ 33 + (c - 33) = omega arith in
    ap (λ (n : ℕ). get_or glyphs n 0) e
    ∙ past (replicate 33 0) (printable ++ upper) 33 (c - 33) refl
    ∙ get_or-append printable upper 0 (c - 33) (omega arith)

shape_at : (i : ℕ) → get_or glyphs (0xa1 + i) 0 ≡ glyph_of (get_or latin1 i (whole 0))
unfolding glyphs glyph_of printable
shape_at i =
    let e : 0xa1 + i ≡ 33 + (94 + (34 + i)) = omega arith in
    ap (λ (n : ℕ). get_or glyphs n 0) e
    ∙ past (replicate 33 0) (printable ++ upper) 33 (94 + (34 + i)) refl
    ∙ past printable upper 94 (34 + i) refl
    ∙ past (replicate 34 0) (map glyph_of latin1) 34 i refl
    ∙ get_or-map glyph_of latin1 i (whole 0)

-- a glyph's rows in the table
table_row : (gs : List ℕ) (code r : ℕ) → r < 16 → code < length gs → get_or (table_rows gs) (code * cell_h + r) 0 ≡ row_of (get_or gs code 0) r
table_row [] code r h j = absurd (not-suc-le-zero j)
table_row (g ∷ gs) zero r h j = rw (zero-mul, zero-add) (get_or-append (rows_of cell_h g) (table_rows gs) 0 r h)
table_row (g ∷ gs) (suc code) r h j =
    let e : suc code * cell_h + r ≡ 16 + (code * cell_h + r) = omega (arith, suc-mul code 16) in
    rw e (past (rows_of cell_h g) (table_rows gs) 16 (code * cell_h + r) refl ∙ table_row gs code r h (le_of_suc-le-suc j))

abbrev pub regular_row : ℕ → ℕ → ℕ
regular_row code r = get_or regular_table (code * cell_h + r) 0

pub regular_row_lem : (code r : ℕ) → code < 256 → r < 16 → regular_row code r ≡ row_of (get_or glyphs code 0) r
unfolding regular_table
regular_row_lem code r h j = table_row glyphs code r j h

count : length latin1 ≡ 95
unfolding latin1
count = refl

pub accent_rule : (i accent c r : ℕ) → i < 95 → r < 16 → get_or latin1 i (whole 0) ≡ accented accent c
    → regular_row (0xa1 + i) r ≡ accent_row accent (regular_row c r) r
unfolding accent? row?
accent_rule i accent c r h j e =
    let rows = every {A = ℕ} (λ r _. row? accent c r) 0 (replicate 16 0) in
    let t : T (accent? i (accented accent c)) = rw e at (at accent? (whole 0) latin1 passed i (omega (arith, count))) in
    let is : T (leb 0x21 c && ltb c 0x7f) = and_l (leb 0x21 c && ltb c 0x7f) rows t in
    let low : 0x21 ≤ c = leb→le 0x21 c (and_l (leb 0x21 c) (ltb c 0x7f) is) in
    let high : c < 0x7f = ltb→lt c 0x7f (and_r (leb 0x21 c) (ltb c 0x7f) is) in
    let base : regular_row c r ≡ row_of (printable_glyph c) r =
    regular_row_lem c r (omega arith) j ∙ ap (λ (g : ℕ). row_of g r) (letter_at_lem c low high) in
    regular_row_lem (0xa1 + i) r (omega arith) j
    ∙ ap (λ (g : ℕ). row_of g r) (shape_at i ∙ ap glyph_of e)
    ∙ eqb→eq _ _ (at {A = ℕ} (λ r _. row? accent c r) 0 (replicate 16 0) (and_r (leb 0x21 c && ltb c 0x7f) rows t) r j)
    ∙ ap (λ (g : ℕ). accent_row accent g r) (sym base)
