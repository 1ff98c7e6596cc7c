-- THE LAW of S-2: a stroke is drawn from its lowest row up, one row after the other, and meets no pixel twice.
use Rattle.std.proofs.Common.{◌≡◌, ℕ, zero, suc, ◌+◌, ◌-◌, ◌*◌, ◌<◌, ◌≤◌, leb, List, ◌++◌, length, get_or, take, drop, sym, refl, ap, ◌∙◌, le_refl, mul_left_comm, arith, length-drop, take-append-drop, length-take-le, eq-eqb, ne_eqb}
use Rattle.font.specs.Font.{bearing_y}
use Rattle.font.specs.Slant.{unmoved}
use Rattle.font.specs.Paint.{origin, paint_row, stroke_row, each_row}
use Rattle.font.specs.Upward.{stroke_after, one_row, pixel_at, blend_each, met_row, met, part_after, lent_row, DrawnUpward, RowsFromTheBottom}
use Rattle.font.proofs.Columns.{cond_length}
use Rattle.font.proofs.RowLaws.{row_in, rows_kept, rows_one, rows_then, row_at, rows_behind, rows_length, stroke_length, stroke_on_lem, after_on, after_above, after_below, all_rows}
use Rattle.font.proofs.Pixels.{lt_by_cases, blend_append, blended_once}
use Rattle.font.proofs.MetPixels.{columns_meet, Lands, on, off, lands, met_once}

module _ (rows offsets k : List ℕ) (x base : ℕ) where
  abbrev one : ℕ → ℕ → List ℕ → List ℕ
  one r = one_row r rows offsets k x base

  abbrev low : ℕ → ℕ → List ℕ → List ℕ
  low j = stroke_after j rows offsets k x base

  one_on : (r y : ℕ) (row : List ℕ) → origin + y ≡ base - bearing_y + r
      → one r y row ≡ paint_row k (get_or rows r 0) (x + get_or offsets r 0 - unmoved) row
  unfolding one_row
  one_on r y row e = simp (eq-eqb (origin + y) (base - bearing_y + r) e)

  one_off : (r y : ℕ) (row : List ℕ) → (origin + y ≡ base - bearing_y + r → ⊥) → one r y row ≡ row
  unfolding one_row
  one_off r y row e = simp (ne_eqb (origin + y) (base - bearing_y + r) e)

  low_length : (j y : ℕ) (row : List ℕ) → length (low j y row) ≡ length row
  unfolding stroke_after
  low_length j y row =
      cond_length (leb (base - bearing_y + (16 - j)) (origin + y)) (stroke_row rows offsets k x base y row) row
      (stroke_length rows offsets k x base y row) refl

  -- one row of the glyph more, on a row of the picture
  low_more : (j y : ℕ) (row : List ℕ) → j < 16 → low (suc j) y row ≡ one (16 - suc j) y (low j y row)
  low_more j y row h =
      let r = 16 - suc j in
      lt_by_cases (origin + y) (base - bearing_y + r)
      (λ b. after_above (suc j) rows offsets k x base y row b
      ∙ sym (one_off r y (low j y row) (λ e. omega arith) ∙ after_above j rows offsets k x base y row (omega arith)))
      (λ e. after_on (suc j) rows offsets k x base y row (omega arith)
      ∙ stroke_on_lem rows offsets k x base y row r (omega arith) e
      ∙ sym (ap (one r y) (after_above j rows offsets k x base y row (omega arith)) ∙ one_on r y row e))
      (λ b. after_on (suc j) rows offsets k x base y row (omega arith)
      ∙ sym (one_off r y (low j y row) (λ e. omega arith) ∙ after_on j rows offsets k x base y row (omega arith)))

  low_none : (y : ℕ) (row : List ℕ) → low 0 y row ≡ row
  low_none y row =
      lt_by_cases (origin + y) (base - bearing_y + 16) (after_above 0 rows offsets k x base y row)
      (λ e. after_below 0 rows offsets k x base y row (omega arith)) (λ b. after_below 0 rows offsets k x base y row (omega arith))

  module _ (width n first : ℕ) where
    abbrev part_low : ℕ → List ℕ → List ℕ
    part_low = part_after rows offsets k x base width n first

    abbrev meets : ℕ → List ℕ
    meets = met rows offsets x base width n first

    part_length : (j : ℕ) (part : List ℕ) → n * (4 * width) ≤ length part → length (part_low j part) ≡ length part
    part_length j part = rows_length (low j) (4 * width) (λ y row e. low_length j y row ∙ e) n first part

    part_more : (j : ℕ) (part : List ℕ) → j < 16 → n * (4 * width) ≤ length part
        → part_low (suc j) part ≡ each_row (one (16 - suc j)) (4 * width) n first (part_low j part)
    part_more j part h fits =
        (λ i. each_row (λ y row. low_more j y row h i) (4 * width) n first part)
        ∙ rows_then (low j) (4 * width) (λ y row e. low_length j y row ∙ e) (one (16 - suc j)) n first part fits

    -- one row of the glyph is the pixels that it meets
    row_meets : (r : ℕ) (part : List ℕ) → n * (4 * width) ≤ length part
        → Lands rows offsets x base width n first r
        → each_row (one r) (4 * width) n first part ≡ blend_each k (met_row rows offsets x base width n first r) part
    unfolding blend_each
    row_meets r part fits (off none e) =
        rows_kept (one r) (4 * width) n first part (λ j row b. one_off r (first + j) row (none j b)) ∙ rw e refl
    row_meets r part fits (on i b f e) =
        let size = 4 * width in
        let front = take (i * size) part in
        let rest = drop (i * size) part in
        let row = take size rest in
        let m : i + suc (n - suc i) ≡ n = omega arith in
        let inside = row_in i n size b fits in
        let long : length row ≡ size = length-take-le size rest (rw length-drop (omega arith)) in
        let before : length front ≡ 4 * (i * width) =
        length-take-le (i * size) part (omega arith) ∙ mul_left_comm i 4 width in
        let split : front ++ (row ++ drop size rest) ≡ part = rw (take-append-drop size rest) (take-append-drop (i * size) part) in
        ap (λ (m : ℕ). each_row (one r) size m first part) (sym m)
        ∙ rows_one (one r) size i (n - suc i) first part (λ j row c. one_off r (first + j) row (λ d. c (omega arith)))
        ∙ ap (λ (l : List ℕ). front ++ (l ++ drop size rest)) (one_on r (first + i) row f)
        ∙ sym (columns_meet k front (drop size rest) (i * width) width before (get_or rows r 0) (x + get_or offsets r 0 - unmoved) 8 row long)
        ∙ rw (split, e) refl

    part_none : (part : List ℕ) → part_low 0 part ≡ part
    part_none part = rows_kept (low 0) (4 * width) n first part (λ j row b. low_none (first + j) row)

    in_turn_lem : (j : ℕ) (part : List ℕ) → j ≤ 16 → n * (4 * width) ≤ length part → part_low j part ≡ blend_each k (meets j) part
    unfolding blend_each met
    in_turn_lem zero part h fits = part_none part
    in_turn_lem (suc j) part h fits =
        let r = 16 - suc j in
        part_more j part (omega arith) fits
        ∙ row_meets r (part_low j part) (rw (part_length j part fits) fits) (lands rows offsets x base width n first r)
        ∙ ap (blend_each k (met_row rows offsets x base width n first r)) (in_turn_lem j part (omega arith) fits)
        ∙ sym (blend_append k (meets j) (met_row rows offsets x base width n first r) part)

    drawn_upward : (part : List ℕ) → n * (4 * width) ≤ length part → DrawnUpward rows offsets k x base width n first part
    drawn_upward part fits =
        record {
          beginning = part_none part;
          ending = all_rows rows offsets k x base (4 * width) n first part;
          step = λ j i h b.
              row_of (suc j) i b
              ∙ low_more j (first + i) (lent_row (4 * width) i part) h
              ∙ ap (one (16 - suc j) (first + i)) (sym (row_of j i b));
          in_turn = λ j h. in_turn_lem j part h fits;
          once = met_once rows offsets x base width n first 16 (le_refl 16);
          pixels = λ j p h.
              ap (pixel_at p) (in_turn_lem j part h fits) ∙ blended_once k p (meets j) part (met_once rows offsets x base width n first j h);
          behind = λ j. rows_behind (low j) (4 * width) (λ y row e. low_length j y row ∙ e) n first part fits;
        } where
          row_of : (j i : ℕ) → i < n
              → lent_row (4 * width) i (part_low j part)
              ≡ low j (first + i) (lent_row (4 * width) i part)
          row_of j i b = row_at (low j) (4 * width) (λ y row e. low_length j y row ∙ e) i n first part b fits

pub rows_from_the_bottom : RowsFromTheBottom
rows_from_the_bottom = drawn_upward
