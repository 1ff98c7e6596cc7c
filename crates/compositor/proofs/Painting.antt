-- Strokes on lent rows: one list after the other, and a window on them.
use mathlib.Core.Path.{◌≡◌, ◌∙◌, refl, sym, ap, subst}
use mathlib.Core.Bool.{true, false, ◌||◌, or-false, true≢false}
use mathlib.Core.List.{List, [], ◌∷◌, ◌++◌}
use Prim.Native.Nat.{ℕ, zero, suc, ◌-◌, ◌*◌}
use native.Mathlib.Omega.{arith}
use borrow.Author.Tests.{leb-true, le-leb, ne_eqb}
use lib.Dec.{eqb, leb}
use lib.ListN.{length, take, drop, length-append, length-take, drop_of_length-le}
use lib.Seq.{slice, take-nil, drop-nil}
use Rattle.font.specs.Paint.{each_row}
use Rattle.font.proofs.RowLaws.{rows_then, rows_kept, stroke_length}
use Rattle.font.specs.declared.paint.Rows.{Rows}
use Rattle.compositor.specs.declared.strokes.Window.{Window}
use Rattle.compositor.specs.Order.{Stroke}
use Rattle.compositor.specs.Picture.{stroke_on, strokes_on}
use Rattle.font.specs.Lent.{Lent}
use Rattle.compositor.specs.Painting.{cut, misses, after, painted, Painted}

-- ---- on a row

pub strokes_length : (ts : List Stroke) (y : ℕ) (row : List ℕ) → length (strokes_on ts y row) ≡ length row
unfolding strokes_on
strokes_length [] y row = refl
strokes_length (t ∷ ts) y row =
    strokes_length ts y (stroke_on t y row) ∙ stroke_length t.rows t.offsets t.color t.x t.base y row

pub strokes_append : (a b : List Stroke) (y : ℕ) (row : List ℕ) → strokes_on (a ++ b) y row ≡ strokes_on b y (strokes_on a y row)
unfolding strokes_on
strokes_append [] b y row = refl
strokes_append (t ∷ a) b y row = strokes_append a b y (stroke_on t y row)

-- ---- a part of two lists, one behind the other

module _ {A : Type 0} where
  slice_nil : (a b : ℕ) → ◌≡◌ {A = List A} (slice a b []) []
  slice_nil a b = ap (drop a) (take-nil b) ∙ drop-nil a

  pub slice_append : (a b : ℕ) (xs ys : List A) → slice a b (xs ++ ys) ≡ slice a b xs ++ slice (a - length xs) (b - length xs) ys
  slice_append a b [] ys =
      let p : a - 0 ≡ a = omega arith in
      let q : b - 0 ≡ b = omega arith in
      rw (slice_nil a b, p, q)
  slice_append a zero (x ∷ xs) ys =
      let q : 0 - suc (length xs) ≡ 0 = omega arith in
      rw (q, drop-nil a, drop-nil (a - suc (length xs)))
  slice_append zero (suc b) (x ∷ xs) ys =
      let p : 0 - suc (length xs) ≡ 0 - length xs = omega arith in
      let q : suc b - suc (length xs) ≡ b - length xs = omega arith in
      rw (p, q) (ap (λ (l : List A). x ∷ l) (slice_append zero b xs ys))
  slice_append (suc a) (suc b) (x ∷ xs) ys =
      let p : suc a - suc (length xs) ≡ a - length xs = omega arith in
      let q : suc b - suc (length xs) ≡ b - length xs = omega arith in
      rw (p, q) (slice_append a b xs ys)

-- ---- on lent rows

module _ (rows : Rows) where
  painted_none : (part : List ℕ) → part ≡ painted rows [] part
  unfolding strokes_on
  painted_none part = sym (rows_kept (strokes_on []) (4 * rows.width) rows.count rows.first part (λ j row h. refl))

  painted_append : (a b : List Stroke) (part : List ℕ) → Lent (length part) rows
      → painted rows (a ++ b) part ≡ painted rows b (painted rows a part)
  painted_append a b part fits =
      (λ i. each_row (λ y row. strokes_append a b y row i) (4 * rows.width) rows.count rows.first part)
      ∙ rows_then (strokes_on a) (4 * rows.width) (λ y row e. strokes_length a y row ∙ e) (strokes_on b) rows.count rows.first part fits.long

  -- no stroke
  pub nothing : (w : Window) (part : List ℕ) → Painted rows [] w part part w
  nothing w part =
      let from : w.from ≡ w.from - 0 = omega arith in
      let to : w.to ≡ w.to - 0 = omega arith in
      record {
        paints = painted_none part ∙ ap (λ (ts : List Stroke). painted rows ts part) (sym (slice_nil w.from w.to));
        counts = λ i. record { from = from i; to = to i };
      }

  -- strokes and then others, the window handed on
  pub then : (a b : List Stroke) {w w1 w2 : Window} {part part1 part2 : List ℕ} → Lent (length part) rows
      → Painted rows a w part part1 w1 → Painted rows b w1 part1 part2 w2 → Painted rows (a ++ b) w part part2 w2
  then a b {w} {w1} {w2} {part} {part1} {part2} fits p q =
      let n = length-append a b in
      let from : w.from - length a - length b ≡ w.from - length (a ++ b) = omega arith in
      let to : w.to - length a - length b ≡ w.to - length (a ++ b) = omega arith in
      let rest : cut w1 b ≡ cut (after w (length a)) b = ap (λ (v : Window). cut v b) p.counts in
      record {
        paints =
            q.paints
            ∙ rw (rest, p.paints) (sym (painted_append (cut w a) (cut (after w (length a)) b) part fits))
            ∙ ap (λ (ts : List Stroke). painted rows ts part) (sym (slice_append w.from w.to a b));
        counts = q.counts ∙ ap (λ (v : Window). after v (length b)) p.counts ∙ (λ i. record { from = from i; to = to i });
      }

  -- the same strokes
  pub same : {a b : List Stroke} {w w' : Window} {part part' : List ℕ} → a ≡ b → Painted rows a w part part' w' → Painted rows b w part part' w'
  same {w = w} {w'} {part} {part'} e p = subst (λ (ts : List Stroke). Painted rows ts w part part' w') e p

  -- A loop over strokes, of which `rest` are left: whoever draws these has drawn all.
  module _ (all : List Stroke) (w : Window) (part : List ℕ) where
    abbrev pub Still : List Stroke → Window → List ℕ → Type 0
    Still rest left now = (w' : Window) (part' : List ℕ) → Painted rows rest left now part' w' → Painted rows all w part part' w'

    pub begin : {rest : List Stroke} → all ≡ rest → Still rest w part
    begin e w' part' q = same (sym e) q

    pub turn : (a b : List Stroke) {rest : List Stroke} {left left' : Window} {now now' : List ℕ} → rest ≡ a ++ b → Lent (length part) rows
        → length now ≡ length part → Painted rows a left now now' left' → Still rest left now → Still b left' now'
    turn a b e fits n p still w' part' q = still w' part' (same (sym e) (then a b (subst (λ (m : ℕ). Lent m rows) (sym n) fits) p q))

    pub done : {rest : List Stroke} {left : Window} {now : List ℕ} → rest ≡ [] → Still rest left now → Painted rows all w part now left
    done {left = left} {now} e still = still left now (same (sym e) (nothing left now))

  -- strokes that the window has none of
  pub missed : (ts : List Stroke) {n : ℕ} (w : Window) (part : List ℕ) → n ≡ length ts → misses w n ≡ true
      → Painted rows ts w part part (after w n)
  missed ts w part e h =
      record {
        paints = painted_none part ∙ ap (λ (us : List Stroke). painted rows us part) (sym (none w.from w.to (rw e at h)));
        counts = ap (after w) e;
      }
    where
      none : (a b : ℕ) → (leb (length ts) a || eqb b 0) ≡ true → slice a b ts ≡ []
      none a zero k = slice_nil a 0
      none a (suc b) k =
          let some : (leb (length ts) a || false) ≡ true = rw (ne_eqb (suc b) 0 (λ z. omega arith)) at k in
          let few = leb-true (length ts) a (rw or-false at some) in
          let n = length-take (suc b) ts in
          drop_of_length-le (take (suc b) ts) {i = a} (omega arith)

  -- one stroke that the window has
  pub drawn : (t : Stroke) (w : Window) (part : List ℕ) → misses w 1 ≡ false
      → Painted rows (t ∷ []) w part (each_row (stroke_on t) (4 * rows.width) rows.count rows.first part) (after w 1)
  unfolding strokes_on
  drawn t w part h =
      record { paints = ap (λ (ts : List Stroke). painted rows ts part) (sym (whole w.from w.to h)); counts = refl }
    where
      whole : (a b : ℕ) → (leb 1 a || eqb b 0) ≡ false → slice a b (t ∷ []) ≡ t ∷ []
      whole zero (suc b) k = ap (λ (ts : List Stroke). t ∷ ts) (take-nil b)
      whole zero zero k = absurd (true≢false k)
      whole (suc a) b k = absurd (true≢false (rw (le-leb 1 (suc a) (omega arith)) at k))
