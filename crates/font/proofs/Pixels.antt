-- Laws of lists of pixels: those that have none twice, and a color that is blended into each.
use Rattle.std.proofs.Common.{◌≡◌, ℕ, ◌+◌, ◌-◌, ◌*◌, ◌<◌, ◌≤◌, Bool, true, false, cond, not, ◌||◌, eqb, ltb, List, [], ◌∷◌, ◌++◌, length, take, drop, sym, refl, ap, ◌∙◌, arith, take-append-drop, take_at, drop_at, ltb-false, ltb-true, eq-eqb, ne_eqb}
use mathlib.Core.Bool.{and-eq-true_iff, or_assoc}
use borrow.Author.Tests.{not-true}
use Rattle.font.specs.Blend.{blend_pixel}
use Rattle.font.specs.Upward.{pixel_at, blend_each, has_pixel, none_twice}
use Rattle.font.proofs.EveryEntry.{All}
use Rattle.font.proofs.PixelBlend.{take_before, take_with, drop_behind, drop_to}

-- a number is less than another, the same or more
pub lt_by_cases : {P : Type 0} (a b : ℕ) → (a < b → P) → (a ≡ b → P) → (b < a → P) → P
lt_by_cases {P} a b less same more = at (ltb a b) refl (ltb b a) refl where
  at : (s : Bool) → ltb a b ≡ s → (t : Bool) → ltb b a ≡ t → P
  at true p t q = less (ltb-true a b p)
  at false p true q = more (ltb-true b a q)
  at false p false q = let h = ltb-false a b p in let k = ltb-false b a q in same (omega arith)

-- ---- lists without a pixel twice

-- a list of others has not this pixel
pub without : (p : ℕ) (ps : List ℕ) → All (λ q. p ≡ q → ⊥) ps → has_pixel p ps ≡ false
unfolding has_pixel
without p [] e = refl
without p (q ∷ ps) e = simp (ne_eqb p q e.0, without p ps e.1)

-- two lists have the pixels of both
has_append : (p : ℕ) (ps qs : List ℕ) → has_pixel p (ps ++ qs) ≡ (has_pixel p ps || has_pixel p qs)
unfolding has_pixel
has_append p [] qs = refl
has_append p (q ∷ ps) qs =
    ap (λ (b : Bool). eqb p q || b) (has_append p ps qs) ∙ sym (or_assoc (eqb p q) (has_pixel p ps) (has_pixel p qs))

-- a list without a pixel twice, cut at its first
first_once : (p : ℕ) (ps : List ℕ) → none_twice (p ∷ ps) ≡ true → (has_pixel p ps ≡ false) × (none_twice ps ≡ true)
unfolding none_twice
first_once p ps e =
    let tests = (and-eq-true_iff (not (has_pixel p ps)) (none_twice ps)).0 e in
    (not-true (has_pixel p ps) tests.0, tests.1)

-- two lists, of which the second has nothing of the first
pub both_once : (ps qs : List ℕ) → none_twice ps ≡ true → none_twice qs ≡ true → All (λ p. has_pixel p qs ≡ false) ps
    → none_twice (ps ++ qs) ≡ true
unfolding none_twice
both_once [] qs e f g = f
both_once (p ∷ ps) qs e f g =
    let first = first_once p ps e in
    simp (has_append p ps qs, first.0, g.0, both_once ps qs first.1 f g.1)

-- ---- a color blended into pixels

-- blending into the pixels of one list and then of another
pub blend_append : (k ps qs l : List ℕ) → blend_each k (ps ++ qs) l ≡ blend_each k qs (blend_each k ps l)
unfolding blend_each
blend_append k [] qs l = refl
blend_append k (p ∷ ps) qs l = blend_append k ps qs (blend_pixel k (4 * p) l)

module _ (k : List ℕ) (p q : ℕ) (l : List ℕ) where
  pixel_same : q ≡ p → pixel_at q (blend_pixel k (4 * p) l) ≡ blend_pixel k 0 (pixel_at q l)
  pixel_same e =
      let here : 4 * p ≡ 4 * q + 0 = omega arith in
      rw (here, drop_to k (4 * q) 0 l) (take_with k 4 0 (drop (4 * q) l) (omega arith))

  pixel_before : q < p → pixel_at q (blend_pixel k (4 * p) l) ≡ pixel_at q l
  pixel_before h =
      let d = 4 * p - 4 * q in
      let here : 4 * p ≡ 4 * q + d = omega arith in
      ap (λ (i : ℕ). take 4 (drop (4 * q) (blend_pixel k i l))) here
      ∙ ap (take 4) (drop_to k (4 * q) d l)
      ∙ take_before k 4 d (drop (4 * q) l) (omega arith)

  pixel_behind : p < q → pixel_at q (blend_pixel k (4 * p) l) ≡ pixel_at q l
  pixel_behind h = ap (take 4) (drop_behind k (4 * q) (4 * p) l (omega arith))

-- where no pixel is on the list twice, each is blended once or stays
pub blended_once : (k : List ℕ) (q : ℕ) (ps l : List ℕ) → none_twice ps ≡ true
    → pixel_at q (blend_each k ps l) ≡ cond (has_pixel q ps) (blend_pixel k 0 (pixel_at q l)) (pixel_at q l)
unfolding blend_each has_pixel
blended_once k q [] l e = refl
blended_once k q (p ∷ ps) l e =
    let first = first_once p ps e in
    let rest = blended_once k q ps (blend_pixel k (4 * p) l) first.1 in
    lt_by_cases q p
    (λ h. simp (ne_eqb q p (λ s. omega arith)) (rest ∙ rw (pixel_before k p q l h)))
    (λ s. simp (eq-eqb q p s) (rest ∙ rw (s, first.0) (pixel_same k p p l refl)))
    (λ h. simp (ne_eqb q p (λ s. omega arith)) (rest ∙ rw (pixel_behind k p q l h)))

-- a pixel of a row that stands between other bytes
pub pixel_between : (k front row rest : List ℕ) (p d : ℕ) → length front ≡ 4 * p → 4 * d + 4 ≤ length row
    → blend_pixel k (4 * (p + d)) (front ++ (row ++ rest)) ≡ front ++ (blend_pixel k (4 * d) row ++ rest)
pixel_between k front row rest p d e h =
    let here : 4 * (p + d) ≡ 4 * p + 4 * d = omega arith in
    let i = 4 * d in
    let n = length row in
    rw here
    (sym (take-append-drop (4 * p) (blend_pixel k (4 * p + i) (front ++ (row ++ rest))))
    ∙ rw (
      take_before k (4 * p) (4 * p + i) (front ++ (row ++ rest)) (omega arith),
      drop_to k (4 * p) i (front ++ (row ++ rest)),
      take_at front (row ++ rest) (4 * p) e,
      drop_at front (row ++ rest) (4 * p) e,
    )
    (ap (λ (l : List ℕ). front ++ l)
    (sym (take-append-drop n (blend_pixel k i (row ++ rest)))
    ∙ rw (
      take_with k n i (row ++ rest) h,
      drop_behind k n i (row ++ rest) h,
      take_at row rest n refl,
      drop_at row rest n refl,
    ))))
