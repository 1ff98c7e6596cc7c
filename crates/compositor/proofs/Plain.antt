-- Document 01's signed formulas are `line_start` and `base_line`, less the origin; and the sums and differences of signed
-- numbers that laws about positions need.
use mathlib.Core.Path.{◌≡◌, ◌∙◌, refl, sym, ap, ap₂}
use mathlib.Core.Bool.{Bool, true, false, cond}
use Prim.Native.Nat.{ℕ, zero, suc, ◌+◌, ◌-◌, ◌*◌, ◌/◌, ◌≤◌, ◌<◌}
use native.Mathlib.Omega.{arith}
use borrow.Author.Tests.{lt-ltb, le-ltb, ltb-true, ltb-false}
use lib.Dec.{ltb, eqb, leb}
use lib.IntN.{ℤ, pos, negsuc, neg_ℤ, sub_ℕ, ◌+ℤ◌, ◌-ℤ◌}
use Rattle.font.specs.Paint.{origin}
use Rattle.compositor.specs.declared.Settings.{Settings}
use Rattle.compositor.specs.Layout.{line_height, last_base_line, base_line, line_start}
use Rattle.compositor.specs.Plain.{signed, half, plain_start, plain_base_line}

-- ---- a − b of two naturals

pub from_above : (a b : ℕ) → b ≤ a → sub_ℕ a b ≡ pos (a - b)
from_above a b h = rw (le-ltb a b h)

pub from_below : (a b : ℕ) → a < b → sub_ℕ a b ≡ negsuc (b - suc a)
from_below a b h = rw (lt-ltb a b h)

pub is_sub : (a b : ℕ) → pos a -ℤ pos b ≡ sub_ℕ a b
is_sub a zero = let e : a + 0 ≡ a - 0 = omega arith in ap pos e ∙ sym (from_above a 0 (omega arith))
is_sub a (suc b) = refl

-- by which of the two is the larger
pub by_size : (a b : ℕ) (P : Type 0) → (b ≤ a → P) → (a < b → P) → P
by_size a b P p q = go (ltb a b) refl
  where
    go : (t : Bool) → ltb a b ≡ t → P
    go true e = q (ltb-true a b e)
    go false e = p (ltb-false a b e)

-- it depends on nothing else
pub sub_same : (a b c d : ℕ) → a + d ≡ c + b → sub_ℕ a b ≡ sub_ℕ c d
sub_same a b c d e =
    by_size a b _
    (λ k. let m : a - b ≡ c - d = omega arith in from_above a b k ∙ ap pos m ∙ sym (from_above c d (omega arith)))
    (λ k. let m : b - suc a ≡ d - suc c = omega arith in from_below a b k ∙ ap negsuc m ∙ sym (from_below c d (omega arith)))

-- the sum of two differences
pub add_sub : (a b c d : ℕ) → sub_ℕ a b +ℤ sub_ℕ c d ≡ sub_ℕ (a + c) (b + d)
add_sub a b c d =
    by_size a b _
    (λ k. by_size c d _
    (λ l. let e : a - b + (c - d) ≡ a + c - (b + d) = omega arith in both (from_above a b k) (from_above c d l) ∙ ap pos e ∙ sym (from_above (a + c) (b + d) (omega arith)))
    (λ l. both (from_above a b k) (from_below c d l) ∙ sub_same (a - b) (suc (d - suc c)) (a + c) (b + d) (omega arith)))
    (λ k. by_size c d _
    (λ l. both (from_below a b k) (from_above c d l) ∙ sub_same (c - d) (suc (b - suc a)) (a + c) (b + d) (omega arith))
    (λ l. let e : suc (b - suc a + (d - suc c)) ≡ b + d - suc (a + c) = omega arith in
    both (from_below a b k) (from_below c d l) ∙ ap negsuc e ∙ sym (from_below (a + c) (b + d) (omega arith))))
  where
    both : {u v x y : ℤ} → u ≡ x → v ≡ y → u +ℤ v ≡ x +ℤ y
    both p q = ap₂ (λ (u v : ℤ). u +ℤ v) p q

-- a number less a difference
pub minus_sub : (n b o : ℕ) → pos n -ℤ sub_ℕ b o ≡ sub_ℕ (n + o) b
minus_sub n b o =
    by_size b o _
    (λ k. ap (λ (z : ℤ). pos n -ℤ z) (from_above b o k) ∙ is_sub n (b - o) ∙ sub_same n (b - o) (n + o) b (omega arith))
    (λ k. let e : n + suc (o - suc b) ≡ n + o - b = omega arith in
    ap (λ (z : ℤ). pos n -ℤ z) (from_below b o k) ∙ ap pos e ∙ sym (from_above (n + o) b (omega arith)))

-- a position, counted from the picture's corner
pub is_signed : (p : ℕ) → signed p ≡ sub_ℕ p origin
is_signed p = is_sub p origin

-- one that is a right of the origin, or below it, and b back
placed : (a b : ℕ) → b ≤ origin → pos (origin + a - b) -ℤ pos origin ≡ sub_ℕ a b
placed a b h =
    by_size a b _
    (λ k.
    let e : origin + a - b - origin ≡ a - b = omega arith in
    is_sub (origin + a - b) origin ∙ from_above (origin + a - b) origin (omega arith) ∙ ap pos e ∙ sym (from_above a b k))
    (λ k.
    let e : origin - suc (origin + a - b) ≡ b - suc a = omega arith in
    is_sub (origin + a - b) origin ∙ from_below (origin + a - b) origin (omega arith) ∙ ap negsuc e ∙ sym (from_below a b k))

-- nothing less m
pub from_zero : (m : ℕ) → sub_ℕ 0 m ≡ neg_ℤ (pos m)
from_zero zero = refl
from_zero (suc m) = let e : suc m - 1 ≡ m = omega arith in from_below 0 (suc m) (omega arith) ∙ ap negsuc e

-- half of a − b, towards zero
halved : (a b : ℕ) → sub_ℕ ((a - b) / 2) ((b - a) / 2) ≡ half (pos a -ℤ pos b)
halved a b =
    by_size a b _
    (λ k.
    let none : (b - a) / 2 ≡ 0 = omega arith in
    let e : (a - b) / 2 - 0 ≡ (a - b) / 2 = omega arith in
    ap (sub_ℕ ((a - b) / 2)) none ∙ from_above ((a - b) / 2) 0 (omega arith) ∙ ap pos e ∙ sym (ap half (is_sub a b ∙ from_above a b k)))
    (λ k.
    let none : (a - b) / 2 ≡ 0 = omega arith in
    let e : (b - a) / 2 ≡ suc (b - suc a) / 2 = omega arith in
    ap (λ (m : ℕ). sub_ℕ m ((b - a) / 2)) none ∙ from_zero ((b - a) / 2) ∙ ap (λ (m : ℕ). neg_ℤ (pos m)) e
    ∙ sym (ap half (is_sub a b ∙ from_below a b k)))

-- and less once more
twice : (a b c : ℕ) → sub_ℕ a (b + c) ≡ pos a -ℤ pos b -ℤ pos c
twice a b c =
    by_size a b _
    (λ k. by_size (a - b) c _
    (λ j.
    let e : a - (b + c) ≡ a - b - c = omega arith in
    from_above a (b + c) (omega arith) ∙ ap pos e ∙ sym (less k ∙ from_above (a - b) c j))
    (λ j.
    let e : b + c - suc a ≡ c - suc (a - b) = omega arith in
    from_below a (b + c) (omega arith) ∙ ap negsuc e ∙ sym (less k ∙ from_below (a - b) c j)))
    (λ k.
    from_below a (b + c) (omega arith) ∙ deeper c k
    ∙ sym (ap (λ (z : ℤ). z -ℤ pos c) (is_sub a b ∙ from_below a b k)))
  where
    less : b ≤ a → pos a -ℤ pos b -ℤ pos c ≡ sub_ℕ (a - b) c
    less k = ap (λ (z : ℤ). z -ℤ pos c) (is_sub a b ∙ from_above a b k) ∙ is_sub (a - b) c

    deeper : (c : ℕ) → a < b → negsuc (b + c - suc a) ≡ negsuc (b - suc a) -ℤ pos c
    deeper zero k =
        let e : b + 0 - suc a ≡ suc (b - suc a) - 1 = omega arith in
        ap negsuc e ∙ sym (from_below 0 (suc (b - suc a)) (omega arith))
    deeper (suc c) k = let e : b + suc c - suc a ≡ suc (b - suc a + c) = omega arith in ap negsuc e

-- ---- the law

module _ (s : Settings) where
  abbrev margin : ℕ
  margin = s.side_margin_px

  pub start_plain : (w : ℕ) → w + margin ≤ origin → signed (line_start s w) ≡ plain_start s w
  unfolding line_start
  start_plain w h = by (eqb s.align 0) (leb s.align 2)
    where
      by : (centre left : Bool)
          → pos
          (cond centre (origin + (s.width - w) / 2 - (w - s.width) / 2)
          (cond left (origin + margin) (origin + s.width - w - margin)))
          -ℤ pos origin
          ≡ cond centre (half (pos s.width -ℤ pos w)) (cond left (pos margin) (pos s.width -ℤ pos w -ℤ pos margin))
      by true left = placed ((s.width - w) / 2) ((w - s.width) / 2) (omega arith) ∙ halved s.width w
      by false true =
          let e : origin + margin - origin ≡ margin = omega arith in
          is_sub (origin + margin) origin ∙ from_above (origin + margin) origin (omega arith) ∙ ap pos e
      by false false =
          let e : origin + s.width - w - margin ≡ origin + s.width - (w + margin) = omega arith in
          ap (λ (m : ℕ). pos m -ℤ pos origin) e ∙ placed s.width (w + margin) h ∙ twice s.width w margin

  pub base_plain : (below : ℕ) → below * line_height s ≤ origin → signed (base_line s below) ≡ plain_base_line s below
  unfolding base_line
  base_plain below h = placed (last_base_line s) (below * line_height s) h ∙ sym (is_sub (last_base_line s) (below * line_height s))
