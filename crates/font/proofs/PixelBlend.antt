-- Laws of a color blended into one pixel.
use Rattle.std.proofs.Common.{◌≡◌, ℕ, zero, suc, ◌+◌, ◌-◌, ◌*◌, ◌/◌, ◌≤◌, Bool, true, false, cond, eqb, List, length, get_or, take, drop, set, refl, ap, ◌∙◌, add_assoc, mul-le-mul_right, mul-zero, arith, length-set, get_or-drop, get_or-take, drop-set-lt}
use borrow.Author.Rules.{read_above}
use lib.Dec.{eqb-suc-zero}
use lib.Seq.{set-get_or, take-set-le, take-set-lt, drop-set-add}
use Rattle.font.specs.Blend.{blend_byte, blend_alpha, blend_over, blend_pixel}

-- the new alpha of a pixel never passes 255, whatever bytes the two alphas are
pub alpha_fits : (a d : ℕ) → a ≤ 255 → d ≤ 255 → a + (d * (255 - a) + 127) / 255 ≤ 255
alpha_fits a d ha hd =
    let q = mul-le-mul_right (255 - a) hd in
    omega arith

-- alpha mixes as a byte of 255 does
pub alpha_byte : (a d : ℕ) → blend_byte 255 a d ≡ blend_alpha a d
unfolding blend_byte blend_alpha
alpha_byte a d = omega arith

-- so no byte that is mixed passes 255: it is at most what a byte of 255 comes to
pub byte_fits : (s a d : ℕ) → s ≤ 255 → a ≤ 255 → d ≤ 255 → blend_byte s a d ≤ 255
unfolding blend_byte
byte_fits s a d hs ha hd =
    let p = mul-le-mul_right a hs in
    let q = alpha_fits a d ha hd in
    omega arith

-- alpha 0 gives the picture's byte back, so that a pixel needs no test for it
byte_clear : (s d : ℕ) → blend_byte s 0 d ≡ d
unfolding blend_byte
byte_clear s d = rw mul-zero (omega arith)

alpha_clear : (d : ℕ) → blend_alpha 0 d ≡ d
unfolding blend_alpha
alpha_clear d = omega arith

over_is_pixel : (k : List ℕ) (i : ℕ) (l : List ℕ) → blend_over k i l ≡ blend_pixel k i l
unfolding blend_over blend_pixel
over_is_pixel k i l = at (get_or k 3 0) refl where
  at : (a : ℕ) → get_or k 3 0 ≡ a → blend_over k i l ≡ cond (eqb a 0) l (blend_over k i l)
  at zero e = simp (e, byte_clear, alpha_clear, set-get_or)
  at (suc a) e = rw eqb-suc-zero

-- four bytes mixed one after the other, each into what stands there, are a pixel blended
pub pixel_of : (k : List ℕ) (i : ℕ) (l : List ℕ) {v0 v1 v2 v3 : ℕ}
    → v0 ≡ blend_byte (get_or k 0 0) (get_or k 3 0) (get_or l i 0)
    → v1 ≡ blend_byte (get_or k 1 0) (get_or k 3 0) (get_or (set l i v0) (i + 1) 0)
    → v2 ≡ blend_byte (get_or k 2 0) (get_or k 3 0) (get_or (set (set l i v0) (i + 1) v1) (i + 2) 0)
    → v3 ≡ blend_alpha (get_or k 3 0) (get_or (set (set (set l i v0) (i + 1) v1) (i + 2) v2) (i + 3) 0)
    → set (set (set (set l i v0) (i + 1) v1) (i + 2) v2) (i + 3) v3 ≡ blend_pixel k i l
unfolding blend_over
pixel_of k i l {v0} {v1} {v2} p0 p1 p2 p3 =
    let mixed : ℕ → ℕ → ℕ = λ n d. blend_byte (get_or k n 0) (get_or k 3 0) d in
    let w1 = set l i v0 in
    let w2 = set w1 (i + 1) v1 in
    let one = read_above _ l i (i + 1) v0 0 _ (omega arith) refl in
    let two = read_above _ w1 (i + 1) (i + 2) v1 0 _ (omega arith) (read_above _ l i (i + 2) v0 0 _ (omega arith) refl) in
    let three =
    read_above _ w2 (i + 2) (i + 3) v2 0 _ (omega arith)
    (read_above _ w1 (i + 1) (i + 3) v1 0 _ (omega arith) (read_above _ l i (i + 3) v0 0 _ (omega arith) refl)) in
    rw (p0, p1 ∙ ap (mixed 1) one, p2 ∙ ap (mixed 2) two, p3 ∙ ap (blend_alpha (get_or k 3 0)) three) (over_is_pixel k i l)

pub pixel_length : (k : List ℕ) (i : ℕ) (l : List ℕ) → length (blend_pixel k i l) ≡ length l
unfolding blend_pixel blend_over
pixel_length k i l = pick (eqb (get_or k 3 0) 0) where
  pick : (b : Bool) → length (cond b l (blend_over k i l)) ≡ length l
  pick true = refl
  pick false = simp length-set

-- a pixel that is blended, and bytes that are taken from before it, with it or behind it
module _ (k : List ℕ) (n i : ℕ) (l : List ℕ) where
  pub take_before : n ≤ i → take n (blend_pixel k i l) ≡ take n l
  unfolding blend_over
  take_before h =
      rw (
        ← (over_is_pixel k i l),
        take-set-le n _ (i + 3) _ (omega arith),
        take-set-le n _ (i + 2) _ (omega arith),
        take-set-le n _ (i + 1) _ (omega arith),
        take-set-le n _ i _ h,
      )

  pub drop_behind : i + 4 ≤ n → drop n (blend_pixel k i l) ≡ drop n l
  unfolding blend_over
  drop_behind h =
      rw (
        ← (over_is_pixel k i l),
        drop-set-lt n _ (i + 3) _ (omega arith),
        drop-set-lt n _ (i + 2) _ (omega arith),
        drop-set-lt n _ (i + 1) _ (omega arith),
        drop-set-lt n _ i _ (omega arith),
      )

  pub take_with : i + 4 ≤ n → take n (blend_pixel k i l) ≡ blend_pixel k i (take n l)
  unfolding blend_over
  take_with h =
      rw (
        ← (over_is_pixel k i l),
        ← (over_is_pixel k i (take n l)),
        take-set-lt n _ (i + 3) _ (omega arith),
        take-set-lt n _ (i + 2) _ (omega arith),
        take-set-lt n _ (i + 1) _ (omega arith),
        take-set-lt n _ i _ (omega arith),
        get_or-take n l (i + 3) 0 (omega arith),
        get_or-take n l (i + 2) 0 (omega arith),
        get_or-take n l (i + 1) 0 (omega arith),
        get_or-take n l i 0 (omega arith),
      )

  pub drop_to : drop n (blend_pixel k (n + i) l) ≡ blend_pixel k i (drop n l)
  unfolding blend_over
  drop_to =
      rw (← (over_is_pixel k (n + i) l), ← (over_is_pixel k i (drop n l)))
      (simp (add_assoc, drop-set-add, get_or-drop))
