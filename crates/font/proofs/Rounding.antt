-- The slant in f32: what holds of each of the sixteen rows at each of the nine slants, by a test that antt computes.
use Rattle.std.proofs.Common.{◌≡◌, ℕ, suc, ◌+◌, ◌-◌, ◌/◌, ◌^◌, ◌<◌, ◌≤◌, Bool, true, false, cond, ◌&&◌, T, eqb, ltb, leb, replicate, pos, ◌-ℤ◌, sym, ap, arith, eqb→eq, ltb→lt, leb→le, w16, SFits}
use lib.Ieee.{Float, fin, binary32, lt, mul, div, of_int, to_unsigned}
use Rattle.std.specs.Float.{float_with_sign}
use lib.Ieee.Fits.{and_l, and_r}
use lib.ListN.{length-replicate}
use lib.Signed.{mag}
use Rattle.font.specs.Font.{cell_h, bearing_y}
use Rattle.font.specs.Slant.{most_slant, unmoved, row_offset}
use Rattle.font.specs.Shear.{float, shear_of, slant_of, Shear, moved, Moved, rounded}
use Rattle.font.proofs.EveryEntry.{every, at}

-- f passes at each number below n
abbrev passes : ℕ → (ℕ → Bool) → Bool
passes n f = every {A = ℕ} (λ k _. f k) 0 (replicate n 0)

passed : (n : ℕ) (f : ℕ → Bool) → T (passes n f) → (k : ℕ) → k < n → T (f k)
passed n f t k h = at {A = ℕ} (λ k _. f k) 0 (replicate n 0) t k (rw (length-replicate {A = ℕ} n 0) h)

-- f passes at each of the nine slants and each row
abbrev passes_all : (ℕ → ℕ → Bool) → Bool
passes_all f = passes (suc most_slant) (λ slant. passes cell_h (f slant))

passed_all : (f : ℕ → ℕ → Bool) → T (passes_all f) → (slant r : ℕ) → slant ≤ most_slant → r < cell_h → T (f slant r)
passed_all f t slant r h l = passed cell_h (f slant) (passed (suc most_slant) (λ slant. passes cell_h (f slant)) t slant (omega arith)) r l

-- what `round` cuts, and what it moves a row by, where a is x without its sign
abbrev pub twice : Float → Float
twice a = mul binary32 a (fin false 1 (pos 1))

abbrev pub half : Float → ℕ
half a = (to_unsigned 64 (twice a) + 1) / 2

-- `round` may cut it, and finds what it should
pub record Rounds (x a : Float) : Type 0 where
  pub low : T (lt (fin true 1 (pos 0)) (twice a))
  pub high : T (lt (twice a) (fin false 1 (pos 64)))
  pub small : half a ≤ unmoved
  pub is : cond (lt x (float 0)) (unmoved - half a) (unmoved + half a) ≡ rounded x

low? : Float → Bool
low? a = lt (fin true 1 (pos 0)) (twice a)

high? : Float → Bool
high? a = lt (twice a) (fin false 1 (pos 64))

small? : Float → Bool
small? a = leb (half a) unmoved

is? : Float → Float → Bool
is? x a = eqb (cond (lt x (float 0)) (unmoved - half a) (unmoved + half a)) (rounded x)

rounds? : Float → Float → Bool
rounds? x a = low? a && (high? a && (small? a && is? x a))

rounds : (x a : Float) → T (rounds? x a) → Rounds x a
unfolding rounds? low? high? small? is?
rounds x a t =
    let t1 = and_r (low? a) (high? a && (small? a && is? x a)) t in
    let t2 = and_r (high? a) (small? a && is? x a) t1 in
    record {
      low = and_l (low? a) (high? a && (small? a && is? x a)) t;
      high = and_l (high? a) (small? a && is? x a) t1;
      small = leb→le _ _ (and_l (small? a) (is? x a) t2);
      is = eqb→eq _ _ (and_r (small? a) (is? x a) t2);
    }

-- of row r at a slant, `round` may cut what it moves by, and the rounded f32 is the rounded fraction
cut? : ℕ → ℕ → Bool
cut? slant r = rounds? (moved slant r) (float_with_sign false (moved slant r))

offset? : ℕ → ℕ → Bool
offset? slant r = eqb (rounded (moved slant r)) (row_offset slant r)

right? : ℕ → ℕ → Bool
right? slant r = cut? slant r && offset? slant r

-- THE TEST, of all slants and rows together
all_right : T (passes_all right?)
unfolding right? cut? offset? rounds? low? high? small? is? moved shear_of of_int mul div lt to_unsigned float_with_sign rounded
all_right = tt

pub moved_rounds : (x a : Float) → a ≡ float_with_sign false x → Moved x → Rounds x a
unfolding right? cut?
moved_rounds x a e m =
    let t = passed_all right? all_right m.slant m.row m.few m.below in
    rw (e, m.is) (rounds _ _ (and_l (cut? m.slant m.row) (offset? m.slant m.row) t))

pub moved_offset : (slant r : ℕ) → slant ≤ most_slant → r < cell_h → rounded (moved slant r) ≡ row_offset slant r
unfolding right? offset?
moved_offset slant r few h = eqb→eq _ _ (and_r (cut? slant r) (offset? slant r) (passed_all right? all_right slant r few h))

-- a row's distance from the base line is an i16
fits? : ℕ → Bool
fits? r = ltb (mag (pos bearing_y -ℤ pos r)) (2 ^ 15)

pub distance_fits : (r : ℕ) → r < cell_h → SFits w16 (pos bearing_y -ℤ pos r)
unfolding fits?
distance_fits r h = record { sfits = ltb→lt _ _ (passed cell_h fits? tt r h) }

-- a shear tells its slant
back? : ℕ → Bool
back? slant = eqb (slant_of (shear_of slant)) slant

all_back : T (passes (suc most_slant) back?)
unfolding back? slant_of shear_of of_int to_unsigned mul div
all_back = tt

pub slant_back : (slant : ℕ) → slant ≤ most_slant → slant_of (shear_of slant) ≡ slant
unfolding back?
slant_back slant h = eqb→eq _ _ (passed (suc most_slant) back? all_back slant (omega arith))

pub shear_of_lem : (slant : ℕ) → slant ≤ most_slant → Shear (shear_of slant)
shear_of_lem slant h = let e = slant_back slant h in record { few = omega arith; is = ap shear_of (sym e) }
