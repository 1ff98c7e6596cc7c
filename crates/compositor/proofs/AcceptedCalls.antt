-- A call that is accepted: what is then known, and what other calls come to.
use mathlib.Core.Path.{◌≡◌, refl}
use mathlib.Core.Bool.{Bool, true, false}
use mathlib.Core.List.{List}
use Prim.Native.Nat.{ℕ, zero, suc, ◌≤◌}
use native.Mathlib.Omega.{arith}
use borrow.Author.Tests.{ltb-false}
use lib.Dec.{ltb}
use lib.ListN.{length}
use Rattle.tape.specs.Outcome.{Outcome, accepted, refused, refuse_if, unless}
use Rattle.tape.specs.Tape.{most_bytes, least_room}
use Rattle.compositor.specs.declared.Settings.{Settings}
use Rattle.compositor.specs.Settings.{out_of_range, picture_bytes}
use Rattle.compositor.specs.Order.{Stroke}
use Rattle.compositor.specs.Draw.{Tapes, tape_strokes, cue_call}
use Rattle.compositor.specs.Ready.{InRange}
use Rattle.compositor.proofs.Ranges.{in_range}

-- a refusal is no acceptance
pub never : {A : Type 0} {number place : ℕ} {a : A} → refused number place ≡ accepted a → ⊥
never e = let z : ◌≡◌ {A = ℕ} 0 1 = cc in omega arith

-- what is accepted passed the test
passed : {A : Type 0} (t : Bool) (number place : ℕ) {o : Outcome A} {a : A} → refuse_if t number place o ≡ accepted a → (t ≡ false) × (o ≡ accepted a)
passed true number place e = absurd (never e)
passed false number place e = (refl, e)

unhindered : {A : Type 0} (number : ℕ) {o : Outcome A} {a : A} → unless number 0 o ≡ accepted a → (number ≡ 0) × (o ≡ accepted a)
unhindered zero e = (refl, e)
unhindered (suc k) e = absurd (never e)

-- an accepted call passed every test
module _ (s : Settings) (room size : ℕ) (tape : Tapes) (extra : ℕ) {ts : List Stroke} (e : cue_call s room size tape extra ≡ accepted ts) where
  record Passed : Type 0 where
    range : out_of_range s ≡ false
    fits : ltb size (picture_bytes s) ≡ false
    short : ltb most_bytes (length tape) ≡ false
    enough : ltb room least_room ≡ false
    none : extra ≡ 0
    strokes : tape_strokes s tape ≡ accepted ts

  tests : Passed
  unfolding cue_call
  tests =
      let range = passed (out_of_range s) 8 0 e in
      let fits = passed (ltb size (picture_bytes s)) 9 0 range.1 in
      let short = passed (ltb most_bytes (length tape)) 10 0 fits.1 in
      let enough = passed (ltb room least_room) 11 0 short.1 in
      let extra = unhindered extra enough.1 in
      record { range = range.0; fits = fits.0; short = short.0; enough = enough.0; none = extra.0; strokes = extra.1 }

  pub cue_range : InRange s
  cue_range = in_range s tests.range

  pub cue_fits : picture_bytes s ≤ size
  cue_fits = ltb-false size (picture_bytes s) tests.fits

  pub cue_extra : extra ≡ 0
  cue_extra = tests.none

  pub cue_strokes : tape_strokes s tape ≡ accepted ts
  cue_strokes = tests.strokes

  -- with another workspace it is accepted too, or refused 11
  pub cue_again : (other : ℕ) → cue_call s other size tape extra ≡ refuse_if (ltb other least_room) 11 0 (accepted ts)
  unfolding cue_call
  cue_again other = rw (tests.range, tests.fits, tests.short, tests.none, tests.strokes)
