-- Equal style is equality.
use mathlib.Core.Path.{◌≡◌, ◌∙◌, refl}
use mathlib.Core.Bool.{Bool, true, false, ◌&&◌, beq}
use Rattle.std.specs.Cmp.{booleans_Decides, bool_eq_equiv}
use Rattle.std.proofs.Math.Bool.{and_comm, and_assoc}
use Rattle.std.proofs.lemmas.Bool.{and_parts}
use borrow.Author.Tests.{eqb-true, eq-eqb}
use lib.Dec.{eqb}
use Rattle.tape.specs.declared.Style.{Style}
use Rattle.tape.specs.Style.{same_style}

pub same_eq : (a b : Style) → same_style a b ≡ true → a ≡ b
unfolding same_style
same_eq a b e =
    let e1 = and_parts (beq a.bold b.bold) _ e in
    let e2 = and_parts (beq a.italic b.italic) _ e1.1 in
    let e3 = and_parts (eqb a.red b.red) _ e2.1 in
    let e4 = and_parts (eqb a.green b.green) _ e3.1 in
    let e5 = and_parts (eqb a.blue b.blue) _ e4.1 in
    let bold = (booleans_Decides a.bold b.bold).0 e1.0 in
    let italic = (booleans_Decides a.italic b.italic).0 e2.0 in
    let red = eqb-true a.red b.red e3.0 in
    let green = eqb-true a.green b.green e4.0 in
    let blue = eqb-true a.blue b.blue e5.0 in
    let alpha = eqb-true a.alpha b.alpha e5.1 in
    λ i. record { red = red i; green = green i; blue = blue i; alpha = alpha i; bold = bold i; italic = italic i }

pub same_refl : (a : Style) → same_style a a ≡ true
unfolding same_style
same_refl a =
    rw (
      bool_eq_equiv.refl a.bold,
      bool_eq_equiv.refl a.italic,
      eq-eqb a.red a.red refl,
      eq-eqb a.green a.green refl,
      eq-eqb a.blue a.blue refl,
      eq-eqb a.alpha a.alpha refl,
    )

-- the fields in the order in which they are declared
abbrev same : Style → Style → Bool
same a b = eqb a.red b.red && (eqb a.green b.green && (eqb a.blue b.blue && (eqb a.alpha b.alpha && (beq a.bold b.bold && beq a.italic b.italic))))

-- the marks may be compared last
pub same_is : (a b : Style) → same a b ≡ same_style a b
unfolding same_style
same_is a b = rw (last (eqb a.alpha b.alpha), past (eqb a.blue b.blue), past (eqb a.green b.green), past (eqb a.red b.red)) refl
  where
    past : (x t u y : Bool) → (x && (t && (u && y))) ≡ (t && (u && (x && y)))
    past true t u y = refl
    past false true true y = refl
    past false true false y = refl
    past false false u y = refl

    last : (x t u : Bool) → (x && (t && u)) ≡ (t && (u && x))
    last x t u = and_comm x (t && u) ∙ and_assoc t u x
