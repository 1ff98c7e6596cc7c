-- THE CONTRACT OF A CALL, for every call: how it is met, what an answer tells, how far an outcome may go, and an answer
-- as one number.
use mathlib.Core.Path.{◌≡◌, ◌∙◌, refl, sym, ap, subst}
use mathlib.Core.Bool.{Bool, true, false, ◌&&◌, ◌||◌, true≢false}
use mathlib.Core.List.{List}
use Prim.Native.Nat.{ℕ, ◌+◌, ◌*◌, ◌/◌, ◌%◌, ◌≤◌, ◌<◌, ◌^◌}
use native.Mathlib.Omega.{arith}
use borrow.Author.Tests.{lt-ltb, le-ltb, leb-true, eqb-true}
use lib.Dec.{lit≤, eqb, leb}
use Rattle.tape.specs.Outcome.{Outcome, accepted, refused, refuse_if, on_accepted}
use Rattle.tape.specs.Call.{changed, keeps_workspace, Workspace, Came}
use Rattle.tape.specs.Tape.{most_bytes}
use Rattle.tape.specs.Packed.{packed, unpacked}
use Rattle.tape.specs.Near.{Near}

-- ---- met

module _ {A X : Type 0} {o : Outcome A} {tally : A → ℕ} {f : A → X} {Holds : A → Type 0} {x : X} {ws ws' : List ℕ} where
  -- the call comes to what another outcome is
  pub comes_to : {u : Outcome A} {x' : X} {answer : Outcome ℕ} → o ≡ u → Came u tally f Holds x x' ws ws' answer → Came o tally f Holds x x' ws ws' answer
  comes_to {x' = x'} {answer} e c = subst (λ (y : Outcome A). Came y tally f Holds x x' ws ws' answer) (sym e) c

  pub refuses : {number place : ℕ} → o ≡ refused number place → (keeps_workspace number ≡ true → ws' ≡ ws)
      → Came o tally f Holds x x ws ws' (refused number place)
  refuses e k = comes_to e (record { answers = refl; changes = refl; leaves = k })

  pub accepts : {a : A} {n : ℕ} {x' : X} → o ≡ accepted a → n ≡ tally a → x' ≡ f a → Holds a → Came o tally f Holds x x' ws ws' (accepted n)
  accepts e n p h = comes_to e (record { answers = ap accepted n; changes = p; leaves = h })

-- what an outcome leaves is what a call may leave that comes to it
pub happens : {A X : Type 0} {tally : A → ℕ} {f : A → X} {Holds : A → Type 0} {x : X} {ws : List ℕ} (o : Outcome A) → ((a : A) → Holds a)
    → Came o tally f Holds x (changed f x o) ws ws (on_accepted tally o)
happens {A} {Holds = Holds} {ws = ws} o all = record { answers = refl; changes = refl; leaves = by o }
  where
    by : (o : Outcome A) → Workspace Holds ws ws o
    by (accepted a) = all a
    by (refused number place) = λ _. refl

-- ---- told

pub record Accepts {A X : Type 0} (o : Outcome A) (tally : A → ℕ) (f : A → X) (Holds : A → Type 0) (x' : X) (n : ℕ) : Type 0 where
  pub given : A
  pub means : o ≡ accepted given
  pub counts : n ≡ tally given
  pub changes : x' ≡ f given
  pub holds : Holds given

pub record Refuses {A X : Type 0} (o : Outcome A) (x x' : X) (ws ws' : List ℕ) (number place : ℕ) : Type 0 where
  pub means : o ≡ refused number place
  pub same : x' ≡ x
  pub keeps : keeps_workspace number ≡ true → ws' ≡ ws

module _ {A X : Type 0} {o : Outcome A} {tally : A → ℕ} {f : A → X} {Holds : A → Type 0} {x x' : X} {ws ws' : List ℕ} {r : Outcome ℕ}
    (c : Came o tally f Holds x x' ws ws' r) where
  pub accepted_is : {n : ℕ} → r ≡ accepted n → Accepts o tally f Holds x' n
  accepted_is {n} is = go o refl (sym is ∙ c.answers) c.changes c.leaves
    where
      go : (u : Outcome A) → o ≡ u → accepted n ≡ on_accepted tally u → x' ≡ changed f x u → Workspace Holds ws ws' u
          → Accepts o tally f Holds x' n
      go (accepted a) e q p h = record { given = a; means = e; counts = cc; changes = p; holds = h }
      go (refused number place) e q p h = let z : ◌≡◌ {A = ℕ} 0 1 = cc in absurd (omega arith)

  pub refused_is : {number place : ℕ} → r ≡ refused number place → Refuses o x x' ws ws' number place
  refused_is {number} {place} is = go o refl (sym is ∙ c.answers) c.changes c.leaves
    where
      go : (u : Outcome A) → o ≡ u → refused number place ≡ on_accepted tally u → x' ≡ changed f x u → Workspace Holds ws ws' u
          → Refuses o x x' ws ws' number place
      go (accepted a) e q p h = let z : ◌≡◌ {A = ℕ} 0 1 = cc in absurd (omega arith)
      go (refused m at) e q p h =
          let same : m ≡ number = cc in
          let there : at ≡ place = cc in
          record { means = rw (← same, ← there) e; same = p; keeps = rw same at h }

-- ---- how far an outcome may go

-- refusals that leave the workspace are none of the tape's
pub keeps_least : (number : ℕ) → keeps_workspace number ≡ true → 8 ≤ number
unfolding keeps_workspace
keeps_least number e = by (leb 8 number) (leb number 11) (eqb number 13) refl refl e
  where
    by : (a b c : Bool) → leb 8 number ≡ a → eqb number 13 ≡ c → (a && b || c) ≡ true → 8 ≤ number
    by true b c p q e = leb-true 8 number p
    by false b true p q e = let is = eqb-true number 13 q in omega arith
    by false b false p q e = absurd (true≢false (sym e))

-- a refusal's number is one of 1 to `most`, and its place as far as a tape may go
pub record Told (most number place : ℕ) : Type 0 where
  pub least : 1 ≤ number
  pub greatest : number ≤ most
  pub near : place ≤ most_bytes

abbrev pub Bounded : {A : Type 0} → (A → Type 0) → ℕ → Outcome A → Type 0
Bounded P most (accepted a) = P a
Bounded P most (refused number place) = Told most number place

module _ {A : Type 0} (P : A → Type 0) (most : ℕ) where
  -- a test before it
  pub refuse_bounded : (t : Bool) (number : ℕ) (o : Outcome A) → 1 ≤ number → number ≤ most → (t ≡ false → Bounded P most o)
      → Bounded P most (refuse_if t number 0 o)
  refuse_bounded true number o l m b = record { least = l; greatest = m; near = lit≤ tt }
  refuse_bounded false number o l m b = b refl

  -- the same with a weaker bound
  pub weaken : (Q : A → Type 0) (more : ℕ) → most ≤ more → ((a : A) → P a → Q a) → (o : Outcome A) → Bounded P most o → Bounded Q more o
  weaken Q more l f (accepted a) b = f a b
  weaken Q more l f (refused number place) b = let m = b.greatest in record { least = b.least; greatest = omega arith; near = b.near }

-- ---- as one number

-- what is known of an answer that is to be one number
pub record Packs (answer : Outcome ℕ) : Type 0 where
  pub near : Near answer
  pub back : unpacked (packed answer) ≡ answer

module _ {A : Type 0} (tally : A → ℕ) (most : ℕ) where
  pub packs : (o : Outcome A) → Bounded (λ a. tally a < 2 ^ 32) most o → {answer : Outcome ℕ} → answer ≡ on_accepted tally o → Packs answer
  unfolding unpacked
  packs o b e = subst Packs (sym e) (by o b)
    where
      by : (o : Outcome A) → Bounded (λ a. tally a < 2 ^ 32) most o → Packs (on_accepted tally o)
      by (accepted a) b = record { near = tt; back = rw (lt-ltb (tally a) (2 ^ 32) b) }
      by (refused number place) b =
          let least = b.least in
          let near = b.near in
          let high : 2 ^ 32 ≤ number * 2 ^ 32 + place = omega arith in
          let up : (number * 2 ^ 32 + place) / 2 ^ 32 ≡ number = omega arith in
          let down : (number * 2 ^ 32 + place) % 2 ^ 32 ≡ place = omega arith in
          record { near = omega arith; back = rw (le-ltb (number * 2 ^ 32 + place) (2 ^ 32) high, up, down) }
