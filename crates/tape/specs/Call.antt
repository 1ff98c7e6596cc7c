-- WHAT A CALL ANSWERS AND LEAVES: document 01, "Who is stopped, and by what". Definitions only.
-- What a call comes to is an outcome, and all else that can be seen of the call follows from it. So the contract of
-- every call is one claim, `Came`: the call comes to this outcome, and here is what the outcome leaves. What it answers
-- is an outcome too, of a number: how many letters, lines or strokes there are, or were drawn, or its refusal.
use Rattle.std.specs.Prelude.{◌≡◌, Bool, true, ◌&&◌, ◌||◌, List, ℕ, nat_le, ◌==◌}
use Rattle.tape.specs.Outcome.{Outcome, accepted, refused, on_accepted}

-- what was x before a call is afterwards f of what the call accepted, or, where it is refused, as it was
abbrev pub changed : {A X : Type 0} → (A → X) → X → Outcome A → X
changed f x (accepted a) = f a
changed f x (refused number place) = x

-- the refusals that leave the workspace as it was: 8 to 11, and 13
unfoldable pub keeps_workspace : ℕ → Bool
keeps_workspace number = nat_le 8 number && nat_le number 11 || number == 13

-- the workspace before and after a call: accepted, it is as `Holds` says; after these refusals it is as it was; else
-- its contents are free
abbrev pub Workspace : {A : Type 0} → (A → Type 0) → List ℕ → List ℕ → Outcome A → Type 0
Workspace Holds ws ws' (accepted a) = Holds a
Workspace Holds ws ws' (refused number place) = keeps_workspace number ≡ true → ws' ≡ ws

-- for a call that changes nothing but its workspace
abbrev pub nothing : Unit {0}
nothing = tt

-- nothing is said of the workspace
abbrev pub IsFree : {A : Type 0} → A → Type 0
IsFree a = Unit

-- A call that comes to the outcome o. It answers `tally` of what it accepts, or its refusal; what it may change, which
-- was x, is then x'; and the workspace, which was ws, is then ws'.
pub record Came
    {A X : Type 0}
    (o : Outcome A)
    (tally : A → ℕ)
    (f : A → X)
    (Holds : A → Type 0)
    (x x' : X)
    (ws ws' : List ℕ)
    (answer : Outcome ℕ) : Type 0 where
  pub answers : answer ≡ on_accepted tally o
  pub changes : x' ≡ changed f x o
  pub leaves : Workspace Holds ws ws' o
