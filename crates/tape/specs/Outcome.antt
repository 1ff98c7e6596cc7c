-- What reading or a call comes to: document 01, "Who is stopped, and by what". Definitions only.
use Rattle.std.specs.Prelude.{Bool, true, false, ℕ, zero, suc}

-- something, or a refusal: its number and its place
pub data Outcome (A : Type 0) : Type 0 where
  accepted : A → Outcome A
  refused : ℕ → ℕ → Outcome A

module _ {A : Type 0} where
  -- a refusal where a test holds, else what comes after it
  abbrev pub refuse_if : Bool → ℕ → ℕ → Outcome A → Outcome A
  refuse_if true number place o = refused number place
  refuse_if false number place o = o

  -- a refusal where its number is not 0, else what comes after it
  abbrev pub unless : ℕ → ℕ → Outcome A → Outcome A
  unless zero place o = o
  unless (suc n) place o = refused (suc n) place

  -- f of what is accepted; a refusal stays
  abbrev pub on_accepted : {B : Type 0} → (A → B) → Outcome A → Outcome B
  on_accepted f (accepted a) = accepted (f a)
  on_accepted f (refused number place) = refused number place

  -- what f comes to, of what is accepted; a refusal stays
  abbrev pub and_then : {B : Type 0} → (A → Outcome B) → Outcome A → Outcome B
  and_then f (accepted a) = f a
  and_then f (refused number place) = refused number place
