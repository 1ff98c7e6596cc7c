-- AN ANSWER AS ONE NUMBER, as the functions for C give it. Definitions only.
use Rattle.std.specs.Prelude.{◌≡◌, cond, ℕ, ◌+◌, ◌*◌, ◌/◌, ◌%◌, ◌^◌, nat_lt}
use Rattle.tape.specs.Outcome.{Outcome, accepted, refused}

-- itself, or the sum of a refusal's place and 2^32 times its number
abbrev pub packed : Outcome ℕ → ℕ
packed (accepted n) = n
packed (refused number place) = number * 2 ^ 32 + place

-- the answer that a number stands for, as a caller reads it: the upper half is 0, or a refusal's number
unfoldable pub unpacked : ℕ → Outcome ℕ
unpacked r = cond (nat_lt r (2 ^ 32)) (accepted r) (refused (r / 2 ^ 32) (r % 2 ^ 32))

-- a function for C answers r: it does what the call does, and r is the call's answer as one number
pub record Numbered (Does : Outcome ℕ → Type 0) (r : ℕ) : Type 0 where
  pub answer : Outcome ℕ
  pub does : Does answer
  pub packs : r ≡ packed answer
