-- Promises: an answer that fits into one number. No reader of the deposit needs this file.
use Rattle.std.specs.Prelude.{ℕ, ◌<◌, ◌^◌}
use Rattle.tape.specs.Outcome.{Outcome, accepted, refused}

-- a place that leaves the refusal's number alone
abbrev pub Near : Outcome ℕ → Type 0
Near (accepted n) = Unit
Near (refused number place) = place < 2 ^ 32
