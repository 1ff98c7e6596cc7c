-- Promises: a column limit out of range is refused. No reader of the deposit needs this file.
use Rattle.std.specs.Prelude.{◌≡◌, Bool, true, false, ◌||◌, Result, Ok, Err, ℕ, nat_lt}
use Rattle.tape.specs.declared.refusal.Refusal.{Refusal}
use Rattle.tape.specs.declared.refusal.Cause.TheVariants.{OutOfRange}
use Rattle.wrap.specs.declared.limit.Limit.{Limit}
use Rattle.wrap.specs.Wrap.{most_columns}

abbrev pub is_no_limit : ℕ → Bool
is_no_limit n = nat_lt n 1 || nat_lt most_columns n

-- by 8
abbrev pub Limited : ℕ → Result Limit Refusal → Type 0
Limited n (Ok limit) = (limit.columns ≡ n) × (is_no_limit n ≡ false)
Limited n (Err r) = (r ≡ record { cause = OutOfRange; place = 0 }) × (is_no_limit n ≡ true)
