-- Promises: a call's answer as the program gives it, and the outcome that it says. No reader of the deposit needs this
-- file.
use lib.Chars.{codes}
use Rattle.std.specs.Prelude.{ℕ, Result, Ok, Err, List, ◌++◌}
use Rattle.std.specs.Fmt.{decimal}
use Rattle.tape.specs.declared.refusal.Cause.{Cause}
use Rattle.tape.specs.declared.refusal.Cause.TheVariants.{UnknownCommand, OperandsMissing, Unbalanced, NotAScalar, TooDeep, TooManyLetters, NotInAName, OutOfRange, PictureTooShort, TapeTooLong, WorkspaceTooShort, NoSuchStripe, StripesUnfit, CountersUnsound}
use Rattle.tape.specs.declared.refusal.Refusal.{Refusal}
use Rattle.tape.specs.Outcome.{Outcome, accepted, refused}

-- the number of each cause
abbrev pub number_of : Cause → ℕ
number_of UnknownCommand = 1
number_of OperandsMissing = 2
number_of Unbalanced = 3
number_of NotAScalar = 4
number_of TooDeep = 5
number_of TooManyLetters = 6
number_of NotInAName = 7
number_of OutOfRange = 8
number_of PictureTooShort = 9
number_of TapeTooLong = 10
number_of WorkspaceTooShort = 11
number_of NoSuchStripe = 12
number_of StripesUnfit = 13
number_of CountersUnsound = 14

-- the outcome that an answer says
abbrev pub outcome_of : {A : Type 0} → Result A Refusal → Outcome A
outcome_of (Ok a) = accepted a
outcome_of (Err r) = refused (number_of r.cause) r.place

-- what is printed of a refusal: the word, its number and its place
abbrev pub printed : Refusal → List ℕ
printed r = codes "refused " ++ (decimal (number_of r.cause) ++ (codes " " ++ decimal r.place))
