-- Promises: a stack of tapes, document 02, S-9, which no call takes yet. No reader of the deposit needs this file.
-- Cues that overlap are drawn as one picture: of two who speak at once each has a tape of its own. The tapes, up to
-- eight, are handed over end to end in one buffer, with the end of each. Each is a tape by itself: it is read from its
-- own start, and ends where it ends.
use Rattle.std.specs.Prelude.{Bool, false, not, ◌&&◌, ◌||◌, List, [], ◌∷◌, ℕ, ◌+◌, ◌-◌, length, take, drop, nat_le, nat_lt, ◌==◌}
use Rattle.tape.specs.declared.Style.{Style}
use Rattle.tape.specs.Outcome.{Outcome, accepted, refused, refuse_if, on_accepted, and_then}
use Rattle.tape.specs.Runs.{Letter}
use Rattle.tape.specs.Tape.{tape_letters, most_bytes, least_room}

-- the bytes of all tapes, and of each tape the end: how many bytes there are up to its last, counted from the buffer's
-- start
pub record Tapes : Type 0 where
  pub tape_bytes : List ℕ
  pub tape_ends : List ℕ

-- how many tapes a stack may have
abbrev pub most_tapes : ℕ
most_tapes = 8

-- The tapes of which these are the ends, and the first of which begins at `place`: each is the bytes from the end of
-- the one before it up to its own. Two ends that are equal leave an empty tape between them.
unfoldable pub tapes_from : List ℕ → ℕ → List ℕ → List (List ℕ)
tapes_from bytes place [] = []
tapes_from bytes place (end ∷ es) = take (end - place) (drop place bytes) ∷ tapes_from bytes end es

-- the tapes of a stack: the first begins at the buffer's start
abbrev pub tapes_of : Tapes → List (List ℕ)
tapes_of tapes = tapes_from tapes.tape_bytes 0 tapes.tape_ends

-- ---- what is refused before a tape is read

-- ends that do not fall, from a place to a last one: each is at or past the one before it, the first at or past the
-- place; where there is none, the place itself is the last
unfoldable pub reaches_to : ℕ → ℕ → List ℕ → Bool
reaches_to last place [] = place == last
reaches_to last place (end ∷ es) = nat_le place end && reaches_to last end es

-- of a buffer of so many bytes, which the last end has to be, these are no ends of a stack: they are none, or more than
-- eight, or one falls, or the last is another
unfoldable pub ends_unfit : ℕ → List ℕ → Bool
ends_unfit last es = length es == 0 || (nat_lt most_tapes (length es) || not (reaches_to last 0 es))

-- of tapes with these ends, the first of which begins at `place`, one has more bytes than a tape may have
unfoldable pub some_too_long : ℕ → List ℕ → Bool
some_too_long place [] = false
some_too_long place (end ∷ es) = nat_lt most_bytes (end - place) || some_too_long end es

-- what is refused of a stack, and of a workspace of `room` bytes, before a tape is read: 18, then 10, and then 11
abbrev pub refuse_stack : {A : Type 0} → Tapes → ℕ → Outcome A → Outcome A
refuse_stack tapes room o =
    refuse_if (ends_unfit (length tapes.tape_bytes) tapes.tape_ends) 18 0
    (refuse_if (some_too_long 0 tapes.tape_ends) 10 0
    (refuse_if (nat_lt room least_room) 11 0 o))

-- ---- what the tapes mean

-- an outcome with a refusal's place so many bytes further on
abbrev pub further : {A : Type 0} → ℕ → Outcome A → Outcome A
further bytes (accepted a) = accepted a
further bytes (refused number place) = refused number (bytes + place)

-- The letters of each tape, with s the style of its outer list; or the first fault of the first tape that has one. So
-- many bytes stand before the tapes: the fault's place is counted from the buffer's start.
unfoldable pub tapes_letters : Style → ℕ → List (List ℕ) → Outcome (List (List Letter))
tapes_letters s before [] = accepted []
tapes_letters s before (tape ∷ later) =
    and_then (λ ls. on_accepted (λ others. ls ∷ others) (tapes_letters s (before + length tape) later)) (further before (tape_letters s tape))

-- those of a stack
abbrev pub stack_letters : Style → Tapes → Outcome (List (List Letter))
stack_letters s tapes = tapes_letters s 0 (tapes_of tapes)
