-- For the layers above: how far the reader's outcome goes, and what is known of letters that were read.
use mathlib.Core.Path.{◌≡◌}
use mathlib.Core.List.{List}
use Prim.Native.Nat.{ℕ, ◌≤◌, ◌<◌, ◌^◌}
use native.Mathlib.Omega.{arith}
use borrow.Author.Tests.{le-ltb, ltb-false}
use lib.Dec.{lit≤, ltb}
use lib.ListN.{length}
use Rattle.tape.specs.declared.Style.{Style}
use Rattle.tape.specs.Outcome.{Outcome, accepted, refused}
use Rattle.tape.specs.Command.{most_letters}
use Rattle.tape.specs.Runs.{Letter}
use Rattle.tape.specs.Call.{nothing}
use Rattle.tape.specs.Tape.{most_bytes, least_room, tape_letters, read_call}
use Rattle.tape.specs.TapeRead.{stored, TapeRead}
use Rattle.tape.proofs.Bounds.{letters_bounded}
use Rattle.tape.proofs.Bounds as Bounds
use Rattle.tape.proofs.Calls.{Bounded, refuse_bounded, weaken, Accepts, Packs, packs}

-- letters that were read: there are not too many, and the lengths are admitted
pub record Fits (tape : List ℕ) (room : ℕ) (ls : List Letter) : Type 0 where
  pub few : length ls ≤ most_letters
  pub short : length tape ≤ most_bytes
  pub enough : least_room ≤ room

pub tape_bounded : (s : Style) (tape : List ℕ) → length tape ≤ most_bytes → Bounded (λ ls. length ls ≤ most_letters) 7 (tape_letters s tape)
tape_bounded s tape short = go (tape_letters s tape) (letters_bounded s tape)
  where
    go : (o : Outcome (List Letter)) → Bounds.Bounded (length tape) o → Bounded (λ ls. length ls ≤ most_letters) 7 o
    go (accepted ls) b = b
    go (refused number place) b = let on = b.on in record { least = b.least; greatest = b.most; near = omega arith }

pub fits : (s : Style) (room : ℕ) (tape : List ℕ) → Bounded (Fits tape room) 11 (read_call s room tape)
unfolding read_call
fits s room tape =
    refuse_bounded (Fits tape room) 11 (ltb most_bytes (length tape)) 10 _ (lit≤ tt) (lit≤ tt)
    (λ short. refuse_bounded (Fits tape room) 11 (ltb room least_room) 11 (tape_letters s tape) (lit≤ tt) (lit≤ tt)
    (λ enough. own (ltb-false most_bytes (length tape) short) (ltb-false room least_room enough) (tape_letters s tape) (letters_bounded s tape)))
  where
    own : length tape ≤ most_bytes → least_room ≤ room → (o : Outcome (List Letter)) → Bounds.Bounded (length tape) o → Bounded (Fits tape room) 11 o
    own short enough (accepted ls) b = record { few = b; short = short; enough = enough }
    own short enough (refused number place) b =
        let most = b.most in
        let on = b.on in
        record { least = b.least; greatest = omega arith; near = omega arith }

-- with lengths that are admitted, only the tape decides
pub read_is : (s : Style) (room : ℕ) (tape : List ℕ) → length tape ≤ most_bytes → least_room ≤ room → read_call s room tape ≡ tape_letters s tape
unfolding read_call
read_is s room tape short enough = rw (le-ltb most_bytes (length tape) short, le-ltb room least_room enough)

-- n letters were read
abbrev pub Read : List ℕ → List ℕ → List ℕ → Style → ℕ → Type 0
Read tape ws ws' s n = Accepts (read_call s (length ws) tape) length (λ ls. nothing) (λ ls. ws' ≡ stored ws 0 ls) nothing n

pub letters_fit : (s : Style) (tape ws : List ℕ) {ws' : List ℕ} {n : ℕ} (a : Read tape ws ws' s n) → Fits tape (length ws) a.given
letters_fit s tape ws a = rw a.means at (fits s (length ws) tape)

-- the answer goes into one number
pub read_packs : (s : Style) (tape ws : List ℕ) {ws' : List ℕ} {r : Outcome ℕ} → TapeRead tape ws ws' s r → Packs r
read_packs s tape ws w =
    let o = read_call s (length ws) tape in
    packs length 11 o (weaken (Fits tape (length ws)) 11 (λ ls. length ls < 2 ^ 32) 11 (omega arith) small o (fits s (length ws) tape)) w.answers
  where
    small : (ls : List Letter) → Fits tape (length ws) ls → length ls < 2 ^ 32
    small ls f = let few = f.few in omega arith
