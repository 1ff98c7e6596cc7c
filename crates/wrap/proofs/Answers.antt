-- For the layers above: how far the call's outcome goes, and what is known of lines that were made.
use mathlib.Core.Path.{◌≡◌}
use mathlib.Core.Bool.{◌||◌}
use mathlib.Core.List.{List}
use Prim.Native.Nat.{ℕ, ◌≤◌, ◌<◌, ◌^◌}
use native.Mathlib.Omega.{arith}
use borrow.Author.Tests.{ltb-false}
use lib.Dec.{lit≤, ltb}
use lib.ListN.{length}
use Rattle.std.proofs.lemmas.Bool.{or_parts}
use Rattle.tape.specs.Outcome.{Outcome, accepted, refused, on_accepted}
use Rattle.tape.specs.Runs.{Letter}
use Rattle.tape.specs.Tape.{least_room, read_call}
use Rattle.tape.proofs.Answers.{Fits, fits}
use Rattle.tape.proofs.Calls.{Bounded, refuse_bounded, weaken, accepted_is, Packs, packs}
use Rattle.wrap.specs.Wrap.{Caption, most_columns, caption_of, wrap_call}
use Rattle.wrap.specs.Laid.{most_lines}
use Rattle.wrap.specs.Wrapped.{Wrapped}
use Rattle.wrap.proofs.FewLines.{few_lines}
use Rattle.wrap.proofs.CallWrap.{white}

-- a caption that was wrapped in a workspace of `room` bytes
pub record Small (room : ℕ) (c : Caption) : Type 0 where
  pub few : length c.lines ≤ most_lines
  pub enough : least_room ≤ room

pub wrap_bounded : (limit room : ℕ) (tape : List ℕ) → Bounded (Small room) 11 (wrap_call limit room tape)
unfolding wrap_call
wrap_bounded limit room tape =
    refuse_bounded (Small room) 11 (ltb limit 1 || ltb most_columns limit) 8 _ (lit≤ tt) (lit≤ tt)
    (λ e. own (ltb-false limit 1 (or_parts (ltb limit 1) (ltb most_columns limit) e).0) (read_call white room tape) (fits white room tape))
  where
    own : 1 ≤ limit → (o : Outcome (List Letter)) → Bounded (Fits tape room) 11 o → Bounded (Small room) 11 (on_accepted (caption_of limit) o)
    own one (accepted ls) f = let n = few_lines ls limit one in let few = f.few in record { few = omega arith; enough = f.enough }
    own one (refused number place) f = f

-- so many lines were made
pub lines_fit : (tape ws : List ℕ) {ws' : List ℕ} (limit : ℕ) {r : Outcome ℕ} → Wrapped tape ws ws' limit r → {lines : ℕ} → r ≡ accepted lines
    → (lines ≤ most_lines) × (least_room ≤ length ws)
lines_fit tape ws limit w e =
    let a = accepted_is w e in
    let small : Small (length ws) a.given = rw a.means at (wrap_bounded limit (length ws) tape) in
    let few = small.few in
    let count = a.counts in
    (omega arith, small.enough)

-- the answer goes into one number
pub wrap_packs : (tape ws : List ℕ) {ws' : List ℕ} (limit : ℕ) {r : Outcome ℕ} → Wrapped tape ws ws' limit r → Packs r
wrap_packs tape ws limit w =
    let o = wrap_call limit (length ws) tape in
    packs (λ c. length c.lines) 11 o (weaken (Small (length ws)) 11 (λ c. length c.lines < 2 ^ 32) 11 (omega arith) small o (wrap_bounded limit (length ws) tape)) w.answers
  where
    small : (c : Caption) → Small (length ws) c → length c.lines < 2 ^ 32
    small c s = let few = s.few in omega arith
