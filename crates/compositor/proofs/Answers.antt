-- For the layers above: how far the outcome of a call goes.
use mathlib.Core.Path.{◌≡◌}
use mathlib.Core.List.{List}
use Prim.Native.Nat.{ℕ, zero, suc, ◌≤◌, ◌<◌, ◌^◌}
use native.Mathlib.Omega.{arith}
use borrow.Author.Tests.{ltb-false}
use lib.Dec.{lit≤, ltb}
use lib.ListN.{length}
use Rattle.tape.specs.declared.Style.{Style}
use Rattle.tape.specs.Outcome.{Outcome, accepted, refused, unless, on_accepted}
use Rattle.tape.specs.Command.{most_letters}
use Rattle.tape.specs.Runs.{Letter}
use Rattle.tape.specs.Style.{default_with}
use Rattle.tape.specs.Tape.{most_bytes, least_room, tape_letters}
use Rattle.tape.proofs.Calls.{Bounded, refuse_bounded, weaken, Packs, packs}
use Rattle.tape.proofs.Answers.{tape_bounded}
use Rattle.wrap.specs.Shown.{inked_letters}
use Rattle.wrap.proofs.InkCounts.{inked_few}
use Rattle.compositor.specs.declared.Settings.{Settings}
use Rattle.compositor.specs.Settings.{out_of_range, picture_bytes}
use Rattle.compositor.specs.Outline.{outline_of}
use Rattle.compositor.specs.Order.{Stroke, drawing}
use Rattle.compositor.specs.Draw.{Tapes, tape_strokes, cue_call}
use Rattle.compositor.specs.Ready.{InRange, most_strokes}
use Rattle.compositor.proofs.Ranges.{in_range, outline_small}
use Rattle.compositor.proofs.Total.{total}
use Rattle.compositor.proofs.WrappedLines.{total_small}

-- no more strokes than a caption has
abbrev pub Few : List Stroke → Type 0
Few ts = length ts ≤ most_strokes

strokes_bounded : (s : Settings) → InRange s → (tape : Tapes) → length tape ≤ most_bytes → Bounded Few 7 (tape_strokes s tape)
unfolding tape_strokes
strokes_bounded s range tape short = own (tape_letters style tape) (tape_bounded style tape short)
  where
    style : Style
    style = default_with s.default_color

    own : (o : Outcome (List Letter)) → Bounded (λ ls. length ls ≤ most_letters) 7 o → Bounded Few 7 (on_accepted (drawing s) o)
    own (accepted ls) few =
        let some = inked_few ls in
        let small = total_small (inked_letters ls) (outline_of s) (omega arith) (outline_small s range) in
        let all = total s ls in
        omega arith
    own (refused number place) b = b

-- a call has a number of its own to refuse
pub cue_bounded : (s : Settings) (room size : ℕ) (tape : Tapes) (extra most : ℕ) → 11 ≤ most → extra ≤ most → Bounded Few most (cue_call s room size tape extra)
unfolding cue_call
cue_bounded s room size tape extra most l o =
    refuse_bounded Few most (out_of_range s) 8 _ (lit≤ tt) (omega arith)
    (λ range. refuse_bounded Few most (ltb size (picture_bytes s)) 9 _ (lit≤ tt) (omega arith)
    (λ _. refuse_bounded Few most (ltb most_bytes (length tape)) 10 _ (lit≤ tt) (omega arith)
    (λ short. refuse_bounded Few most (ltb room least_room) 11 _ (lit≤ tt) (omega arith)
    (λ _. by extra o (weaken Few 7 Few most (omega arith) (λ ts few. few) (tape_strokes s tape) (strokes_bounded s (in_range s range) tape (ltb-false most_bytes (length tape) short)))))))
  where
    by : (k : ℕ) → k ≤ most → Bounded Few most (tape_strokes s tape) → Bounded Few most (unless k 0 (tape_strokes s tape))
    by zero k b = b
    by (suc n) k b = record { least = omega arith; greatest = k; near = lit≤ tt }

-- an answer that counts strokes goes into one number
pub strokes_pack : (most : ℕ) (o : Outcome (List Stroke)) → Bounded Few most o → {answer : Outcome ℕ} → answer ≡ on_accepted length o → Packs answer
strokes_pack most o b = packs length most o (weaken Few most (λ ts. length ts < 2 ^ 32) most (omega arith) (λ ts few. let small : length ts < 2 ^ 32 = omega arith in small) o b)
