-- What is checked before a tape is read: the number of each fault, and how a call goes on.
use mathlib.Core.Path.{◌≡◌, refl}
use mathlib.Core.Bool.{true, false}
use Prim.Native.Nat.{ℕ, ◌≤◌, ◌<◌}
use borrow.Author.Tests.{lt-ltb, le-ltb}
use lib.ListN.{length}
use Rattle.tape.specs.Outcome.{refused}
use Rattle.tape.specs.Tape.{most_bytes, least_room}
use Rattle.compositor.specs.declared.Settings.{Settings}
use Rattle.compositor.specs.Settings.{out_of_range, picture_bytes}
use Rattle.compositor.specs.Draw.{Tapes, cue_call}
use Rattle.compositor.specs.declared.layout.Layout.{Layout}
use Rattle.compositor.specs.Checked.{Admitted}

module _ (s : Settings) (tape : Tapes) (room size : ℕ) where
  -- a call comes to this refusal, whatever it has to refuse besides
  abbrev pub Refuses : ℕ → Type 0
  Refuses number = (extra : ℕ) → cue_call s room size tape extra ≡ refused number 0

  pub out_of_range_lem : out_of_range s ≡ true → Refuses 8
  unfolding cue_call
  out_of_range_lem e extra = rw e

  module _ (range : out_of_range s ≡ false) where
    pub short_picture : size < picture_bytes s → Refuses 9
    unfolding cue_call
    short_picture h extra = rw (range, lt-ltb size (picture_bytes s) h)

    module _ (fits : picture_bytes s ≤ size) where
      pub long_tape : most_bytes < length tape → Refuses 10
      unfolding cue_call
      long_tape h extra = rw (range, le-ltb size (picture_bytes s) fits, lt-ltb most_bytes (length tape) h)

      module _ (short : length tape ≤ most_bytes) where
        pub short_workspace : room < least_room → Refuses 11
        unfolding cue_call
        short_workspace h extra =
            rw (range, le-ltb size (picture_bytes s) fits, le-ltb most_bytes (length tape) short, lt-ltb room least_room h)

        pub admitted : least_room ≤ room → {layout : Layout} → layout.settings ≡ s → Admitted s tape room size layout
        unfolding cue_call
        admitted h is =
            record {
              settings = is;
              fits = fits;
              short = short;
              enough = h;
              goes_on = λ extra.
                  rw (range, le-ltb size (picture_bytes s) fits, le-ltb most_bytes (length tape) short, le-ltb room least_room h) refl;
            }
