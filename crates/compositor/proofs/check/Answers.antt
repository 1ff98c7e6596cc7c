use Rattle.std.proofs.Common.{◌≤◌}
use Rattle.std.proofs.lemmas.Result.{err_from_is_err_and}
use Rattle.compositor.specs.Settings.{picture_bytes}
use Rattle.compositor.proofs.Checks.{out_of_range_lem, short_picture, long_tape, short_workspace, admitted}
use Rattle.compositor.proofs.check.Goals as goal
use Rattle.compositor.proofs.check.Goals.{Else-size-picture_bytes}

-- the picture has room
fits : (c : Else-size-picture_bytes) → picture_bytes c.args.s ≤ c.args.size
fits c = rw (c.picture_bytes.ensures, (c.in_ok-layout.ensures {u = tt}).0) at c.if-size-picture_bytes.false

pub returns-in_err-layout : goal.returns-in_err-layout
returns-in_err-layout c =
    let p = err_from_is_err_and c.from_residual.result c.from_residual.ensures.1 in
    let r = c.in_err-layout.ensures {u = tt} in
    rw (p.1, p.2, r.0) (out_of_range_lem _ _ _ _ r.1)

pub returns-then-size-picture_bytes : goal.returns-then-size-picture_bytes
returns-then-size-picture_bytes c =
    let r = c.in_ok-layout.ensures {u = tt} in
    rw c.at.ensures (short_picture _ _ _ _ r.1 (rw (c.picture_bytes.ensures, r.0) at c.if-size-picture_bytes.true))

pub returns-then-tape-gt-MOST_BYTES : goal.returns-then-tape-gt-MOST_BYTES
returns-then-tape-gt-MOST_BYTES c =
    let f = fits (goal.at.returns-then-tape-gt-MOST_BYTES c).Else-size-picture_bytes in
    rw c.at-then-tape-gt-MOST_BYTES.ensures (long_tape _ _ _ _ (c.in_ok-layout.ensures {u = tt}).1 f c.if-tape-gt-MOST_BYTES.true)

pub returns-then-room-lt-LEAST_ROOM : goal.returns-then-room-lt-LEAST_ROOM
returns-then-room-lt-LEAST_ROOM c =
    let f = fits (goal.at.returns-then-room-lt-LEAST_ROOM c).Else-size-picture_bytes in
    rw c.at-then-room-lt-LEAST_ROOM.ensures
    (short_workspace _ _ _ _ (c.in_ok-layout.ensures {u = tt}).1 f c.if-tape-gt-MOST_BYTES.false c.if-room-lt-LEAST_ROOM.true)

pub returns : goal.returns
returns c =
    let r = c.in_ok-layout.ensures {u = tt} in
    let f = fits (goal.at.returns c).Else-size-picture_bytes in
    admitted _ _ _ _ r.1 f c.if-tape-gt-MOST_BYTES.false c.if-room-lt-LEAST_ROOM.false r.0
