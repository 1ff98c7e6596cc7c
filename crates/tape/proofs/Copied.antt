-- Bytes copied into a part of a buffer are stored one after the other.
use mathlib.Core.Path.{◌≡◌, ◌∙◌, sym}
use mathlib.Core.List.{List, append_assoc}
use Prim.Native.Nat.{ℕ, ◌+◌, ◌-◌, ◌≤◌}
use native.Mathlib.Omega.{arith}
use lib.ListN.{length, take, drop}
use lib.Seq.{sets, sets-eq, drop-drop}
use borrow.Rule.Slice.PartMut.{put_mid}

pub copied : (ws ys : List ℕ) (at : ℕ) → at + length ys ≤ length ws → put_mid at (at + length ys - at) ws ys ≡ sets ws at ys
copied ws ys at h =
    let count : at + length ys - at ≡ length ys = omega arith in
    rw (count, drop-drop) (sym (sets-eq ys ws at h ∙ append_assoc (take at ws) ys (drop (at + length ys) ws)))
