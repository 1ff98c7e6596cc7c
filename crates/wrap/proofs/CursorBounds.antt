-- The bounds of a cursor are kept.
use mathlib.Core.Path.{◌≡◌, refl}
use mathlib.Core.Bool.{Bool, true, false, cond}
use Prim.Native.Nat.{ℕ, ◌+◌, ◌≤◌, ◌<◌}
use native.Mathlib.Omega.{arith}
use Rattle.wrap.specs.declared.line.Cursor.{Cursor}
use Rattle.wrap.specs.Filled.{closed, Sane}

module _ (c : Cursor) (i : ℕ) (sane : Sane c i) where
  -- after more letters, which stand on no line
  pub sane_on : (j : ℕ) → i ≤ j → Sane c j
  sane_on j h =
      record {
        start = sane.start;
        kept = sane.kept;
        end = omega arith;
        within = omega arith;
        columns = omega arith;
        inked = omega arith;
        lines = omega arith;
        busy = λ z. let b = sane.busy z in omega arith;
        some = λ z. let b = sane.some z in omega arith;
      }

  after_close : (j : ℕ) → i ≤ j → c.lines < j → Sane (closed c) j
  after_close j h l =
      record {
        start = omega arith;
        kept = omega arith;
        end = omega arith;
        within = omega arith;
        columns = omega arith;
        inked = omega arith;
        lines = omega arith;
        busy = λ z. absurd (omega arith);
        some = λ z. absurd (omega arith);
      }

  -- closed by a break
  pub sane_break : Sane (closed c) (i + 1)
  sane_break = after_close (i + 1) (omega arith) (omega arith)

  -- closed because it has columns
  sane_close : 0 < c.columns → Sane (closed c) i
  sane_close h = after_close i (omega arith) (sane.busy h)

  -- closed at the end because it has letters
  pub sane_last : (b : Bool) → (b ≡ true → c.start < c.kept) → Sane (cond b (closed c) c) i
  sane_last true h = after_close i (omega arith) (sane.some (h refl))
  sane_last false h = sane

  pub sane_if : (b : Bool) → (b ≡ true → 0 < c.columns) → Sane (cond b (closed c) c) i
  sane_if true h = sane_close (h refl)
  sane_if false h = sane
