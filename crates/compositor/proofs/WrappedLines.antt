-- Letters that were wrapped: their lines can be read, and drawn they are the drawing.
use mathlib.Core.Path.{◌≡◌, ◌∙◌, sym, ap, ap₂, subst}
use mathlib.Core.List.{List, flatten}
use Prim.Native.Nat.{ℕ, suc, ◌+◌, ◌*◌, ◌≤◌, ◌<◌}
use native.Mathlib.Nat.{mul-le-mul}
use native.Mathlib.Omega.{arith}
use lib.ListN.{length}
use Rattle.tape.specs.Outcome.{Outcome, accepted}
use Rattle.tape.specs.Command.{most_letters}
use Rattle.tape.specs.Runs.{Letter}
use Rattle.tape.specs.Tape.{least_room}
use Rattle.wrap.specs.declared.Lines.{Lines}
use Rattle.wrap.specs.Lines.{Line, wrap_runs}
use Rattle.wrap.specs.Shown.{inked_letters}
use Rattle.wrap.specs.Laid.{inked_through, Laid}
use Rattle.wrap.proofs.AllInked.{all_inked}
use Rattle.wrap.proofs.EachLetterOnce.{known}
use Rattle.compositor.specs.declared.Settings.{Settings}
use Rattle.compositor.specs.Layout.{column_limit}
use Rattle.compositor.specs.Settings.{most_outline_cap}
use Rattle.compositor.specs.Outline.{outline_of}
use Rattle.compositor.specs.Order.{Stroke, lines_strokes, drawing}
use Rattle.compositor.specs.Read.{letters_at, letters_from, strokes_at, strokes_in, Readable}
use Rattle.compositor.specs.Ready.{InRange, most_lines, most_strokes}
use Rattle.compositor.specs.declared.layout.Layout.{Layout}
use Rattle.compositor.specs.Checked.{CueLaid}
use Rattle.compositor.proofs.Ranges.{outline_small}
use Rattle.compositor.proofs.WorkspaceHolds.{readable, totals_back, strokes_back, letters_back_all}
use Rattle.compositor.proofs.Total.{total}

-- T is small
pub total_small : (inked o : ℕ) → inked ≤ most_letters → o ≤ most_outline_cap → inked * (1 + 8 * o) ≤ most_strokes
total_small inked o h k = mul-le-mul h (let each : 1 + 8 * o ≤ 1 + 8 * most_outline_cap = omega arith in each)

module _ {ls : List Letter} {limit : ℕ} {made : Lines} {ws : List ℕ} (laid : Laid ls limit made ws) where
  abbrev r : List Line
  r = wrap_runs ls limit

  lines_readable : least_room ≤ length ws → made.letters ≤ most_letters → Readable ws (letters_from ws 0 made.lines)
  lines_readable room few =
      let n : length (flatten r) ≤ most_letters = rw (← laid.on_lines) few in
      let e : length (flatten r) ≡ letters_from ws 0 made.lines =
      sym (ap (letters_from ws 0) laid.count ∙ letters_back_all ls r ws laid.letters laid.lines (known ls limit)) in
      subst (Readable ws) e (readable ls r ws laid.letters laid.lines (known ls limit) room n)

  totals_read : (i : ℕ) → i < made.lines → inked_through ws i ≡ inked_letters (letters_at ws 0 (letters_from ws 0 (suc i)))
  totals_read i h = totals_back ls r ws laid.letters laid.lines (known ls limit) i (rw laid.count at h)

  module _ (s : Settings) (limit_is : limit ≡ column_limit s) where
    pub strokes_are : strokes_in s ws made.lines ≡ drawing s ls
    unfolding drawing strokes_in
    strokes_are =
        ap (strokes_at s ws 0 0) laid.count
        ∙ strokes_back ls r ws laid.letters laid.lines (known ls limit) s
        ∙ ap (λ (L : ℕ). lines_strokes s ls (wrap_runs ls L)) limit_is

    -- they can be drawn, where a letter with ink has so many strokes
    pub cue_laid : (layout : Layout) → layout.settings ≡ s → (o : Outcome (List Stroke)) → o ≡ accepted (drawing s ls) → (each : ℕ) → each ≡ 1 + 8 * outline_of s → least_room ≤ length ws
        → made.letters ≤ most_letters → made.inked ≤ most_letters → made.lines ≤ most_lines → CueLaid s o ws (record { layout = layout; lines = made.lines; strokes = made.inked * each })
    cue_laid layout is o means each e room few_letters few-inked few =
        let range : InRange s = rw is at layout.in_range in
        record {
          settings = is;
          lined = record { readable = lines_readable room few_letters; few = few; inked = totals_read };
          means = means ∙ ap accepted (sym strokes_are);
          counts =
              ap₂ (λ (n m : ℕ). n * m) (laid.inked_on_lines ∙ all_inked ls limit) e
              ∙ sym (total s ls)
              ∙ ap length (sym strokes_are);
          few = rw e (total_small made.inked (outline_of s) few-inked (outline_small s range));
        }
