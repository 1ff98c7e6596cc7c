-- Cases of Open and Work: what they make of stripes, budgets and records, by computation.
use mathlib.Core.Path.{◌≡◌, refl}
use mathlib.Core.List.{List, [], ◌∷◌, ◌++◌, map, flatten}
use Prim.Native.Nat.{ℕ, suc, ◌-◌, ◌*◌}
use lib.ListN.{length, replicate}
use Rattle.tape.specs.Outcome.{Outcome, accepted, refused, on_accepted}
use Rattle.tape.specs.Style.{same_style}
use Rattle.tape.specs.Command.{code_point, is_letter, is_opener, is_scalar, added, fault_of, command_of}
use Rattle.tape.specs.Runs.{merge_into, letters_of}
use Rattle.tape.specs.Tape.{least_room, read, tape_runs, tape_letters}
use Rattle.tape.specs.Segments.{letter_bytes}
use Rattle.font.specs.Font.{tabulate, regular_table}
use Rattle.font.specs.Ink.{has_ink}
use Rattle.wrap.specs.Lines.{up_from, without_last, visible_cols, logical_lines, tokenise, is_space_token, chunks, put_chunks, add_or_break, put_token, put_tokens, fill, wrap_runs}
use Rattle.compositor.specs.Settings.{out_of_range}
use Rattle.compositor.specs.Layout.{base_line, line_start}
use Rattle.compositor.specs.Outline.{displacement_row, displacement_rows, displacements}
use Rattle.compositor.specs.Order.{Stroke, glyph_strokes, line_strokes, lines_strokes, drawing}
use Rattle.compositor.specs.Draw.{tape_strokes, cue_call}
use Rattle.compositor.proofs.Cases.{settings, AB}
use Rattle.job.specs.declared.Stripes.{Stripes}
use Rattle.job.specs.Stripes.{Division, most_stripes, stripe_of, has_stripe, rises_to, stripes_fault, equal_ends, division_of, stripes_with, new_record, no_record, counters_unsound}
use Rattle.job.specs.Work.{open_call, stripe_call, work_call}

-- stripes with a count and entries, those that are not told 0
abbrev handed : ℕ → List ℕ → Stripes
handed count ends = record { stripe_count = count; end_rows = ends ++ replicate (most_stripes - length ends) 0 }

-- a job on a picture of one row in one stripe, which has had c strokes; the next counter is d: Work on stripe k with
-- budget n
abbrev work : ℕ → ℕ → ℕ → ℕ → List ℕ → Outcome (List Stroke)
work c d k n tape =
    work_call (settings 32 1 0 1 0) least_room 128 tape (record { stripes = handed 1 (1 ∷ []); counters = c ∷ d ∷ replicate 62 0 }) k n

abbrev Does : ℕ → ℕ → List ℕ → ℕ → Type 0
Does c n tape m = on_accepted length (work c 0 0 n tape) ≡ accepted m

-- Open on a picture of one column and so many rows, with such stripes, and with a workspace of `room` bytes; the tape is
-- faulty, so that what comes behind 13 is 1
abbrev opens : ℕ → ℕ → Stripes → Outcome (List Stroke)
opens room height stripes = open_call (settings 1 height 0 0 0) room (4 * height) (0x0c ∷ []) (division_of stripes)

abbrev Taken : ℕ → ℕ → List ℕ → Type 0
Taken height count ends = opens least_room height (handed count ends) ≡ refused 1 0

abbrev Unfit : ℕ → ℕ → List ℕ → Type 0
Unfit height count ends = opens least_room height (handed count ends) ≡ refused 13 0

abbrev thin : Division
thin = 300 ∷ 340 ∷ 360 ∷ []

pub record Cases : Type 0 where
  -- thin stripes below a tall one: the stripes of rows at their ends, and of the row below them all
  pub rows :
      (stripe_of thin 0 ≡ 0) × (stripe_of thin 299 ≡ 0) × (stripe_of thin 300 ≡ 1) × (stripe_of thin 339 ≡ 1) × (stripe_of thin 340 ≡ 2)
      × (stripe_of thin 359 ≡ 2) × (stripe_of thin 360 ≡ 3)
  -- ends that rise to the height, one or as many as there may be; what is not counted is not read
  pub taken : Taken 3 3 (1 ∷ 2 ∷ 3 ∷ []) × Taken 3 1 (3 ∷ []) × Taken 64 64 (map suc (up_from 0 64)) × Taken 0 0 [] × Taken 3 1 (3 ∷ 7 ∷ [])
  -- ends that stay, that fall, that begin with 0, that end above the height or below it; none; one too many, or far too
  -- many; and a picture without rows has none
  pub unfit :
      Unfit 3 3 (1 ∷ 1 ∷ 3 ∷ []) × Unfit 3 3 (2 ∷ 1 ∷ 3 ∷ []) × Unfit 3 2 (0 ∷ 3 ∷ []) × Unfit 3 2 (1 ∷ 2 ∷ []) × Unfit 3 2 (1 ∷ 4 ∷ []) × Unfit 3 0 []
      × Unfit 64 65 (map suc (up_from 0 64)) × Unfit 64 0xffff_ffff (map suc (up_from 0 64)) × Unfit 0 1 (0 ∷ []) × Unfit 0 1 (1 ∷ [])
  -- a short workspace comes before them
  pub early : opens (least_room - 1) 3 (handed 0 []) ≡ refused 11 0
  -- stripes of one height: a lower one at the end; one that is higher than the picture; none; and of no rows
  pub equal :
      (equal_ends 8 20 ≡ 8 ∷ 16 ∷ 20 ∷ []) × (equal_ends 8 16 ≡ 8 ∷ 16 ∷ []) × (equal_ends 0xffff_ffff 20 ≡ 20 ∷ []) × (equal_ends 8 0 ≡ []) × (equal_ends 0 0 ≡ 0 ∷ [])
  -- an accepted Open's record has zeros where nothing was read, and a refused one's is zeros
  pub kept : ((new_record (division_of (handed 1 (3 ∷ 7 ∷ [])))).stripes ≡ handed 1 (3 ∷ [])) × (no_record.stripes ≡ handed 0 [])
  -- of the 18 strokes of AB with an outline of 1, 5 are done, or all
  pub budgets : Does 5 0 AB 0 × Does 5 3 AB 3 × Does 5 0xffff_ffff AB 13 × Does 18 7 AB 0
  -- a counter over T, or past the last stripe, comes before a stripe that is not there
  pub records :
      (work 19 0 1 1 AB ≡ refused 14 0) × (work 0 1 0 1 AB ≡ refused 14 0) × (work 18 0 1 1 AB ≡ refused 12 0) × (work 0 0 0xffff_ffff 1 AB ≡ refused 12 0)

pub cases : Cases
unfolding has_ink work_call stripe_call counters_unsound stripes_fault rises_to stripe_of has_stripe division_of stripes_with equal_ends cue_call tape_strokes out_of_range drawing lines_strokes line_strokes glyph_strokes displacements displacement_rows displacement_row line_start base_line tabulate regular_table wrap_runs visible_cols logical_lines tokenise is_space_token chunks put_chunks add_or_break put_token put_tokens fill without_last up_from flatten tape_letters tape_runs read fault_of command_of code_point is_letter is_opener is_scalar added merge_into letters_of same_style letter_bytes
cases =
    record {
      rows = (refl, refl, refl, refl, refl, refl, refl);
      taken = (refl, refl, refl, refl, refl);
      unfit = (refl, refl, refl, refl, refl, refl, refl, refl, refl, refl);
      early = refl;
      equal = (refl, refl, refl, refl, refl);
      kept = (refl, refl);
      budgets = (refl, refl, refl, refl);
      records = (refl, refl, refl, refl);
    }
