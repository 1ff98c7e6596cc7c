-- STRIPES AND THE JOB RECORD: document 01, "Open and Work", and document 02, S-4. Definitions only.
-- A picture is drawn in stripes, which may be of unlike heights. They are handed over as `Stripes`, a count and 64 end
-- rows, and a job record, `JobRecord`, keeps them, with a counter for each: how many strokes its rows have had.
use Rattle.std.specs.Prelude.{Bool, false, cond, not, ◌&&◌, ◌||◌, List, [], ◌∷◌, ◌++◌, map, ℕ, suc, ◌+◌, ◌-◌, ◌*◌, ◌/◌, min, length, take, replicate, nat_lt, slice_index, slice_set, ◌==◌}
use Rattle.wrap.specs.Lines.{up_from}
use Rattle.compositor.specs.declared.Settings.{Settings}
use Rattle.job.specs.declared.Stripes.{Stripes}
use Rattle.job.specs.declared.JobRecord.{JobRecord}

-- ---- how a picture is divided

-- a division of a picture into stripes, from the top: the end row of each, which is the first row below it
abbrev pub Division : Type 0
Division = List ℕ

-- the end row of stripe k, and its first row, which is the end of the stripe before it, or 0
abbrev pub end_row : Division → ℕ → ℕ
end_row d k = slice_index d k

abbrev pub first_row : Division → ℕ → ℕ
first_row d k = slice_index (0 ∷ d) k

-- the stripe that row y is of: the first whose end is past it; for a row below them all, how many there are
unfoldable pub stripe_of : Division → ℕ → ℕ
stripe_of [] y = 0
stripe_of (end ∷ d) y = cond (nat_lt y end) 0 (suc (stripe_of d y))

-- there is a stripe k
unfoldable pub has_stripe : Division → ℕ → Bool
has_stripe d k = nat_lt k (length d)

-- how many stripes a record has room for
abbrev pub most_stripes : ℕ
most_stripes = 64

-- the ends rise from a row to a height: each is past the one before it, the first past the row, and the last is the
-- height; where there is none, the row itself is
unfoldable pub rises_to : ℕ → ℕ → Division → Bool
rises_to height row [] = row == height
rises_to height row (end ∷ d) = nat_lt row end && rises_to height end d

-- What is refused of a division: 13 where stripes are more than 64, or their ends do not rise from row 0 to the
-- picture's height; else 0. So a picture without rows has no stripe, and every other has one at least.
unfoldable pub stripes_fault : Settings → Division → ℕ
stripes_fault s d = cond (nat_lt most_stripes (length d) || not (rises_to s.height 0 d)) 13 0

-- ---- stripes of one height

-- The ends of stripes of h rows in a picture of so many: h, 2h and so on, and for the last, which may have fewer rows,
-- the picture's height. Stripes of no rows are one that ends where it begins, which is refused.
unfoldable pub equal_ends : ℕ → ℕ → Division
equal_ends h height = cond (h == 0) (0 ∷ []) (map (λ k. min (suc k * h) height) (up_from 0 ((height + (h - 1)) / h)))

-- ---- stripes as they are handed over

-- The division that is handed over: the end rows, as many as are counted. Those behind them are not read. A count above
-- 64 asks for one more than there are, which is then 0; that is refused, whatever the others are.
unfoldable pub division_of : Stripes → Division
division_of stripes = take stripes.stripe_count (stripes.end_rows ++ 0 ∷ [])

-- a division as it is kept, with 0 in the end rows that it does not use
unfoldable pub stripes_with : Division → Stripes
stripes_with d = record { stripe_count = length d; end_rows = d ++ replicate (most_stripes - length d) 0 }

-- ---- the record

-- the record of a division of which no stripe has had a stroke
abbrev pub new_record : Division → JobRecord
new_record d = record { stripes = stripes_with d; counters = replicate most_stripes 0 }

-- the record of zeros, which a refused Open gives
abbrev pub no_record : JobRecord
no_record = new_record []

-- the counter of stripe k
abbrev pub counter_of : JobRecord → ℕ → ℕ
counter_of job k = slice_index job.counters k

-- the record with another counter of stripe k
unfoldable pub with_counter : JobRecord → ℕ → ℕ → JobRecord
with_counter job k c = record { stripes = job.stripes; counters = slice_set job.counters k c }

-- 14: of counters from stripe k on, one is over `total`, the number T of the caption's strokes, or is not 0 past the
-- last stripe
unfoldable pub counters_unsound : Division → ℕ → ℕ → List ℕ → Bool
counters_unsound d total k [] = false
counters_unsound d total k (c ∷ cs) = nat_lt (cond (has_stripe d k) total 0) c || counters_unsound d total (suc k) cs
