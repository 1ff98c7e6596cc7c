-- What a tape comes to is bounded: at most 4,096 letters, or a refusal with a number from 1 to 7 and a place on the
-- tape or at its end.
use mathlib.Core.Path.{◌≡◌, ◌∙◌, refl, ap}
use Rattle.std.specs.Prelude.{Option, None}
use mathlib.Core.Bool.{Bool, true, false}
use mathlib.Core.List.{List, [], ◌∷◌}
use Prim.Native.Nat.{ℕ, zero, suc, ◌+◌, ◌≤◌}
use native.Mathlib.Omega.{arith}
use lib.Dec.{lit≤}
use lib.ListN.{length, length-append}
use Rattle.tape.specs.declared.Style.{Style}
use Rattle.tape.specs.Outcome.{Outcome, accepted, refused, on_accepted, unless}
use Rattle.tape.specs.Command.{most_letters, operand_width, added, fault_of, command_of}
use Rattle.tape.specs.Runs.{Run, merge, Letter, letters_of}
use Rattle.tape.specs.Tape.{Frame, frame, says, next, at_end, after, read, tape_runs, tape_letters}
use Rattle.tape.specs.Marks.{last_after, marked}
use Rattle.tape.proofs.Commands.{says_added}
use Rattle.tape.proofs.Faults.{clean, fault_most}
use Rattle.tape.proofs.MarkedRuns.{marked_merged}
use Rattle.tape.proofs.StoredRuns.{marked_append}

pub record Own (number place end : ℕ) : Type 0 where
  pub least : 1 ≤ number
  pub most : number ≤ 7
  pub on : place ≤ end

abbrev pub Bounded : ℕ → Outcome (List Letter) → Type 0
Bounded end (accepted ls) = length ls ≤ most_letters
Bounded end (refused number place) = Own number place end

-- the same of runs, behind n letters
abbrev Sane : Option Style → ℕ → ℕ → Outcome (List Run) → Type 0
Sane l n end (accepted rs) = n + length (marked l rs) ≤ most_letters
Sane l n end (refused number place) = Own number place end

end_sane : (l : Option Style) (n : ℕ) (around : List Style) (naming : Bool) (place : ℕ) → n ≤ most_letters → Sane l n place (at_end around naming place)
end_sane l n [] true place h = record { least = lit≤ tt; most = lit≤ tt; on = omega arith }
end_sane l n [] false place h = omega arith
end_sane l n (s ∷ around) naming place h = record { least = lit≤ tt; most = lit≤ tt; on = omega arith }

after_sane : (l : Option Style) (n m end : ℕ) (rs : List Run) (o : Outcome (List Run)) → length (marked l rs) ≡ m
    → Sane (last_after l rs) (n + m) end o
    → Sane l n end (after rs o)
after_sane l n m end rs (accepted qs) e h =
    let a = ap length (marked_append l rs qs) ∙ length-append (marked l rs) (marked (last_after l rs) qs) in
    omega arith
after_sane l n m end rs (refused number place) e h = h

-- one command, before what follows it
command_sane : (c : ℕ) (rest : List ℕ) (f : Frame) (place n : ℕ) (l : Option Style) (o : Outcome (List Run)) →
    let rs = says (command_of c rest) f.style f.naming in
    (n + added f.naming c ≤ most_letters → Sane (last_after l rs) (n + added f.naming c) (place + 1 + length rest) o)
    → Sane l n (place + suc (length rest)) (unless (fault_of f.naming (length f.around) n c rest) place (after rs o))
command_sane c rest f place n l o ih = go (fault_of f.naming (length f.around) n c rest) refl
  where
    go : (k : ℕ) → fault_of f.naming (length f.around) n c rest ≡ k
        → Sane l n (place + suc (length rest)) (unless k place (after (says (command_of c rest) f.style f.naming) o))
    go zero e =
        let end : place + 1 + length rest ≡ place + suc (length rest) = omega arith in
        let few = (clean f.naming (length f.around) n c rest e).few in
        rw (← end) (after_sane l n _ _ (says (command_of c rest) f.style f.naming) o (says_added c rest f.naming l f.style) (ih few))
    go (suc k) e =
        let most = fault_most f.naming (length f.around) n c rest in
        record { least = omega arith; most = omega arith; on = omega arith }

read_sane : (l : List ℕ) (skip : ℕ) (f : Frame) (place n : ℕ) (la : Option Style) → n ≤ most_letters
    → Sane la n (place + length l) (read skip f place n l)
unfolding read
read_sane [] skip f place n la h =
    let e : place + 0 ≡ place = omega arith in
    rw e (end_sane la n f.around f.naming place h)
read_sane (b ∷ rest) (suc skip) f place n la h =
    let e : place + suc (length rest) ≡ place + 1 + length rest = omega arith in
    rw e (read_sane rest skip f (place + 1) n la h)
read_sane (c ∷ rest) zero f place n la h =
    let command = command_of c rest in
    let g : Frame = next command f.style f.around f.naming in
    let m : ℕ = n + added f.naming c in
    command_sane c rest f place n la (read (operand_width c) g (place + 1) m rest)
    (λ few. read_sane rest (operand_width c) g (place + 1) m (last_after la (says command f.style f.naming)) few)

pub letters_bounded : (s : Style) (tape : List ℕ) → Bounded (length tape) (tape_letters s tape)
unfolding tape_letters tape_runs
letters_bounded s tape = to (read 0 (frame s [] false) 0 0 tape) (read_sane tape 0 (frame s [] false) 0 0 None (omega arith))
  where
    to : (o : Outcome (List Run)) → Sane None 0 (0 + length tape) o
        → Bounded (length tape) (on_accepted letters_of (on_accepted merge o))
    to (accepted rs) h = let e = ap length (marked_merged rs) in omega arith
    to (refused number place) h = let on = h.on in record { least = h.least; most = h.most; on = omega arith }
