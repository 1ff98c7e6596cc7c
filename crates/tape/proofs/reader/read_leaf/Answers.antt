use Rattle.std.proofs.Common.{◌≡◌, ◌∙◌, ℕ, ◌+◌, List, [], ◌∷◌, false, true, refl, sym, ap, arith}
use Rattle.tape.specs.declared.State.{State}
use Rattle.tape.specs.Command.{is_letter, added, Command, shows, time_mark, command_of}
use Rattle.tape.specs.Tape.{says}
use Rattle.tape.specs.Reading.{Wrote, LeafRead, byte_of, command_at}
use Rattle.tape.proofs.Commands.{else_letter, letter_command, letter_adds}
use Rattle.tape.proofs.reader.read_leaf.Goals as goal
use Rattle.tape.proofs.reader.read_leaf.Goals.{After-operand_width, In_default, Start}

abbrev command : Start → Command
command s = command_at s.args.tape.now s.args.st

-- what is stored for the command, where it is known
leaf : (c : After-operand_width) {ws' : List ℕ} {r : State} (cm : Command) → let a = c.args in
    command (goal.at.After-operand_width c).Start ≡ cm
    → Wrote a.ws.now ws' a.st r (says cm a.style false) (a.st.at + 1 + c.operand_width.result)
    → LeafRead a.tape.now a.ws.now ws' a.st a.style r
leaf c cm e h = rw (e, ← c.operand_width.ensures.0) h

pub put-requires : goal.put-requires
unfolding added
put-requires c = let one = ap (added false) c.in-5.is in omega arith

pub returns-in-1 : goal.returns-in-1
unfolding command_of
returns-in-1 c =
    leaf (goal.at.returns-in-1 c).After-operand_width (shows []) (rw c.in-1.is) (record { state = c.empty_text.ensures; bytes = refl })

pub returns-in-5 : goal.returns-in-5
unfolding command_of is_letter
returns-in-5 c = leaf (goal.at.returns-in-5 c).After-operand_width (shows (0x0a ∷ [])) (rw c.in-5.is) c.put.ensures

pub returns-in-11 : goal.returns-in-11
unfolding command_of is_letter
returns-in-11 c =
    leaf (goal.at.returns-in-11 c).After-operand_width time_mark (rw c.in-11.is) (record { state = c.onto.ensures; bytes = refl })

-- else it is a letter
letter : (c : In_default) → is_letter (byte_of c.args.tape.now c.args.st) ≡ true
letter c = let p = c.requires in else_letter _ p.known p.some p.flat (λ e. omega arith) (λ e. omega arith) (λ e. omega arith)

pub code_point-requires : goal.code_point-requires
code_point-requires c = let whole = c.requires.whole in (letter (goal.at.code_point-requires c).In_default, omega arith)

pub put-requires-in_default : goal.put-requires-in_default
put-requires-in_default c = let one = letter_adds _ false (letter (goal.at.put-requires-in_default c).In_default) in omega arith

pub returns-in_default : goal.returns-in_default
returns-in_default c =
    let is : command (goal.at.returns-in_default c).Start ≡ shows (c.code_point.result ∷ []) =
    letter_command _ _ (letter (goal.at.returns-in_default c).In_default) ∙ ap (λ (v : ℕ). shows (v ∷ [])) (sym c.code_point.ensures.0) in
    leaf (goal.at.returns-in_default c).After-operand_width (shows (c.code_point.result ∷ [])) is c.put-in_default.ensures
