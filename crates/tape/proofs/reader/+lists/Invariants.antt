use Rattle.std.proofs.Common.{◌+◌, ◌*◌, ◌-◌, length}
use Rattle.tape.specs.Reading.{Went, within}
use Rattle.tape.proofs.reader.+lists.Given as goal

-- the call stack follows the depth: a segment is read at the place of its list
abbrev pub decreases-read_list : goal.decreases-read_list
decreases-read_list l = 2 * (length l.tape.now - l.st.at) + 1

abbrev pub decreases-read_segment : goal.decreases-read_segment
decreases-read_segment l = 2 * (length l.tape.now - l.st.at)

abbrev pub invariant-read_list-loop-s : goal.invariant-read_list-loop-s
invariant-read_list-loop-s l =
    Went l.tape l.initial.ws l.ws l.fn.inside.depth (within l.fn.inside.style l.fn.inside.naming) (within l.fn.inside.style l.fn.inside.naming) l.initial.s l.s

abbrev pub decreases-read_list-loop-s : goal.decreases-read_list-loop-s
decreases-read_list-loop-s l = length l.tape - l.s.at
