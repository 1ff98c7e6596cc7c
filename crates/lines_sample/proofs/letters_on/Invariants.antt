-- No line has more letters than two bytes can say.
use Rattle.std.proofs.Common.{◌*◌, ◌≤◌}
use Rattle.lines_sample.proofs.letters_on.Given as goal

abbrev pub invariant-loop-line : goal.invariant-loop-line
invariant-loop-line l = l.letters ≤ 65536 * l.line-index
