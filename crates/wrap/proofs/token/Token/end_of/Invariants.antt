use mathlib.Core.Path.{◌≡◌}
use mathlib.Core.List.{List}
use Prim.Native.Nat.{◌+◌}
use lib.ListN.{length}
use Rattle.tape.specs.Runs.{Letter}
use Rattle.wrap.specs.Lines as Lines
use Rattle.wrap.specs.Laid.{Holds}
use Rattle.wrap.specs.Filled.{between, more, end_of}
use Rattle.wrap.proofs.token.Token.end_of.Given as goal

abbrev pub invariant-loop-j : goal.invariant-loop-j
invariant-loop-j l =
    (ls : List Letter) → l.count ≡ length ls → Holds ls l.ws → l.j + more ls (Lines.is_blank_letter ls l.i) (between l.j (length ls)) ≡ end_of ls l.i
