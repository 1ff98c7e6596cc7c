use mathlib.Core.Path.{◌≡◌}
use mathlib.Core.List.{List}
use Prim.Native.Nat.{ℕ, ◌+◌, ◌*◌}
use lib.ListN.{length, take}
use lib.Seq.{slice}
use Rattle.tape.specs.Runs.{Letter}
use Rattle.wrap.specs.Lines.{Line, without_last, is_empty_line}
use Rattle.wrap.specs.Wrap.{line_table}
use Rattle.wrap.specs.Laid.{table_from}
use Rattle.wrap.proofs.drop_empty_lines.Given as goal

-- so many lines are left to look at
abbrev pub Left : List ℕ → ℕ → ℕ → Type 0
Left ws lines left =
    (ls : List Letter) (ds : List Line) → lines ≡ length ds → slice table_from (table_from + 4 * lines) ws ≡ line_table ls ds
    → without_last is_empty_line ds ≡ without_last is_empty_line (take left ds)

abbrev pub invariant-loop-line : goal.invariant-loop-line
invariant-loop-line l = Left l.ws l.lines l.line
