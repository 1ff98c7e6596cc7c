-- `glyph_rows` meets its contract: the rows are cut out of the table.
use Rattle.std.proofs.Common.{◌+◌, ◌*◌, ℕ, List, get_or, get_or-drop, get_or-take, ◌∙◌, ap, arith, lt-ltb}
use Rattle.font.proofs.ArrayFill.{tabulated}
use Rattle.font.proofs.glyph_rows.Goals as goal

pub returns : goal.returns
returns c =
    let table = c.args.table.now in
    let at = c.drawn_code-code.result * 16 in
    let cut = c.copy_from_slice.ensures in
    rw (← c.drawn_code-code.ensures, lt-ltb _ _ c.if-code-ge256.false)
    (tabulated (λ r. get_or table (at + r) 0) 16 _ cut.len
    (λ k h. ap (λ (l : List ℕ). get_or l k 0) cut.after ∙ get_or-take _ _ k 0 (omega arith) ∙ get_or-drop at table k 0))
