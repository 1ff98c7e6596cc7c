use native.Mathlib.Omega.{arith}
use Rattle.wrap.proofs.CallWrap.{laid}
use Rattle.wrap.proofs.wrap_runs.Goals as goal

pub returns : goal.returns
returns c =
    let f = c.fill-end in
    let d = c.drop_empty_lines in
    let most = d.ensures.0 in
    let sane = f.ensures.sane in (
      omega arith,
      omega arith,
      sane.inked,
      λ ls n holds. laid ls _ d.result f.result f.new.ws (f.ensures.ended ls n holds) (d.ensures.1 ls),
    )
