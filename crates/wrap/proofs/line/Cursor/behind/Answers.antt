use native.Mathlib.Omega.{arith}
use Rattle.wrap.proofs.CursorBehind.{sane_behind, behind_none, behind_some}
use Rattle.wrap.proofs.line.Cursor.behind.Goals as goal

pub returns-in-Some : goal.returns-in-Some
returns-in-Some c =
    let a = c.args in
    let sane = c.requires.0 in
    let kept = c.in-Some.kept in
    let narrow = kept.narrow in
    let some = a.token.some in
    let e = c.in-Some.ensures {u = tt} in
    let from = e.0.from in
    let to = e.0.to in (
      sane_behind a.self a.token sane _ _ (omega arith) (omega arith) (omega arith),
      λ ls n counted h. behind_some a.self a.token ls counted kept (e.0.tallied ls n h counted) (e.1 ls n h),
    )

pub returns-in-None : goal.returns-in-None
returns-in-None c =
    let a = c.args in
    let sane = c.requires.0 in
    let some = a.token.some in (
      sane_behind a.self a.token sane _ _ sane.start (omega arith) (omega arith),
      λ ls n counted h. behind_none a.self a.token ls counted (c.in-None.ensures {u = tt} ls n h),
    )
