use Rattle.std.proofs.lemmas.Result.{err_from_is_err_and}
use Rattle.compositor.proofs.AcceptedCalls.{cue_fits, cue_extra}
use Rattle.job.proofs.CallWork.{not_worked, worked_on}
use Rattle.job.proofs.work_on.Goals as goal

pub returns-in_err-laid : goal.returns-in_err-laid
returns-in_err-laid c =
    let p = err_from_is_err_and c.from_residual.result c.from_residual.ensures.1 in
    let r = c.in_err-laid.ensures {u = tt} in
    rw (p.1, p.2) (not_worked _ _ _ _ _ _ _ _ r.0 r.1)

pub work_laid-requires : goal.work_laid-requires
work_laid-requires c =
    let r = c.in_ok-laid.ensures {u = tt} in
    record {
      fits = rw r.settings (cue_fits _ _ _ _ _ r.means);
      stripes = rw r.settings (cue_extra _ _ _ _ _ r.means);
      lined = r.lined;
      counts = rw r.settings r.counts;
      few = r.few;
    }

pub returns : goal.returns
returns c =
    let r = c.in_ok-laid.ensures {u = tt} in
    worked_on _ _ _ _ _ _ _ _ r.means (rw r.settings at c.work_laid.ensures)
