use Rattle.wrap.proofs.HardBreaks.{add_or_break_chunks, add_or_break_adds}
use Rattle.wrap.proofs.fill.add_or_break.Goals as goal

pub returns-then-limit-token : goal.returns-then-limit-token
returns-then-limit-token c = add_or_break_chunks _ _ c.if-limit-token.true c.hard_break.ensures

pub returns : goal.returns
returns c = add_or_break_adds _ _ c.if-limit-token.false c.add.ensures
