use Rattle.wrap.proofs.HardBreaks.{chunk_turns}
use Rattle.wrap.proofs.fill.put_chunk.Goals as goal

pub returns : goal.returns
returns c = chunk_turns _ c.close_if-next.ensures _ c.args.limit.some c.add-filled.ensures c.close_if.ensures
