use Rattle.captions.proofs.Packing.{work_packs}
use Rattle.captions.proofs.captions_work.Goals as goal

pub packed-requires : goal.packed-requires
packed-requires c = (work_packs _ _ _ _ _ _ _ c.work-worked.ensures).near
