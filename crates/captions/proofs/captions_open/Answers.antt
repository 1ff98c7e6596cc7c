use Rattle.captions.proofs.Packing.{open_packs}
use Rattle.captions.proofs.captions_open.Goals as goal

pub packed-requires : goal.packed-requires
packed-requires c = (open_packs _ _ _ _ _ c.open-opened.ensures).near
