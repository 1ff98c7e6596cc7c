use Rattle.captions.proofs.Packing.{draw_packs}
use Rattle.captions.proofs.captions_draw.Goals as goal

pub packed-requires : goal.packed-requires
packed-requires c = (draw_packs _ _ _ _ c.render_into.ensures).near
