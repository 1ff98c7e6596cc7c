use Rattle.wrap.proofs.Answers.{wrap_packs}
use Rattle.captions.proofs.captions_wrap.Goals as goal

pub packed-requires : goal.packed-requires
packed-requires c = (wrap_packs _ _ _ c.wrap.ensures).near
