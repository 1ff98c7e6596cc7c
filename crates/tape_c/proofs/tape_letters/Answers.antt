use Rattle.tape.proofs.Answers.{read_packs}
use Rattle.tape_c.proofs.tape_letters.Goals as goal

pub packed-requires : goal.packed-requires
packed-requires c = (read_packs _ _ _ c.read_tape.ensures).near
