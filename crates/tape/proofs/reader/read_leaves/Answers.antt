use Rattle.std.proofs.Common.{◌∙◌, sym, arith}
use Rattle.tape.specs.Reading.{Sound}
use Rattle.tape.proofs.ShortLetters.{LeafAt, leaf_at_lem}
use Rattle.tape.proofs.LeafCommands.{leaf, went_leaf}
use Rattle.tape.proofs.TapeParts.{wrote_length, went_then}
use Rattle.tape.proofs.reader.read_leaves.Goals as goal
use Rattle.tape.proofs.reader.read_leaves.Goals.{Then-is_leaf}

is : (c : Then-is_leaf) → LeafAt c.args.tape.now c.args.inside.naming c.args.inside.depth c.loop-after.after.at c.loop-after.after.count
is c = leaf_at_lem _ _ _ _ _ _ (sym c.is_leaf.ensures ∙ c.if-is_leaf.true)

sound : (c : Then-is_leaf) → Sound c.args.tape.now c.loop-after.ws c.loop-after.after c.args.inside.naming c.args.inside.depth
sound c =
    let same = wrote_length c.loop-after.invariant.stored in
    let space = c.requires.space in
    let h = c.loop-after-test.true in
    record { inside = h; clear = (is c).clear; space = omega arith }

pub read_leaf-after-requires : goal.read_leaf-after-requires
read_leaf-after-requires c =
    let e = (goal.at.read_leaf-after-requires c).Then-is_leaf in
    leaf _ _ c.args.inside.naming _ _ (sound e) (is e).some (is e).flat

pub loop-after-preserved : goal.loop-after-preserved
loop-after-preserved c =
    let a = c.args in
    let e = (goal.at.loop-after-preserved c).Then-is_leaf in
    went_then _ _ c.loop-after.invariant
    (went_leaf a.tape.now a.inside.depth a.inside.naming _ _ (sound e) (is e).some (is e).flat a.inside.style _ _ c.read_leaf-after.ensures)
