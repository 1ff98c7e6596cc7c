use mathlib.Core.Path.{◌≡◌, ◌∙◌, refl}
use mathlib.Core.List.{List}
use Prim.Native.Nat.{ℕ}
use native.Mathlib.Omega.{arith}
use borrow.Author.Rules.{rules}
use lib.ListN.{length, take, drop, get_or, length-drop}
use lib.Seq.{take_all}
use Rattle.std.proofs.lemmas.List.{take-take, drop-take, get_or-take}
use Rattle.job.specs.Stripes.{most_stripes}
use Rattle.captions.specs.Interface.{stripes_of}
use Rattle.captions.proofs.record_of.Goals as goal

-- stripes are made of the first 65 numbers
stripes_first : (words : List ℕ) → stripes_of (take 65 words) ≡ stripes_of words
stripes_first words =
    rw (get_or-take 65 words 0 0 (omega arith), drop-take 1 most_stripes words, take-take most_stripes most_stripes (drop 1 words) (omega arith)) refl

pub returns : goal.returns
returns c =
    let words = c.args.words in
    let long : length words ≡ 129 = search rules in
    let first : c.unwrap.result.now ≡ take 65 words = search rules in
    let rest = take_all most_stripes (drop 65 words) (rw length-drop (omega arith)) in
    rw (c.stripes_of.ensures, first, stripes_first words, c.taken.ensures, rest) refl
