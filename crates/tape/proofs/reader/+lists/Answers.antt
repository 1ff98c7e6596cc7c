-- `read_list` and `read_segment` meet their contracts.
use Rattle.std.proofs.Common.{◌≡◌, ℕ, ◌+◌, ◌<◌, false, [], length, refl, sym, ap, ◌∙◌, add-zero, arith, length-drop}
use Rattle.tape.specs.declared.State.{State}
use Rattle.tape.specs.Outcome.{refused}
use Rattle.tape.specs.Command.{deepest, is_letter, is_opener, added, Command, ends, opens, names, opener_of, command_of}
use Rattle.tape.specs.Tape.{says, next}
use Rattle.tape.specs.Reading.{byte_of, rest_of, command_at, within, past, Sound, Went}
use Rattle.tape.proofs.Commands.{open_command}
use Rattle.tape.proofs.Faults.{passed_check, failed_check, clean, not_outer, not_deepest, opens_in_list}
use Rattle.tape.proofs.LeafCommands.{leaf, went_leaf}
use Rattle.tape.proofs.MeaningSteps.{end_from, end_inside}
use Rattle.tape.proofs.TapeParts.{wrote_length, went_then, went_ready, went_stopped, stopped_fault, went_command, then_reads, inner_reads, onward}
use Rattle.std.proofs.lemmas.Result.{err_from_is_err_and}
use Rattle.tape.proofs.reader.+lists.Goals as goal
use Rattle.tape.proofs.reader.+lists.Goals.{read_list-In_ok-check, read_list-Else-is_opener, read_list-After-read_leaf-leaf, read_list-After-read_letters-letters, read_segment-Start, read_segment-After-onto-opened, read_segment-Else-c-eq9, read_segment-Then-c-eq9}

-- ---- a list

pub read_list-returns-in_err-check : goal.read_list-returns-in_err-check
read_list-returns-in_err-check t c =
    let a = c.args in
    let l = c.loop-s in
    let p = err_from_is_err_and c.from_residual.result c.from_residual.ensures.1 in
    let f = failed_check _ _ (c.in_err-check.ensures {u = tt}) in
    rw (p.1, p.2) (
      went_stopped a.tape.now a.inside.depth l.invariant
          (stopped_fault a.tape.now a.inside.depth a.inside.naming a.inside.style l.s _ _ c.loop-s-test.true f.is f.some f.there),
      tt,
    )

-- a command without a fault
sound : (t : ℕ) (c : read_list-In_ok-check t) → Sound c.args.tape.now c.loop-s.ws c.loop-s.s c.args.inside.naming c.args.inside.depth
sound t c =
    let p = c.requires in
    let same = wrote_length c.loop-s.invariant.stored in
    record { inside = c.loop-s-test.true; clear = passed_check _ _ (c.in_ok-check.ensures {u = tt}); space = omega arith }

pub read_list-finish-requires : goal.read_list-finish-requires
read_list-finish-requires t c =
    let ok = sound t (goal.at.read_list-finish-requires t c).In_ok-check in
    let few = (clean _ _ _ _ _ ok.clear).few in
    let none = ap (added c.args.inside.naming) c.if-tape-at-eq0.true in
    let space = ok.space in
    omega arith

pub read_list-returns-then-tape-at-eq0 : goal.read_list-returns-then-tape-at-eq0
unfolding command_of
read_list-returns-then-tape-at-eq0 t c =
    let l = c.loop-s in
    let a = c.args in
    let zero = c.if-tape-at-eq0.true in
    let ok = sound t (goal.at.read_list-returns-then-tape-at-eq0 t c).In_ok-check in (
      went_then a.tape.now a.inside.depth l.invariant
          (went_command a.tape.now a.inside.depth a.inside.naming a.inside.style ends ok (rw zero) (rw (zero, add-zero) c.finish.ensures)),
      λ list d. absurd (not_outer (clean _ _ _ _ _ ok.clear) zero list d),
    )

-- a segment with a list
pub read_list-loop-s-preserved-then-is_opener : goal.read_list-loop-s-preserved-then-is_opener
read_list-loop-s-preserved-then-is_opener t c = went_then _ _ c.loop-s.invariant (c.in_ok-s.ensures {u = tt}).0

-- a leaf: it neither opens nor ends anything
some : (t : ℕ) (c : read_list-Else-is_opener t) → 0 < byte_of c.args.tape.now c.loop-s.s
some t c = let h = c.if-tape-at-eq0.false in omega arith

flat : (t : ℕ) (c : read_list-Else-is_opener t) → is_opener (byte_of c.args.tape.now c.loop-s.s) ≡ false
flat t c = sym c.is_opener.ensures ∙ c.if-is_opener.false

pub read_list-read_leaf-leaf-requires : goal.read_list-read_leaf-leaf-requires
read_list-read_leaf-leaf-requires t c =
    let e = goal.at.read_list-read_leaf-leaf-requires t c in
    leaf _ _ c.args.inside.naming _ _ (sound t e.In_ok-check) (some t e.Else-is_opener) (flat t e.Else-is_opener)

went : (t : ℕ) (c : read_list-After-read_leaf-leaf t) → let i = c.args.inside in
    Went c.args.tape.now c.args.ws.now c.read_leaf-leaf.new.ws i.depth (within i.style i.naming) (within i.style i.naming) c.args.st c.read_leaf-leaf.result
went t c =
    let e = goal.at.read_list-After-read_leaf-leaf t c in
    let a = c.args in
    went_then _ _ c.loop-s.invariant
    (went_leaf a.tape.now a.inside.depth a.inside.naming _ _ (sound t e.In_ok-check) (some t e.Else-is_opener) (flat t e.Else-is_opener) a.inside.style _ _ c.read_leaf-leaf.ensures)

pub read_list-read_letters-letters-requires : goal.read_list-read_letters-letters-requires
read_list-read_letters-letters-requires t c =
    went_ready _ _ c.requires.space (went t (goal.at.read_list-read_letters-letters-requires t c).After-read_leaf-leaf)

-- and the letters behind it
lettered : (t : ℕ) (c : read_list-After-read_letters-letters t) → let i = c.args.inside in
    Went c.args.tape.now c.args.ws.now c.read_letters-letters.new.ws i.depth (within i.style i.naming) (within i.style i.naming) c.args.st c.read_letters-letters.result
lettered t c =
    went_then _ _ (went t (goal.at.read_list-After-read_letters-letters t c).After-read_leaf-leaf)
    (c.read_letters-letters.ensures.went c.args.inside.naming c.args.inside.depth)

pub read_list-read_leaves-silent-requires : goal.read_list-read_leaves-silent-requires
read_list-read_leaves-silent-requires t c =
    went_ready _ _ c.requires.space (lettered t (goal.at.read_list-read_leaves-silent-requires t c).After-read_letters-letters)

pub read_list-read_leaves-s-requires : goal.read_list-read_leaves-s-requires
read_list-read_leaves-s-requires t c =
    let w = lettered t (goal.at.read_list-read_leaves-s-requires t c).After-read_letters-letters in
    went_ready _ _ c.requires.space (went_then _ _ w c.read_leaves-silent.ensures.went)

pub read_list-loop-s-smaller : goal.read_list-loop-s-smaller
read_list-loop-s-smaller t c =
    let one = ap (λ (x : State). x.at) c.read_leaf-leaf.ensures.state in
    let some = (c.read_letters-letters.ensures.went c.args.inside.naming c.args.inside.depth).on in
    let more = c.read_leaves-silent.ensures.went.on in
    let most = c.read_leaves-s.ensures.went.on in
    let h = c.loop-s-test.true in
    omega arith

pub read_list-loop-s-preserved : goal.read_list-loop-s-preserved
read_list-loop-s-preserved t c =
    let w = lettered t (goal.at.read_list-loop-s-preserved t c).After-read_letters-letters in
    went_then _ _ (went_then _ _ w c.read_leaves-silent.ensures.went) c.read_leaves-s.ensures.went

pub read_list-returns : goal.read_list-returns
read_list-returns t c =
    let l = c.loop-s in
    let a = c.args in
    let to = l.invariant.to in
    let left = c.loop-s-test.false in
    let end : l.s.at ≡ length a.tape.now = omega arith in
    let inner = sym c.is_outer.ensures ∙ c.if-is_outer.false in (
      rw c.at.ensures (went_stopped a.tape.now a.inside.depth l.invariant λ around d.
          end_from a.tape.now (within a.inside.style a.inside.naming around) l.s.at l.s.count left
          ∙ end_inside around a.inside.naming l.s.at (rw d inner)
          ∙ ap (refused 3) end),
      tt,
    )

-- ---- a segment

-- it stands in a list
in_list : (t : ℕ) (c : read_segment-Start t) → c.args.inside.naming ≡ false
in_list t c = opens_in_list c.args.inside.naming (clean _ _ _ _ _ c.requires.0.clear) c.requires.1

pub read_segment-operand_width-requires : goal.read_segment-operand_width-requires
read_segment-operand_width-requires t c = (clean _ _ _ _ _ c.requires.0.clear).known

-- the opener is passed
passed : (t : ℕ) (c : read_segment-After-onto-opened t) (cm : Command) →
    let a = c.args in
    command_at a.tape.now a.st ≡ cm
    → says cm a.inside.style a.inside.naming ≡ []
    → Went a.tape.now a.ws.now a.ws.now a.inside.depth (within a.inside.style a.inside.naming) (λ around. next cm a.inside.style around a.inside.naming) a.st c.onto-opened.result
passed t c cm e q =
    let a = c.args in
    went_command a.tape.now a.inside.depth a.inside.naming a.inside.style cm c.requires.0 e
    (rw (q, ← c.operand_width.ensures.0) (record { state = c.onto-opened.ensures; bytes = refl }))

on : (t : ℕ) (c : read_segment-After-onto-opened t) → c.args.st.at < c.onto-opened.result.at
on t c = let at = ap (λ (x : State). x.at) c.onto-opened.ensures in omega arith

-- a voice's name
named : (t : ℕ) (c : read_segment-Then-c-eq9 t) → command_at c.args.tape.now c.args.st ≡ names
unfolding command_of is_letter
named t c = rw c.if-c-eq9.true

pub read_segment-returns-in_err-named : goal.read_segment-returns-in_err-named
read_segment-returns-in_err-named t c =
    let e = goal.at.read_segment-returns-in_err-named t c in
    let a = c.args in
    let p = err_from_is_err_and c.from_residual.result c.from_residual.ensures.1 in
    let name = c.name_in.ensures in
    let opened = passed t e.After-onto-opened names (named t e.Then-c-eq9) refl in
    rw (p.1, p.2) (went_stopped a.tape.now a.inside.depth opened (rw (name.0, name.1, name.2) at (c.in_err-named.ensures {u = tt})).0, tt)

-- the list that it opens is not too deep
shallow : (t : ℕ) (c : read_segment-Start t) → c.args.inside.depth < deepest
shallow t c =
    let deep = c.args.inside.shallow in
    omega (arith, not_deepest (clean _ _ _ _ _ c.requires.0.clear) c.requires.1)

pub read_segment-list_in-requires : goal.read_segment-list_in-requires
read_segment-list_in-requires t c = shallow t (goal.at.read_segment-list_in-requires t c).Start

pub read_segment-list_in-requires-2 : goal.read_segment-list_in-requires-2
read_segment-list_in-requires-2 t c = shallow t (goal.at.read_segment-list_in-requires-2 t c).Start

pub read_segment-read_list-requires : goal.read_segment-read_list-requires
read_segment-read_list-requires t c =
    let e = goal.at.read_segment-read_list-requires t c in
    let w = passed t e.After-onto-opened names (named t e.Then-c-eq9) refl in
    let far = on t e.After-onto-opened in
    let h = c.requires.0.inside in
    (omega (arith, c.decreases), went_ready _ _ c.requires.0.space w)

pub read_segment-read_list-requires-then-c-eq9 : goal.read_segment-read_list-requires-then-c-eq9
read_segment-read_list-requires-then-c-eq9 t c =
    let e = goal.at.read_segment-read_list-requires-then-c-eq9 t c in
    let n = (c.in_ok-named.ensures {u = tt}).0 in
    let far = on t e.After-onto-opened in
    let on = n.on in
    let h = c.requires.0.inside in
    (omega (arith, c.decreases), went_ready _ _ c.requires.0.space n)

pub read_segment-returns-then-c-eq9 : goal.read_segment-returns-then-c-eq9
read_segment-returns-then-c-eq9 t c =
    let e = goal.at.read_segment-returns-then-c-eq9 t c in
    let a = c.args in
    let name = c.name_in.ensures in
    let list = c.list_in.ensures in
    let opened = passed t e.After-onto-opened names (named t e.Then-c-eq9) refl in
    let read = (rw (name.0, name.1, name.2) at (c.in_ok-named.ensures {u = tt})).0 in
    let named = went_then a.tape.now a.inside.depth opened read in
    let far = on t e.After-onto-opened in
    let more = read.on in
    let r = c.read_list-then-c-eq9.result in
    let own = rw (list.0, list.1, list.2) at c.read_list-then-c-eq9.ensures.0 in
    let inner = inner_reads a.tape.now a.inside.depth (within a.inside.style false) (past a.inside.style false) _ _ _ a.inside.style r own in (
      then_reads a.tape.now a.inside.depth (within a.inside.style a.inside.naming) _ r named (rw (in_list t e.Start) inner),
      onward a.tape.now a.inside.depth _ _ _ _ a.st _ r (omega arith) inner,
    )

pub read_segment-style_inside-style-requires : goal.read_segment-style_inside-style-requires
read_segment-style_inside-style-requires t c =
    let a = c.args in
    let whole = (clean _ _ _ _ _ c.requires.0.clear).whole in
    let l = length-drop (a.st.at + 1) a.tape.now in
    let h = c.requires.0.inside in
    omega arith

-- a list opens
opened : (t : ℕ) (c : read_segment-Else-c-eq9 t) → let a = c.args in
    let o = opener_of (byte_of a.tape.now a.st) (rest_of a.tape.now a.st) in
    Went a.tape.now a.ws.now a.ws.now a.inside.depth (within a.inside.style a.inside.naming) (λ around. next (opens o) a.inside.style around a.inside.naming) a.st c.onto-opened.result
opened t c =
    let e = goal.at.read_segment-Else-c-eq9 t c in
    let o = opener_of (byte_of c.args.tape.now c.args.st) (rest_of c.args.tape.now c.args.st) in
    passed t e.After-onto-opened (opens o) (open_command _ _ c.requires.1 c.if-c-eq9.false) refl

pub read_segment-read_list-requires-2 : goal.read_segment-read_list-requires-2
read_segment-read_list-requires-2 t c =
    let e = goal.at.read_segment-read_list-requires-2 t c in
    let w = opened t e.Else-c-eq9 in
    let far = on t e.After-onto-opened in
    let h = c.requires.0.inside in (
      omega (arith, c.decreases),
      went_ready _ _ c.requires.0.space w,
    )

pub read_segment-returns : goal.read_segment-returns
read_segment-returns t c =
    let e = goal.at.read_segment-returns t c in
    let a = c.args in
    let list = c.list_in-2.ensures in
    let r = c.read_list-2.result in
    let style = c.style_inside-style.result in
    let own = rw (list.0, list.1, list.2) at c.read_list-2.ensures.0 in
    let inner = inner_reads a.tape.now a.inside.depth (within style false) (past style false) _ _ _ a.inside.style r own in (
      then_reads a.tape.now a.inside.depth (within a.inside.style a.inside.naming) _ r (opened t e.Else-c-eq9)
          (rw (in_list t e.Start, ← c.style_inside-style.ensures) inner),
      onward a.tape.now a.inside.depth _ _ _ _ a.st _ r (on t e.After-onto-opened) inner,
    )
