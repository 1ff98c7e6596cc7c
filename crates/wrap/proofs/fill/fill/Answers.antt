use mathlib.Core.Path.{◌≡◌, ◌∙◌, refl, sym}
use native.Mathlib.Omega.{arith}
use Rattle.tape.specs.Stored.{code_at}
use Rattle.wrap.specs.declared.line.Cursor.{Cursor}
use Rattle.wrap.proofs.CursorBounds.{sane_break}
use Rattle.wrap.proofs.LettersPassed.{start, start_sane, pass_none, pass_break, pass_token, pass_end}
use Rattle.wrap.proofs.fill.fill.Goals as goal

-- all zeros are where filling starts
zeros : (c : Cursor) → (c.lines ≡ 0) × ((c.start ≡ 0) × ((c.end ≡ 0) × ((c.kept ≡ 0) × ((c.columns ≡ 0) × ((c.kept_columns ≡ 0) × (c.inked ≡ 0)))))) → c ≡ start
zeros c (lines, (start, (end, (kept, (columns, (kept_columns, inked)))))) = λ i.
    record {
      lines = lines i;
      start = start i;
      end = end i;
      kept = kept i;
      columns = columns i;
      kept_columns = kept_columns i;
      inked = inked i;
    }

pub loop-i-init : goal.loop-i-init
loop-i-init c =
    let a = c.args in
    let is : c.default-line.result ≡ start = zeros _ c.default-line.ensures in
    (omega arith, rw is start_sane, refl, rw is (pass_none a.count a.limit.columns a.ws.now))

pub loop-i-preserved-then-code-eq10 : goal.loop-i-preserved-then-code-eq10
loop-i-preserved-then-code-eq10 c =
    let l = c.loop-i in
    let more = c.loop-i-test.true in
    let k = c.code in (
      omega arith,
      rw c.close-line.ensures.cursor (sane_break l.line l.i l.invariant.1),
      c.close-line.auto.ws ∙ l.invariant.2,
      pass_break _ _ _ l.i l.invariant.3 more (sym k.ensures ∙ c.if-code-eq10.true) c.close-line.ensures,
    )

pub loop-i-preserved : goal.loop-i-preserved
loop-i-preserved c =
    let l = c.loop-i in
    let t = c.tokenise-token in
    let other : code_at l.ws l.i ≡ 0x0a → ⊥ = λ z. c.if-code-eq10.false (c.code.ensures ∙ z) in (
      t.ensures.to,
      c.put_token-line.ensures.sane,
      c.put_token-line.auto.ws ∙ l.invariant.2,
      pass_token _ _ _ l.i l.invariant.3 other t.result t.ensures c.put_token-line.ensures,
    )

pub returns : goal.returns
returns c =
    let l = c.loop-i in
    pass_end _ _ _ l.i l.invariant.3 (omega arith) l.invariant.1 c.close_if.ensures
