-- A token is put by the rules 1 to 4.
use mathlib.Core.Path.{◌≡◌, ◌∙◌, refl, sym, ap}
use mathlib.Core.Bool.{Bool, true, false, ◌&&◌, not, cond}
use mathlib.Core.List.{List}
use Prim.Native.Nat.{ℕ, ◌+◌, ◌≤◌}
use native.Mathlib.Omega.{arith}
use lib.Dec.{ltb}
use lib.ListN.{length}
use borrow.Author.Tests.{eq-eqb, ne_eqb, ltb-true}
use Rattle.tape.specs.Runs.{Letter}
use Rattle.tape.specs.Stored.{code_at}
use Rattle.std.proofs.lemmas.Bool.{and_parts}
use Rattle.wrap.specs.declared.line.Cursor.{Cursor}
use Rattle.wrap.specs.declared.token.Token.{Token}
use Rattle.wrap.specs.Columns.{is_blank}
use Rattle.wrap.specs.Lines.{Filling, visible_cols, is_space_token, close, close_if, add_or_break, put_token}
use Rattle.wrap.specs.Filled.{numbers_of, Held, Sane, Closed, Turns, Whole}
use Rattle.wrap.proofs.CursorBounds.{sane_on, sane_if}
use Rattle.wrap.proofs.LoopTurns.{code_there}
use Rattle.wrap.proofs.HardBreaks.{Placed, line_columns}

-- Where the token is dropped only after the line is closed for it, it comes to the same: s says that it is a space
-- token, h that the line has columns, q that both together would pass the limit.
choose : (s h q : Bool) (f : Filling) (put : Filling → Filling) →
    let next = close_if (h && q) f in
    cond (s && not h) f (cond (h && q) (cond s (close f) (put (close f))) (put f)) ≡ cond (s && not (not (h && q) && h)) next (put next)
choose true true true f put = refl
choose true true false f put = refl
choose true false q f put = refl
choose false true true f put = refl
choose false true false f put = refl
choose false false q f put = refl

closed_columns : (ls : List Letter) (p : Bool) (f : Filling) → ltb 0 (visible_cols ls (close_if p f).line) ≡ (not p && ltb 0 (visible_cols ls f.line))
unfolding visible_cols
closed_columns ls true f = refl
closed_columns ls false f = refl

module _ (c : Cursor) (ws : List ℕ) (t : Token) (limit : ℕ) where
  abbrev Put : Cursor → List ℕ → Type 0
  Put = Turns t Whole (λ (ls : List Letter). put_token ls limit) c ws

  -- rule 1
  pub token_none : Sane c t.from → t.columns ≡ 0 → Put c ws
  unfolding put_token
  token_none sane e =
      record {
        sane = let some = t.some in sane_on c t.from sane t.to (omega arith);
        held = λ ls f n whole held. rw (← whole.tallied.columns, eq-eqb t.columns 0 e) held;
      }

  abbrev pub passes : Bool
  passes = ltb 0 c.columns && ltb limit (c.columns + t.columns)

  -- a token with columns: c1 has the line that it is put on
  pub record Next (c1 : Cursor) (ws1 : List ℕ) (space : Bool) : Type 0 where
    pub sane : Sane c t.from
    pub some : t.columns ≡ 0 → ⊥
    pub next : Closed passes c ws c1 ws1
    pub kind : space ≡ is_blank (code_at ws1 t.from)

module _ {c c1 : Cursor} {ws ws1 : List ℕ} {t : Token} {limit : ℕ} {space : Bool} (n : Next c ws t limit c1 ws1 space) where
  pub token_sane : Sane c1 t.from
  token_sane =
      rw n.next.cursor
      (sane_if c t.from n.sane (passes c ws t limit) (λ p. ltb-true 0 c.columns (and_parts _ _ p).0))

  abbrev onto : Filling → Filling
  onto f = close_if (passes c ws t limit) f

  chosen : (ls : List Letter) (f : Filling) → t.to ≤ length ls → Whole t ls → Held ls f c ws
      → put_token ls limit f (numbers_of t) ≡ cond (space && not (ltb 0 c1.columns)) (onto f) (add_or_break ls limit (onto f) (numbers_of t))
  unfolding put_token
  chosen ls f m whole held =
      let from = t.some in
      let on : Held ls (onto f) c1 ws1 = n.next.held ls f held in
      let is : is_space_token ls (numbers_of t) ≡ space = whole.kind ∙ ap is_blank (code_there on.letters t.from (omega arith)) ∙ sym n.kind in
      let h : Bool = ltb 0 c.columns in
      let p : Bool = passes c ws t limit in
      let left : ltb 0 c1.columns ≡ (not p && h) =
      ap (ltb 0) (line_columns on) ∙ closed_columns ls p f ∙ ap (λ (x : ℕ). not p && ltb 0 x) (sym (line_columns held)) in
      rw (← whole.tallied.columns, ← line_columns held, is, ne_eqb t.columns 0 n.some, left)
      (choose space h (ltb limit (c.columns + t.columns)) f (λ g. add_or_break ls limit g (numbers_of t)))

  -- rules 1 and 2: a space token is dropped
  pub token_drops : (space && not (ltb 0 c1.columns)) ≡ true → Put c ws t limit c1 ws1
  token_drops d =
      record {
        sane = let from = t.some in sane_on c1 t.from token_sane t.to (omega arith);
        held = λ ls f m whole held. rw (chosen ls f m whole held, d) (n.next.held ls f held);
      }

  pub token_places : (space && not (ltb 0 c1.columns)) ≡ false → {c' : Cursor} {ws' : List ℕ}
      → Placed limit t c1 ws1 c' ws' → Put c ws t limit c' ws'
  token_places d placed =
      record {
        sane = placed.sane;
        held = λ ls f m whole held.
            rw (chosen ls f m whole held, d) (placed.held ls (onto f) m whole.tallied (n.next.held ls f held));
      }
