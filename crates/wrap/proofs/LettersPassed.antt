-- The code passes all letters, a break or a token after the other.
use mathlib.Core.Path.{◌≡◌, ◌∙◌, refl, sym, ap}
use mathlib.Core.Bool.{Bool, true, false}
use mathlib.Core.List.{List, [], ◌∷◌, flatten, map-append}
use Prim.Native.Nat.{ℕ, ◌+◌, ◌-◌, ◌<◌}
use native.Mathlib.Omega.{arith}
use lib.Dec.{ltb}
use lib.ListN.{length}
use lib.Seq.{slice_empty}
use borrow.Author.Tests.{eq-eqb, ne_eqb, ltb-true, ltb-false}
use Rattle.tape.specs.Runs.{Letter}
use Rattle.tape.specs.Stored.{code_at}
use Rattle.wrap.specs.declared.line.Cursor.{Cursor}
use Rattle.wrap.specs.declared.token.Token.{Token}
use Rattle.wrap.specs.Lines.{Line, Filling, code_of, visible_cols, no_lines, close, close_if, put_token, filled, trim_trailing_space, is_empty_line, without_last, wrap_runs}
use Rattle.wrap.specs.Wrap.{twos, line_table}
use Rattle.wrap.specs.Shown.{inked_letters}
use Rattle.wrap.specs.Laid.{numbers_from, table_from, inked_from, inked_totals, Holds}
use Rattle.wrap.specs.Filled.{between, end_of, numbers_of, Found, Whole, done, Held, Sane, Closed, Turns, Ended, Finished}
use Rattle.wrap.proofs.Lists.{last_drop}
use Rattle.wrap.proofs.CursorBounds.{sane_last}
use Rattle.wrap.proofs.LoopTurns.{code_there}
use Rattle.wrap.proofs.NextToken.{onward, go_end, go_break, go_kind, go_token}

abbrev pub start : Cursor
start = record { lines = 0; start = 0; end = 0; kept = 0; columns = 0; kept_columns = 0; inked = 0 }

pub start_sane : Sane start 0
start_sane =
    record {
      start = omega arith;
      kept = omega arith;
      end = omega arith;
      within = omega arith;
      columns = omega arith;
      inked = omega arith;
      lines = omega arith;
      busy = λ z. absurd (omega arith);
      some = λ z. absurd (omega arith);
    }

-- i letters have been passed, and what is left comes to the same as all from the start
abbrev pub Sofar : ℕ → ℕ → List ℕ → ℕ → Cursor → List ℕ → Type 0
Sofar count limit ws i c ws' =
    (ls : List Letter) → count ≡ length ls → Holds ls ws
    → (g : Filling) × Held ls g c ws' × (filled ls limit ≡ onward ls limit g (between i (length ls)))

-- the last line is closed where anything is left of it without its trailing spaces
last_line : (ls : List Letter) (limit : ℕ) (g : Filling) {c c' : Cursor} {ws ws' : List ℕ} → Held ls g c ws → filled ls limit ≡ close g
    → (b : Bool) → ltb c.start c.kept ≡ b → Held ls (close_if b g) c' ws' → Ended ls limit c' ws'
unfolding wrap_runs without_last
last_line ls limit g held all true e next =
    record { filling = close g; held = next; spaces = refl; lines = ap (λ (f : Filling). without_last is_empty_line (done ls f)) (sym all) }
last_line ls limit g {c} held all false e next =
    let h = ltb-false c.start c.kept e in
    let start = ap (λ (x : Cursor). x.start) held.cursor in
    let kept = ap (λ (x : Cursor). x.kept) held.cursor in
    let none : trim_trailing_space ls g.line ≡ [] = no_letters _ (omega arith) in
    record {
      filling = g;
      held = next;
      spaces = none;
      lines =
          sym
          (ap (λ (f : Filling). without_last is_empty_line (done ls f)) all
          ∙ ap (without_last is_empty_line) (map-append (trim_trailing_space ls) g.closed (g.line ∷ []))
          ∙ last_drop is_empty_line (done ls g) (trim_trailing_space ls g.line) (ap is_empty_line none));
    }
  where
    no_letters : (l : Line) → length l ≡ 0 → l ≡ []
    no_letters [] e = refl
    no_letters (k ∷ l) e = absurd (omega arith)

module _ (count limit : ℕ) (ws : List ℕ) where
  pub pass_none : Sofar count limit ws 0 start ws
  unfolding onward visible_cols inked_letters inked_totals without_last flatten twos line_table
  pass_none ls n h =
      let e : length ls - 0 ≡ length ls = omega arith in (
        no_lines,
        record { letters = h; cursor = refl; numbers = slice_empty numbers_from ws; table = slice_empty table_from ws; inked = slice_empty inked_from ws },
        rw e,
      )

  module _ (i : ℕ) {c c' : Cursor} {ws1 ws2 : List ℕ} (sofar : Sofar count limit ws i c ws1) where
    pub pass_break : i < count → code_at ws1 i ≡ 0x0a → Closed true c ws1 c' ws2 → Sofar count limit ws (i + 1) c' ws2
    pass_break h e next ls n held =
        let u = sofar ls n held in (
          close u.0,
          next.held ls u.0 u.1,
          u.2 ∙ go_break ls limit u.0 i (omega arith) (eq-eqb _ _ (code_there u.1.letters i (omega arith) ∙ e)),
        )

    pub pass_token : (code_at ws1 i ≡ 0x0a → ⊥) → (t : Token) → Found ws1 i count t
        → Turns t Whole (λ (ls : List Letter). put_token ls limit) c ws1 c' ws2 → Sofar count limit ws t.to c' ws2
    pass_token e t found turns ls n held =
        let u = sofar ls n held in
        let from = found.from in
        let to = found.to in
        let some = t.some in
        let is : t.to ≡ end_of ls t.from = rw from (found.end ls n u.1.letters) in (
          put_token ls limit u.0 (numbers_of t),
          turns.held ls u.0 (omega arith)
              (record { tallied = found.tallied ls n u.1.letters; kind = go_kind ls limit t.from t.to t.some (omega arith) is })
              u.1,
          u.2
              ∙ ap (λ (x : ℕ). onward ls limit u.0 (between x (length ls))) (sym from)
              ∙ go_token ls limit t.from t.to t.some (omega arith) is u.0
              (ne_eqb _ _ (λ z. e (sym (code_there u.1.letters i (omega arith)) ∙ ap (code_of ls) (sym from) ∙ z))),
        )

    pub pass_end : i ≡ count → Sane c i → Closed (ltb c.start c.kept) c ws1 c' ws2 → Finished count limit ws c' ws2
    pass_end e sane next =
        record {
          sane = rw (next.cursor, ← e) (sane_last c i sane (ltb c.start c.kept) (λ q. ltb-true c.start c.kept q));
          ended = λ ls n held.
              let u = sofar ls n held in
              let q : i ≡ length ls = omega arith in
              let ends : onward ls limit u.0 (between i (length ls)) ≡ close u.0 = rw q (go_end ls limit u.0) in
              last_line ls limit u.0 u.1 (u.2 ∙ ends) (ltb c.start c.kept) refl (next.held ls u.0 u.1);
        }
