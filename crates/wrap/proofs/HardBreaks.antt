-- What the calls for one chunk come to, and for all chunks of a token.
use mathlib.Core.Path.{◌≡◌, ◌∙◌, ap}
use mathlib.Core.List.{List}
use Prim.Native.Nat.{ℕ, ◌+◌, ◌-◌, ◌≤◌, ◌<◌}
use native.Mathlib.Omega.{arith}
use lib.Dec.{leb, ltb}
use lib.ListN.{length}
use borrow.Author.Tests.{leb-true, lt-ltb, le-ltb}
use Rattle.tape.specs.Runs.{Letter}
use Rattle.wrap.specs.declared.line.Cursor.{Cursor}
use Rattle.wrap.specs.declared.token.Token.{Token}
use Rattle.wrap.specs.Lines.{Line, Filling, visible_cols, hard_break, close_if, add, has_columns, put_chunk, put_chunks, add_or_break}
use Rattle.wrap.specs.Filled.{between, numbers_of, Held, Made, Closed, Turns, Any, Tallied}
use Rattle.wrap.proofs.Chunks.{break_last, break_more}
use Rattle.wrap.proofs.CursorBounds.{sane_if}

-- the cursor's columns are the line's
pub line_columns : {ls : List Letter} {f : Filling} {c : Cursor} {ws : List ℕ} → Held ls f c ws → c.columns ≡ visible_cols ls f.line
line_columns held = ap (λ (x : Cursor). x.columns) held.cursor

abbrev Added : Token → Cursor → List ℕ → Cursor → List ℕ → Type 0
Added t = Turns t Tallied (λ (ls : List Letter). add)

module _ (limit : ℕ) where
  abbrev Chunk : Token → Cursor → List ℕ → Cursor → List ℕ → Type 0
  Chunk t = Turns t Tallied (λ (ls : List Letter). put_chunk ls limit)

  abbrev Chunks : Token → Cursor → List ℕ → Cursor → List ℕ → Type 0
  Chunks t = Turns t Any (λ (ls : List Letter) (f : Filling) (l : Line). put_chunks ls limit f (hard_break limit l))

  abbrev pub Placed : Token → Cursor → List ℕ → Cursor → List ℕ → Type 0
  Placed t = Turns t Tallied (λ (ls : List Letter). add_or_break ls limit)

-- ---- one chunk: c has the line before it, c1 the one that it goes on

module _ (t : Token) {c c1 : Cursor} {ws ws1 : List ℕ} (first : Closed (ltb 0 c.columns) c ws c1 ws1) where
  pub chunk_turns : (limit : ℕ) → 1 ≤ limit → {c2 c3 : Cursor} {ws2 ws3 : List ℕ}
      → Added t c1 ws1 c2 ws2 → Closed (leb limit c2.columns) c2 ws2 c3 ws3 → Chunk limit t c ws c3 ws3
  chunk_turns limit one {c2} {c3} {ws2} {ws3} added last =
      record {
        sane =
            rw last.cursor
            (sane_if c2 t.to added.sane (leb limit c2.columns) (λ e. let h = leb-true limit c2.columns e in omega arith));
        held = λ ls f n tallied h.
            let chunk : Line = numbers_of t in
            let g : Filling = close_if (has_columns ls limit f) f in
            let on : Held ls g c1 ws1 = rw (line_columns h) at (first.held ls f h) in
            let filled : Held ls (add g chunk) c2 ws2 = added.held ls g n tallied on in
            rw (line_columns filled) at (last.held ls (add g chunk) filled);
      }

-- ---- all chunks: the letters of t before k have been put

module _ (limit : ℕ) (t : Token) where
  -- what is left to put comes to the same as all from the start
  abbrev pub Sofar : ℕ → Cursor → List ℕ → Cursor → List ℕ → Type 0
  Sofar k c ws c' ws' =
      (ls : List Letter) (f : Filling) → t.to ≤ length ls → Held ls f c ws
      → (g : Filling) × Held ls g c' ws' × (put_chunks ls limit f (hard_break limit (numbers_of t)) ≡ put_chunks ls limit g (hard_break limit (between k t.to)))

  module _ (one : 1 ≤ limit) (k : ℕ) {c c1 c2 : Cursor} {ws ws1 ws2 : List ℕ} (sofar : Sofar k c ws c1 ws1) (chunk : Token) where
    pub break_goes : limit < t.to - k → Made ws1 k (k + limit) chunk → Chunk limit chunk c1 ws1 c2 ws2 → Sofar chunk.to c ws c2 ws2
    unfolding put_chunks
    break_goes h made turns ls f n held =
        let u = sofar ls f n held in
        let g : Filling = u.0 in
        let to = made.to in (
          put_chunk ls limit g (numbers_of chunk),
          turns.held ls g (omega arith) (made.tallied ls (omega arith) u.1.letters) u.1,
          u.2
              ∙ ap (put_chunks ls limit g) (break_more limit k t.to one h)
              ∙ rw (made.from, made.to),
        )

    pub break_ends : t.to - k ≤ limit → Made ws1 k t.to chunk → Chunk limit chunk c1 ws1 c2 ws2 → Chunks limit t c ws c2 ws2
    unfolding put_chunks
    break_ends h made turns =
        let to = made.to in
        record {
          sane = rw to at turns.sane;
          held = λ ls f n any held.
              let u = sofar ls f n held in
              let g : Filling = u.0 in
              rw (u.2 ∙ ap (put_chunks ls limit g) (break_last limit k t.to one h), ← made.from, ← made.to)
              (turns.held ls g (omega arith) (made.tallied ls n u.1.letters) u.1);
        }

-- ---- rules 3 and 4

module _ (limit : ℕ) (t : Token) {c c' : Cursor} {ws ws' : List ℕ} where
  pub add_or_break_chunks : limit < t.columns → Chunks limit t c ws c' ws' → Placed limit t c ws c' ws'
  unfolding add_or_break
  add_or_break_chunks h chunks =
      record { sane = chunks.sane; held = λ ls f n tallied held. rw (← tallied.columns, lt-ltb limit t.columns h) (chunks.held ls f n tt held) }

  pub add_or_break_adds : t.columns ≤ limit → Added t c ws c' ws' → Placed limit t c ws c' ws'
  unfolding add_or_break
  add_or_break_adds h added =
      record { sane = added.sane; held = λ ls f n tallied held. rw (← tallied.columns, le-ltb limit t.columns h) (added.held ls f n tallied held) }
