-- The cursor behind letters that were added.
use mathlib.Core.Path.{◌≡◌, refl, sym, ap}
use mathlib.Core.Bool.{false, cond}
use mathlib.Core.List.{List, []}
use Prim.Native.Nat.{ℕ, ◌+◌, ◌-◌, ◌≤◌}
use native.Mathlib.Omega.{arith}
use lib.ListN.{length}
use Rattle.tape.specs.Runs.{Letter}
use Rattle.wrap.specs.declared.line.Cursor.{Cursor}
use Rattle.wrap.specs.declared.token.Token.{Token}
use Rattle.wrap.specs.Lines.{Line, visible_cols, trim_trailing_space, is_empty_line}
use Rattle.wrap.specs.Filled.{numbers_of, added, Sane, Tallied}
use Rattle.wrap.proofs.Lists.{length_between, between_first}

-- with these letters and columns kept
abbrev pub behind : Cursor → Token → ℕ → ℕ → Cursor
behind c t kept kept-columns =
    record {
      lines = c.lines;
      start = c.start;
      end = c.end + (t.to - t.from);
      kept = kept;
      columns = c.columns + t.columns;
      kept_columns = kept-columns;
      inked = c.inked + t.inked;
    }

module _ (c : Cursor) (t : Token) where
  pub sane_behind : Sane c t.from → (kept kept-columns : ℕ) → c.start ≤ kept → kept ≤ c.end + (t.to - t.from) → kept-columns ≤ t.to
      → Sane (behind c t kept kept-columns) t.to
  sane_behind sane kept kept-columns s k w =
      let from = t.some in
      let narrow = t.narrow in
      let few = t.few_inked in
      record {
        start = s;
        kept = k;
        end = omega arith;
        within = w;
        columns = omega arith;
        inked = omega arith;
        lines = omega arith;
        busy = λ z. omega arith;
        some = λ z. omega arith;
      }

  module _ (ls : List Letter) (tallied : Tallied t ls) where
    alike : (kept : Line) → trim_trailing_space ls (numbers_of t) ≡ kept → (k w : ℕ)
        → k ≡ cond (is_empty_line kept) c.kept (c.end + length kept)
        → w ≡ cond (is_empty_line kept) c.kept_columns (c.columns + visible_cols ls kept)
        → behind c t k w ≡ added ls c (numbers_of t) (trim_trailing_space ls (numbers_of t))
    alike kept e k w ek ew =
        let n = ap (λ (x : ℕ). c.end + x) (sym (length_between t.from t.to)) in
        let cols = ap (λ (x : ℕ). c.columns + x) tallied.columns in
        let ink = ap (λ (x : ℕ). c.inked + x) tallied.inked in
        rw e
        (λ i.
        record {
          lines = c.lines;
          start = c.start;
          end = n i;
          kept = ek i;
          columns = cols i;
          kept_columns = ew i;
          inked = ink i;
        })

    -- all were spaces
    pub behind_none : trim_trailing_space ls (numbers_of t) ≡ []
        → behind c t c.kept c.kept_columns ≡ added ls c (numbers_of t) (trim_trailing_space ls (numbers_of t))
    behind_none e = alike [] e c.kept c.kept_columns refl refl

    -- some are kept
    pub behind_some : (kept : Token) → Tallied kept ls → trim_trailing_space ls (numbers_of t) ≡ numbers_of kept
        → behind c t (c.end + (kept.to - kept.from)) (c.columns + kept.columns) ≡ added ls c (numbers_of t) (trim_trailing_space ls (numbers_of t))
    behind_some kept counted e =
        let some : is_empty_line (numbers_of kept) ≡ false = ap is_empty_line (between_first kept.from kept.to kept.some) in
        alike (numbers_of kept) e _ _
        (rw some (ap (λ (x : ℕ). c.end + x) (sym (length_between kept.from kept.to))))
        (rw some (ap (λ (x : ℕ). c.columns + x) counted.columns))
