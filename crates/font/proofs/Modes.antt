-- THE LAWS of glyph modes (document 02, S-3).
use Rattle.std.proofs.Common.{◌≡◌, ℕ, Bool, true, false, cond, eqb, List, [], ◌∷◌, sym, refl, ap, ◌∙◌, ne_eqb, eqb-true}
use Rattle.font.specs.Modes.{replacements, paired_with, replaced}
use Rattle.font.specs.Font.{glyph_rows}
use Rattle.font.proofs.EveryEntry.{All}

-- a code point is none of those that mode 1 replaces
abbrev pub Unreplaced : ℕ → Type 0
Unreplaced code = All {A = ℕ × ℕ} (λ p. code ≡ p.0 → ⊥) replacements

-- what is not replaced stays
pub kept : (code : ℕ) → Unreplaced code → replaced code ≡ code
unfolding replaced
kept code = from replacements
  where
    from : (ps : List (ℕ × ℕ)) → All {A = ℕ × ℕ} (λ p. code ≡ p.0 → ⊥) ps → paired_with ps code ≡ code
    from [] e = refl
    from (p ∷ ps) e = rw (ne_eqb code p.0 e.0) (from ps e.1)

-- what does not tell the two code points of any pair apart does not tell a code point from what replaces it
pub not_told_apart : {A : Type 0} (f : ℕ → A) → All {A = ℕ × ℕ} (λ p. f p.1 ≡ f p.0) replacements → (code : ℕ) → f (replaced code) ≡ f code
unfolding replaced
not_told_apart {A} f each code = from replacements each
  where
    by : (p : ℕ × ℕ) (rest : ℕ) → f p.1 ≡ f p.0 → f rest ≡ f code → (b : Bool) → eqb code p.0 ≡ b → f (cond b p.1 rest) ≡ f code
    by p rest e later true q = e ∙ ap f (sym (eqb-true code p.0 q))
    by p rest e later false q = later

    from : (ps : List (ℕ × ℕ)) → All {A = ℕ × ℕ} (λ p. f p.1 ≡ f p.0) ps → f (paired_with ps code) ≡ f code
    from [] e = refl
    from (p ∷ ps) e = by p (paired_with ps code) e.0 (from ps e.1) (eqb code p.0) refl

-- a glyph in mode 1 is mode 0's glyph of the code point that replaces the letter's
pub mode_1 : (table : List ℕ) (code : ℕ) → glyph_rows table 1 code ≡ glyph_rows table 0 (replaced code)
mode_1 table code = refl

-- every other code point has the same glyph in both modes
pub mode_kept : (table : List ℕ) (code : ℕ) → Unreplaced code → glyph_rows table 1 code ≡ glyph_rows table 0 code
mode_kept table code e = ap (glyph_rows table 0) (kept code e)
