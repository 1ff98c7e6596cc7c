-- The letters that the reader makes, one run after the other, are those of the merged runs.
use mathlib.Core.Path.{◌≡◌, refl, sym, ap}
use Rattle.std.specs.Prelude.{cond, None, Some}
use mathlib.Core.Bool.{Bool, true, false, not, ◌&&◌, ◌||◌, and-true, or-true, or-false}
use mathlib.Core.List.{List, [], ◌∷◌, ◌++◌, append_assoc}
use Prim.Native.Nat.{ℕ}
use Rattle.tape.specs.declared.Style.{Style}
use Rattle.tape.specs.Style.{same_style}
use Rattle.tape.specs.Runs.{Run, run, merge_into, merge, Letter, letters_in, letters_of}
use Rattle.tape.specs.Marks.{starts, empty, marked}
use Rattle.tape.proofs.EqualStyles.{same_eq}

empty_append : (us vs : List ℕ) → empty (us ++ vs) ≡ (empty vs && empty us)
empty_append [] vs = sym (and-true (empty vs))
empty_append (u ∷ us) [] = refl
empty_append (u ∷ us) (v ∷ vs) = refl

letters_append : (s : Style) (b : Bool) (us vs : List ℕ) → letters_in s b (us ++ vs) ≡ letters_in s b us ++ letters_in s (empty us && b) vs
letters_append s b [] vs = refl
letters_append s b (u ∷ us) vs = ap (λ (ls : List Letter). record { code = u; style = s; start = b } ∷ ls) (later s us vs)
  where
    later : (s : Style) (us vs : List ℕ) → letters_in s false (us ++ vs) ≡ letters_in s false us ++ letters_in s false vs
    later s [] vs = refl
    later s (u ∷ us) vs = ap (λ (ls : List Letter). record { code = u; style = s; start = false } ∷ ls) (later s us vs)

-- behind a run with or without letters
starts_behind : (b : Bool) (s t : Style) → starts (cond b None (Some s)) t ≡ (b || not (same_style s t))
starts_behind true s t = refl
starts_behind false s t = refl

-- the letters of a run, and of the runs after it
letters_after : (q : Run) (rs : List Run)
    → letters_of (merge_into q rs) ≡ letters_in q.style true q.codes ++ marked (cond (empty q.codes) None (Some q.style)) rs
unfolding merge_into letters_of
letters_after q [] = refl
letters_after q (r ∷ rs) = go (letters_after (run q.style (q.codes ++ r.codes)) rs) (letters_after r rs) (same_style q.style r.style) refl
  where
    go : letters_of (merge_into (run q.style (q.codes ++ r.codes)) rs) ≡ letters_in q.style true (q.codes ++ r.codes) ++ marked (cond (empty (q.codes ++ r.codes)) None (Some q.style)) rs
        → letters_of (merge_into r rs) ≡ letters_in r.style true r.codes ++ marked (cond (empty r.codes) None (Some r.style)) rs
        → (t : Bool) → same_style q.style r.style ≡ t
        → letters_of (merge_into q (r ∷ rs)) ≡ letters_in q.style true q.codes ++ marked (cond (empty q.codes) None (Some q.style)) (r ∷ rs)
    go joined apart true e =
        let p : r.style ≡ q.style = sym (same_eq q.style r.style e) in
        rw (starts_behind, e, p, or-false, joined, letters_append q.style true q.codes r.codes, and-true, append_assoc, empty_append) refl
    go joined apart false e = rw (starts_behind, e, or-true, and-true, apart)

pub marked_merged : (rs : List Run) → marked None rs ≡ letters_of (merge rs)
unfolding letters_of
marked_merged [] = refl
marked_merged (r ∷ rs) = rw and-true (sym (letters_after r rs))
