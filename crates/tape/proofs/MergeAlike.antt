-- Runs that merge alike: a text may be cut into texts of the same style.
use mathlib.Core.Path.{◌≡◌, ◌∙◌, refl, sym, ap, ap₂}
use mathlib.Core.Bool.{Bool, true, false, cond}
use mathlib.Core.List.{List, [], ◌∷◌, ◌++◌, append_assoc, append-nil}
use Prim.Native.Nat.{ℕ}
use Rattle.tape.specs.declared.Style.{Style}
use Rattle.tape.specs.Style.{same_style}
use Rattle.tape.specs.Runs.{Run, run, merge_into, merge}
use Rattle.tape.proofs.EqualStyles.{same_refl}

-- runs that merge to the same, behind every run and behind none
pub record Same (m m' : List Run) : Type 0 where
  pub behind : (q : Run) → merge_into q m ≡ merge_into q m'
  pub alone : merge m ≡ merge m'

-- so they do before any runs that do
pub record Alike (rs qs : List Run) : Type 0 where
  pub before : (m m' : List Run) → Same m m' → Same (rs ++ m) (qs ++ m')

same : (m : List Run) → Same m m
same m = record { behind = λ q. refl; alone = refl }

pub alike_merge : (rs qs : List Run) → Alike rs qs → merge rs ≡ merge qs
alike_merge rs qs h = ap merge (sym (append-nil rs)) ∙ (h.before [] [] (same [])).alone ∙ ap merge (append-nil qs)

alike_none : Alike [] []
alike_none = record { before = λ m m' h. h }

pub alike_append : {xs ys us vs : List Run} → Alike xs ys → Alike us vs → Alike (xs ++ us) (ys ++ vs)
alike_append {xs} {ys} {us} {vs} h k =
    record { before = λ m m' e. rw (append_assoc xs us m, append_assoc ys vs m') (h.before (us ++ m) (vs ++ m') (k.before m m' e)) }

pub alike_trans : {xs ys us : List Run} → Alike xs ys → Alike ys us → Alike xs us
alike_trans h k =
    record {
      before = λ m m' e.
          record {
            behind = λ q. (h.before m m' e).behind q ∙ (k.before m' m' (same m')).behind q;
            alone = (h.before m m' e).alone ∙ (k.before m' m' (same m')).alone;
          };
    }

alike_one : (r : Run) → Alike (r ∷ []) (r ∷ [])
unfolding merge_into
alike_one r =
    record {
      before = λ m m' e.
          record {
            behind = λ q.
                ap₂ (λ (x y : List Run). cond (same_style q.style r.style) x (q ∷ y))
                (e.behind (run q.style (q.codes ++ r.codes)))
                (e.behind r);
            alone = e.behind r;
          };
    }

pub alike_refl : (rs : List Run) → Alike rs rs
alike_refl [] = alike_none
alike_refl (r ∷ rs) = alike_append (alike_one r) (alike_refl rs)

-- a text in two
pub alike_split : (s : Style) (us vs : List ℕ) → Alike (run s us ∷ run s vs ∷ []) (run s (us ++ vs) ∷ [])
unfolding merge_into
alike_split s us vs =
    record {
      before = λ m m' e.
          let last = (alike_one (run s (us ++ vs))).before m m' e in
          record {
            behind = λ q. split m q (same_style q.style s) refl ∙ last.behind q;
            alone = rw (same_refl s) last.alone;
          };
    }
  where
    split : (m : List Run) (q : Run) (t : Bool) → same_style q.style s ≡ t
        → merge_into q (run s us ∷ run s vs ∷ m) ≡ merge_into q (run s (us ++ vs) ∷ m)
    split m q true h = rw (h, append_assoc)
    split m q false h = rw (h, same_refl s)

-- a text in its letters
abbrev pub spelled : Style → List ℕ → List Run
spelled s [] = []
spelled s (v ∷ vs) = run s (v ∷ []) ∷ spelled s vs

pub alike_spelled : (s : Style) (v : ℕ) (vs : List ℕ) → Alike (spelled s (v ∷ vs)) (run s (v ∷ vs) ∷ [])
alike_spelled s v [] = alike_one (run s (v ∷ []))
alike_spelled s v (w ∷ vs) =
    alike_trans {ys = run s (v ∷ []) ∷ run s (w ∷ vs) ∷ []}
    (alike_append (alike_one (run s (v ∷ []))) (alike_spelled s w vs))
    (alike_split s (v ∷ []) (w ∷ vs))

-- a name and the ": " behind it
pub alike_named : (s : Style) (vs us : List ℕ) → Alike (spelled s vs ++ (run s us ∷ [])) (run s (vs ++ us) ∷ [])
alike_named s [] us = alike_one (run s us)
alike_named s (v ∷ vs) us =
    alike_trans {ys = run s (v ∷ vs) ∷ run s us ∷ []}
    (alike_append {xs = spelled s (v ∷ vs)} {ys = run s (v ∷ vs) ∷ []} (alike_spelled s v vs) (alike_one (run s us)))
    (alike_split s (v ∷ vs) us)
