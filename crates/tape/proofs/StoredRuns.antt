-- Runs stored one after the other are stored together.
use mathlib.Core.Path.{◌≡◌, ◌∙◌, refl, sym, ap, ap₂}
use mathlib.Core.List.{List, [], ◌∷◌, ◌++◌, append_assoc}
use Prim.Native.Nat.{ℕ, suc, ◌+◌, ◌*◌}
use native.Mathlib.Nat.{add-zero, add-suc, suc-add, add_assoc}
use native.Mathlib.Omega.{arith}
use lib.ListN.{length, set, length-append}
use lib.Seq.{sets}
use Rattle.std.specs.Prelude.{Option}
use Rattle.tape.specs.declared.Style.{Style}
use Rattle.tape.specs.declared.State.{State}
use Rattle.tape.specs.Runs.{Run, run, Letter, letters_in}
use Rattle.tape.specs.Marks.{starts, last_with, last_after, marked}
use Rattle.tape.specs.TapeRead.{stored_letter, stored_letters, stored}
use Rattle.tape.specs.Reading.{wrote, holding, Wrote}
use Rattle.tape.proofs.EqualStyles.{same_refl}

last_append : (l : Option Style) (rs qs : List Run) → last_after l (rs ++ qs) ≡ last_after (last_after l rs) qs
last_append l [] qs = refl
last_append l (r ∷ rs) qs = last_append (last_with l r) rs qs

pub marked_append : (l : Option Style) (rs qs : List Run) → marked l (rs ++ qs) ≡ marked l rs ++ marked (last_after l rs) qs
marked_append l [] qs = refl
marked_append l (r ∷ rs) qs =
    ap (λ (x : List Letter). letters_in r.style (starts l r.style) r.codes ++ x) (marked_append (last_with l r) rs qs)
    ∙ sym (append_assoc (letters_in r.style (starts l r.style) r.codes) (marked (last_with l r) rs) _)

pub length_stored : (ls : List Letter) → length (stored_letters ls) ≡ 8 * length ls
length_stored [] = refl
length_stored (l ∷ ls) =
    let ih = length_stored ls in
    omega arith

letters_stored : (ls ms : List Letter) → stored_letters (ls ++ ms) ≡ stored_letters ls ++ stored_letters ms
letters_stored [] ms = refl
letters_stored (l ∷ ls) ms = ap (λ (x : List ℕ). stored_letter l.code l.style l.start ++ x) (letters_stored ls ms)

pub sets_append : (ws : List ℕ) (i : ℕ) (xs ys : List ℕ) → sets (sets ws i xs) (i + length xs) ys ≡ sets ws i (xs ++ ys)
sets_append ws i [] ys = ap (λ (j : ℕ). sets ws j ys) (add-zero i)
sets_append ws i (x ∷ xs) ys =
    ap (λ (j : ℕ). sets (sets (set ws i x) (suc i) xs) j ys) (add-suc i (length xs) ∙ sym (suc-add i (length xs)))
    ∙ sets_append (set ws i x) (suc i) xs ys

stored_append : (ws : List ℕ) (n : ℕ) (ls ms : List Letter) → stored (stored ws n ls) (n + length ls) ms ≡ stored ws n (ls ++ ms)
stored_append ws n ls ms =
    let e : 8 * (n + length ls) ≡ 8 * n + length (stored_letters ls) = omega (arith, length_stored ls) in
    ap (λ (j : ℕ). sets (stored ws n ls) j (stored_letters ms)) e
    ∙ sets_append ws (8 * n) (stored_letters ls) (stored_letters ms)
    ∙ ap (sets ws (8 * n)) (sym (letters_stored ls ms))

wrote_append : (a : State) (rs qs : List Run) (m at : ℕ) → wrote (wrote a rs m) qs at ≡ wrote a (rs ++ qs) at
wrote_append a rs qs m at =
    rw (
      last_append a.last rs qs,
      marked_append a.last rs qs,
      length-append (marked a.last rs) (marked (last_after a.last rs) qs),
      add_assoc,
    )

pub wrote_then : {u v w : List ℕ} {a b c : State} {rs qs : List Run} {m at : ℕ} → Wrote u v a b rs m → Wrote v w b c qs at
    → Wrote u w a c (rs ++ qs) at
wrote_then {u} {v} {w} {a} {b} {c} {rs} {qs} {m} {at} h k =
    record {
      state = k.state ∙ ap (λ (x : State). wrote x qs at) h.state ∙ wrote_append a rs qs m at;
      bytes =
          k.bytes
          ∙ ap₂ (λ (x : List ℕ) (y : State). holding x y qs) h.bytes h.state
          ∙ stored_append u a.count (marked a.last rs) (marked (last_after a.last rs) qs)
          ∙ ap (stored u a.count) (sym (marked_append a.last rs qs));
    }

-- two letters in one style are one run
marked_pair : (l : Option Style) (s : Style) (x y : ℕ) → marked l (run s (x ∷ []) ∷ run s (y ∷ []) ∷ []) ≡ marked l (run s (x ∷ y ∷ []) ∷ [])
marked_pair l s x y = rw (same_refl s)

pub wrote_pair : {u v w : List ℕ} {a b c : State} (s : Style) (x y : ℕ) {m at : ℕ} → Wrote u v a b (run s (x ∷ []) ∷ []) m
    → Wrote v w b c (run s (y ∷ []) ∷ []) at
    → Wrote u w a c (run s (x ∷ y ∷ []) ∷ []) at
wrote_pair {u} {a = a} s x y h k =
    let both = wrote_then h k in
    record { state = both.state; bytes = both.bytes ∙ ap (stored u a.count) (marked_pair a.last s x y) }
