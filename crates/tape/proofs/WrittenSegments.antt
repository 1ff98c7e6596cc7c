-- The tape that segments write means the runs that walking them gives.
use mathlib.Core.Path.{◌≡◌, ◌∙◌, refl, sym, ap, ap₂, subst}
use mathlib.Core.Bool.{Bool, true, false, not, ◌&&◌, ◌||◌, and-false}
use mathlib.Core.List.{List, [], ◌∷◌, ◌++◌, append_assoc, append-nil}
use Prim.Native.Nat.{ℕ, suc, ◌+◌, ◌/◌, ◌%◌, ◌≤◌, ◌<◌}
use native.Mathlib.Nat.{add-zero, add_assoc}
use native.Mathlib.Omega.{arith}
use borrow.Author.Tests.{le-ltb, ne_eqb}
use lib.Dec.{ltb, eqb, lit<}
use lib.ListN.{length, length-append}
use lib.Seq.{drop_at}
use Rattle.tape.specs.declared.Style.{Style}
use Rattle.tape.specs.Outcome.{accepted, on_accepted}
use Rattle.tape.specs.Style.{Opener, bold_list, italic_list, color_list, plain_list, inside}
use Rattle.tape.specs.Command.{deepest, most_letters, operand_width, code_point, is_letter, is_opener, is_scalar, added, Command, ends, shows, opens, names, time_mark, command_of}
use Rattle.tape.specs.Runs.{Run, run, merge, letters_of}
use Rattle.tape.specs.Tape.{Frame, frame, says, next, after, read, tape_runs, tape_letters, most_bytes, least_room, read_call}
use Rattle.tape.specs.Segments.{Segment, Segments, line_break, group, none, ◌then◌, walk, walk_list, letter_bytes, letters_bytes, name_bytes, opener_bytes, written, written_list, letter_count, letter_count_list, nesting, nesting_list, are_scalars, is_writable, writable, writable_list, Within}
use Rattle.tape.proofs.MergeAlike.{Alike, alike_merge, alike_append, alike_trans, alike_refl, spelled, alike_spelled, alike_named}
use Rattle.tape.proofs.Commands.{letter_command, letter_flat, letter_adds}
use Rattle.tape.proofs.Faults.{Clean, no_fault}
use Rattle.std.proofs.lemmas.Bool.{and_parts}
use Rattle.tape.proofs.MeaningSteps.{after_none, after_after, read_command}

-- From frame f and after n letters, these bytes go to frame g and m letters, and add runs that merge like rs.
pub record Means (f g : Frame) (n m : ℕ) (rs : List Run) (bytes : List ℕ) : Type 0 where
  pub runs : List Run
  pub alike : Alike runs rs
  pub goes : (place : ℕ) (rest : List ℕ) → (p : ℕ) × (read 0 f place n (bytes ++ rest) ≡ after runs (read 0 g p m rest))

means_then : {f g h : Frame} {n m k : ℕ} {rs qs : List Run} {xs ys : List ℕ} → Means f g n m rs xs → Means g h m k qs ys
    → Means f h n k (rs ++ qs) (xs ++ ys)
means_then {f} {g} {h} {n} {m} {k} {xs = xs} {ys = ys} a b =
    record {
      runs = a.runs ++ b.runs;
      alike = alike_append a.alike b.alike;
      goes = λ place rest.
          let x = a.goes place (ys ++ rest) in
          let y = b.goes x.0 rest in (
            y.0,
            ap (read 0 f place n) (append_assoc xs ys rest)
                ∙ x.1
                ∙ ap (after a.runs) y.1
                ∙ after_after a.runs b.runs (read 0 h y.0 k rest),
          );
    }

-- ---- commands

two : is_letter 2 ≡ true
unfolding is_letter
two = refl

three : is_letter 3 ≡ true
unfolding is_letter
three = refl

four : is_letter 4 ≡ true
unfolding is_letter
four = refl

written_1 : (v : ℕ) (rest : List ℕ) → code_point 2 (v ∷ rest) ≡ v
unfolding code_point
written_1 v rest = omega arith

written_2 : (v : ℕ) (rest : List ℕ) → code_point 3 (v / 256 ∷ v % 256 ∷ rest) ≡ v
unfolding code_point
written_2 v rest = omega arith

written_3 : (v : ℕ) (rest : List ℕ) → code_point 4 (v / 65536 ∷ v / 256 % 256 ∷ v % 256 ∷ rest) ≡ v
unfolding code_point
written_3 v rest = omega arith

-- one command without a fault
module _ (s : Style) (around : List Style) (naming : Bool) (n : ℕ) where
  means_command : (c : ℕ) (operands : List ℕ) (cm : Command) (m : ℕ) → c < 12
      → (naming && not (eqb c 0 || is_letter c)) ≡ false
      → (is_opener c && eqb (length around) deepest) ≡ false
      → (eqb c 0 && (not naming && eqb (length around) 0)) ≡ false
      → length operands ≡ operand_width c
      → ((rest : List ℕ) → (is_letter c && not (is_scalar (code_point c (operands ++ rest)))) ≡ false)
      → ((rest : List ℕ) → command_of c (operands ++ rest) ≡ cm)
      → n + added naming c ≡ m
      → m ≤ most_letters
      → Means (frame s around naming) (next cm s around naming) n m (says cm s naming) (c ∷ operands)
  means_command c operands cm m known fits shallow nested e scalar is k few =
      record {
        runs = says cm s naming;
        alike = alike_refl (says cm s naming);
        goes = λ place rest.
            let l = length-append operands rest in
            let ok : Clean naming (length around) n c (operands ++ rest) =
            record { known = known; plain = fits; shallow = shallow; whole = omega arith; scalar = scalar rest; few = omega arith; nested = nested } in (
              place + 1 + operand_width c,
              read_command s around naming place n c (operands ++ rest) cm (no_fault _ _ _ _ _ ok) (is rest)
                  ∙ ap₂ (λ (j : ℕ) (l : List ℕ). after (says cm s naming) (read 0 (next cm s around naming) (place + 1 + operand_width c) j l)) k (drop_at operands rest (operand_width c) e),
            );
      }

  means_letter : (v : ℕ) → is_scalar v ≡ true → n + 1 ≤ most_letters
      → Means (frame s around naming) (frame s around naming) n (n + 1) (run s (v ∷ []) ∷ []) (letter_bytes v)
  unfolding letter_bytes
  means_letter v h k = short (ltb v 0x100) refl
    where
      -- the command c spells v
      as_command : (c : ℕ) (operands : List ℕ) → c < 12 → is_letter c ≡ true → eqb c 0 ≡ false → length operands ≡ operand_width c
          → ((rest : List ℕ) → code_point c (operands ++ rest) ≡ v)
          → Means (frame s around naming) (frame s around naming) n (n + 1) (run s (v ∷ []) ∷ []) (c ∷ operands)
      as_command c operands known l z e is =
          means_command c operands (shows (v ∷ [])) (n + 1) known (rw (z, l, and-false naming)) (rw (letter_flat c l)) (rw z) e
          (λ rest. rw (l, is rest, h))
          (λ rest. letter_command c (operands ++ rest) l ∙ ap (λ (x : ℕ). shows (x ∷ [])) (is rest))
          (ap (λ (x : ℕ). n + x) (letter_adds c naming l))
          k

      long : ltb v 0x100 ≡ false → (t : Bool) → ltb v 0x10000 ≡ t
          → Means (frame s around naming) (frame s around naming) n (n + 1) (run s (v ∷ []) ∷ []) (letter_bytes v)
      long a true e = rw (a, e) (as_command 3 (v / 256 ∷ v % 256 ∷ []) (lit< tt) three refl refl (λ rest. written_2 v rest))
      long a false e = rw (a, e) (as_command 4 (v / 65536 ∷ v / 256 % 256 ∷ v % 256 ∷ []) (lit< tt) four refl refl (λ rest. written_3 v rest))

      short : (t : Bool) → ltb v 0x100 ≡ t
          → Means (frame s around naming) (frame s around naming) n (n + 1) (run s (v ∷ []) ∷ []) (letter_bytes v)
      short true e = rw e (as_command 2 (v ∷ []) (lit< tt) two refl refl (λ rest. written_1 v rest))
      short false e = long e (ltb v 0x10000) refl

-- texts and time marks
module _ (s : Style) (around : List Style) (n : ℕ) where
  means_empty : n ≤ most_letters → Means (frame s around false) (frame s around false) n n (run s [] ∷ []) (0x01 ∷ [])
  unfolding is_letter is_opener added command_of
  means_empty h = means_command s around false n 1 [] (shows []) n (lit< tt) refl refl refl refl (λ rest. refl) (λ rest. refl) (add-zero n) h

  means_break : n + 1 ≤ most_letters → Means (frame s around false) (frame s around false) n (n + 1) (run s (0x0a ∷ []) ∷ []) (0x05 ∷ [])
  unfolding is_letter is_opener added command_of
  means_break h = means_command s around false n 5 [] (shows (0x0a ∷ [])) (n + 1) (lit< tt) refl refl refl refl (λ rest. refl) (λ rest. refl) refl h

  means_timestamp : n ≤ most_letters → Means (frame s around false) (frame s around false) n n [] (0x0b ∷ [])
  unfolding is_letter is_opener added command_of
  means_timestamp h = means_command s around false n 11 [] time_mark n (lit< tt) refl refl refl refl (λ rest. refl) (λ rest. refl) (add-zero n) h

  -- lists
  means_opener : (o : Opener) → n ≤ most_letters → length around < deepest
      → Means (frame s around false) (frame (inside o s) (s ∷ around) false) n n [] (opener_bytes o)
  unfolding is_letter is_opener added command_of
  means_opener o h d =
      let shallow : eqb (length around) deepest ≡ false = ne_eqb (length around) deepest (λ e. omega arith) in
      go o shallow
    where
      go : (o : Opener) → eqb (length around) deepest ≡ false
          → Means (frame s around false) (frame (inside o s) (s ∷ around) false) n n [] (opener_bytes o)
      go bold_list e = means_command s around false n 6 [] (opens bold_list) n (lit< tt) refl e refl refl (λ rest. refl) (λ rest. refl) (add-zero n) h
      go italic_list e = means_command s around false n 7 [] (opens italic_list) n (lit< tt) refl e refl refl (λ rest. refl) (λ rest. refl) (add-zero n) h
      go (color_list r g b) e = means_command s around false n 8 (r ∷ g ∷ b ∷ []) (opens (color_list r g b)) n (lit< tt) refl e refl refl (λ rest. refl) (λ rest. refl) (add-zero n) h
      go plain_list e = means_command s around false n 10 [] (opens plain_list) n (lit< tt) refl e refl refl (λ rest. refl) (λ rest. refl) (add-zero n) h

  means_end : (t : Style) → n ≤ most_letters → Means (frame t (s ∷ around) false) (frame s around false) n n [] (0x00 ∷ [])
  unfolding is_letter is_opener added command_of
  means_end t h = means_command t (s ∷ around) false n 0 [] ends n (lit< tt) refl refl (ne_eqb (suc (length around)) 0 (λ e. omega arith)) refl (λ rest. refl) (λ rest. refl) (add-zero n) h

  means_voice : n ≤ most_letters → length around < deepest → Means (frame s around false) (frame s around true) n n [] (0x09 ∷ [])
  unfolding is_letter is_opener added command_of
  means_voice h d = means_command s around false n 9 [] names n (lit< tt) refl (ne_eqb (length around) deepest (λ e. omega arith)) refl refl (λ rest. refl) (λ rest. refl) (add-zero n) h

  means_colon : n + 2 ≤ most_letters
      → Means (frame s around true) (frame s (s ∷ around) false) n (n + 2) (run s (0x3a ∷ 0x20 ∷ []) ∷ []) (0x00 ∷ [])
  unfolding is_letter is_opener added command_of
  means_colon h = means_command s around true n 0 [] ends (n + 2) (lit< tt) refl refl refl refl (λ rest. refl) (λ rest. refl) refl h

-- ---- segments

means_letters : (s : Style) (around : List Style) (naming : Bool) (n : ℕ) (vs : List ℕ) → are_scalars vs ≡ true → n + length vs ≤ most_letters
    → Means (frame s around naming) (frame s around naming) n (n + length vs) (spelled s vs) (letters_bytes vs)
means_letters s around naming n [] h k = rw add-zero (record { runs = []; alike = alike_refl []; goes = λ place rest. (place, sym (after_none _)) })
means_letters s around naming n (v ∷ vs) h k =
    let p = and_parts (is_scalar v) (are_scalars vs) h in
    let e : n + 1 + length vs ≡ n + suc (length vs) = omega arith in
    rw (← e) (means_then (means_letter s around naming n v p.0 (omega arith)) (means_letters s around naming (n + 1) vs p.1 (omega arith)))

-- the same with other runs that merge so
like : {f g : Frame} {n m : ℕ} {rs qs : List Run} {bytes : List ℕ} → Alike rs qs → Means f g n m rs bytes → Means f g n m qs bytes
like h k = record { runs = k.runs; alike = alike_trans k.alike h; goes = k.goes }

-- a list up to its 00
means_list : (t s : Style) (around : List Style) {n m : ℕ} {rs : List Run} {bytes : List ℕ} → m ≤ most_letters
    → Means (frame t (s ∷ around) false) (frame t (s ∷ around) false) n m rs bytes
    → Means (frame t (s ∷ around) false) (frame s around false) n m rs (bytes ++ (0x00 ∷ []))
means_list t s around {n} {m} {rs} {bytes} h k =
    subst (λ (qs : List Run). Means (frame t (s ∷ around) false) (frame s around false) n m qs (bytes ++ (0x00 ∷ []))) (append-nil rs)
    (means_then k (means_end s around m t h))

-- a name up to its 00
means_name : (s : Style) (around : List Style) (n : ℕ) (name : List ℕ) → are_scalars name ≡ true → n + length name + 2 ≤ most_letters
    → Means (frame s around true) (frame s (s ∷ around) false) n (n + length name + 2) (run s (name ++ (0x3a ∷ 0x20 ∷ [])) ∷ []) (name_bytes name)
means_name s around n name h k =
    like (alike_named s name (0x3a ∷ 0x20 ∷ []))
    (means_then (means_letters s around true n name h (omega arith)) (means_colon s around (n + length name) k))

mutual
  means_segment : (g : Segment) (s : Style) (around : List Style) (n : ℕ) → length around + nesting g ≤ deepest → n + letter_count g ≤ most_letters
      → writable g ≡ true
      → Means (frame s around false) (frame s around false) n (n + letter_count g) (walk g s) (written g)
  means_segment (Segment.text []) s around n d k h = rw add-zero (means_empty s around n (omega arith))
  means_segment (Segment.text (v ∷ vs)) s around n d k h = like (alike_spelled s v vs) (means_letters s around false n (v ∷ vs) h k)
  means_segment line_break s around n d k h = means_break s around n k
  means_segment Segment.timestamp s around n d k h = rw add-zero (means_timestamp s around n (omega arith))
  means_segment (group o gs) s around n d k h =
      let p = and_parts (is_writable o) (writable_list gs) h in
      means_then (means_opener s around n o (omega arith) (omega arith))
      (means_list (inside o s) s around k (means_segments gs (inside o s) (s ∷ around) n (omega arith) k p.1))
  means_segment (Segment.voice name gs) s around n d k h =
      let p = and_parts (are_scalars name) (writable_list gs) h in
      let m : ℕ = n + length name + 2 in
      let e : m + letter_count_list gs ≡ n + (length name + (2 + letter_count_list gs)) = omega arith in
      rw (← e)
      (means_then (means_voice s around n (omega arith) (omega arith))
      (means_then (means_name s around n name p.0 (omega arith))
      (means_list s s around (omega arith) (means_segments gs s (s ∷ around) m (omega arith) (omega arith) p.1))))

  means_segments : (gs : Segments) (s : Style) (around : List Style) (n : ℕ) → length around + nesting_list gs ≤ deepest
      → n + letter_count_list gs ≤ most_letters → writable_list gs ≡ true
      → Means (frame s around false) (frame s around false) n (n + letter_count_list gs) (walk_list gs s) (written_list gs)
  means_segments none s around n d k h = means_letters s around false n [] refl k
  means_segments (g then gs) s around n d k h =
      let p = and_parts (writable g) (writable_list gs) h in
      rw (← add_assoc n (letter_count g) (letter_count_list gs))
      (means_then (means_segment g s around n (omega arith) (omega arith) p.0) (means_segments gs s around (n + letter_count g) (omega arith) (omega arith) p.1))

-- ---- the law

-- the tape of segments within the limits is admitted, and means the runs that walking them gives, merged
pub written_means : (gs : Segments) (s : Style) → Within gs → tape_runs s (written_list gs) ≡ accepted (merge (walk_list gs s))
unfolding tape_runs read
written_means gs s h =
    let few = h.few in
    let deep = h.deep in
    let m = means_segments gs s [] 0 (omega arith) (omega arith) h.can in
    let g = m.goes 0 [] in
    let e : read 0 (frame s [] false) 0 0 (written_list gs) ≡ accepted m.runs =
    ap (read 0 (frame s [] false) 0 0) (sym (append-nil (written_list gs))) ∙ g.1 ∙ ap accepted (append-nil m.runs) in
    ap (on_accepted merge) e ∙ ap accepted (alike_merge m.runs (walk_list gs s) m.alike)

-- so is what a call of the reader comes to, where the tape is not too long
pub written_read : (gs : Segments) (s : Style) (room : ℕ) → Within gs → length (written_list gs) ≤ most_bytes → least_room ≤ room
    → read_call s room (written_list gs) ≡ accepted (letters_of (merge (walk_list gs s)))
unfolding read_call tape_letters
written_read gs s room h k l =
    rw (le-ltb most_bytes (length (written_list gs)) k, le-ltb room least_room l, written_means gs s h)
