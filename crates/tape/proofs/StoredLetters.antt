-- For the layers above: how many letters there are, and how one is read back out of the workspace.
use mathlib.Core.Path.{◌≡◌, ◌∙◌, refl, ap}
use mathlib.Core.Bool.{Bool, true, false, cond}
use mathlib.Core.List.{List, [], ◌∷◌, ◌++◌}
use Prim.Native.Nat.{ℕ, zero, suc, ◌+◌, ◌*◌, ◌/◌, ◌≤◌, ◌<◌}
use native.Mathlib.Omega.{arith}
use lib.ListN.{length, drop, get_or, get_or-append}
use lib.Seq.{get_or-append-add, sets-eq}
use Rattle.tape.specs.Runs.{Letter}
use Rattle.tape.specs.TapeRead.{stored_letter, stored_letters, stored}
use Rattle.tape.specs.Stored.{letter_byte, code_at, odd, letter_at}
use Rattle.tape.proofs.StoredRuns.{length_stored}

abbrev bytes_of : Letter → List ℕ
bytes_of l = stored_letter l.code l.style l.start

in_stored : (ls : List Letter) (d : Letter) (i j : ℕ) → i < length ls → j < 8
    → get_or (stored_letters ls) (8 * i + j) 0 ≡ get_or (bytes_of (get_or ls i d)) j 0
in_stored [] d i j h k = absurd (omega arith)
in_stored (l ∷ ls) d zero j h k =
    let e : 8 * 0 + j ≡ j = omega arith in
    ap (λ (m : ℕ). get_or (bytes_of l ++ stored_letters ls) m 0) e ∙ get_or-append (bytes_of l) (stored_letters ls) 0 j k
in_stored (l ∷ ls) d (suc i) j h k =
    let e : 8 * suc i + j ≡ 8 + (8 * i + j) = omega arith in
    ap (λ (m : ℕ). get_or (bytes_of l ++ stored_letters ls) m 0) e
    ∙ get_or-append-add (bytes_of l) (stored_letters ls) (8 * i + j) 0
    ∙ in_stored ls d i j (omega arith) k

flag_bits : (b i t : Bool) → let f = cond b 1 0 + cond i 2 0 + cond t 4 0 in (odd f ≡ b) × (odd (f / 2) ≡ i) × (odd (f / 4) ≡ t)
flag_bits true true true = (refl, refl, refl)
flag_bits true true false = (refl, refl, refl)
flag_bits true false true = (refl, refl, refl)
flag_bits true false false = (refl, refl, refl)
flag_bits false true true = (refl, refl, refl)
flag_bits false true false = (refl, refl, refl)
flag_bits false false true = (refl, refl, refl)
flag_bits false false false = (refl, refl, refl)

module _ (ws : List ℕ) (ls : List Letter) (room : 8 * length ls ≤ length ws) (d : Letter) (i : ℕ) (h : i < length ls) where
  -- byte j of letter i
  pub byte_is : (j : ℕ) → j < 8 → letter_byte (stored ws 0 ls) i j ≡ get_or (bytes_of (get_or ls i d)) j 0
  byte_is j k =
      let n = length_stored ls in
      let rest : List ℕ = drop (0 + length (stored_letters ls)) ws in
      ap (λ (l : List ℕ). get_or l (8 * i + j) 0) (sets-eq (stored_letters ls) ws 0 (omega arith))
      ∙ get_or-append (stored_letters ls) rest 0 (8 * i + j) (omega arith)
      ∙ in_stored ls d i j h k

  pub code_is : code_at (stored ws 0 ls) i ≡ (get_or ls i d).code
  code_is =
      let a = byte_is 0 (omega arith) in
      let b = byte_is 1 (omega arith) in
      let c = byte_is 2 (omega arith) in
      rw (a, b, c) (omega arith)

  pub letter_is : letter_at (stored ws 0 ls) i ≡ get_or ls i d
  letter_is =
      let l : Letter = get_or ls i d in
      let f = flag_bits l.style.bold l.style.italic l.start in
      let flags = byte_is 7 (omega arith) in
      let code = code_is in
      let red = byte_is 3 (omega arith) in
      let green = byte_is 4 (omega arith) in
      let blue = byte_is 5 (omega arith) in
      let alpha = byte_is 6 (omega arith) in
      let bold = ap odd flags ∙ f.0 in
      let italic = ap (λ (x : ℕ). odd (x / 2)) flags ∙ f.1 in
      let start = ap (λ (x : ℕ). odd (x / 4)) flags ∙ f.2 in
      λ k. record { code = code k; style = record { red = red k; green = green k; blue = blue k; alpha = alpha k; bold = bold k; italic = italic k }; start = start k }
