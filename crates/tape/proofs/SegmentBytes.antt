-- What segments within the limits write are bytes.
use mathlib.Core.Path.{◌≡◌, refl}
use mathlib.Core.Bool.{Bool, true, false, ◌&&◌}
use mathlib.Core.List.{List, [], ◌∷◌, ◌++◌}
use Prim.Native.Nat.{ℕ, ◌<◌}
use native.Mathlib.Omega.{arith}
use borrow.Author.Tests.{ltb-true, leb-true}
use lib.Dec.{lit<, ltb, leb}
use Rattle.tape.specs.Style.{Opener, bold_list, italic_list, color_list, plain_list}
use Rattle.tape.specs.Command.{is_scalar}
use Rattle.tape.specs.Segments.{Segment, Segments, text, line_break, timestamp, group, voice, none, ◌then◌, letter_bytes, letters_bytes, name_bytes, opener_bytes, written, written_list, are_scalars, is_writable, writable, writable_list, AllBytes}
use Rattle.std.proofs.lemmas.Bool.{and_parts}

bytes_append : (xs ys : List ℕ) → AllBytes xs → AllBytes ys → AllBytes (xs ++ ys)
bytes_append [] ys h k = k
bytes_append (x ∷ xs) ys h k = (h.0, bytes_append xs ys h.1 k)

scalar_most : (v : ℕ) → is_scalar v ≡ true → v < 0x110000
unfolding is_scalar
scalar_most v e = low (ltb v 0xd800) refl
  where
    low : (t : Bool) → ltb v 0xd800 ≡ t → v < 0x110000
    low true a = let h = ltb-true v 0xd800 a in omega arith
    low false a = let h = leb-true v 0x10ffff (and_parts (ltb 0xdfff v) (leb v 0x10ffff) (rw a at e)).1 in omega arith

letter_bytes_lem : (v : ℕ) → is_scalar v ≡ true → AllBytes (letter_bytes v)
unfolding letter_bytes
letter_bytes_lem v e = short (ltb v 0x100) refl
  where
    long : ltb v 0x100 ≡ false → (t : Bool) → ltb v 0x10000 ≡ t → AllBytes (letter_bytes v)
    long a true b = let h = ltb-true v 0x10000 b in rw (a, b) (lit< tt, (omega arith, (omega arith, tt)))
    long a false b = let h = scalar_most v e in rw (a, b) (lit< tt, (omega arith, (omega arith, (omega arith, tt))))

    short : (t : Bool) → ltb v 0x100 ≡ t → AllBytes (letter_bytes v)
    short true a = rw a (lit< tt, (ltb-true v 0x100 a, tt))
    short false a = long a (ltb v 0x10000) refl

letters_bytes_lem : (vs : List ℕ) → are_scalars vs ≡ true → AllBytes (letters_bytes vs)
letters_bytes_lem [] e = tt
letters_bytes_lem (v ∷ vs) e =
    let p = and_parts (is_scalar v) (are_scalars vs) e in
    bytes_append (letter_bytes v) (letters_bytes vs) (letter_bytes_lem v p.0) (letters_bytes_lem vs p.1)

opener_bytes_lem : (o : Opener) → is_writable o ≡ true → AllBytes (opener_bytes o)
opener_bytes_lem bold_list e = (lit< tt, tt)
opener_bytes_lem italic_list e = (lit< tt, tt)
opener_bytes_lem plain_list e = (lit< tt, tt)
opener_bytes_lem (color_list r g b) e =
    let p = and_parts (ltb r 256) (ltb g 256 && ltb b 256) e in
    let q = and_parts (ltb g 256) (ltb b 256) p.1 in
    (lit< tt, (ltb-true r 256 p.0, (ltb-true g 256 q.0, (ltb-true b 256 q.1, tt))))

abbrev end : AllBytes (0x00 ∷ [])
end = (lit< tt, tt)

mutual
  segment_bytes : (g : Segment) → writable g ≡ true → AllBytes (written g)
  segment_bytes (text []) e = (lit< tt, tt)
  segment_bytes (text (v ∷ vs)) e = letters_bytes_lem (v ∷ vs) e
  segment_bytes line_break e = (lit< tt, tt)
  segment_bytes timestamp e = (lit< tt, tt)
  segment_bytes (group o gs) e =
      let p = and_parts (is_writable o) (writable_list gs) e in
      bytes_append (opener_bytes o) (written_list gs ++ (0x00 ∷ [])) (opener_bytes_lem o p.0)
      (bytes_append (written_list gs) (0x00 ∷ []) (segments_bytes gs p.1) end)
  segment_bytes (voice name gs) e =
      let p = and_parts (are_scalars name) (writable_list gs) e in (
        lit< tt,
        bytes_append (name_bytes name) (written_list gs ++ (0x00 ∷ []))
            (bytes_append (letters_bytes name) (0x00 ∷ []) (letters_bytes_lem name p.0) end)
            (bytes_append (written_list gs) (0x00 ∷ []) (segments_bytes gs p.1) end),
      )

  pub segments_bytes : (gs : Segments) → writable_list gs ≡ true → AllBytes (written_list gs)
  segments_bytes none e = tt
  segments_bytes (g then gs) e =
      let p = and_parts (writable g) (writable_list gs) e in
      bytes_append (written g) (written_list gs) (segment_bytes g p.0) (segments_bytes gs p.1)
