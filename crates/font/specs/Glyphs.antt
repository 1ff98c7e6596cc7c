-- The glyphs, each once: document 01, "Glyph tables". Definitions only.
-- A glyph is one number of sixteen rows, two hexadecimal digits a row, the top row first; bit 7 of a row is its
-- leftmost pixel. Some glyphs are the same number, and are meant to be: those of 0 and O, x and ×, ª and º.
use Rattle.std.specs.Prelude.{ℕ, ◌+◌, ◌-◌, ◌*◌, ◌%◌, ◌^◌, List, [], ◌∷◌, ◌++◌, map, replicate, slice_index}

-- the printable letters of ASCII, code points 21 to 7E hexadecimal
unfoldable pub printable : List ℕ
printable =
    0x00181818_18181818_18001818_00000000 ∷  -- 21 !
    0x00242424_00000000_00000000_00000000 ∷  -- 22 "
    0x0024247e_24247e24_24000000_00000000 ∷  -- 23 #
    0x183c6660_3c06663c_18000000_00000000 ∷  -- 24 $
    0x00626408_10264600_00000000_00000000 ∷  -- 25 %
    0x00384444_38384a44_3a000000_00000000 ∷  -- 26 &
    0x00181810_00000000_00000000_00000000 ∷  -- 27 '
    0x000c1020_20202020_100c0000_00000000 ∷  -- 28 (
    0x00300804_04040404_08300000_00000000 ∷  -- 29 )
    0x0000185a_3c183c5a_18000000_00000000 ∷  -- 2A *
    0x00000018_187e7e18_18000000_00000000 ∷  -- 2B +
    0x00000000_00000000_00003838_18300000 ∷  -- 2C ,
    0x00000000_00007e7e_00000000_00000000 ∷  -- 2D -
    0x00000000_00000000_00003838_00000000 ∷  -- 2E .
    0x00020204_08102040_40000000_00000000 ∷  -- 2F /
    0x003c6666_66666666_3c000000_00000000 ∷  -- 30 0
    0x00183818_18181818_3c000000_00000000 ∷  -- 31 1
    0x003c6606_0c183060_7e000000_00000000 ∷  -- 32 2
    0x003c6606_1c060666_3c000000_00000000 ∷  -- 33 3
    0x000c1c3c_6c7e0c0c_0c000000_00000000 ∷  -- 34 4
    0x007e6060_7c060666_3c000000_00000000 ∷  -- 35 5
    0x003c6660_7c666666_3c000000_00000000 ∷  -- 36 6
    0x007e6606_0c181818_18000000_00000000 ∷  -- 37 7
    0x003c6666_3c666666_3c000000_00000000 ∷  -- 38 8
    0x003c6666_663e0666_3c000000_00000000 ∷  -- 39 9
    0x00000018_18000000_18180000_00000000 ∷  -- 3A :
    0x00000018_18000000_18181020_00000000 ∷  -- 3B ;
    0x00020408_10201008_04020000_00000000 ∷  -- 3C <
    0x00000000_7e00007e_00000000_00000000 ∷  -- 3D =
    0x00402010_08040810_20400000_00000000 ∷  -- 3E >
    0x003c6606_0c181800_18000000_00000000 ∷  -- 3F ?
    0x003c666e_6e6e6066_3c000000_00000000 ∷  -- 40 @
    0x00183c66_667e6666_66000000_00000000 ∷  -- 41 A
    0x007c6666_7c666666_7c000000_00000000 ∷  -- 42 B
    0x003c6660_60606066_3c000000_00000000 ∷  -- 43 C
    0x00786c66_6666666c_78000000_00000000 ∷  -- 44 D
    0x007e6060_7c606060_7e000000_00000000 ∷  -- 45 E
    0x007e6060_7c606060_60000000_00000000 ∷  -- 46 F
    0x003c6660_6e666666_3c000000_00000000 ∷  -- 47 G
    0x00666666_7e666666_66000000_00000000 ∷  -- 48 H
    0x003c1818_18181818_3c000000_00000000 ∷  -- 49 I
    0x000f0606_06060666_3c000000_00000000 ∷  -- 4A J
    0x00666c78_70786c66_66000000_00000000 ∷  -- 4B K
    0x00606060_60606060_7e000000_00000000 ∷  -- 4C L
    0x00667e7e_7e666666_66000000_00000000 ∷  -- 4D M
    0x00667676_7e6e6e66_66000000_00000000 ∷  -- 4E N
    0x003c6666_66666666_3c000000_00000000 ∷  -- 4F O
    0x007c6666_7c606060_60000000_00000000 ∷  -- 50 P
    0x003c6666_6666666e_3e020000_00000000 ∷  -- 51 Q
    0x007c6666_7c6c6666_66000000_00000000 ∷  -- 52 R
    0x003c6660_3c060666_3c000000_00000000 ∷  -- 53 S
    0x007e1818_18181818_18000000_00000000 ∷  -- 54 T
    0x00666666_66666666_3c000000_00000000 ∷  -- 55 U
    0x00666666_66663c3c_18000000_00000000 ∷  -- 56 V
    0x00666666_667e7e7e_66000000_00000000 ∷  -- 57 W
    0x0066663c_183c6666_66000000_00000000 ∷  -- 58 X
    0x0066663c_18181818_18000000_00000000 ∷  -- 59 Y
    0x007e060c_18306060_7e000000_00000000 ∷  -- 5A Z
    0x003c3030_30303030_3c000000_00000000 ∷  -- 5B [
    0x00404020_10080402_02000000_00000000 ∷  -- 5C \
    0x003c0c0c_0c0c0c0c_3c000000_00000000 ∷  -- 5D ]
    0x00183c66_00000000_00000000_00000000 ∷  -- 5E ^
    0x00000000_00000000_00000000_7e000000 ∷  -- 5F _
    0x00300c00_00000000_00000000_00000000 ∷  -- 60 `
    0x00000000_3c063e66_3e000000_00000000 ∷  -- 61 a
    0x00606060_7c666666_7c000000_00000000 ∷  -- 62 b
    0x00000000_3c666066_3c000000_00000000 ∷  -- 63 c
    0x00060606_3e666666_3e000000_00000000 ∷  -- 64 d
    0x00000000_3c667e60_3c000000_00000000 ∷  -- 65 e
    0x001c3630_7c303030_30000000_00000000 ∷  -- 66 f
    0x00000000_3e66663e_06663c00_00000000 ∷  -- 67 g
    0x00606060_7c666666_66000000_00000000 ∷  -- 68 h
    0x00181800_38181818_3c000000_00000000 ∷  -- 69 i
    0x00060600_0e060606_663c0000_00000000 ∷  -- 6A j
    0x00606060_666c786c_66000000_00000000 ∷  -- 6B k
    0x00381818_18181818_3c000000_00000000 ∷  -- 6C l
    0x00000000_7e7e7e6e_6e000000_00000000 ∷  -- 6D m
    0x00000000_7c666666_66000000_00000000 ∷  -- 6E n
    0x00000000_3c666666_3c000000_00000000 ∷  -- 6F o
    0x00000000_7c66667c_60600000_00000000 ∷  -- 70 p
    0x00000000_3e66663e_06060000_00000000 ∷  -- 71 q
    0x00000000_6e766060_60000000_00000000 ∷  -- 72 r
    0x00000000_3c603c06_3c000000_00000000 ∷  -- 73 s
    0x00303030_7c303036_1c000000_00000000 ∷  -- 74 t
    0x00000000_66666666_3e000000_00000000 ∷  -- 75 u
    0x00000000_6666663c_18000000_00000000 ∷  -- 76 v
    0x00000000_66667e7e_66000000_00000000 ∷  -- 77 w
    0x00000000_663c183c_66000000_00000000 ∷  -- 78 x
    0x00000000_6666663e_06663c00_00000000 ∷  -- 79 y
    0x00000000_7e0c1830_7e000000_00000000 ∷  -- 7A z
    0x001c3030_30603030_301c0000_00000000 ∷  -- 7B {
    0x00181818_18181818_18180000_00000000 ∷  -- 7C |
    0x00380c0c_0c060c0c_0c380000_00000000 ∷  -- 7D }
    0x00366c00_00000000_00000000_00000000 ∷ []  -- 7E ~

-- the printable letter with the code point c
unfoldable pub printable_glyph : ℕ → ℕ
unfolding printable
printable_glyph c = slice_index printable (c - 0x21)

-- An accent: its rows 0 and 1. The ring of Å has only these two rows too: it is not closed, and the same as the
-- circumflex.
abbrev grave : ℕ
grave = 0x300c

abbrev acute : ℕ
acute = 0x0c30

abbrev circ : ℕ
circ = 0x1824

abbrev tilde : ℕ
tilde = 0x2254

abbrev uml : ℕ
uml = 0x2424

abbrev ring : ℕ
ring = 0x1824

-- a glyph of the upper half of Latin-1: drawn whole, or an accent and the code point of the letter under it
pub data Shape : Type 0 where
  whole : ℕ → Shape
  accented : ℕ → ℕ → Shape

-- The glyph of a shape: an accent replaces the letter's rows 0 and 1, and no other. So ì, í, î and ï keep the lower row
-- of the dot; and Ò is as Ù, Ó as Ú, Ô as Û and Ö as Ü, since O and U differ in row 1 alone.
unfoldable pub glyph_of : Shape → ℕ
unfolding printable_glyph
glyph_of (whole g) = g
glyph_of (accented accent c) = accent * 2 ^ 112 + printable_glyph c % 2 ^ 112

-- code points A1 to FF hexadecimal
unfoldable pub latin1 : List Shape
latin1 =
    whole 0x00001800_18181818_18180000_00000000 ∷  -- A1 ¡
    whole 0x00183c6c_60606c3c_18000000_00000000 ∷  -- A2 ¢
    whole 0x001e3230_7c303066_7e000000_00000000 ∷  -- A3 £
    whole 0x00663c66_663c6600_00000000_00000000 ∷  -- A4 ¤
    whole 0x0066663c_7e187e18_18000000_00000000 ∷  -- A5 ¥
    whole 0x00181818_00001818_18000000_00000000 ∷  -- A6 ¦
    whole 0x003c6630_3c660c66_3c000000_00000000 ∷  -- A7 §
    whole 0x00242400_00000000_00000000_00000000 ∷  -- A8 ¨
    whole 0x003c425a_525a423c_00000000_00000000 ∷  -- A9 ©
    whole 0x003c063e_663e007e_00000000_00000000 ∷  -- AA ª
    whole 0x00002448_90482400_00000000_00000000 ∷  -- AB «
    whole 0x00000000_7e060000_00000000_00000000 ∷  -- AC ¬
    whole 0 ∷  -- AD the soft hyphen
    whole 0x003c425a_5a52423c_00000000_00000000 ∷  -- AE ®
    whole 0x007e0000_00000000_00000000_00000000 ∷  -- AF ¯
    whole 0x003c663c_00000000_00000000_00000000 ∷  -- B0 °
    whole 0x00001818_7e181800_7e000000_00000000 ∷  -- B1 ±
    whole 0x00384c08_10207c00_00000000_00000000 ∷  -- B2 ²
    whole 0x00384c08_044c3800_00000000_00000000 ∷  -- B3 ³
    whole 0x000c3000_00000000_00000000_00000000 ∷  -- B4 ´
    whole 0x00000000_66666666_7e606000_00000000 ∷  -- B5 µ
    whole 0x003f7b7b_3b060606_06000000_00000000 ∷  -- B6 ¶
    whole 0x00000000_00181800_00000000_00000000 ∷  -- B7 ·
    whole 0x00000000_00000000_0000000c_18380000 ∷  -- B8 ¸
    whole 0x00183818_18183c00_00000000_00000000 ∷  -- B9 ¹
    whole 0x003c063e_663e007e_00000000_00000000 ∷  -- BA º
    whole 0x00004824_12244800_00000000_00000000 ∷  -- BB »
    whole 0x00646808_10162f29_490f0101_00000000 ∷  -- BC ¼
    whole 0x00646808_10162922_440f0000_00000000 ∷  -- BD ½
    whole 0x00744828_102c5e29_090f0101_00000000 ∷  -- BE ¾
    whole 0x00180018_18306066_3c000000_00000000 ∷  -- BF ¿
    accented grave 0x41 ∷  -- C0 À
    accented acute 0x41 ∷  -- C1 Á
    accented circ 0x41 ∷  -- C2 Â
    accented tilde 0x41 ∷  -- C3 Ã
    accented uml 0x41 ∷  -- C4 Ä
    accented ring 0x41 ∷  -- C5 Å
    whole 0x003e6c6c_6f7e6c6c_6f000000_00000000 ∷  -- C6 Æ
    whole 0x003c6660_60606066_3c081830_00000000 ∷  -- C7 Ç
    accented grave 0x45 ∷  -- C8 È
    accented acute 0x45 ∷  -- C9 É
    accented circ 0x45 ∷  -- CA Ê
    accented uml 0x45 ∷  -- CB Ë
    accented grave 0x49 ∷  -- CC Ì
    accented acute 0x49 ∷  -- CD Í
    accented circ 0x49 ∷  -- CE Î
    accented uml 0x49 ∷  -- CF Ï
    whole 0x00786c66_7b66666c_78000000_00000000 ∷  -- D0 Ð
    accented tilde 0x4e ∷  -- D1 Ñ
    accented grave 0x4f ∷  -- D2 Ò
    accented acute 0x4f ∷  -- D3 Ó
    accented circ 0x4f ∷  -- D4 Ô
    accented tilde 0x4f ∷  -- D5 Õ
    accented uml 0x4f ∷  -- D6 Ö
    whole 0x00000000_663c183c_66000000_00000000 ∷  -- D7 ×
    whole 0x003e666e_6e7e7676_7c000000_00000000 ∷  -- D8 Ø
    accented grave 0x55 ∷  -- D9 Ù
    accented acute 0x55 ∷  -- DA Ú
    accented circ 0x55 ∷  -- DB Û
    accented uml 0x55 ∷  -- DC Ü
    accented acute 0x59 ∷  -- DD Ý
    whole 0x00607c66_667c6060_60000000_00000000 ∷  -- DE Þ
    whole 0x003c6666_78666666_7a000000_00000000 ∷  -- DF ß
    accented grave 0x61 ∷  -- E0 à
    accented acute 0x61 ∷  -- E1 á
    accented circ 0x61 ∷  -- E2 â
    accented tilde 0x61 ∷  -- E3 ã
    accented uml 0x61 ∷  -- E4 ä
    accented ring 0x61 ∷  -- E5 å
    whole 0x00000000_3e0f3f7e_6f000000_00000000 ∷  -- E6 æ
    whole 0x00000000_3c666066_3c081830_00000000 ∷  -- E7 ç
    accented grave 0x65 ∷  -- E8 è
    accented acute 0x65 ∷  -- E9 é
    accented circ 0x65 ∷  -- EA ê
    accented uml 0x65 ∷  -- EB ë
    accented grave 0x69 ∷  -- EC ì
    accented acute 0x69 ∷  -- ED í
    accented circ 0x69 ∷  -- EE î
    accented uml 0x69 ∷  -- EF ï
    whole 0x001b0f1e_36666666_3c000000_00000000 ∷  -- F0 ð
    accented tilde 0x6e ∷  -- F1 ñ
    accented grave 0x6f ∷  -- F2 ò
    accented acute 0x6f ∷  -- F3 ó
    accented circ 0x6f ∷  -- F4 ô
    accented tilde 0x6f ∷  -- F5 õ
    accented uml 0x6f ∷  -- F6 ö
    whole 0x00001818_007e0018_18000000_00000000 ∷  -- F7 ÷
    whole 0x00000000_3e6e7e76_7c000000_00000000 ∷  -- F8 ø
    accented grave 0x75 ∷  -- F9 ù
    accented acute 0x75 ∷  -- FA ú
    accented circ 0x75 ∷  -- FB û
    accented uml 0x75 ∷  -- FC ü
    accented acute 0x79 ∷  -- FD ý
    whole 0x00006060_7c66667c_60600000_00000000 ∷  -- FE þ
    accented uml 0x79 ∷ []  -- FF ÿ

-- all 256 glyphs. Those of the controls, the space, the no-break space and the soft hyphen are blank: no pixel is lit
unfoldable pub glyphs : List ℕ
unfolding printable glyph_of latin1
glyphs = replicate 33 0 ++ (printable ++ (replicate 34 0 ++ map glyph_of latin1))

-- the hollow box, for code points from 256 on
abbrev pub missing : ℕ
missing = 0x00007e42_42424242_42424242_427e0000
