-- Numbers in two bytes, the table of lines, and stores in a workspace beside what it holds.
use mathlib.Core.Path.{◌≡◌, ◌∙◌, refl, sym, ap, ap₂}
use mathlib.Core.List.{List, [], ◌∷◌, ◌++◌}
use Prim.Native.Nat.{ℕ, zero, suc, ◌+◌, ◌*◌, ◌-◌, ◌≤◌, ◌<◌}
use native.Mathlib.Omega.{arith}
use lib.ListN.{length, get_or, take, drop, set, length-append}
use Rattle.std.specs.List.{copy_within}
use Rattle.std.proofs.lemmas.List.{drop-take}
use lib.Seq.{sets, sets-eq, slice, get_or-set_other, get_or-take, get_or-drop, take-set-le, length-take-le, take_at, take-append_seam, drop-append-le, take-take, length-slice}
use Rattle.tape.specs.Runs.{Letter}
use Rattle.tape.proofs.StoredRuns.{sets_append}
use Rattle.wrap.specs.Lines.{Line, visible_cols}
use Rattle.wrap.specs.Wrap.{two, twos, line_table}
use Rattle.wrap.specs.Laid.{two_at}
use Rattle.wrap.specs.Filled.{between}
use Rattle.wrap.proofs.Lists.{between_none, between_more, length_between}

-- ---- numbers in two bytes

pub twos_append : (a b : List ℕ) → twos (a ++ b) ≡ twos a ++ twos b
unfolding twos
twos_append [] b = refl
twos_append (v ∷ a) b = rw (twos_append a b)

pub length_twos : (a : List ℕ) → length (twos a) ≡ 2 * length a
unfolding twos
length_twos [] = refl
length_twos (v ∷ a) = let e = length_twos a in omega arith

pub take_twos : (n : ℕ) (a : List ℕ) → take (2 * n) (twos a) ≡ twos (take n a)
unfolding twos
take_twos zero a = refl
take_twos (suc n) [] = let e : 2 * suc n ≡ suc (suc (2 * n)) = omega arith in rw e
take_twos (suc n) (v ∷ a) = let e : 2 * suc n ≡ suc (suc (2 * n)) = omega arith in rw (e, take_twos n a)

-- number i of them
pub twos_at : (a : List ℕ) (i : ℕ) → i < length a → two_at (twos a) (2 * i) ≡ get_or a i 0
unfolding twos
twos_at [] i h = absurd (omega arith)
twos_at (v ∷ a) zero h = omega arith
twos_at (v ∷ a) (suc i) h =
    let e : 2 * suc i ≡ suc (suc (2 * i)) = omega arith in
    let d : suc (suc (2 * i)) + 1 ≡ suc (suc (2 * i + 1)) = omega arith in
    rw (e, d) (twos_at a i (omega arith))

-- ---- the table of lines

pub table_snoc : (ls : List Letter) (r : List Line) (l : Line)
    → line_table ls (r ++ (l ∷ [])) ≡ line_table ls r ++ (two (length l) ++ two (visible_cols ls l))
unfolding line_table
table_snoc ls [] l = refl
table_snoc ls (m ∷ r) l = rw (table_snoc ls r l)

pub length_table : (ls : List Letter) (r : List Line) → length (line_table ls r) ≡ 4 * length r
unfolding line_table
length_table ls [] = refl
length_table ls (m ∷ r) = let e = length_table ls r in omega arith

pub take_table : (ls : List Letter) (n : ℕ) (r : List Line) → take (4 * n) (line_table ls r) ≡ line_table ls (take n r)
unfolding line_table
take_table ls zero r = refl
take_table ls (suc n) [] = let e : 4 * suc n ≡ suc (suc (suc (suc (4 * n)))) = omega arith in rw e
take_table ls (suc n) (l ∷ r) = let e : 4 * suc n ≡ suc (suc (suc (suc (4 * n)))) = omega arith in rw (e, take_table ls n r)

-- line i of it: letters and columns
pub table_at : (ls : List Letter) (r : List Line) (i : ℕ) → i < length r
    → (two_at (line_table ls r) (4 * i) ≡ length (get_or r i [])) × (two_at (line_table ls r) (4 * i + 2) ≡ visible_cols ls (get_or r i []))
unfolding line_table
table_at ls [] i h = absurd (omega arith)
table_at ls (l ∷ r) zero h = (omega arith, omega arith)
table_at ls (l ∷ r) (suc i) h =
    let a : 4 * suc i ≡ suc (suc (suc (suc (4 * i)))) = omega arith in
    let b : suc (suc (suc (suc (4 * i)))) + 1 ≡ suc (suc (suc (suc (4 * i + 1)))) = omega arith in
    let c : suc (suc (suc (suc (4 * i)))) + 2 ≡ suc (suc (suc (suc (4 * i + 2)))) = omega arith in
    let d : suc (suc (suc (suc (4 * i + 2)))) + 1 ≡ suc (suc (suc (suc (4 * i + 2 + 1)))) = omega arith in
    let u = table_at ls r i (omega arith) in
    (rw (a, b) u.0, rw (a, c, d) u.1)

-- ---- what lies before stores, and behind them

pub get_or_sets : (vs ws : List ℕ) (at x : ℕ) → x < at → get_or (sets ws at vs) x 0 ≡ get_or ws x 0
get_or_sets [] ws at x h = refl
get_or_sets (v ∷ vs) ws at x h = get_or_sets vs (set ws at v) (suc at) x (omega arith) ∙ get_or-set_other ws at x v 0 (λ e. omega arith)

take_sets : (vs ws : List ℕ) (at t : ℕ) → t ≤ at → take t (sets ws at vs) ≡ take t ws
take_sets [] ws at t h = refl
take_sets (v ∷ vs) ws at t h = take_sets vs (set ws at v) (suc at) t (omega arith) ∙ take-set-le t ws at v h

pub slice_before : (vs ws : List ℕ) (at a t : ℕ) → t ≤ at → slice a t (sets ws at vs) ≡ slice a t ws
slice_before vs ws at a t h = ap (drop a) (take_sets vs ws at t h)

slice_set : (ws : List ℕ) (i v a t : ℕ) → i < a → slice a t (set ws i v) ≡ slice a t ws
slice_set [] i v a t h = refl
slice_set (x ∷ ws) i v zero t h = absurd (omega arith)
slice_set (x ∷ ws) zero v (suc a) zero h = refl
slice_set (x ∷ ws) zero v (suc a) (suc t) h = refl
slice_set (x ∷ ws) (suc i) v (suc a) zero h = refl
slice_set (x ∷ ws) (suc i) v (suc a) (suc t) h = slice_set ws i v a t (omega arith)

pub slice_after : (vs ws : List ℕ) (at a t : ℕ) → at + length vs ≤ a → slice a t (sets ws at vs) ≡ slice a t ws
slice_after [] ws at a t h = refl
slice_after (v ∷ vs) ws at a t h = slice_after vs (set ws at v) (suc at) a t (omega arith) ∙ slice_set ws at v a t (omega arith)

-- a part that stores make longer
pub slice_grow : (vs ws : List ℕ) (a m : ℕ) → a + m + length vs ≤ length ws
    → slice a (a + m + length vs) (sets ws (a + m) vs) ≡ slice a (a + m) ws ++ vs
slice_grow vs ws a m h =
    let n : length (take (a + m) ws) ≡ a + m = length-take-le (a + m) ws (omega arith) in
    let k : length (take (a + m) ws ++ vs) ≡ a + m + length vs = length-append (take (a + m) ws) vs ∙ ap (λ (x : ℕ). x + length vs) n in
    ap (slice a (a + m + length vs)) (sets-eq vs ws (a + m) h)
    ∙ ap (drop a) (take_at (take (a + m) ws ++ vs) (drop (a + m + length vs) ws) (a + m + length vs) k)
    ∙ drop-append-le a (take (a + m) ws) vs (omega arith)

-- the front of a part
pub slice_less : (ws : List ℕ) (a m n : ℕ) → m ≤ n → slice a (a + m) ws ≡ take m (slice a (a + n) ws)
slice_less ws a m n h = drop-take a m ws ∙ sym (take-take m n (drop a ws) h) ∙ ap (take m) (sym (drop-take a n ws))

-- a number in a part
part_at : (ws : List ℕ) (a m x : ℕ) → x < m → get_or (slice a (a + m) ws) x 0 ≡ get_or ws (a + x) 0
part_at ws a m x h = get_or-drop a (take (a + m) ws) x 0 ∙ get_or-take (a + m) ws (a + x) 0 (omega arith)

pub part_two : (ws : List ℕ) (a m x : ℕ) → x + 1 < m → two_at (slice a (a + m) ws) x ≡ two_at ws (a + x)
part_two ws a m x h =
    let e : a + (x + 1) ≡ a + x + 1 = omega arith in
    ap₂ (λ (y z : ℕ). y * 256 + z) (part_at ws a m x (omega arith)) (part_at ws a m (x + 1) h ∙ ap (λ (y : ℕ). get_or ws y 0) e)

-- ---- numbers written in a row

pub write_none : (ws : List ℕ) (at i : ℕ) → ws ≡ sets ws at (twos (between i i))
unfolding twos
write_none ws at i = rw (between_none i)

pub write_more : (ws : List ℕ) (at i k : ℕ) → i ≤ k
    → sets (sets ws at (twos (between i k))) (at + 2 * (k - i)) (two k) ≡ sets ws at (twos (between i (k + 1)))
unfolding twos
write_more ws at i k h =
    let n : length (twos (between i k)) ≡ 2 * (k - i) = length_twos (between i k) ∙ ap (λ (x : ℕ). 2 * x) (length_between i k) in
    ap (λ (x : ℕ). sets (sets ws at (twos (between i k))) (at + x) (two k)) (sym n)
    ∙ sets_append ws at (twos (between i k)) (two k)
    ∙ ap (sets ws at) (sym (twos_append (between i k) (k ∷ [])) ∙ ap twos (sym (between_more i k h)))

-- ---- bytes moved down

-- bytes copied within a list lie there as if stored
pub moved : (ws : List ℕ) (from to count : ℕ) → from + count ≤ length ws → to + count ≤ length ws
    → copy_within ws from (from + count) to ≡ sets ws to (slice from (from + count) ws)
moved ws from to count f t =
    let part : List ℕ = slice from (from + count) ws in
    let less : from + count - from ≡ count = omega arith in
    let e = length-slice from (from + count) ws f in
    let n : length part ≡ count = omega arith in
    rw (less, ← drop-take from count ws) (sym (sets-eq part ws to (omega arith) ∙ ap (λ (x : ℕ). take to ws ++ part ++ drop (to + x) ws) n))

-- two stores at the front, one behind the other
pub front_two : (a b ws : List ℕ) → length a + length b ≤ length ws
    → take (length (a ++ b)) (sets (sets ws 0 a) (0 + length a) b) ≡ a ++ b
front_two a b ws h =
    let n = length-append a b in
    ap (take (length (a ++ b))) (sets_append ws 0 a b ∙ sets-eq (a ++ b) ws 0 (omega arith))
    ∙ take-append_seam (a ++ b) (drop (0 + length (a ++ b)) ws)
