-- Tests, lists without their end, and numbers in a row.
use mathlib.Core.Path.{◌≡◌, ◌∙◌, refl, sym, ap}
use mathlib.Core.Bool.{Bool, true, false, cond}
use mathlib.Core.List.{List, [], ◌∷◌, ◌++◌, flatten, append_assoc}
use Prim.Native.Nat.{ℕ, zero, suc, ◌+◌, ◌-◌, ◌≤◌, ◌<◌}
use native.Mathlib.Omega.{arith}
use native.Mathlib.Numerals.{add-one}
use lib.ListN.{length, take, drop}
use Rattle.wrap.specs.Lines.{Line, up_from, keep, without_last, is_empty_line}
use Rattle.wrap.specs.Filled.{between}

-- what holds of both branches of a test
pub cases : {A : Type 0} (P : A → Type 0) (b : Bool) (x y : A) → (b ≡ true → P x) → (b ≡ false → P y) → P (cond b x y)
cases P true x y p q = p refl
cases P false x y p q = q refl

pub flatten_append : (a b : List Line) → flatten (a ++ b) ≡ flatten a ++ flatten b
unfolding flatten
flatten_append [] b = refl
flatten_append (l ∷ a) b = rw (flatten_append a b) (sym (append_assoc l (flatten a) (flatten b)))

-- ---- a list without its end

module _ {A : Type 0} (test : A → Bool) where
  keep_more : (x : A) (xs : List A) (y : A) (ys : List A) → keep test x (xs ++ y ∷ ys) ≡ x ∷ (xs ++ y ∷ ys)
  keep_more x [] y ys = refl
  keep_more x (z ∷ xs) y ys = refl

  -- of two lists: the end of both, where nothing of the second is left
  pub last_none : (xs ys : List A) → without_last test ys ≡ [] → without_last test (xs ++ ys) ≡ without_last test xs
  unfolding without_last
  last_none [] ys e = e
  last_none (x ∷ xs) ys e = ap (keep test x) (last_none xs ys e)

  pub last_some : (xs ys : List A) (y : A) (zs : List A) → without_last test ys ≡ y ∷ zs → without_last test (xs ++ ys) ≡ xs ++ (y ∷ zs)
  unfolding without_last
  last_some [] ys y zs e = e
  last_some (x ∷ xs) ys y zs e = ap (keep test x) (last_some xs ys y zs e) ∙ keep_more x xs y zs

  -- one more at the end
  pub last_drop : (xs : List A) (y : A) → test y ≡ true → without_last test (xs ++ (y ∷ [])) ≡ without_last test xs
  unfolding without_last
  last_drop xs y e = last_none xs (y ∷ []) (rw e)

  pub last_keep : (xs : List A) (y : A) → test y ≡ false → without_last test (xs ++ (y ∷ [])) ≡ xs ++ (y ∷ [])
  unfolding without_last
  last_keep xs y e = last_some xs (y ∷ []) y [] (rw e)

  -- what is left is the list's front
  keep_front : (x : A) (xs ys : List A) → take (length ys) xs ≡ ys → take (length (keep test x ys)) (x ∷ xs) ≡ keep test x ys
  keep_front x xs [] e = cases (λ (l : List A). take (length l) (x ∷ xs) ≡ l) (test x) [] (x ∷ []) (λ _. refl) (λ _. refl)
  keep_front x xs (y ∷ ys) e = ap (λ (l : List A). x ∷ l) e

  pub last_front : (xs : List A) → take (length (without_last test xs)) xs ≡ without_last test xs
  unfolding without_last
  last_front [] = refl
  last_front (x ∷ xs) = keep_front x xs (without_last test xs) (last_front xs)

  keep_short : (x : A) (xs ys : List A) → length ys ≤ length xs → length (keep test x ys) ≤ suc (length xs)
  keep_short x xs [] h = cases (λ (l : List A). length l ≤ suc (length xs)) (test x) [] (x ∷ []) (λ _. omega arith) (λ _. omega arith)
  keep_short x xs (y ∷ ys) h = omega arith

  pub last_short : (xs : List A) → length (without_last test xs) ≤ length xs
  unfolding without_last
  last_short [] = omega arith
  last_short (x ∷ xs) = keep_short x xs (without_last test xs) (last_short xs)

-- empty lines have no letters
keep_all : (l : Line) (ls : List Line) → flatten (keep is_empty_line l ls) ≡ l ++ flatten ls
unfolding flatten
keep_all [] [] = refl
keep_all (k ∷ l) [] = refl
keep_all l (m ∷ ls) = refl

pub last_all : (ls : List Line) → flatten (without_last is_empty_line ls) ≡ flatten ls
unfolding flatten without_last
last_all [] = refl
last_all (l ∷ ls) = keep_all l (without_last is_empty_line ls) ∙ ap (λ (x : Line). l ++ x) (last_all ls)

-- ---- numbers in a row

pub length_up : (k n : ℕ) → length (up_from k n) ≡ n
unfolding up_from
length_up k zero = refl
length_up k (suc n) = ap suc (length_up (suc k) n)

up_snoc : (k n : ℕ) → up_from k (suc n) ≡ up_from k n ++ ((k + n) ∷ [])
unfolding up_from
up_snoc k zero = ap (λ (x : ℕ). x ∷ []) (omega arith)
up_snoc k (suc n) =
    ap (λ (l : Line). k ∷ l) (up_snoc (suc k) n)
    ∙ ap (λ (x : ℕ). k ∷ (up_from (suc k) n ++ (x ∷ []))) (omega arith)

pub between_none : (i : ℕ) → between i i ≡ []
unfolding up_from
between_none i = let e : i - i ≡ 0 = omega arith in rw e

-- one more at the end
pub between_more : (i k : ℕ) → i ≤ k → between i (k + 1) ≡ between i k ++ (k ∷ [])
between_more i k h =
    let e : k + 1 - i ≡ suc (k - i) = omega arith in
    let d : i + (k - i) ≡ k = omega arith in
    ap (up_from i) e ∙ up_snoc i (k - i) ∙ ap (λ (x : ℕ). between i k ++ (x ∷ [])) d

-- the first of them
pub between_first : (i j : ℕ) → i < j → between i j ≡ i ∷ between (i + 1) j
unfolding up_from
between_first i j h =
    let e : j - i ≡ suc (j - (i + 1)) = omega arith in
    ap (up_from i) e ∙ ap (λ (x : ℕ). i ∷ up_from x (j - (i + 1))) (sym (add-one i))

pub length_between : (i j : ℕ) → length (between i j) ≡ j - i
length_between i j = length_up i (j - i)

take_up : (m k n : ℕ) → m ≤ n → take m (up_from k n) ≡ up_from k m
unfolding up_from
take_up zero k n h = refl
take_up (suc m) k zero h = absurd (omega arith)
take_up (suc m) k (suc n) h = ap (λ (l : Line). k ∷ l) (take_up m (suc k) n (omega arith))

drop_up : (m k n : ℕ) → drop m (up_from k n) ≡ up_from (k + m) (n - m)
unfolding up_from
drop_up zero k n = let e : k + 0 ≡ k = omega arith in let d : n - 0 ≡ n = omega arith in rw (e, d)
drop_up (suc m) k zero = let e : 0 - suc m ≡ 0 = omega arith in rw e
drop_up (suc m) k (suc n) =
    let e : suc k + m ≡ k + suc m = omega arith in
    let d : n - m ≡ suc n - suc m = omega arith in
    drop_up m (suc k) n ∙ rw (e, d)

-- cut in two
pub take_between : (i m j : ℕ) → i + m ≤ j → take m (between i j) ≡ between i (i + m)
take_between i m j h =
    let e : m ≡ i + m - i = omega arith in
    take_up m i (j - i) (omega arith) ∙ ap (up_from i) e

pub drop_between : (i m j : ℕ) → drop m (between i j) ≡ between (i + m) j
drop_between i m j =
    let e : j - i - m ≡ j - (i + m) = omega arith in
    drop_up m i (j - i) ∙ ap (up_from (i + m)) e
