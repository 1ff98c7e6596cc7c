-- WHAT THE SIGNS OF THE NOTATION MEAN, as equations that hold of them. Definitions only.
use Rattle.std.specs.Prelude.{◌≡◌, ℕ, suc, ◌+◌, ◌-◌, ◌*◌, ◌/◌, ◌%◌, ◌^◌, ◌<◌, ◌≤◌, min, max, Bool, true, false, cond, not, ◌&&◌, ◌||◌, List, [], ◌∷◌, ◌++◌, map, length, take, drop, replicate, ◌==◌, bit_or, nat_le, nat_lt, slice_index, slice_index_or, slice_set}
use Rattle.std.specs.Bool.{beq}
use mathlib.Core.List.{flatten}
use Rattle.std.proofs.lemmas.List.Edits.{sets}

-- numbers: 0, 1, 2 and so on, without end
pub record Numbers : Type 0 where
  pub suc_is : (a : ℕ) → suc a ≡ a + 1
  -- a difference stops at 0
  pub minus : (a b : ℕ) → a + b - b ≡ a
  pub minus_more : (a b : ℕ) → b - (a + b) ≡ 0
  -- a quotient is rounded down, and the remainder is what is left; nothing here divides by 0
  pub divided : (a b : ℕ) → a / b * b + a % b ≡ a
  pub remainder : (a b : ℕ) → 0 < b → a % b < b
  pub power_none : (a : ℕ) → a ^ 0 ≡ 1
  pub power : (a n : ℕ) → a ^ suc n ≡ a ^ n * a
  pub min_first : (a b : ℕ) → a ≤ b → min a b ≡ a
  pub min_second : (a b : ℕ) → b ≤ a → min a b ≡ b
  pub max_first : (a b : ℕ) → b ≤ a → max a b ≡ a
  pub max_second : (a b : ℕ) → a ≤ b → max a b ≡ b
  -- the bits of both, the lowest first
  pub or_none : bit_or 0 0 ≡ 0
  pub or : (a b : ℕ) → bit_or a b ≡ bit_or (a / 2) (b / 2) * 2 + max (a % 2) (b % 2)

-- tests
pub record Tests : Type 0 where
  pub nat_le_holds : (a b : ℕ) → a ≤ b → nat_le a b ≡ true
  pub nat_le_fails : (a b : ℕ) → b < a → nat_le a b ≡ false
  pub nat_lt_holds : (a b : ℕ) → a < b → nat_lt a b ≡ true
  pub nat_lt_fails : (a b : ℕ) → b ≤ a → nat_lt a b ≡ false
  pub equal_holds : (a : ℕ) → (a == a) ≡ true
  pub equal_below : (a b : ℕ) → a < b → (a == b) ≡ false
  pub equal_above : (a b : ℕ) → b < a → (a == b) ≡ false
  pub not_true : not true ≡ false
  pub not_false : not false ≡ true
  pub and_true : (t : Bool) → (true && t) ≡ t
  pub and_false : (t : Bool) → (false && t) ≡ false
  pub or_true : (t : Bool) → (true || t) ≡ true
  pub or_false : (t : Bool) → (false || t) ≡ t
  pub agree : (t : Bool) → beq t t ≡ true
  pub differ : (t : Bool) → beq t (not t) ≡ false

-- lists of numbers: 0 stands where one is too short
pub record NumberLists : Type 0 where
  pub index_is : (l : List ℕ) (i : ℕ) → slice_index l i ≡ slice_index_or l i 0

-- choosing by a test, and lists, of things of any kind
pub record Lists (A B : Type 0) : Type 0 where
  pub cond_true : (x y : A) → cond true x y ≡ x
  pub cond_false : (x y : A) → cond false x y ≡ y
  pub length_none : length {A = A} [] ≡ 0
  pub length_some : (x : A) (l : List A) → length (x ∷ l) ≡ length l + 1
  pub append_none : (m : List A) → [] ++ m ≡ m
  pub append_some : (x : A) (l m : List A) → (x ∷ l) ++ m ≡ x ∷ (l ++ m)
  pub map_none : (f : A → B) → map f [] ≡ []
  pub map_some : (f : A → B) (x : A) (l : List A) → map f (x ∷ l) ≡ f x ∷ map f l
  pub flatten_none : flatten {A = A} [] ≡ []
  pub flatten_some : (l : List A) (ls : List (List A)) → flatten (l ∷ ls) ≡ l ++ flatten ls
  pub replicate_none : (x : A) → replicate 0 x ≡ []
  pub replicate_some : (n : ℕ) (x : A) → replicate (suc n) x ≡ x ∷ replicate n x
  -- of a list that is too short, take gives all, drop nothing, slice_index_or its last argument, and slice_set changes
  -- nothing
  pub take_none : (l : List A) → take 0 l ≡ []
  pub take_short : (n : ℕ) → take {A = A} n [] ≡ []
  pub take_some : (n : ℕ) (x : A) (l : List A) → take (suc n) (x ∷ l) ≡ x ∷ take n l
  pub drop_none : (l : List A) → drop 0 l ≡ l
  pub drop_short : (n : ℕ) → drop {A = A} n [] ≡ []
  pub drop_some : (n : ℕ) (x : A) (l : List A) → drop (suc n) (x ∷ l) ≡ drop n l
  pub index_short : (n : ℕ) (d : A) → slice_index_or [] n d ≡ d
  pub index_first : (x d : A) (l : List A) → slice_index_or (x ∷ l) 0 d ≡ x
  pub index_later : (n : ℕ) (x d : A) (l : List A) → slice_index_or (x ∷ l) (suc n) d ≡ slice_index_or l n d
  pub set_short : (n : ℕ) (v : A) → slice_set [] n v ≡ []
  pub set_first : (x v : A) (l : List A) → slice_set (x ∷ l) 0 v ≡ v ∷ l
  pub set_later : (n : ℕ) (x v : A) (l : List A) → slice_set (x ∷ l) (suc n) v ≡ x ∷ slice_set l n v
  pub sets_none : (l : List A) (n : ℕ) → sets l n [] ≡ l
  pub sets_some : (l : List A) (n : ℕ) (v : A) (vs : List A) → sets l n (v ∷ vs) ≡ sets (slice_set l n v) (suc n) vs
