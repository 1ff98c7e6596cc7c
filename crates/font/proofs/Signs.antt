-- The signs of the library mean what the deposit says of them.
use Rattle.std.proofs.Common.{◌≡◌, ℕ, zero, suc, Bool, true, false, not, [], take, drop, refl, mod-lt, pow-suc, div-add-mod', arith, le-ltb, lt-ltb, eq-eqb, ne_eqb, le-leb}
use mathlib.Core.Bool.{beq}
use mathlib.Core.List.{flatten}
use lib.Bits.{or_step}
use native.Mathlib.Nat.{pow-zero}
use borrow.Author.Tests.{lt-leb}
use Rattle.font.specs.Signs.{Numbers, Tests, NumberLists, Lists}

pub numbers : Numbers
numbers = record {
  suc_is = λ a. omega arith;
  minus = λ a b. omega arith;
  minus_more = λ a b. omega arith;
  divided = div-add-mod';
  remainder = λ a b h. mod-lt a h;
  power_none = pow-zero;
  power = pow-suc;
  min_first = λ a b h. omega arith;
  min_second = λ a b h. omega arith;
  max_first = λ a b h. omega arith;
  max_second = λ a b h. omega arith;
  or_none = refl;
  or = or_step;
}

agree : (t : Bool) → beq t t ≡ true
agree true = refl
agree false = refl

differ : (t : Bool) → beq t (not t) ≡ false
differ true = refl
differ false = refl

pub tests : Tests
tests = record {
  nat_le_holds = le-leb;
  nat_le_fails = lt-leb;
  nat_lt_holds = lt-ltb;
  nat_lt_fails = le-ltb;
  equal_holds = λ a. eq-eqb a a refl;
  equal_below = λ a b h. ne_eqb a b (λ e. omega arith);
  equal_above = λ a b h. ne_eqb a b (λ e. omega arith);
  not_true = refl;
  not_false = refl;
  and_true = λ t. refl;
  and_false = λ t. refl;
  or_true = λ t. refl;
  or_false = λ t. refl;
  agree = agree;
  differ = differ;
}

pub number_lists : NumberLists
number_lists = record { index_is = λ l i. refl }

module _ {A : Type 0} where
  take_short : (n : ℕ) → take {A = A} n [] ≡ []
  take_short zero = refl
  take_short (suc n) = refl

  drop_short : (n : ℕ) → drop {A = A} n [] ≡ []
  drop_short zero = refl
  drop_short (suc n) = refl

pub lists : {A B : Type 0} → Lists A B
unfolding flatten
lists = record {
  cond_true = λ x y. refl;
  cond_false = λ x y. refl;
  length_none = refl;
  length_some = λ x l. omega arith;
  append_none = λ m. refl;
  append_some = λ x l m. refl;
  map_none = λ f. refl;
  map_some = λ f x l. refl;
  flatten_none = refl;
  flatten_some = λ l ls. refl;
  replicate_none = λ x. refl;
  replicate_some = λ n x. refl;
  take_none = λ l. refl;
  take_short = take_short;
  take_some = λ n x l. refl;
  drop_none = λ l. refl;
  drop_short = drop_short;
  drop_some = λ n x l. refl;
  index_short = λ n d. refl;
  index_first = λ x d l. refl;
  index_later = λ n x d l. refl;
  set_short = λ n v. refl;
  set_first = λ x v l. refl;
  set_later = λ n x v l. refl;
  sets_none = λ l n. refl;
  sets_some = λ l n v vs. refl;
}
