-- Parts of one letter behind those of another stand in order.
use Rattle.graph_theory.proofs.Common.{◌≡◌, ℕ, ◌+◌, Bool, true, List, [], ◌∷◌, ◌++◌, map, Option, None, Some, ℤ, refl, arith, int_lt, nat_lt, nat_eq, list_all}
use Rattle.graph_theory.proofs.Common.{and_parts, and_from, nat_tests, All-weaker, AllPass-from_list_all, list_all-from_AllPass}
use Rattle.doc_format.specs.declared.part.SetLine.{SetLine}
use Rattle.doc_format.specs.declared.part.Part.{Part}
use Rattle.doc_format.specs.declared.part.Part.TheVariants.{Set}
use Rattle.doc_format.specs.Parts.{at_most_one, letter_of, rank}
use Rattle.doc_format.specs.Form.{ascends, may_follow, in_order}
use Rattle.doc_format.proofs.Following.{int_lt-trans}
use Rattle.doc_format.proofs.InOrder.{ascends_tail, all_joined, all_mapped}

-- a test that each element passes because it passes another
all_weaker : {A : Type 0} (p q : A → Bool) (xs : List A) → ((x : A) → p x ≡ true → q x ≡ true) → list_all p xs ≡ true → list_all q xs ≡ true
all_weaker p q xs f h = list_all-from_AllPass q xs (All-weaker (λ x. p x ≡ true) (λ x. q x ≡ true) f xs (AllPass-from_list_all p xs h))

-- ---- ascending keys

ascends_all : (z : ℤ) (zs : List ℤ) → ascends (z ∷ zs) ≡ true → list_all (int_lt z) zs ≡ true
ascends_all z [] h = refl
ascends_all z (y ∷ zs) h =
    let b = and_parts (int_lt z y) (ascends (y ∷ zs)) h in
    and_from (int_lt z y) (list_all (int_lt z) zs) b.0 (all_weaker (int_lt y) (int_lt z) zs (λ x k. int_lt-trans z y x b.0 k) (ascends_all y zs b.1))

keyed_all : {A : Type 0} (made : A → Part) (by : A → ℤ) (x : A) (xs : List A) → ((y : A) → int_lt (by x) (by y) ≡ true → may_follow (made x) (made y) ≡ true) →
    list_all (int_lt (by x)) (map by xs) ≡ true → list_all (may_follow (made x)) (map made xs) ≡ true
keyed_all made by x [] f h = refl
keyed_all made by x (y ∷ ys) f h = let b =
    and_parts (int_lt (by x) (by y)) (list_all (int_lt (by x)) (map by ys)) h in and_from (may_follow (made x) (made y)) (list_all (may_follow (made x)) (map made ys)) (f y b.0)
    (keyed_all made by x ys f b.1)

pub keyed : {A : Type 0} (made : A → Part) (by : A → ℤ) (xs : List A) → ((x y : A) → int_lt (by x) (by y) ≡ true → may_follow (made x) (made y) ≡ true) →
    ascends (map by xs) ≡ true → in_order (map made xs) ≡ true
keyed made by [] f h = refl
keyed made by (x ∷ xs) f h = and_from (list_all (may_follow (made x)) (map made xs)) (in_order (map made xs)) (keyed_all made by x xs (f x) (ascends_all (by x) (map by xs) h))
    (keyed made by xs f (ascends_tail (by x) (map by xs) h))

pub sets_in_order : (sets : List SetLine) → in_order (map Set sets) ≡ true
sets_in_order [] = refl
sets_in_order (z ∷ zs) = and_from (list_all (may_follow (Set z)) (map Set zs)) (in_order (map Set zs)) (all_mapped (may_follow (Set z)) Set zs (λ y. refl)) (sets_in_order zs)

pub one_in_order : {A : Type 0} (made : A → Part) (o : Option A) → in_order (at_most_one made o) ≡ true
one_in_order made None = refl
one_in_order made (Some x) = refl

-- ---- letters one after another

-- all parts have this rank; all parts have a greater one
abbrev pub ranked : ℕ → List Part → Bool
ranked r parts = list_all (λ part. nat_eq (rank (letter_of part)) r) parts

abbrev pub above : ℕ → List Part → Bool
above r parts = list_all (λ part. nat_lt r (rank (letter_of part))) parts

-- parts in order, all beyond this rank
pub record IsTail (r : ℕ) (parts : List Part) : Type 0 where
  pub order : in_order parts ≡ true
  pub beyond : above r parts ≡ true

precedes : (p q : Part) → nat_lt (rank (letter_of p)) (rank (letter_of q)) ≡ true → may_follow p q ≡ true
precedes p q h = rw h refl

crossing : (r : ℕ) (p : Part) (ys : List Part) → nat_eq (rank (letter_of p)) r ≡ true → above r ys ≡ true → list_all (may_follow p) ys ≡ true
crossing r p ys h k = all_weaker (λ q. nat_lt r (rank (letter_of q))) (may_follow p) ys (λ q l. precedes p q (by_rank (rank (letter_of p)) r (rank (letter_of q)) h l)) k
  where
    by_rank : (a b c : ℕ) → nat_eq a b ≡ true → nat_lt b c ≡ true → nat_lt a c ≡ true
    by_rank a b c h l = grind (arith, nat_tests)

in_order-append : (r : ℕ) (xs ys : List Part) → ranked r xs ≡ true → in_order xs ≡ true → above r ys ≡ true → in_order ys ≡ true → in_order (xs ++ ys) ≡ true
in_order-append r [] ys h o a k = k
in_order-append r (x ∷ xs) ys h o a k =
    let b = and_parts (nat_eq (rank (letter_of x)) r) (ranked r xs) h in
    let c = and_parts (list_all (may_follow x) xs) (in_order xs) o in
    and_from (list_all (may_follow x) (xs ++ ys)) (in_order (xs ++ ys)) (all_joined (may_follow x) xs ys c.0 (crossing r x ys b.0 a)) (in_order-append r xs ys b.1 c.1 a k)

rank_up : (r a : ℕ) → nat_eq a (r + 1) ≡ true → nat_lt r a ≡ true
rank_up r a h = grind (arith, nat_tests)

rank_on : (r a : ℕ) → nat_lt (r + 1) a ≡ true → nat_lt r a ≡ true
rank_on r a h = grind (arith, nat_tests)

pub only : (r : ℕ) (xs : List Part) → ranked (r + 1) xs ≡ true → in_order xs ≡ true → IsTail r xs
only r xs h o = record { order = o; beyond = all_weaker (λ p. nat_eq (rank (letter_of p)) (r + 1)) (λ p. nat_lt r (rank (letter_of p))) xs (λ p k. rank_up r (rank (letter_of p)) k) h }

pub before : (r : ℕ) (xs ys : List Part) → ranked (r + 1) xs ≡ true → in_order xs ≡ true → IsTail (r + 1) ys → IsTail r (xs ++ ys)
before r xs ys h o t = record {
  order = in_order-append (r + 1) xs ys h o t.beyond t.order;
  beyond = all_joined (λ p. nat_lt r (rank (letter_of p))) xs ys (only r xs h o).beyond
      (all_weaker (λ p. nat_lt (r + 1) (rank (letter_of p))) (λ p. nat_lt r (rank (letter_of p))) ys (λ p k. rank_on r (rank (letter_of p)) k) t.beyond);
}

pub many_ranked : {A : Type 0} (r : ℕ) (made : A → Part) (xs : List A) → ((x : A) → nat_eq (rank (letter_of (made x))) r ≡ true) → ranked r (map made xs) ≡ true
many_ranked r made xs h = all_mapped (λ p. nat_eq (rank (letter_of p)) r) made xs h

pub one_ranked : {A : Type 0} (r : ℕ) (made : A → Part) (o : Option A) → ((x : A) → nat_eq (rank (letter_of (made x))) r ≡ true) → ranked r (at_most_one made o) ≡ true
one_ranked r made None h = refl
one_ranked r made (Some x) h = and_from (nat_eq (rank (letter_of (made x))) r) true (h x) refl
