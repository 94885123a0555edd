-- The last part stands for all that came before it.
use Rattle.graph_theory.proofs.Common.{◌≡◌, ◌++◌, ◌∷◌, [], ℕ, List, Bool, true, false, ◌&&◌, eqb, Option, None, Some, ℤ, refl, sym, ap, ◌∙◌, arith, int_lt}
use Rattle.graph_theory.proofs.Common.{nat_lt, ◌||◌, list_all, list_all-append, nat_tests, ints}
use Rattle.doc_format.specs.declared.part.Part.{Part}
use Rattle.doc_format.specs.declared.order.Place.{Place}
use Rattle.doc_format.specs.Form.{letter_of, rank, key, repeats, may_follow}
use Rattle.doc_format.specs.Order.{follows, IsLast}
use Rattle.doc_format.proofs.PartLaws.{letter_laws}

pub int_lt-trans : (x y z : ℤ) → int_lt x y ≡ true → int_lt y z ≡ true → int_lt x z ≡ true
int_lt-trans x y z a b = grind (arith, ints)

ranks : (a b c : ℕ) (p q r : Bool) → (p ≡ true → q ≡ true → r ≡ true) → (nat_lt a b || (eqb a b && (eqb b 4 || p))) ≡ true →
    (nat_lt b c || (eqb b c && (eqb c 4 || q))) ≡ true → (nat_lt a c || (eqb a c && (eqb c 4 || r))) ≡ true
ranks a b c p q r t h k = grind (arith, nat_tests)

-- what a place may be followed by, with the test for sets by rank
abbrev follows_by : ℕ → ℤ → ℕ → ℤ → Bool
follows_by a x b y = nat_lt a b || (eqb a b && (eqb b 4 || int_lt x y))

by_rank : (a : ℕ) (x : ℤ) (part : Part) →
    (nat_lt a (rank (letter_of part)) || (eqb a (rank (letter_of part)) && (repeats (letter_of part) || int_lt x (key part)))) ≡ follows_by a x (rank (letter_of part)) (key part)
by_rank a x part = ap (λ (b : Bool). nat_lt a (rank (letter_of part)) || (eqb a (rank (letter_of part)) && (b || int_lt x (key part)))) (letter_laws (letter_of part)).one_repeats

follows_by-trans : (a b c : ℕ) (x y z : ℤ) → follows_by a x b y ≡ true → follows_by b y c z ≡ true → follows_by a x c z ≡ true
follows_by-trans a b c x y z h k = ranks a b c (int_lt x y) (int_lt y z) (int_lt x z) (int_lt-trans x y z) h k

follows-trans : (last : Option Place) (part next : Part) → follows last part ≡ true → may_follow part next ≡ true → follows last next ≡ true
follows-trans None part next h k = refl
follows-trans (Some last) part next h k =
    by_rank last.rank last.key next
    ∙ follows_by-trans last.rank (rank (letter_of part)) (rank (letter_of next)) last.key (key part) (key next) (sym (by_rank last.rank last.key part) ∙ h)
    (sym (by_rank (rank (letter_of part)) (key part) next) ∙ k)

under : (x y : Bool) → (y ≡ true → x ≡ true) → (x && (y && true)) ≡ y
under true true f = refl
under true false f = refl
under false true f = f refl
under false false f = refl

pub last_part : (last : Option Place) (parts : List Part) (part : Part) (place : Place) (after : List Part) → IsLast last parts → follows last part ≡ true →
    place.rank ≡ rank (letter_of part) → place.key ≡ key part → after ≡ parts ++ part ∷ [] → IsLast (Some place) after
last_part last parts part place after old h r k e =
    λ next.
    ap (list_all (λ (earlier : Part). may_follow earlier next)) e
    ∙ list_all-append (λ (earlier : Part). may_follow earlier next) parts (part ∷ [])
    ∙ ap (λ (b : Bool). b && (may_follow part next && true)) (old next)
    ∙ under (follows last next) (may_follow part next) (follows-trans last part next h)
    ∙ sym (ap (λ (n : ℕ). nat_lt n (rank (letter_of next)) || (eqb n (rank (letter_of next)) && (repeats (letter_of next) || int_lt (key part) (key next)))) r)
    ∙ sym (ap (λ (z : ℤ). nat_lt place.rank (rank (letter_of next)) || (eqb place.rank (rank (letter_of next)) && (repeats (letter_of next) || int_lt z (key next)))) k)
