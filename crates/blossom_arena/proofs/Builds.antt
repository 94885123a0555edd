-- The blossoms that an order and their rings give.
use Rattle.graph_theory.proofs.Common.{nat_tests, ◌≡◌, ℕ, true, false, eqb, List, [], ◌∷◌, length, refl, ap, ap₂, arith, or_parts, both_ways, holds}
use Rattle.blossom_arena.specs.declared.links.Link.{Link}
use Rattle.blossom_arena.specs.Family.{Blossom, in_ring, names_of, is_child, ring_of, without, made_of}
use Rattle.blossom_arena.specs.Fields.{build}
use Rattle.blossom_arena.proofs.Lists.{by_test, first_in, later_in}
use Rattle.blossom_arena.proofs.Orders.{removed}
use Rattle.blossom_arena.proofs.Taken.{union_without}

pub names-build : (ring : ℕ → List Link) (xs : List ℕ) → names_of (build ring xs) ≡ xs
names-build ring [] = refl
names-build ring (x ∷ xs) = ap (λ t. x ∷ t) (names-build ring xs)

pub length-build : (ring : ℕ → List Link) (xs : List ℕ) → length (build ring xs) ≡ length xs
length-build ring [] = refl
length-build ring (x ∷ xs) = omega (arith, length-build ring xs)

pub ring-build : (ring : ℕ → List Link) (xs : List ℕ) (x : ℕ) → holds xs x ≡ true → ring_of (build ring xs) x ≡ ring x
ring-build ring [] x k = absurd (both_ways false refl k)
ring-build ring (y ∷ ys) x k = grind (arith, nat_tests, ring-build ring ys x)

pub build-same : (ring ring' : ℕ → List Link) (xs : List ℕ) → ((x : ℕ) → holds xs x ≡ true → ring' x ≡ ring x) → build ring' xs ≡ build ring xs
build-same ring ring' [] same = refl
build-same ring ring' (x ∷ xs) same =
    ap₂ (λ (bs : List Blossom) (r : List Link). made_of bs r x ∷ bs) (build-same ring ring' xs (λ y e. same y (later_in x xs y e))) (same x (first_in x xs))

pub build-without : (ring : ℕ → List Link) (xs : List ℕ) (a : ℕ) → is_child (build ring xs) a ≡ false → build ring (removed xs a) ≡ without (build ring xs) a
build-without ring [] a out = refl
build-without ring (x ∷ xs) a out =
    let p = or_parts (in_ring (ring x) a) (is_child (build ring xs) a) out in
    by_test (eqb x a)
    (λ e. rw e refl)
    (λ e. rw (e, build-without ring xs a p.1, union_without (build ring xs) (ring x) a p.0) refl)
