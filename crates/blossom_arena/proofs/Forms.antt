-- The sets of a nested family: they are odd, and of any two one holds the other or they have no vertex in common.
use Rattle.graph_theory.proofs.Common.{nat_tests, ◌≡◌, ℕ, ◌%◌, ◌≤◌, ◌<◌, true, false, eqb, List, [], ◌∷◌, length, refl, sym, ap, ◌∙◌, subst, arith}
use Rattle.graph_theory.proofs.Common.{⊎_elim, inl, inr, All, AllPairs, IsStrictlyIncreasing, eqb-true, eq-eqb, false_from_ne_true, both_ways, AllPairs-from_increasing, holds, HasForm}
use Rattle.graph_theory.proofs.Common.{all_holds, holds_all, first_less, pairs_tail, AreLaminar, HoldsOrMisses, only-member as only_one}
use Rattle.blossom_arena.specs.Family.{Blossom, names_of, is_node, in_ring, outermost, members_of, IsOddSet, IsNested}
use Rattle.blossom_arena.proofs.Lists.{by_test, AllNew, new_from_distinct, distinct_from_new, length-within, first_in}
use Rattle.blossom_arena.proofs.Nested.{vertex_range, name_is_node, node_before}
use Rattle.blossom_arena.proofs.Sets.{members_new, members_odd, members_three, member_vertex, member_by_ring}

-- a blossom's vertices are an odd number of at least three different ones
pub members_form : (n : ℕ) (bs : List Blossom) (x : ℕ) → IsNested n bs → holds (names_of bs) x ≡ true → IsOddSet n (members_of bs x)
members_form n bs x h k =
    let node = name_is_node n bs x k in
    record {
      three = members_three n bs x h k;
      odd = members_odd n bs x h node;
      different = distinct_from_new (members_of bs x) (members_new n bs x h node);
      in_range = all_holds (λ v. (1 ≤ v) × (v ≤ n)) (members_of bs x) (λ v m. vertex_range n v (member_vertex n bs x v h node m));
    }

pub new_by_pairs : (xs : List ℕ) → AllPairs (λ x y. x < y) xs → AllNew xs
new_by_pairs [] up = tt
new_by_pairs (x ∷ xs) up = (grind (arith, first_less x xs x up), new_by_pairs xs (pairs_tail x xs up))

-- and have the form of a certificate's set once they are ascending
pub sorted_form : (n : ℕ) (xs ys : List ℕ) → IsOddSet n xs → IsStrictlyIncreasing ys → ((v : ℕ) → holds ys v ≡ holds xs v)
    → HasForm ys × All (λ v. (1 ≤ v) × (v ≤ n)) ys
sorted_form n xs ys odd up same =
    let new : AllNew ys = new_by_pairs ys (AllPairs-from_increasing ys up) in
    let to = length-within ys xs new (λ v m. sym (same v) ∙ m) in
    let equal : length ys ≡ length xs = omega (arith, to, length-within xs ys (new_from_distinct xs odd.different) (λ v m. same v ∙ m)) in (
      record { three = subst (λ k. 3 ≤ k) (sym equal) odd.three; odd = ap (λ k. k % 2) equal ∙ odd.odd; ascending = up },
      all_holds (λ v. (1 ≤ v) × (v ≤ n)) ys (λ v m. range xs v odd.in_range (sym (same v) ∙ m)),
    )
  where
    range : (ms : List ℕ) (v : ℕ) → All (λ w. (1 ≤ w) × (w ≤ n)) ms → holds ms v ≡ true → (1 ≤ v) × (v ≤ n)
    range ms v all m = holds_all (λ w. (1 ≤ w) × (w ≤ n)) ms v all m

-- the vertices of a node have one outermost node
pub one_outermost : (n : ℕ) (bs : List Blossom) (x v w : ℕ) → IsNested n bs → is_node n bs x ≡ true → holds (members_of bs x) v ≡ true → holds (members_of bs x) w ≡ true
    → outermost bs v ≡ outermost bs w
one_outermost n [] x v w h k mv mw = grind (arith, nat_tests)
one_outermost n (b ∷ older) x v w h k mv mw = grind (
  arith,
  nat_tests,
  node_before n b older x,
  member_vertex n older x v h.1,
  member_vertex n older x w h.1,
  member_by_ring n older b v h,
  member_by_ring n older b w h,
  one_outermost n older x v w h.1,
)

-- a newer blossom has all vertices of an older node or none
one_side : (n : ℕ) (b : Blossom) (older : List Blossom) (y v w : ℕ) → IsNested n (b ∷ older) → is_node n older y ≡ true → holds (members_of older y) v ≡ true
    → holds (members_of older y) w ≡ true → holds b.members v ≡ holds b.members w
one_side n b older y v w h k mv mw =
    member_by_ring n older b v h (member_vertex n older y v h.1 k mv) ∙ ap (in_ring b.ring) (one_outermost n older y v w h.1 k mv mw)
    ∙ sym (member_by_ring n older b w h (member_vertex n older y w h.1 k mw))

turned : (xs ys : List ℕ) → AreLaminar xs ys → AreLaminar ys xs
turned xs ys h = ⊎_elim
    (λ f. inr (inl f))
    (λ g. ⊎_elim (λ f. inl f) (λ f. inr (inr (λ v m. false_from_ne_true (holds xs v) (λ e. both_ways (holds ys v) (f v e) m)))) g)
    h

-- a newer blossom holds an older node, or they have no vertex in common
pub newer_holds_or_misses : (n : ℕ) (b : Blossom) (older : List Blossom) (y : ℕ) → IsNested n (b ∷ older) → is_node n older y ≡ true
    → HoldsOrMisses b.members (members_of older y)
newer_holds_or_misses n b older y h k = go (members_of older y) (λ v w mv mw. one_side n b older y v w h k mv mw)
  where
    go : (ys : List ℕ) → ((v w : ℕ) → holds ys v ≡ true → holds ys w ≡ true → holds b.members v ≡ holds b.members w) → HoldsOrMisses b.members ys
    go [] same = inl (λ v m. absurd (both_ways false refl m))
    go (z ∷ zs) same =
        by_test (holds b.members z)
        (λ e. inl (λ v m. same v z m (first_in z zs) ∙ e))
        (λ e. inr (λ v m. false_from_ne_true (holds (z ∷ zs) v) (λ q. both_ways (holds b.members v) (same v z q (first_in z zs) ∙ e) m)))

newer_laminar : (n : ℕ) (b : Blossom) (older : List Blossom) (y : ℕ) → IsNested n (b ∷ older) → is_node n older y ≡ true → AreLaminar b.members (members_of older y)
newer_laminar n b older y h k = ⊎_elim (λ f. inl f) (λ f. inr (inr f)) (newer_holds_or_misses n b older y h k)

-- of any two nodes one holds the other, or they have no vertex in common
pub members_laminar : (n : ℕ) (bs : List Blossom) (x y : ℕ) → IsNested n bs → is_node n bs x ≡ true → is_node n bs y ≡ true → AreLaminar (members_of bs x) (members_of bs y)
members_laminar n [] x y h kx ky =
    by_test (eqb x y)
    (λ e. inl (λ v m. subst (λ z. holds (z ∷ []) v ≡ true) (sym (eqb-true x y e)) m))
    (λ e. inr (inr (λ v m. false_from_ne_true (holds (y ∷ []) v) (λ q. both_ways (eqb x y) e (same v m q)))))
  where
    same : (v : ℕ) → holds (x ∷ []) v ≡ true → holds (y ∷ []) v ≡ true → eqb x y ≡ true
    same v m q = eq-eqb x y (only_one x v m ∙ sym (only_one y v q))
members_laminar n (b ∷ older) x y h kx ky =
    by_test (eqb b.node x)
    (λ ex. rw ex (by_test (eqb b.node y)
    (λ ey. rw ey (inl (λ v m. m)))
    (λ ey. rw ey (newer_laminar n b older y h (node_before n b older y ey ky)))))
    (λ ex. rw ex (by_test (eqb b.node y)
    (λ ey. rw ey (turned b.members (members_of older x) (newer_laminar n b older x h (node_before n b older x ex kx))))
    (λ ey. rw ey (members_laminar n older x y h.1 (node_before n b older x ex kx) (node_before n b older y ey ky)))))
