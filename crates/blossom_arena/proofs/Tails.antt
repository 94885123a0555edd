-- The last vertex of an outermost node is no node's vertex but as its last: runs that are joined after it break no other.
use Rattle.graph_theory.proofs.Common.{nat_tests, ◌≡◌, ℕ, ◌≤◌, true, false, eqb, List, [], ◌∷◌, ◌++◌, length, refl, ap, ◌∙◌, subst, arith, length-append}
use Rattle.graph_theory.proofs.Common.{both_ways, append-nil, flat_map-cons, holds}
use Rattle.blossom_arena.specs.declared.links.Link.{Link}
use Rattle.blossom_arena.specs.Family.{Blossom, nodes_of, in_ring, is_node, is_outermost, members_of, union_of, IsNested}
use Rattle.blossom_arena.specs.Tables.{last_of}
use Rattle.blossom_arena.proofs.Lists.{by_test, AllNew, first_in, later_in}
use Rattle.blossom_arena.proofs.Nested.{circuit_outer, circuit_node, outermost_parts, node_before, outermost_before}
use Rattle.blossom_arena.proofs.Sets.{members_here, members_new, members_some, member_vertex, member_by_ring, outermost_by_member}

-- all but the last
abbrev pub front : List ℕ → List ℕ
front [] = []
front (x ∷ []) = []
front (x ∷ y ∷ rest) = x ∷ front (y ∷ rest)

pub last_cons_in : (x : ℕ) (xs : List ℕ) → holds (x ∷ xs) (last_of x xs) ≡ true
last_cons_in x [] = first_in x []
last_cons_in x (y ∷ ys) = grind (arith, nat_tests, last_cons_in y ys)

pub last_in : (d : ℕ) (xs : List ℕ) → 1 ≤ length xs → holds xs (last_of d xs) ≡ true
last_in d [] h = absurd (omega arith)
last_in d (x ∷ xs) h = last_cons_in x xs

pub front_sub : (xs : List ℕ) (v : ℕ) → holds (front xs) v ≡ true → holds xs v ≡ true
front_sub [] v e = e
front_sub (x ∷ []) v e = absurd (both_ways false refl e)
front_sub (x ∷ y ∷ rest) v e = grind (arith, nat_tests, front_sub (y ∷ rest) v)

pub last_not_front : (d : ℕ) (xs : List ℕ) → AllNew xs → holds (front xs) (last_of d xs) ≡ false
last_not_front d [] h = refl
last_not_front d (x ∷ []) h = refl
last_not_front d (x ∷ y ∷ rest) h = grind (arith, nat_tests, h.0, last_cons_in y rest, last_not_front x (y ∷ rest) h.1)

pub last_append : (d e : ℕ) (xs ys : List ℕ) → 1 ≤ length ys → last_of d (xs ++ ys) ≡ last_of e ys
last_append d e [] [] h = absurd (omega arith)
last_append d e [] (y ∷ ys) h = refl
last_append d e (x ∷ xs) ys h = last_append x e xs ys h

-- the node of a circuit whose last vertex is the circuit's
pub record HasLast (bs : List Blossom) (ring : List Link) : Type 0 where
  pub node : ℕ
  pub within : in_ring ring node ≡ true
  pub last : last_of 0 (union_of bs ring) ≡ last_of 0 (members_of bs node)

pub last_union : (bs : List Blossom) (ring : List Link) → 1 ≤ length ring → ((a : ℕ) → in_ring ring a ≡ true → 1 ≤ length (members_of bs a)) → HasLast bs ring
last_union bs [] h each = absurd (omega arith)
last_union bs (l ∷ []) h each = record {
  node = l.node;
  within = first_in l.node [];
  last = ap (last_of 0) (flat_map-cons (λ (l : Link). members_of bs l.node) l [] ∙ append-nil (members_of bs l.node));
}
last_union bs (l ∷ k ∷ ring) h each =
    let rest = last_union bs (k ∷ ring) (omega arith) (λ a r. each a (later_in l.node (nodes_of (k ∷ ring)) a r)) in
    let first = each k.node (later_in l.node (nodes_of (k ∷ ring)) k.node (first_in k.node (nodes_of ring))) in
    let some : 1 ≤ length (union_of bs (k ∷ ring)) =
    omega (arith, ap length (flat_map-cons (λ (l : Link). members_of bs l.node) k ring), length-append (members_of bs k.node) (union_of bs ring), first) in
    record {
      node = rest.node;
      within = later_in l.node (nodes_of (k ∷ ring)) rest.node rest.within;
      last = ap (last_of 0) (flat_map-cons (λ (l : Link). members_of bs l.node) l (k ∷ ring)) ∙ last_append 0 0 (members_of bs l.node) (union_of bs (k ∷ ring)) some ∙ rest.last;
    }

-- in a blossom's run, or in an older node's, the last vertex of an outermost node comes last or not at all
pub tails_apart : (n : ℕ) (bs : List Blossom) (c x : ℕ) → IsNested n bs → is_outermost n bs c ≡ true → is_node n bs x ≡ true
    → holds (front (members_of bs x)) (last_of 0 (members_of bs c)) ≡ false
tails_apart n [] c x h o k = refl
tails_apart n (b ∷ older) c x h o k =
    by_test (eqb b.node c)
    (λ ec.
    let last = last_union older b.ring (omega (arith, h.0.circuit.at_least_three)) (λ a r. members_some n older a h.1 (circuit_node n older b.ring a h.0.circuit r)) in
    let tail : last_of 0 b.members ≡ last_of 0 (members_of older last.node) = ap (last_of 0) h.0.union ∙ last.last in
    by_test (eqb b.node x)
    (λ ex. rw (ec, ex) (last_not_front 0 b.members (subst AllNew (members_here b older c ec) (members_new n (b ∷ older) c h (outermost_parts n (b ∷ older) c o).0))))
    (λ ex. rw (ec, ex, tail) (tails_apart n older last.node x h.1 (circuit_outer n older b.ring last.node h.0.circuit last.within) (node_before n b older x ex k))))
    (λ ec.
    let p = outermost_before n b older c ec o in
    let node = (outermost_parts n older c p.0).0 in
    let z : ℕ = last_of 0 (members_of older c) in
    let has : holds (members_of older c) z ≡ true = last_in 0 (members_of older c) (members_some n older c h.1 node) in
    by_test (eqb b.node x)
    (λ ex. rw (ec, ex)
    (grind (arith, p.1, outermost_by_member n older c z h.1 p.0 has, member_by_ring n older b z h (member_vertex n older c z h.1 node has), front_sub b.members z)))
    (λ ex. rw (ec, ex) (tails_apart n older c x h.1 p.0 (node_before n b older x ex k))))
