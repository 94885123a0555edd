-- The laws of a family, from the lemmas about its list of blossoms.
use Rattle.graph_theory.proofs.Common.{◌≡◌, ℕ, ◌≤◌, true, eqb, List, [], ◌∷◌, length, sym, ap, ◌∙◌, arith, eqb-true, both_ways, holds, AreSame}
use Rattle.graph_theory.proofs.Common.{only-member as only_one}
use Rattle.blossom_arena.specs.declared.links.Link.{Link}
use Rattle.blossom_arena.specs.Family.{Blossom, is_node, in_ring, nodes_of, members_of, IsNested}
use Rattle.blossom_arena.specs.Laws.{SetsAreOdd, SetsHaveForm, SetsAreLaminar, SetsDiffer, SlackByNodes, ListedSlackByNodes}
use Rattle.blossom_arena.proofs.Lists.{by_test, AllNew, new_from_distinct, first_in, later_in}
use Rattle.blossom_arena.proofs.Nested.{circuit_outer, circuit_node, node_before}
use Rattle.blossom_arena.proofs.Sets.{members_some, in_union, outermost_by_member}
use Rattle.blossom_arena.proofs.Forms.{members_form, sorted_form, members_laminar, one_outermost}
use Rattle.blossom_arena.proofs.Slacks.{slack_across, slack_listed}

some_member : (xs : List ℕ) → 1 ≤ length xs → (v : ℕ) × (holds xs v ≡ true)
some_member [] some = absurd (omega arith)
some_member (x ∷ xs) some = (x, first_in x xs)

-- a ring has two nodes that differ
two_differ : (ring : List Link) → 3 ≤ length ring → AllNew (nodes_of ring) → ((a c : ℕ) → in_ring ring a ≡ true → in_ring ring c ≡ true → a ≡ c) → ⊥
two_differ [] three new one = absurd (omega arith)
two_differ (l ∷ []) three new one = absurd (omega arith)
two_differ (l ∷ m ∷ rest) three new one =
    let same : m.node ≡ l.node = one m.node l.node (later_in l.node (nodes_of (m ∷ rest)) m.node (first_in m.node (nodes_of rest))) (first_in l.node (nodes_of (m ∷ rest))) in
    both_ways (holds (nodes_of (m ∷ rest)) l.node) new.0 (ap (in_ring (m ∷ rest)) (sym same) ∙ first_in m.node (nodes_of rest))

-- so a newer blossom has other vertices than an older node, whose vertices lie in one outermost node
newer_differs : (n : ℕ) (b : Blossom) (older : List Blossom) (y : ℕ) → IsNested n (b ∷ older) → is_node n older y ≡ true → AreSame b.members (members_of older y) → ⊥
newer_differs n b older y h k same = two_differ b.ring h.0.circuit.at_least_three (new_from_distinct (nodes_of b.ring) h.0.circuit.different) one
  where
    inside : (a v : ℕ) → in_ring b.ring a ≡ true → holds (members_of older a) v ≡ true → holds (members_of older y) v ≡ true
    inside a v r m = sym (same v) ∙ ap (λ ms. holds ms v) h.0.union ∙ in_union older b.ring a v r m

    one : (a c : ℕ) → in_ring b.ring a ≡ true → in_ring b.ring c ≡ true → a ≡ c
    one a c ra rc =
        let v = some_member (members_of older a) (members_some n older a h.1 (circuit_node n older b.ring a h.0.circuit ra)) in
        let w = some_member (members_of older c) (members_some n older c h.1 (circuit_node n older b.ring c h.0.circuit rc)) in
        sym (outermost_by_member n older a v.0 h.1 (circuit_outer n older b.ring a h.0.circuit ra) v.1)
        ∙ one_outermost n older y v.0 w.0 h.1 k (inside a v.0 ra v.1) (inside c w.0 rc w.1)
        ∙ outermost_by_member n older c w.0 h.1 (circuit_outer n older b.ring c h.0.circuit rc) w.1

-- two nodes of the same vertices are one
pub members_differ : (n : ℕ) (bs : List Blossom) (x y : ℕ) → IsNested n bs → is_node n bs x ≡ true → is_node n bs y ≡ true
    → AreSame (members_of bs x) (members_of bs y) → x ≡ y
members_differ n [] x y h kx ky same = sym (only_one y x (sym (same x) ∙ first_in x []))
members_differ n (b ∷ older) x y h kx ky same =
    by_test (eqb b.node x)
    (λ ex. by_test (eqb b.node y)
    (λ ey. sym (eqb-true b.node x ex) ∙ eqb-true b.node y ey)
    (λ ey. absurd (newer_differs n b older y h (node_before n b older y ey ky) (λ v. grind (arith, same v)))))
    (λ ex. by_test (eqb b.node y)
    (λ ey. absurd (newer_differs n b older x h (node_before n b older x ex kx) (λ v. grind (arith, same v))))
    (λ ey. members_differ n older x y h.1 (node_before n b older x ex kx) (node_before n b older y ey ky) (λ v. grind (arith, same v))))

pub sets_odd : SetsAreOdd
sets_odd f b good blossom = members_form f.vertex_count f.blossoms b good.nested blossom

pub sets_form : SetsHaveForm
sets_form f b set good blossom ascending same =
    let form = sorted_form f.vertex_count (members_of f.blossoms b) set (members_form f.vertex_count f.blossoms b good.nested blossom) ascending same in
    (form.0, record { ascending = ascending; in_range = form.1 })

pub sets_laminar : SetsAreLaminar
sets_laminar f a b good ka kb = members_laminar f.vertex_count f.blossoms a b good.nested ka kb

pub sets_differ : SetsDiffer
sets_differ f a b good ka kb same = members_differ f.vertex_count f.blossoms a b good.nested ka kb same

pub slack_by_nodes : SlackByNodes
slack_by_nodes f e within = slack_across f.vertex_count f.duals f.blossoms e within

pub listed_by_nodes : ListedSlackByNodes
listed_by_nodes f sets e within listed = slack_listed f.vertex_count f.duals f.blossoms sets e within listed
