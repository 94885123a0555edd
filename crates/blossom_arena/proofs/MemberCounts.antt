-- How many members the blossoms of a family have in all: the newest has n at most, the one before it n - 2, and so on, since each that
-- is made later leaves two outermost nodes fewer at least.
use Rattle.graph_theory.proofs.Common.{◌≡◌, ℕ, suc, ◌+◌, ◌-◌, ◌*◌, ◌≤◌, true, List, [], ◌∷◌, length, refl, sym, ap, ◌∙◌, subst, arith, length-append}
use Rattle.graph_theory.proofs.Common.{sum_by, not, slice_index, eq-eqb, flat_map-cons, length-map, sum_by-cons, holds}
use Rattle.std.specs.Prelude.{filter}
use Rattle.blossom_arena.specs.declared.links.Link.{Link}
use Rattle.blossom_arena.specs.Family.{Blossom, in_ring, is_outermost, members_of, nodes_of, union_of, IsNested}
use Rattle.blossom_arena.specs.Tables.{links_of}
use Rattle.blossom_arena.proofs.Lists.{AllNew, later_in}
use Rattle.blossom_arena.proofs.Nested.{outermost_parts, outer_nodes, holds-outer_nodes, new-outer_nodes, length-outer_nodes, blossoms_few}
use Rattle.blossom_arena.proofs.Sets.{members_here, union_within, union_odd, members_odd}
use Rattle.blossom_arena.proofs.Writes.{nodes-links}

-- the members of all blossoms
abbrev pub member_sum : List Blossom → ℕ
member_sum bs = sum_by (λ (b : Blossom). length b.members) bs

-- the members of the newest blossom and the other outermost nodes, which have a vertex each at least, are n at most
newest_size : (n : ℕ) (b : Blossom) (older : List Blossom) → IsNested n (b ∷ older) → length b.members + length (outer_nodes n (b ∷ older)) ≤ n + 1
newest_size n b older h =
    let bs : List Blossom = b ∷ older in
    let others : List ℕ = filter (λ a. not (in_ring b.ring a)) (outer_nodes n older) in
    let link : ℕ → Link = λ a. record { node = a; edge = slice_index [] a } in
    let all : List Link = links_of [] (outer_nodes n bs) in
    let nodes : nodes_of all ≡ outer_nodes n bs = nodes-links [] (outer_nodes n bs) in
    let outer : (a : ℕ) → in_ring all a ≡ true → is_outermost n bs a ≡ true = λ a r. sym (holds-outer_nodes n bs a h) ∙ ap (λ xs. holds xs a) (sym nodes) ∙ r in
    let most : length (union_of bs all) ≤ n = union_within n bs all h (subst AllNew (sym nodes) (new-outer_nodes n bs h)) outer in
    let split : length (union_of bs all) ≡ length b.members + length (union_of bs (links_of [] others)) =
    ap length (flat_map-cons (λ (k : Link). members_of bs k.node) (link b.node) (links_of [] others)) ∙ length-append (members_of bs b.node) (union_of bs (links_of [] others))
    ∙ ap (λ ms. length ms + length (union_of bs (links_of [] others))) (members_here b older b.node (eq-eqb b.node b.node refl)) in
    let rest = union_odd bs (links_of [] others)
    (λ a r. members_odd n bs a h (outermost_parts n bs a (outer a (later_in b.node (nodes_of (links_of [] others)) a r))).0) in
    omega (arith, most, split, rest.1, length-map others link)

-- Where 2r + 1 outermost nodes are left at least, the newest blossom has n - 2r members at most, the one before it n - 2r - 2, and so on.
members_within : (n r : ℕ) (bs : List Blossom) → IsNested n bs → 2 * r + 1 ≤ length (outer_nodes n bs) → member_sum bs + length bs * (length bs + 2 * r) ≤ length bs * (n + 1)
members_within n r [] h left = omega arith
members_within n r (b ∷ older) h left =
    let more : 2 * (r + 1) + 1 ≤ length (outer_nodes n older) =
    omega (arith, left, length-outer_nodes n older h.1, length-outer_nodes n (b ∷ older) h, h.0.circuit.at_least_three, sum_by-cons (λ (c : Blossom). length c.ring) b older) in
    plain _ _ (length older) _ _ (newest_size n b older h) left (sum_by-cons (λ (c : Blossom). length c.members) b older) (members_within n (r + 1) older h.1 more)
  where
    plain : (s t k all o : ℕ) → s + o ≤ n + 1 → 2 * r + 1 ≤ o → all ≡ s + t → t + k * (k + 2 * (r + 1)) ≤ k * (n + 1) → all + suc k * (suc k + 2 * r) ≤ suc k * (n + 1)
    plain s t k all o a b e f = omega (arith, a, b, e, f)

-- Four times the members of all blossoms are at most n * n + 3 * n.
pub members_most : (n : ℕ) (bs : List Blossom) → IsNested n bs → 4 * member_sum bs ≤ n * n + 3 * n
members_most n [] h = omega arith
members_most n (b ∷ older) h =
    let m : ℕ = n - 2 * length (b ∷ older) in
    let size : n ≡ 2 * length (b ∷ older) + m = omega (arith, blossoms_few n (b ∷ older) h) in
    plain (member_sum (b ∷ older)) (length (b ∷ older)) m n size (members_within n 0 (b ∷ older) h (omega arith))
  where
    plain : (t k m n : ℕ) → n ≡ 2 * k + m → t + k * (k + 0) ≤ k * (n + 1) → 4 * t ≤ n * n + 3 * n
    plain t k m n e f = subst (λ x. t + k * (k + 0) ≤ k * (x + 1) → 4 * t ≤ x * x + 3 * x) (sym e) (λ g. omega (arith, g)) f
