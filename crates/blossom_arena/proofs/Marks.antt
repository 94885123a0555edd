-- What the table of parents has for each number, and what a shrink and a dissolve make of it.
use Rattle.graph_theory.proofs.Common.{nat_tests, ◌≡◌, ℕ, ◌+◌, ◌≤◌, ◌<◌, true, false, eqb, cond, List, [], ◌∷◌, length, refl, sym, ap, ◌∙◌, arith, get_or}
use Rattle.graph_theory.proofs.Common.{set, slice_index, eqb-true, or_from, false_from_ne_true, holds, most_blossoms}
use Rattle.blossom_arena.specs.declared.links.Link.{Link}
use Rattle.blossom_arena.specs.declared.arena.Arena.TheInside.{Inside}
use Rattle.blossom_arena.specs.Tables.{filled}
use Rattle.blossom_arena.specs.Family.{Blossom, nodes_of, in_ring, names_of, is_vertex, is_node, is_outermost, ring_of, made_of, without, IsCircuit, IsNested}
use Rattle.blossom_arena.specs.Fields.{IsSound, blossoms_of, parent_of, parent_entry}
use Rattle.blossom_arena.proofs.Lists.{by_test, AllNew, set_at}
use Rattle.blossom_arena.proofs.Nested.{circuit_node, outermost_parts, new_is_node, new_no_child, node_range, name_range, name_no_vertex, names_new, child_is_node}
use Rattle.blossom_arena.proofs.Parents.{free_parent, parent_is, ring_child}
use Rattle.blossom_arena.proofs.Taken.{node_without, parent_without}
use Rattle.blossom_arena.proofs.Writes.{length-filled, filled_at}

-- the entry of a node is its parent
pub entry_node : (n : ℕ) (bs : List Blossom) (x : ℕ) → is_node n bs x ≡ true → parent_entry n bs x ≡ parent_of bs x
entry_node n bs x e = ap (λ q. cond q (parent_of bs x) 1) e

-- and other numbers have a mark
pub entry_none : (n : ℕ) (bs : List Blossom) (x : ℕ) → is_node n bs x ≡ false → parent_entry n bs x ≡ 1
entry_none n bs x e = ap (λ q. cond q (parent_of bs x) 1) e

pub parent_at : (a : Inside) → IsSound a → (x : ℕ) → is_node a.vertex_count (blossoms_of a) x ≡ true → slice_index a.parents.items x ≡ parent_of (blossoms_of a) x
parent_at a s x is = s.parents x (node_range a.vertex_count (blossoms_of a) x s.family.nested is).1 ∙ entry_node a.vertex_count (blossoms_of a) x is

-- each entry is a number that the table has a place for
pub entry_low : (n : ℕ) (bs : List Blossom) (x : ℕ) → IsNested n bs → 1 ≤ n → parent_entry n bs x < n + most_blossoms n + 1
entry_low n bs x h some = grind (arith, nat_tests, name_range n bs (parent_of bs x) h, parent_is bs x)

-- no number above the room is a node
pub none_above : (n : ℕ) (bs : List Blossom) (x : ℕ) → IsNested n bs → n + most_blossoms n < x → is_outermost n bs x ≡ false
none_above n bs x h high = false_from_ne_true (is_outermost n bs x) (λ e. absurd (omega (arith, (node_range n bs x h (outermost_parts n bs x e).0).1, high)))

-- an entry once a ring's nodes have got theirs and the blossom's node has
written : (t ns : List ℕ) (e node m x : ℕ) → node < length t → x < length t
    → get_or (set (filled t ns e) node m) x 0 ≡ cond (eqb node x) m (cond (holds ns x) e (get_or t x 0))
written t ns e node m x low high =
    set_at (filled t ns e) node x m 0 (omega (arith, low, length-filled t ns e)) ∙ ap (cond (eqb node x) m) (filled_at t ns e x high)

-- a circuit's nodes get the new blossom as their parent, and the other entries stay
grown : (n : ℕ) (bs : List Blossom) (ring : List Link) (node x : ℕ) → IsCircuit n bs ring → eqb node x ≡ false
    → cond (in_ring ring x) node (parent_entry n bs x) ≡ parent_entry n (made_of bs ring node ∷ bs) x
grown n bs ring node x c ne = grind (arith, nat_tests, circuit_node n bs ring x c)

pub shrunk_entry : (n : ℕ) (bs : List Blossom) (ring : List Link) (node : ℕ) (t : List ℕ) (x : ℕ) → IsNested n (made_of bs ring node ∷ bs) → node < length t → x < length t
    → get_or t x 0 ≡ parent_entry n bs x → get_or (set (filled t (nodes_of ring) node) node 0) x 0 ≡ parent_entry n (made_of bs ring node ∷ bs) x
shrunk_entry n bs ring node t x h low high was =
    let b : Blossom = made_of bs ring node in
    grind (arith, nat_tests, written t (nodes_of ring) node node 0 x low high, grown n bs ring node x h.0.circuit, new_is_node n b bs, free_parent (b ∷ bs) node (new_no_child n b bs h))

-- a blossom that is taken away is no node
gone : (bs : List Blossom) (a : ℕ) → AllNew (names_of bs) → holds (names_of (without bs a)) a ≡ false
gone [] a new = refl
gone (b ∷ older) a new = grind (arith, nat_tests, new.0, gone older a new.1)

-- its ring's nodes have no parent then, and the other entries stay
left_over : (n : ℕ) (bs : List Blossom) (node x : ℕ) → IsNested n bs → eqb node x ≡ false
    → cond (in_ring (ring_of bs node) x) 0 (parent_entry n bs x) ≡ parent_entry n (without bs node) x
left_over n bs node x h ne = grind (arith, nat_tests, node_without n bs node x ne, parent_without n bs node x h, child_is_node n bs x h, ring_child bs node x)

pub dissolved_entry : (n : ℕ) (bs : List Blossom) (node : ℕ) (t : List ℕ) (x : ℕ) → IsNested n bs → holds (names_of bs) node ≡ true → node < length t → x < length t
    → get_or t x 0 ≡ parent_entry n bs x → get_or (set (filled t (nodes_of (ring_of bs node)) 0) node 1) x 0 ≡ parent_entry n (without bs node) x
dissolved_entry n bs node t x h named low high was =
    let ns : List ℕ = nodes_of (ring_of bs node) in
    let none : is_node n (without bs node) node ≡ false =
    or_from (is_vertex n node) (holds (names_of (without bs node)) node) (name_no_vertex n bs node h named) (gone bs node (names_new n bs h)) in
    written t ns 0 node 1 x low high ∙ by_test (eqb node x)
    (λ e. rw e (sym (ap (parent_entry n (without bs node)) (sym (eqb-true node x e)) ∙ entry_none n (without bs node) node none)))
    (λ e. ap (λ q. cond q 1 (cond (holds ns x) 0 (get_or t x 0))) e ∙ ap (cond (holds ns x) 0) was ∙ left_over n bs node x h e)
