-- The tests of a node by the fields.
use Rattle.graph_theory.proofs.Common.{◌≡◌, ℕ, ◌≤◌, ◌<◌, true, false, not, eqb, List, sym, ap, ◌∙◌, arith, is_some, nat_tests, holds}
use Rattle.std.specs.Cmp.{both_ways as same_tests}
use Rattle.slab.specs.Slab.{get}
use Rattle.blossom_arena.specs.declared.arena.Arena.TheInside.{Inside}
use Rattle.blossom_arena.specs.Family.{Blossom, names_of, is_node, is_outermost, IsNested}
use Rattle.blossom_arena.specs.Fields.{IsSound, blossoms_of, order_of, key_of, parent_of, parent_entry}
use Rattle.blossom_arena.proofs.Nested.{name_range}
use Rattle.blossom_arena.proofs.Parents.{free_parent}
use Rattle.blossom_arena.proofs.Opened.{child_parent}
use Rattle.blossom_arena.proofs.Sound.{order_names}
use Rattle.blossom_arena.proofs.Stays.{each_some}

-- no blossom has the number of a vertex, or 0
pub name_low : (n : ℕ) (bs : List Blossom) (x : ℕ) → IsNested n bs → x ≤ n → false ≡ holds (names_of bs) x
name_low n bs x h low = grind (arith, nat_tests, name_range n bs x h)

pub name_high : (a : Inside) (x : ℕ) → IsSound a → a.vertex_count < x → is_some (get a.kept (key_of a.vertex_count x)) ≡ holds (names_of (blossoms_of a)) x
name_high a x s high =
    same_tests (is_some (get a.kept (key_of a.vertex_count x))) (holds (names_of (blossoms_of a)) x)
    (λ some. ap (λ xs. holds xs x) (order_names a) ∙ s.only x high some)
    (λ m. each_some a.vertex_count a.kept (order_of a) x s.kept (sym (ap (λ xs. holds xs x) (order_names a)) ∙ m))

-- what is no vertex is a node where it is a blossom
pub node_high : (n : ℕ) (bs : List Blossom) (x : ℕ) → n < x → holds (names_of bs) x ≡ is_node n bs x
node_high n bs x high = grind (arith, nat_tests)

pub node_low : (n : ℕ) (bs : List Blossom) (x : ℕ) → IsNested n bs → x ≤ n → not (eqb x 0) ≡ is_node n bs x
node_low n bs x h low = grind (arith, nat_tests, name_low n bs x h low)

pub outer_test : (n : ℕ) (bs : List Blossom) (x : ℕ) → IsNested n bs → is_node n bs x ≡ true → eqb (parent_of bs x) 0 ≡ is_outermost n bs x
outer_test n bs x h node = grind (arith, nat_tests, child_parent n bs x h, free_parent bs x)

-- the entry of a number tells whether it is an outermost node
pub outer_entry : (n : ℕ) (bs : List Blossom) (x : ℕ) → IsNested n bs → eqb (parent_entry n bs x) 0 ≡ is_outermost n bs x
outer_entry n bs x h = grind (arith, nat_tests, outer_test n bs x h)
