-- The duals along a chain, added up.
use Rattle.graph_theory.proofs.Common.{◌≡◌, ℕ, ◌+◌, ◌<◌, ◌≤◌, ℤ, pos, ◌+ℤ◌, true, false, cond, List, [], ◌∷◌, ◌++◌, length, refl, ap, arith, ints}
use Rattle.graph_theory.proofs.Common.{AllByRecursion, holds, most_blossoms}
use Rattle.graph_theory.specs.declared.limits.TheConstants.{GRAPH_VERTEX_LIMIT}
use Rattle.blossom_arena.specs.Family.{Blossom, IsNested, is_vertex, chain_of}
use Rattle.blossom_arena.specs.Slack.{held_by, total_of}
use Rattle.blossom_arena.proofs.Lists.{each_from}
use Rattle.blossom_arena.proofs.Nested.{blossoms_few, node_range}
use Rattle.blossom_arena.proofs.Parents.{chain_node, chain_short}

pub total-append : (y : ℕ → ℤ) (xs : List ℕ) (a : ℕ) → total_of y (xs ++ a ∷ []) ≡ y a +ℤ total_of y xs
total-append y [] a = refl
total-append y (x ∷ xs) a = let r : total_of y (xs ++ a ∷ []) ≡ y a +ℤ total_of y xs = total-append y xs a in omega (arith, ints)

-- a chain has the nodes that hold its vertex
pub chain_dual_sum : (y : ℕ → ℤ) (bs : List Blossom) (v : ℕ) → total_of y (chain_of bs v) ≡ y v +ℤ held_by y bs v
chain_dual_sum y [] v = omega (arith, ints)
chain_dual_sum y (b ∷ older) v = elim (holds b.members v) as (λ q. total_of y (cond q (chain_of older v ++ b.node ∷ []) (chain_of older v)) ≡ y v +ℤ
    (cond q (y b.node) (pos 0) +ℤ held_by y older v)) [
      | true ↦ omega (arith, ints, total-append y (chain_of older v) b.node, chain_dual_sum y older v)
      | false ↦ omega (arith, ints, chain_dual_sum y older v)
    ]

-- one step: what is added is no longer to come
pub total_step : (y : ℕ → ℤ) (xs ys : List ℕ) (a : ℕ) (sum next dual whole : ℤ) → xs ≡ a ∷ ys → dual ≡ y a → next ≡ sum +ℤ dual
    → sum +ℤ total_of y xs ≡ whole → next +ℤ total_of y ys ≡ whole
total_step y xs ys a sum next dual whole e d s so =
    let first : total_of y xs ≡ y a +ℤ total_of y ys = ap (total_of y) e in
    omega (arith, ints, first, d, s, so)

-- a chain is of nodes that have a dual, and no longer than there are vertices
pub chain_places : (n m : ℕ) (bs : List Blossom) (v : ℕ) → IsNested n bs → is_vertex n v ≡ true → n + most_blossoms n < m → AllByRecursion (λ a. a < m) (chain_of bs v)
chain_places n m bs v h iv enough = each_from (λ a. a < m) (chain_of bs v) (λ x e. omega (arith, (node_range n bs x h (chain_node n bs v x iv e)).1, enough))

pub chain_few : (n : ℕ) (bs : List Blossom) (v : ℕ) → n ≤ GRAPH_VERTEX_LIMIT → IsNested n bs → length (chain_of bs v) ≤ GRAPH_VERTEX_LIMIT
chain_few n bs v few h = omega (arith, few, chain_short bs v, blossoms_few n bs h)
