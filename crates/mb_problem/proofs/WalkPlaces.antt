-- The vertices and the edges of a walk, by their places.
use Rattle.graph_theory.proofs.Common.{◌≡◌, ℕ, zero, suc, ◌+◌, ◌<◌, true, List, [], ◌∷◌, length, get_or, take, refl, ap, arith, add-one, Multigraph, edge_of}
use Rattle.graph_theory.proofs.Common.{IsEdgeNumber, touches, other_end, IsWalk, walk_left, walk_vertices}

pub first_vertex : (g : Multigraph) (v : ℕ) (es : List ℕ) → get_or (walk_vertices g v es) 0 0 ≡ v
first_vertex g v [] = refl
first_vertex g v (e ∷ es) = refl

after : (g : Multigraph) (v : ℕ) (es : List ℕ) (k : ℕ) → k < length es → get_or (walk_vertices g v es) (suc k) 0 ≡ other_end (edge_of g (get_or es k 0)) (get_or (walk_vertices g v es) k 0)
after g v [] k b = absurd (omega arith)
after g v (e ∷ es) zero b = first_vertex g (other_end (edge_of g e) v) es
after g v (e ∷ es) (suc k) b = after g (other_end (edge_of g e) v) es k (omega arith)

pub next_vertex : (g : Multigraph) (v : ℕ) (es : List ℕ) (k : ℕ) → k < length es → get_or (walk_vertices g v es) (k + 1) 0 ≡ other_end (edge_of g (get_or es k 0))
    (get_or (walk_vertices g v es) k 0)
next_vertex g v es k b = rw add-one (after g v es k b)

-- each edge of a walk has the vertex that stands at its place as an end
pub edge_there : (g : Multigraph) (v : ℕ) (es : List ℕ) (k : ℕ) → IsWalk g v es → k < length es → IsEdgeNumber g (get_or es k 0)
    × (touches (edge_of g (get_or es k 0)) (get_or (walk_vertices g v es) k 0) ≡ true)
edge_there g v [] k walk b = absurd (omega arith)
edge_there g v (e ∷ es) zero walk b = (walk.0, walk.1)
edge_there g v (e ∷ es) (suc k) walk b = edge_there g (other_end (edge_of g e) v) es k walk.2 (omega arith)

-- the vertices that a walk leaves are those of the walk without its last edge
pub left-front : (g : Multigraph) (v : ℕ) (es : List ℕ) (k : ℕ) → suc k ≡ length es → walk_left g v es ≡ walk_vertices g v (take k es)
left-front g v [] k size = absurd (omega arith)
left-front g v (e ∷ []) zero size = refl
left-front g v (e ∷ f ∷ es) zero size = absurd (omega arith)
left-front g v (e ∷ es) (suc k) size = ap (λ (vs : List ℕ). v ∷ vs) (left-front g (other_end (edge_of g e) v) es k (omega arith))
