-- One step more of a walk along the edges of an instance.
use Rattle.graph_theory.proofs.Common.{◌≡◌, ℕ, ◌+◌, ◌<◌, ◌≤◌, List, [], ◌∷◌, length, get_or, sym, ap, ◌∙◌, arith, subst, Multigraph, edge_of, IsEdgeNumber}
use Rattle.graph_theory.proofs.Common.{other_end, walk_vertices, IsWalk, other_end-within, start-within}
use Rattle.mb_problem.specs.Network.{Network, IsNetwork, vertices, graph_of}
use Rattle.mb_problem.proofs.EdgeLemmas.{edge-within, network-graph}
use Rattle.mb_problem.proofs.WalkPlaces.{next_vertex}

pub step-next : (g : Multigraph) (v : ℕ) (es : List ℕ) (k at e to : ℕ) → k < length es → at ≡ get_or (walk_vertices g v es) k 0 → e ≡ get_or es k 0 → to ≡ other_end (edge_of g e) at → to
    ≡ get_or (walk_vertices g v es) (k + 1) 0
step-next g v es k at e to below here edge there =
    there ∙ ap (λ (f : ℕ). other_end (edge_of g f) at) edge ∙ ap (λ (w : ℕ). other_end (edge_of g (get_or es k 0)) w) here ∙ sym (next_vertex g v es k below)

pub step-within : (i : Network) (at e to : ℕ) → IsNetwork i → IsEdgeNumber (graph_of i) e → to ≡ other_end (edge_of (graph_of i) e) at → (1 ≤ to) × (to ≤ vertices i)
step-within i at e to ok number there =
    subst (λ (w : ℕ). (1 ≤ w) × (w ≤ vertices i)) (sym there) (other_end-within (vertices i) (edge_of (graph_of i) e) at (edge-within i e ok number))

-- the vertex that an edge of a walk leads to: the next one in order, and a vertex of the instance
pub step-facts : (i : Network) (v : ℕ) (es : List ℕ) (k at e to : ℕ) → IsNetwork i → k < length es → at ≡ get_or (walk_vertices (graph_of i) v es) k 0 → e ≡ get_or es k 0
    → IsEdgeNumber (graph_of i) e → to ≡ other_end (edge_of (graph_of i) e) at → (to ≡ get_or (walk_vertices (graph_of i) v es) (k + 1) 0) × (1 ≤ to) × (to ≤ vertices i)
step-facts i v es k at e to ok below here edge number there =
    let within = step-within i at e to ok number there in
    (step-next (graph_of i) v es k at e to below here edge there, within.0, within.1)

-- a walk of at least one edge starts at a vertex
pub walk-start : (i : Network) (v : ℕ) (es : List ℕ) → IsNetwork i → IsWalk (graph_of i) v es → 1 ≤ length es → (1 ≤ v) × (v ≤ vertices i)
walk-start i v [] ok walk some = absurd (omega arith)
walk-start i v (e ∷ es) ok walk some = start-within (graph_of i) v e es (network-graph i ok).ends walk
