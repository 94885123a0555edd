-- The parities of vertices after the turn of negative edges.
use Rattle.mb_problem.proofs.Common.{◌≡◌, ℕ, ◌+◌, ◌*◌, ◌<◌, Bool, true, false, cond, ap, ◌∙◌, arith, List, length, slice_index, sum_to, sum_to-same, edge_at, ends_at, graph_of, vertices}
use Rattle.mb_problem.proofs.Common.{Network, edges-count}
use Rattle.mb_problem.specs.Degrees.{AreDegrees}
use Rattle.join_check.specs.Forests.{is_turned, turned_ends}

one-times : (t : Bool) (x : ℕ) → cond t 1 0 * x ≡ cond t x 0
one-times true x = omega arith
one-times false x = omega arith

-- the degrees by edges of negative weight are the ends that turn
pub turned-degree : (i : Network) (counts ds : List ℕ) (j : ℕ) → AreDegrees i counts ds → ((k : ℕ) → k < length i.edges → slice_index counts k ≡ cond (is_turned i k) 1 0) → j < vertices i
    → slice_index ds j ≡ turned_ends i (j + 1)
turned-degree i counts ds j are each inside =
    let turn : ℕ → ℕ = λ k. cond (is_turned i k) (ends_at (edge_at (graph_of i) k) (j + 1)) 0 in
    let size : length (graph_of i).edges ≡ length i.edges = edges-count i in
    are.each j inside
    ∙ sum_to-same (λ k. slice_index counts k * ends_at (edge_at (graph_of i) k) (j + 1)) turn (length (graph_of i).edges)
    (λ k b. ap (λ (x : ℕ). x * ends_at (edge_at (graph_of i) k) (j + 1)) (each k (omega (arith, b, size))) ∙ one-times (is_turned i k) (ends_at (edge_at (graph_of i) k) (j + 1)))
    ∙ ap (sum_to turn) size
