use Rattle.graph_theory.proofs.Common.{◌≡◌, ℕ, suc, ◌-◌, ◌≤◌, ◌↔◌, Result, Ok, Err, Bool, All, List, length, take, drop, sym, ◌∙◌, arith, subst, IfOk, IsTrue}
use Rattle.graph_theory.proofs.Common.{AllocError, take-append-drop, Multigraph, IsWalk, IsCircuit, AllDiffer, walk_end, walk_left, walk_vertices, walk-numbers, walk-front}
use Rattle.mb_problem.specs.Network.{graph_of}
use Rattle.mb_problem.proofs.EdgeLemmas.{edges-count}
use Rattle.mb_problem.proofs.WalkPlaces.{left-front}
use Rattle.mb_problem.proofs.WalkSteps.{walk-start}
use Rattle.mb_problem.proofs.walks.is_circuit.Goals as goal

circuit-by_parts : (g : Multigraph) (v : ℕ) (es : List ℕ) (r : Result Bool AllocError) → IsWalk g v es → walk_end g v es ≡ v → 1 ≤ length es → AllDiffer es → IfOk r (λ b. IsTrue b
    ↔ AllDiffer (walk_left g v es)) → IfOk r (λ b. IsTrue b ↔ IsCircuit g v es)
circuit-by_parts g v es (Ok b) walk closed some edges differ = (
  (λ t. record { walk = walk; closed = closed; some = some; edges_differ = edges; vertices_differ = differ.0 t }),
  (λ is. differ.1 is.vertices_differ),
)
circuit-by_parts g v es (Err e) walk closed some edges differ = tt

pub edges_differ-requires : goal.edges_differ-requires
edges_differ-requires c =
    let i = c.args.instance.now in
    let walk : IsWalk (graph_of i) c.args.start c.args.edges.now = (c.is_round_trip.ensures.0 c.if-not-is_round_trip.false).1.0 in
    let numbers = walk-numbers (graph_of i) c.args.start c.args.edges.now walk in
    let count : length (graph_of i).edges ≡ c.edges.result = edges-count i ∙ sym c.edges.ensures.count in
    subst (λ (m : ℕ). All (λ e. (1 ≤ e) × (e ≤ m)) c.args.edges.now) count numbers

pub vertices_differ-requires-clause-low : goal.vertices_differ-requires-clause-low
vertices_differ-requires-clause-low c =
    let trip = c.is_round_trip.ensures.0 c.if-not-is_round_trip.false in
    (walk-start c.args.instance.now c.args.start c.args.edges.now c.edges.ensures.network trip.1.0 trip.0).0

pub vertices_differ-requires-clause-high : goal.vertices_differ-requires-clause-high
vertices_differ-requires-clause-high c =
    let trip = c.is_round_trip.ensures.0 c.if-not-is_round_trip.false in
    (walk-start c.args.instance.now c.args.start c.args.edges.now c.edges.ensures.network trip.1.0 trip.0).1

pub vertices_differ-requires-clause-walk : goal.vertices_differ-requires-clause-walk
vertices_differ-requires-clause-walk c =
    let g = graph_of c.args.instance.now in
    let es = c.args.edges.now in
    let k = length es - 1 in
    let walk : IsWalk g c.args.start es = (c.is_round_trip.ensures.0 c.if-not-is_round_trip.false).1.0 in
    walk-front g c.args.start (take k es) (drop k es) (subst (IsWalk g c.args.start) (sym (take-append-drop k es)) walk)

pub returns : goal.returns
returns c =
    let g = graph_of c.args.instance.now in
    let v = c.args.start in
    let es = c.args.edges.now in
    let trip = c.is_round_trip.ensures.0 c.if-not-is_round_trip.false in
    let some : 1 ≤ length es = trip.0 in
    let size : suc (length es - 1) ≡ length es = omega arith in
    let left : walk_left g v es ≡ walk_vertices g v (take (length es - 1) es) = left-front g v es (length es - 1) size in
    let edges : AllDiffer es = c.in_ok-edges_differ.ensures.0 c.if-not-branch.false in
    circuit-by_parts g v es c.vertices_differ.result trip.1.0 trip.1.1 some edges (subst (λ (vs : List ℕ). IfOk c.vertices_differ.result (λ b. IsTrue b ↔ AllDiffer vs))
    (sym left) c.vertices_differ.ensures)
