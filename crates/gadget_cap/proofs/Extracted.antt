-- What listed edges of the graph with gates say of the instance, by the counts of those that enter each first gate.
use Rattle.mb_problem.proofs.Common.{◌≡◌, ℕ, ◌+◌, ◌-◌, ◌<◌, ◌≤◌, ◌^◌, min, Bool, true, false, sym, ◌∙◌, subst, arith, List, length, All, Option, None}
use Rattle.mb_problem.proofs.Common.{Some, count_by, Multigraph, weight, IsEdgeNumber, walk_weight, sum_to-most, Network, IsNetwork, vertices, graph_of, instance_edge_at, bounded, value_u}
use Rattle.mb_problem.proofs.Common.{value_v, IsFeasible, weight_of, edge-ends}
use Rattle.mb_problem.specs.declared.answer.Answer.TheVariants.{Counts}
use Rattle.gadget_base.proofs.Common.{before_gates, capped_graph, gadget_graph, IsPerfectList, times, times_each, tabled-same, perfect_from_list, weight_of_list, list-length}
use Rattle.gadget_cap.specs.Capped.{capped_kind, capped_room}
use Rattle.gadget_cap.specs.Places.{enters, entry_counts}
use Rattle.gadget_cap.proofs.GateLemmas.{Passage, all_counts, value, FillsGates, entered}
use Rattle.gadget_cap.proofs.Sizes.{graph-is}
use Rattle.gadget_cap.proofs.Reached.{feasible_within}
use Rattle.gadget_cap.proofs.Back.{passage_of, passage-all, passed, StandsFor, passed-stands, stands-matching}
use Rattle.gadget_cap.proofs.Ends.{capped-within, capped-no_loop}
use Rattle.gadget_cap.proofs.EntryLemmas.{entries-count}

-- the counts of a list of edges, by the gates
abbrev listed : Network → (ℕ → ℕ) → List ℕ → Passage
listed i room es = passage_of i room (λ y. times es (y + 1))

-- listed edges that fill the gates stand for as many of each edge as enter its first gate
pub entries-stand : (i : Network) (room : ℕ → ℕ) (es : List ℕ) → IsNetwork i → All (IsEdgeNumber (capped_graph i room)) es
    → FillsGates i room (times_each (capped_graph i room) es)
    → StandsFor i room (times_each (capped_graph i room) es) (entry_counts i room es)
entries-stand i room es net numbers fills =
    let p = listed i room es in
    let all : times_each (capped_graph i room) es ≡ all_counts i room p = passage-all i room (λ y. times es (y + 1)) in
    let counts : passed i room p ≡ entry_counts i room es = tabled-same (entered i room p) (λ k. count_by (enters i room k) es) (length i.edges)
    (λ k b. sym (entries-count i room es k numbers b)) in
    subst (StandsFor i room (times_each (capped_graph i room) es)) counts
    (subst (λ xs. StandsFor i room xs (passed i room p)) (sym all) (passed-stands i room p net (subst (FillsGates i room) all fills)))

-- the graph has few vertices

pub bounded-small : (limit : Option ℕ) (most : ℕ) → bounded limit most ≤ most
bounded-small None most = omega arith
bounded-small (Some c) most = omega arith

room-most : (unit : Bool) (i : Network) (k : ℕ) → capped_room unit i k ≤ value_u i k
room-most true i k = omega arith
room-most false i k = omega (arith, bounded-small (instance_edge_at i k).capacity (min (value_u i k) (value_v i k)))

room-small : (unit : Bool) (i : Network) (k : ℕ) → IsNetwork i → k < length i.edges → capped_room unit i k ≤ 4096
room-small unit i k net b =
    let u = (instance_edge_at i k).u in
    let is = edge-ends i k net b in
    let low : 1 ≤ u = is.u_low in
    let high : u ≤ vertices i = is.u_high in
    let small : value_u i k ≤ 4096 = net.values (u - 1) 0 (omega arith) in
    omega (arith, small, room-most unit i k)

pub few-vertices : (unit : Bool) (i : Network) → IsNetwork i → before_gates i (capped_room unit i) (length i.edges) < 2 ^ 32
few-vertices unit i net =
    let values = sum_to-most (value i) 4096 (vertices i) (λ k b. net.values k 0 b) in
    let few_vertices : vertices i ≤ 4096 = net.few_vertices in
    let few_edges : length i.edges ≤ 65536 = net.few_edges in
    omega (arith, values, sum_to-most (capped_room unit i) 4096 (length i.edges) (λ k b. room-small unit i k net b))

-- a perfect matching

pub few-listed : (unit : Bool) (i : Network) (es : List ℕ) → IsNetwork i → IsPerfectList (gadget_graph (capped_kind unit) i) es → length es < 2 ^ 32
few-listed unit i es net list =
    let room = capped_room unit i in
    let perfect : IsPerfectList (capped_graph i room) es = subst (λ (g : Multigraph). IsPerfectList g es) (graph-is unit i) list in
    omega (arith, few-vertices unit i net, list-length (capped_graph i room) es (capped-within i room net) (capped-no_loop i room net) perfect)

listed-stands : (i : Network) (room : ℕ → ℕ) (es : List ℕ) → IsNetwork i → IsPerfectList (capped_graph i room) es
    → StandsFor i room (times_each (capped_graph i room) es) (entry_counts i room es)
listed-stands i room es net perfect =
    let is = perfect_from_list (capped_graph i room) es (capped-within i room net) (capped-no_loop i room net) perfect in
    entries-stand i room es net perfect.numbers (λ v low high. is.degrees v (omega arith) high)

pub extracted-feasible : (unit : Bool) (i : Network) (es : List ℕ) → IsNetwork i → IsPerfectList (gadget_graph (capped_kind unit) i) es
    → IsFeasible (capped_kind unit) i (Counts (entry_counts i (capped_room unit i) es))
extracted-feasible unit i es net list =
    let room = capped_room unit i in
    let perfect : IsPerfectList (capped_graph i room) es = subst (λ (g : Multigraph). IsPerfectList g es) (graph-is unit i) list in
    let is = perfect_from_list (capped_graph i room) es (capped-within i room net) (capped-no_loop i room net) perfect in
    let stands = listed-stands i room es net perfect in
    feasible_within unit i (entry_counts i room es) (stands-matching i room (times_each (capped_graph i room) es) (entry_counts i room es) is stands) stands.rooms

listed-weight : (i : Network) (room : ℕ → ℕ) (es : List ℕ) → IsNetwork i → IsPerfectList (capped_graph i room) es → weight (graph_of i) (entry_counts i room es)
    ≡ walk_weight (capped_graph i room) es
listed-weight i room es net perfect = (listed-stands i room es net perfect).weighs ∙ weight_of_list (capped_graph i room) es perfect.numbers

pub extracted-weight : (unit : Bool) (i : Network) (es : List ℕ) → IsNetwork i → IsPerfectList (gadget_graph (capped_kind unit) i) es
    → weight_of (capped_kind unit) i (Counts (entry_counts i (capped_room unit i) es)) ≡ walk_weight (gadget_graph (capped_kind unit) i) es
extracted-weight true i es net perfect = listed-weight i (capped_room true i) es net perfect
extracted-weight false i es net perfect = listed-weight i (capped_room false i) es net perfect
