-- Walks, paths and matchings of the graph without loops and weights, by the numbers of the instance.
use Rattle.mb_problem.proofs.Common.{◌≡◌, ℕ, ◌+◌, ◌-◌, ◌*◌, ◌<◌, ◌≤◌, Bool, true, false, cond, eqb, refl, ap, sym, ◌∙◌, subst, inl, inr, arith, List, []}
use Rattle.mb_problem.proofs.Common.{◌∷◌, length, map, slice_index, get_or, All, IsStrictlyIncreasing, ints, cases_eq, eq-eqb, ne_eqb, true≢false, length-map, get_or-map as read-map}
use Rattle.mb_problem.proofs.Common.{All-head, All-tail, All-map, All-weaker, Edge, sum_to, Multigraph, IsGraph, IsEdgeWithin, IsWeight, IsEdgeNumber, edge_at, edge_of, ends_at, no_edge}
use Rattle.mb_problem.proofs.Common.{other_end, touches, degree, IsWalk, walk_end, walk_vertices, AllDiffer, sum_to-same, walk-numbers, Alternates, IsEvenPath, unweighted, weightless}
use Rattle.mb_problem.proofs.Common.{IsMatched, Network, IsNetwork, vertices, graph_of, plain_graph, link_count, is_loop_at, edges-count}
use Rattle.std.proofs.Math.ListN.{get_or-map}
use Rattle.gadget_base.proofs.Common.{tabled, links_below, with_loops, times, times_each, ListsCounts, tabled-length, tabled-same, plain-graph, plain-length, link-place, with_loops-small}
use Rattle.gadget_base.proofs.Common.{with_loops-degree, times-cons}
use Rattle.gallai.proofs.Links.{instance_number, IsLink, link_of, link-number, number-is_edge, number-edge, number-count, number-less}

-- the graph that is searched
abbrev pub searched_graph : Network → Multigraph
searched_graph i = unweighted (plain_graph i)

-- edges by the numbers of the instance
abbrev pub moved : Network → List ℕ → List ℕ
moved i es = map (instance_number i) es

pub searched-graph : (i : Network) → IsNetwork i → IsGraph (searched_graph i)
searched-graph i network =
    let links : IsGraph (plain_graph i) = plain-graph i network in
    let size = length-map (plain_graph i).edges weightless in
    let few = links.few_edges in
    record {
      few_vertices = links.few_vertices;
      few_edges = omega (arith, size, few);
      ends = All-map (IsEdgeWithin (vertices i)) weightless (plain_graph i).edges
          (All-weaker (IsEdgeWithin (vertices i)) (λ e. IsEdgeWithin (vertices i) (weightless e))
          (λ e within. record { u_low = within.u_low; u_high = within.u_high; v_low = within.v_low; v_high = within.v_high }) (plain_graph i).edges links.ends);
      weights = All-map (λ e. IsWeight e.w) weightless (plain_graph i).edges
          (All-weaker (λ e. IsWeight e.w) (λ e. IsWeight (weightless e).w) (λ e _. (omega (arith, ints), omega (arith, ints))) (plain_graph i).edges links.weights);
    }

unweighted-at : (g : Multigraph) (k : ℕ) → edge_at (unweighted g) k ≡ weightless (edge_at g k)
unweighted-at g k = get_or-map weightless g.edges k no_edge

pub searched-count : (i : Network) → length (searched_graph i).edges ≡ link_count i
searched-count i = length-map (plain_graph i).edges weightless ∙ plain-length i

pub unweighted-degree : (g : Multigraph) (counts : List ℕ) (v : ℕ) → degree (unweighted g) counts v ≡ degree g counts v
unweighted-degree g counts v =
    ap (sum_to (λ k. slice_index counts k * ends_at (edge_at (unweighted g) k) v)) (length-map g.edges weightless)
    ∙ sum_to-same (λ k. slice_index counts k * ends_at (edge_at (unweighted g) k) v) (λ k. slice_index counts k * ends_at (edge_at g k) v) (length g.edges)
    (λ k _. ap (λ (e : Edge). slice_index counts k * ends_at e v) (unweighted-at g k))

-- degrees are the same
pub moved-degree : (i : Network) (counts : List ℕ) (v : ℕ) → length counts ≡ link_count i → degree (graph_of i) (with_loops i counts) v ≡ degree (searched_graph i) counts v
moved-degree i counts v size = with_loops-degree i counts v size ∙ sym (unweighted-degree (plain_graph i) counts v)

module _ (i : Network) where
  in_links : (e : ℕ) → IsEdgeNumber (searched_graph i) e → e ≤ link_count i
  in_links e is = (let high : e ≤ length (searched_graph i).edges = is.1 in omega (arith, high, searched-count i))

  -- an edge has the same ends
  moved-edge : (e : ℕ) → IsEdgeNumber (searched_graph i) e → edge_of (searched_graph i) e ≡ weightless (edge_of (graph_of i) (instance_number i e))
  moved-edge e is = unweighted-at (plain_graph i) (e - 1) ∙ ap weightless (sym (number-edge i e is.0 (in_links e is)))

  -- it leads to the same vertex
  moved-step : (e v : ℕ) → IsEdgeNumber (searched_graph i) e → other_end (edge_of (graph_of i) (instance_number i e)) v ≡ other_end (edge_of (searched_graph i) e) v
  moved-step e v is = ap (λ (x : Edge). other_end x v) (sym (moved-edge e is))

  pub moved-walk : (es : List ℕ) (v : ℕ) → IsWalk (searched_graph i) v es → IsWalk (graph_of i) v (moved i es)
  moved-walk [] v h = tt
  moved-walk (e ∷ es) v h = (
    number-is_edge i e h.0.0 (in_links e h.0),
    ap (λ (x : Edge). touches x v) (sym (moved-edge e h.0)) ∙ h.1,
    subst (λ (w : ℕ). IsWalk (graph_of i) w (moved i es)) (sym (moved-step e v h.0)) (moved-walk es (other_end (edge_of (searched_graph i) e) v) h.2),
  )

  moved-end : (es : List ℕ) (v : ℕ) → IsWalk (searched_graph i) v es → walk_end (graph_of i) v (moved i es) ≡ walk_end (searched_graph i) v es
  moved-end [] v h = refl
  moved-end (e ∷ es) v h =
      ap (λ (w : ℕ). walk_end (graph_of i) w (moved i es)) (moved-step e v h.0) ∙ moved-end es (other_end (edge_of (searched_graph i) e) v) h.2

  moved-vertices : (es : List ℕ) (v : ℕ) → IsWalk (searched_graph i) v es → walk_vertices (graph_of i) v (moved i es) ≡ walk_vertices (searched_graph i) v es
  moved-vertices [] v h = refl
  moved-vertices (e ∷ es) v h =
      ap (λ (xs : List ℕ). v ∷ xs)
      (ap (λ (w : ℕ). walk_vertices (graph_of i) w (moved i es)) (moved-step e v h.0) ∙ moved-vertices es (other_end (edge_of (searched_graph i) e) v) h.2)

  moved-alternates : (counts es : List ℕ) → All (IsEdgeNumber (searched_graph i)) es → Alternates counts es → Alternates (with_loops i counts) (moved i es)
  moved-alternates counts [] all h = tt
  moved-alternates counts (e ∷ []) all h = absurd h
  moved-alternates counts (e ∷ f ∷ es) all h =
      let P : ℕ → Type 0 = IsEdgeNumber (searched_graph i) in
      let first : P e = All-head P e (f ∷ es) all in
      let rest = All-tail P e (f ∷ es) all in
      let second : P f = All-head P f es rest in (
        number-count i counts e first.0 (in_links e first) ∙ h.0,
        number-count i counts f second.0 (in_links f second) ∙ h.1,
        moved-alternates counts es (All-tail P f es rest) h.2,
      )

  pub moved-path : (counts : List ℕ) (v : ℕ) (es : List ℕ) → length counts ≡ link_count i → IsEvenPath (searched_graph i) counts v es
      → IsEvenPath (graph_of i) (with_loops i counts) v (moved i es)
  moved-path counts v es size path = record {
    walk = moved-walk es v path.walk;
    no_vertex_twice = subst AllDiffer (sym (moved-vertices es v path.walk)) path.no_vertex_twice;
    alternates = moved-alternates counts es (walk-numbers (searched_graph i) v es path.walk) path.alternates;
    missed = ap (degree (graph_of i) (with_loops i counts)) (moved-end es v path.walk) ∙ moved-degree i counts (walk_end (searched_graph i) v es) size ∙ path.missed;
  }

  -- the edges of a list, by their numbers

  pub moved-numbers : (es : List ℕ) → All (IsEdgeNumber (searched_graph i)) es → All (IsEdgeNumber (graph_of i)) (moved i es)
  moved-numbers es all = All-map (IsEdgeNumber (graph_of i)) (instance_number i) es
      (All-weaker (IsEdgeNumber (searched_graph i)) (λ e. IsEdgeNumber (graph_of i) (instance_number i e)) (λ e is. number-is_edge i e is.0 (in_links e is)) es all)

  moved-test : (e k : ℕ) → IsEdgeNumber (searched_graph i) e → k < length i.edges → (t : Bool) → is_loop_at i k ≡ t
      → cond {A = ℕ} (eqb (instance_number i e) (k + 1)) 1 0 ≡ cond t 0 (cond (eqb e (links_below i k + 1)) 1 0)
  moved-test e k is b true loop =
      let found = link_of i e is.0 (in_links e is) in
      let number = link-number i e found.0 found.1 in
      let other : instance_number i e ≡ k + 1
      → ⊥ = λ h. (let same : found.0 ≡ k = omega (arith, h, number) in absurd (true≢false (sym loop ∙ (ap (is_loop_at i) (sym same) ∙ found.1.no_loop)))) in
      ap (λ (t : Bool). cond {A = ℕ} t 1 0) (ne_eqb _ _ other)
  moved-test e k is b false link =
      let found = link_of i e is.0 (in_links e is) in
      let number = link-number i e found.0 found.1 in
      let place = found.1.place in
      elim (cases_eq e (links_below i k + 1)) [
        | inl same ↦
            let here : IsLink i e k = record { below = b; no_loop = link; place = sym same } in
            let at : instance_number i e ≡ k + 1 = link-number i e k here in
            rw (eq-eqb _ _ at, eq-eqb _ _ same) refl
        | inr other ↦
            let apart : instance_number i e ≡ k + 1 → ⊥ = λ h. (let same : found.0 ≡ k = omega (arith, h, number) in
            other (sym place ∙ ap (λ x. links_below i x + 1) same)) in
            rw (ne_eqb _ _ apart, ne_eqb _ _ other) refl
      ]

  cond-add : (t : Bool) (a b : ℕ) → cond t 0 a + cond t 0 b ≡ cond t 0 (a + b)
  cond-add true a b = refl
  cond-add false a b = refl

  cond-none : (t : Bool) → cond {A = ℕ} t 0 0 ≡ 0
  cond-none true = refl
  cond-none false = refl

  moved-times : (es : List ℕ) (k : ℕ) → All (IsEdgeNumber (searched_graph i)) es → k < length i.edges
      → times (moved i es) (k + 1) ≡ cond (is_loop_at i k) 0 (times es (links_below i k + 1))
  moved-times [] k all b = sym (cond-none (is_loop_at i k))
  moved-times (e ∷ es) k all b =
      let P : ℕ → Type 0 = IsEdgeNumber (searched_graph i) in
      let here = moved-test e k (All-head P e es all) b (is_loop_at i k) refl in
      let rest = moved-times es k (All-tail P e es all) b in
      let j = links_below i k + 1 in
      times-cons (instance_number i e) (moved i es) (k + 1)
      ∙ ap (λ x. x + times (moved i es) (k + 1)) here
      ∙ ap (λ x. cond (is_loop_at i k) 0 (cond (eqb e j) 1 0) + x) rest
      ∙ cond-add (is_loop_at i k) (cond (eqb e j) 1 0) (times es j)
      ∙ ap (cond (is_loop_at i k) 0) (sym (times-cons e es j))

  in_place : (counts es : List ℕ) (k : ℕ) → k < length i.edges → ListsCounts (searched_graph i) counts es → (t : Bool) → is_loop_at i k ≡ t
      → cond t 0 (times es (links_below i k + 1)) ≡ cond t 0 (slice_index counts (links_below i k))
  in_place counts es k b lists true loop = refl
  in_place counts es k b lists false link =
      let place = link-place i k b link in
      lists.each (links_below i k) (omega (arith, place, searched-count i))

  -- the counts of a list
  pub moved-counts : (counts es : List ℕ) → ListsCounts (searched_graph i) counts es → times_each (graph_of i) (moved i es) ≡ with_loops i counts
  moved-counts counts es lists =
      ap (tabled (λ k. times (moved i es) (k + 1))) (edges-count i)
      ∙ tabled-same (λ k. times (moved i es) (k + 1)) (λ k. cond (is_loop_at i k) 0 (slice_index counts (links_below i k))) (length i.edges)
      (λ k b. moved-times es k lists.numbers b ∙ in_place counts es k b lists (is_loop_at i k) refl)

  pub moved-ascends : (es : List ℕ) → All (IsEdgeNumber (searched_graph i)) es → IsStrictlyIncreasing es → IsStrictlyIncreasing (moved i es)
  moved-ascends es all up k b =
      let size : length (moved i es) ≡ length es = length-map es (instance_number i) in
      let next : k + 1 < length es = omega (arith, size, b) in
      let here : k < length es = omega (arith, next) in
      let low : IsEdgeNumber (searched_graph i) (get_or es k 0) = all k 0 here in
      let high : IsEdgeNumber (searched_graph i) (get_or es (k + 1) 0) = all (k + 1) 0 next in
      let first : slice_index (moved i es) k ≡ instance_number i (get_or es k 0) = read-map (instance_number i) es k 0 0 here in
      let second : slice_index (moved i es) (k + 1) ≡ instance_number i (get_or es (k + 1) 0) = read-map (instance_number i) es (k + 1) 0 0 next in
      let less = number-less i (get_or es k 0) (get_or es (k + 1) 0) low.0 (up k next) (in_links _ high) in
      omega (arith, first, second, less)

  -- a matching
  pub moved-matched : (counts : List ℕ) → length counts ≡ link_count i → IsMatched (searched_graph i) counts → IsMatched (graph_of i) (with_loops i counts)
  moved-matched counts size is = record {
    one_each = tabled-length (λ k. cond (is_loop_at i k) 0 (slice_index counts (links_below i k))) (length i.edges) ∙ sym (edges-count i);
    at_most_once = with_loops-small i counts size is.at_most_once;
    degrees = λ v low high. (let same = moved-degree i counts v size in let few = is.degrees v low high in omega (arith, same, few));
  }
