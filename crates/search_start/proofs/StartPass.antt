-- The start of a pass as a whole.
use Rattle.alt_forest.proofs.Common.{◌≡◌, ◌∙◌, ℕ, ◌+◌, ◌*◌, ◌≤◌, ℤ, pos, ◌≤ℤ◌, true, false, [], length, None, refl, sym, ap, subst, arith, ints}
use Rattle.alt_forest.proofs.Common.{WEIGHT_LIMIT, Multigraph, IsGraph, IsWeight, edges_around, sum_to, sum_to-more, is_vertex, Out, State, IsOutermost, exposed_count, IsStart, edge_in}
use Rattle.alt_forest.proofs.Common.{is_given, label_at, state_of, SameParity, IsQueued, HasNoTree, AreListed, HasTreeNodes, moment_of, all_ends, parity_refl, parity_sym, parity_trans}
use Rattle.alt_forest.proofs.Common.{none_queued}
use Rattle.alt_forest.specs.declared.search.Search.{Search}
use Rattle.alt_forest.specs.declared.weights.Weights.{Weights}
use Rattle.alt_forest.specs.declared.weights.Weights.TheVariants.{Zero, Given}
use Rattle.search_start.specs.Starts.{IsBegun}
use Rattle.search_start.proofs.StartMates.{exposed_fewer}

start_weight : (g : Multigraph) (w : Weights) (start : ℤ) → IsStart g w start → IsWeight start
start_weight g Zero start zero = (omega (arith, ints, zero), omega (arith, ints, zero))
start_weight g Given start is = is.0

start_still : (g : Multigraph) (w : Weights) (start : ℤ) → IsStart g w start → is_given w ≡ false → start ≡ pos 0
start_still g Zero start zero unweighted = zero
start_still g Given start is unweighted = cc

-- a pass that uses weights is that with weights
pub given : (w : Weights) → is_given w ≡ true → w ≡ Given
given Zero t = cc
given Given t = refl

-- a pass that has just been reset
pub begun_anew : (s : State) (g : Multigraph) (w : Weights) (start : ℤ) → s.graph ≡ g → s.weighted ≡ is_given w → s.blossoms ≡ [] → ((a : ℕ) → s.label a ≡ Out) → IsStart g w start
    → ((v : ℕ) → is_vertex g.vertices v ≡ true → s.dual v ≡ start) → IsBegun s start
begun_anew s g w start same weights alone out is duals =
    let each : (v : ℕ) → is_vertex s.graph.vertices v ≡ true → s.dual v ≡ start = λ v vertex. duals v (ap (λ (k : Multigraph). is_vertex k.vertices v) (sym same) ∙ vertex) in
    let range = start_weight g w start is in
    record {
      alone = alone;
      out = out;
      start_weight = range;
      low = λ v vertex. let here = each v vertex in omega (arith, ints, here);
      high = λ v vertex. let here = each v vertex in let most : start ≤ℤ WEIGHT_LIMIT = range.1 in omega (arith, ints, here, most);
      parity = λ v vertex. subst (λ y. SameParity y start) (sym (each v vertex)) (parity_refl start);
      unweighted = λ unweighted v vertex. each v vertex ∙ start_still g w start is (sym weights ∙ unweighted);
    }

-- two duals have one parity
pub one_parity : (s : State) (start : ℤ) (u v : ℕ) → IsBegun s start → is_vertex s.graph.vertices u ≡ true → is_vertex s.graph.vertices v ≡ true → SameParity (s.dual u) (s.dual v)
one_parity s start u v h is vertex = parity_trans (s.dual u) start (s.dual v) (h.parity u is) (parity_sym (s.dual v) start (h.parity v vertex))

-- with no tree a queue and a list that are as before are those of the search
module _ (s t : Search) (rest : t ≡ record s { arena = record s.arena { duals = t.arena.duals }; mates = t.mates }) (out : (a : ℕ) → label_at s.labels.items a ≡ Out) where
  still_out : (a : ℕ) → label_at t.labels.items a ≡ Out
  still_out a = ap (λ (x : Search). label_at x.labels.items a) rest ∙ out a

  no_tree : HasNoTree (state_of s)
  no_tree a is = out a

  pub still_queued : IsQueued s → IsQueued t
  still_queued h = none_queued t still_out (ap (λ (x : Search). x.clock) rest ∙ h.idle_clock no_tree) (λ item. ap (λ (x : Search). moment_of x.queue item) rest ∙ h.empty no_tree item)

  pub still_tree_nodes : HasTreeNodes s → HasTreeNodes t
  still_tree_nodes h = record {
    listed = subst (λ (x : Search). AreListed x.graph.vertices x.tree_nodes.nodes x.tree_nodes.tree_ids) (sym rest) h.listed;
    trees = λ a is ne. absurd (ne (still_out a));
    same = λ a b is also ne ne_b roots. absurd (ne (still_out a));
    moves = λ a is. ap (λ (x : Search). label_at x.arena.motions a) rest ∙ h.moves a (subst (λ (x : Search). IsOutermost (state_of x) a) rest is) ∙ out a ∙ sym (still_out a);
  }

-- all looks of one round over the vertices
pub round_looks : (g : Multigraph) (place end old new : ℕ) → IsGraph g → end ≡ g.vertices → end ≤ place → place ≤ end → new ≤ old + sum_to (λ i. length (edges_around g (i + 1))) place
    → new ≤ old + 2 * length g.edges
round_looks g place end old new graph last low high looks =
    let all = all_ends g graph.ends in let same : place ≡ g.vertices = omega (arith, low, high, last) in
    let here = ap (sum_to (λ i. length (edges_around g (i + 1)))) same in
    omega (arith, looks, all, here)

-- one vertex more
pub round_more : (g : Multigraph) (k v start old new : ℕ) → v ≡ k + 1 → old ≤ start + sum_to (λ i. length (edges_around g (i + 1))) k → new ≤ old + length (edges_around g v)
    → new ≤ start + sum_to (λ i. length (edges_around g (i + 1))) (k + 1)
round_more g k v start old new is paid looks =
    let here : length (edges_around g v) ≡ length (edges_around g (k + 1)) = ap (λ x. length (edges_around g x)) is in
    let more = sum_to-more (λ i. length (edges_around g (i + 1))) k in
    omega (arith, paid, looks, here, more)

-- what stays through the turns of two vertices
pub kept_on : (s u t : Search) → u ≡ record s { arena = record s.arena { duals = u.arena.duals }; mates = u.mates }
    → t ≡ record u { arena = record u.arena { duals = t.arena.duals }; mates = t.mates } → t ≡ record s { arena = record s.arena { duals = t.arena.duals }; mates = t.mates }
kept_on s u t first second = second ∙ ap (λ (x : Search). record x { arena = record x.arena { duals = t.arena.duals }; mates = t.mates }) first

-- where no node has a mate at first, no more are exposed in the end
pub exposed_most : (s t : Search) → t ≡ record s { arena = record s.arena { duals = t.arena.duals }; mates = t.mates } → ((a : ℕ) → edge_in s.mates.items a ≡ None)
    → exposed_count (state_of t) ≤ exposed_count (state_of s)
exposed_most s t rest free =
    subst (λ (x : Search). exposed_count (state_of x) ≤ exposed_count (state_of s)) (sym rest) (exposed_fewer (state_of s) (edge_in t.mates.items) (λ a none. free a))
