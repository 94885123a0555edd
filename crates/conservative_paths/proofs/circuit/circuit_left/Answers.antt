use Rattle.mb_problem.proofs.Common.{◌≡◌, true, ℕ, pos, ◌<ℤ◌, List, length, slice_index, drop, All, Option, MatchOption, subst, sym, ap, ◌∙◌, arith, ints}
use Rattle.mb_problem.proofs.Common.{get_or_read, edges-count, Multigraph, IsEdgeNumber, edge_of, touches, touches-u, weight, graph_of}
use Rattle.conservative_paths.specs.Trails.{IsNegativeEven, IsDrained, IsNegativeOver}
use Rattle.conservative_paths.specs.Within.{IsNegativeCircuitWithin}
use Rattle.conservative_paths.proofs.Found.{one-more-gone, join-even, circuit-within, all-gone}
use Rattle.conservative_paths.proofs.circuit.circuit_left.Goals as goal

pub loop-edge-init : goal.loop-edge-init
loop-edge-init c =
    let i = c.args.instance.now in
    let even = subst (IsNegativeEven (graph_of i)) (sym c.requires.counts) (join-even i c.args.join.now.edges c.requires.even c.requires.negative) in
    record {
      left = c.requires.left;
      room = c.requires.room;
      even = subst (λ (g : Multigraph). IsNegativeEven g c.args.left.now.counts.items) (sym c.requires.graph) even;
      fewer = λ k b. let same = ap (λ (xs : List ℕ). slice_index xs k) c.requires.counts in omega (arith, same);
      none = λ j b. absurd (omega (arith, b));
    }

pub edge-base-requires : goal.edge-base-requires
edge-base-requires c =
    let numbers = subst (λ (g : Multigraph). All (IsEdgeNumber g) c.args.join.now.edges) (sym c.requires.graph) c.requires.even.in_range in
    let items = subst (All (IsEdgeNumber c.args.graph.now)) (sym c.as_slice-edge-items.ensures) numbers in
    subst (IsEdgeNumber c.args.graph.now) (sym c.edge-item.is) (items c.loop-edge.edge-index c.edge-item.result c.loop-edge-test.true)

pub loop-edge-preserved : goal.loop-edge-preserved
loop-edge-preserved c =
    let g = c.args.graph.now in
    let join = c.args.join.now.edges in
    let old = c.loop-edge.left.counts.items in
    let new = c.close_from.new.left.counts.items in
    let base = c.edge-base.result.0 in
    let k = c.loop-edge.edge-index in
    let M : Option ℕ → Type 0 = λ found. MatchOption found (IsDrained g base old new)
    (λ place. IsNegativeOver g old c.close_from.new.trail.here (drop place c.close_from.new.trail.edges.items)) in
    let drained : IsDrained g base old new = subst M c.in_default.is c.in_ok-place.ensures.found in
    let size : length c.as_slice-edge-items.result.now ≡ length join = ap length c.as_slice-edge-items.ensures in
    let count = ap (λ (h : Multigraph). length h.edges) c.requires.graph ∙ edges-count c.args.instance.now in
    let below = c.loop-edge-test.true in
    let edge : c.edge-item.result ≡ slice_index join k = get_or_read c.as_slice-edge-items.result.now k c.edge-item.result below c.edge-item.is 0
    ∙ ap (λ (es : List ℕ). slice_index es k) c.as_slice-edge-items.ensures in
    let from : base ≡ (edge_of g (slice_index join k)).u = c.edge-base.ensures.from ∙ ap (λ (e : ℕ). (edge_of g e).u) edge in
    let touched = subst (λ (v : ℕ). touches (edge_of g (slice_index join k)) v ≡ true) (sym from) (touches-u (edge_of g (slice_index join k))) in
    let numbers = subst (λ (h : Multigraph). All (IsEdgeNumber h) join) (sym c.requires.graph) c.requires.even.in_range in
    record {
      left = c.in_ok-place.ensures.left;
      room = c.in_ok-place.ensures.room;
      even = drained.even;
      fewer = λ k b. let now = drained.fewer k (omega (arith, count, b)) in let before = c.loop-edge.invariant.fewer k b in omega (arith, now, before);
      none = one-more-gone g join old new base k numbers drained (omega (arith, size, below)) touched c.loop-edge.invariant.none;
    }

pub returns-in-Some : goal.returns-in-Some
returns-in-Some c =
    let i = c.args.instance.now in
    let join = c.args.join.now.edges in
    let old = c.loop-edge.left.counts.items in
    let new = c.close_from.new.trail in
    let way = drop c.in-Some.place new.edges.items in
    let M : Option ℕ → Type 0 = λ found. MatchOption found (IsDrained c.args.graph.now c.edge-base.result.0 old c.close_from.new.left.counts.items)
    (λ place. IsNegativeOver c.args.graph.now old new.here (drop place new.edges.items)) in
    let found : IsNegativeOver c.args.graph.now old new.here way = subst M c.in-Some.is c.in_ok-place.ensures.found in
    let G : Multigraph → Type 0 = λ g. IsNegativeOver g old new.here way in
    let is = circuit-within i join old new.here way c.loop-edge.invariant.fewer (subst G c.requires.graph found) in
    let E : List ℕ → Type 0 = IsNegativeCircuitWithin (graph_of i) join new.here in
    record { circuit = subst E (sym (c.from_vec-edges.ensures ∙ c.in_ok-split_off.ensures.tail)) is }

pub returns : goal.returns
returns c =
    let left = c.loop-edge.left.counts.items in
    let join = c.args.join.now.edges in
    let size : length c.as_slice-edge-items.result.now ≡ length join = ap length c.as_slice-edge-items.ensures in
    let zero = all-gone c.args.instance.now join left c.loop-edge.invariant.fewer (λ j b. c.loop-edge.invariant.none j (omega (arith, b, size, c.loop-edge-test.false))) in
    record { circuit = absurd (omega (arith, ints, zero, subst (λ (g : Multigraph). weight g left <ℤ pos 0) c.requires.graph c.loop-edge.invariant.even.negative)) }
