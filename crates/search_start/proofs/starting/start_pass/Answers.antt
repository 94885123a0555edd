use Rattle.alt_forest.proofs.Common.{◌≡◌, ◌∙◌, ℕ, ◌+◌, ◌*◌, ◌≤◌, ℤ, neg_ℤ, ◌≤ℤ◌, length, refl, sym, ap, subst, arith, ints, WEIGHT_LIMIT, IsWeight, Multigraph, is_vertex, state_of}
use Rattle.alt_forest.specs.declared.search.Search.{Search}
use Rattle.search_start.specs.Bounds.{HasPerfect}
use Rattle.search_start.specs.Sweeps.{sweep_looks}
use Rattle.search_start.proofs.StartPass.{begun_anew, exposed_most, one_parity, given, still_queued, still_tree_nodes}
use Rattle.search_start.proofs.BoundedStarts.{bounded_begun}
use Rattle.search_start.proofs.starting.start_pass.Goals as goal

pub lift_all-requires-clause-started : goal.lift_all-requires-clause-started
lift_all-requires-clause-started g c =
    let s = c.args.search.now in
    begun_anew (state_of s) s.graph s.weights s.start refl refl c.requires.blossoms c.requires.labels c.requires.start c.requires.duals

-- what isn't below the start isn't below the least weight there is
from_start : (start dual : ℤ) → IsWeight start → start ≤ℤ dual → neg_ℤ WEIGHT_LIMIT ≤ℤ dual
from_start start dual weight low = omega (arith, ints, weight, low)

-- the looks of all of it
all_looks : (old first second new k m : ℕ) → first ≤ old + 2 * m → second ≤ first + 2 * m → new ≤ second + k * m → new ≤ old + (4 + k) * m
all_looks old first second new k m a b d = omega (arith, a, b, d)

pub returns : goal.returns
returns g c =
    let s : Search = c.args.search.now in
    let t : Search = c.sweep_twice.new.search in
    let e = c.sweep_twice.ensures in
    let is : t ≡ record s { arena = record s.arena { duals = t.arena.duals }; mates = t.mates } = rw (e.frame, c.start_all.ensures.frame, c.lift_all.ensures.frame) refl in
    let graph : s.graph ≡ t.graph = sym (ap (λ (x : Search). x.graph) is) in
    let lifted : c.lift_all.new.search.graph ≡ s.graph = ap (λ (x : Search). x.graph) c.lift_all.ensures.frame in
    let begun : c.start_all.new.search.graph ≡ s.graph = ap (λ (x : Search). x.graph) c.start_all.ensures.frame ∙ lifted in
    let round = subst (λ (k : Multigraph). c.start_all.new.steps ≤ c.lift_all.new.steps + 2 * length k.edges) lifted c.start_all.ensures.inspections in
    let sweeps = subst (λ (k : Multigraph). c.sweep_twice.new.steps ≤ c.start_all.new.steps + sweep_looks k.vertices * length k.edges) begun e.inspections in
    let weights : t.weights ≡ s.weights = ap (λ (x : Search). x.weights) is in
    let second = ap (λ (x : Search). x.weights) c.start_all.ensures.frame ∙ ap (λ (x : Search). x.weights) c.lift_all.ensures.frame in
    record {
      frame = is;
      sound = e.sound;
      event_times = still_queued s t is c.requires.labels c.requires.event_times;
      listed = still_tree_nodes s t is c.requires.labels c.requires.listed;
      bounded = λ perfect. bounded_begun (state_of t) t.start e.started (λ w. subst HasPerfect graph (perfect (sym weights ∙ given t.weights w)));
      parity = λ u v is_u is_v. one_parity (state_of t) t.start u v e.started (ap (λ (k : Multigraph). is_vertex k.vertices u) (sym graph) ∙ is_u)
          (ap (λ (k : Multigraph). is_vertex k.vertices v) (sym graph) ∙ is_v);
      in_range = λ v is. let there = ap (λ (k : Multigraph). is_vertex k.vertices v) (sym graph)
          ∙ is in (from_start t.start _ e.started.start_weight (e.started.low v there), e.started.high v there);
      maximal = e.maximal;
      exposed = exposed_most s t is c.requires.mates;
      steps = all_looks c.args.steps.now c.lift_all.new.steps c.start_all.new.steps c.sweep_twice.new.steps (sweep_looks s.graph.vertices) (length s.graph.edges)
          c.lift_all.ensures.inspections round sweeps;
      flat = λ zero. omega (arith, c.lift_all.ensures.inspections, round, e.flat (second ∙ zero));
    }
