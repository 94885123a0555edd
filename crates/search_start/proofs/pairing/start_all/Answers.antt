use Rattle.alt_forest.proofs.Common.{◌≡◌, ◌∙◌, length, ap, arith, refl, sym, Multigraph, edge_of, edges_around, touches, vertex_range, is_exposed, state_of}
use Rattle.alt_forest.specs.declared.search.Search.{Search}
use Rattle.search_start.proofs.Settled.{settled_one, settled_none, settled_all}
use Rattle.search_start.proofs.StartPass.{round_looks, round_more, kept_on}
use Rattle.search_start.proofs.FirstTurns.{turn_first, turn_most, turn_next}
use Rattle.search_start.proofs.pairing.start_all.Goals as goal

pub loop-place-init : goal.loop-place-init
loop-place-init g c =
    let s : Search = c.args.search.now in
    record {
      sound = c.requires.sound;
      started = c.requires.started;
      frame = refl;
      settled = settled_none c.args.search.now.graph (state_of s) refl c.requires.sound.shape.graph.graph;
      exposed = omega arith;
      inspections = omega arith;
      grows = omega arith;
      turn = λ v first. turn_first s c.args.steps.now v (vertex_range s.graph.vertices v first.vertex).0;
    }

pub loop-place-preserved : goal.loop-place-preserved
loop-place-preserved g c =
    let i = c.loop-place.invariant in let e = c.start_at.ensures in
    let graph : Multigraph = c.args.search.now.graph in
    let same : graph ≡ c.loop-place.search.graph = sym (ap (λ (x : Search). x.graph) i.frame) in
    record {
      sound = e.sound;
      started = e.started;
      frame = kept_on c.args.search.now c.loop-place.search c.start_at.new.search i.frame e.frame;
      settled = settled_one graph (state_of c.loop-place.search) (state_of c.start_at.new.search) c.loop-place.place c.new.result c.new.ensures
          (λ d t. e.settled d (sym (ap (λ (k : Multigraph). touches (edge_of k d) c.new.result) same) ∙ t))
          (λ d t. e.others d (sym (ap (λ (k : Multigraph). touches (edge_of k d) c.new.result) same) ∙ t)) i.settled;
      exposed = omega (arith, e.exposed, i.exposed);
      inspections = round_more graph c.loop-place.place c.new.result c.args.steps.now c.loop-place.steps c.start_at.new.steps c.new.ensures i.inspections
          (omega (
            arith,
            e.exact,
            turn_most (is_exposed (state_of c.loop-place.search) c.new.result) (length (edges_around c.loop-place.search.graph c.new.result)),
            ap (λ (k : Multigraph). length (edges_around k c.new.result)) same,
          ));
      grows = omega (arith, i.grows, e.exact);
      turn = λ v first. turn_next c.args.search.now c.loop-place.search c.start_at.new.search c.args.steps.now c.loop-place.steps c.start_at.new.steps c.loop-place.place v c.new.result
          first (i.turn v first) c.new.ensures e.unchanged e.exact;
    }

pub returns : goal.returns
returns g c =
    let graph : Multigraph = c.args.search.now.graph in
    let good = c.requires.sound.shape.graph.graph in
    let i = c.loop-place.invariant in
    let maximal = settled_all graph (state_of c.loop-place.search) c.loop-place.place (ap (λ (x : Search). x.graph) i.frame) good
    (omega (arith, c.vertices-place-end.ensures.count, c.loop-place-test.false)) i.settled in
    let looks = round_looks graph c.loop-place.place c.vertices-place-end.result c.args.steps.now c.loop-place.steps good c.vertices-place-end.ensures.count c.loop-place-test.false
    c.loop-place.auto.place-end i.inspections in
    record {
      sound = i.sound;
      started = i.started;
      frame = i.frame;
      maximal = maximal;
      exposed = i.exposed;
      inspections = looks;
      grows = i.grows;
      made = λ v first.
          let last = (vertex_range c.args.search.now.graph.vertices v first.vertex).1 in
          let done = (i.turn v first).after (omega (arith, last, c.vertices-place-end.ensures.count, c.loop-place-test.false)) in
          done;
    }
