use Rattle.alt_forest.proofs.Common.{◌≡◌, ◌∙◌, length, ap, arith, refl, sym, Multigraph, edges_around, vertex_range, is_exposed, state_of}
use Rattle.alt_forest.specs.declared.search.Search.{Search}
use Rattle.search_start.proofs.StartPass.{round_looks, round_more, kept_on}
use Rattle.search_start.proofs.FirstTurns.{turn_first, turn_most, turn_next}
use Rattle.search_start.proofs.sweeping.sweep_all.Goals as goal

pub loop-place-init : goal.loop-place-init
loop-place-init g c =
    let s : Search = c.args.search.now in
    record {
      sound = c.requires.sound;
      started = c.requires.started;
      frame = refl;
      inspections = omega arith;
      grows = omega arith;
      turn = λ v first. turn_first s c.args.steps.now v (vertex_range s.graph.vertices v first.vertex).0;
    }

pub sweep_at-requires-clause-weights : goal.sweep_at-requires-clause-weights
sweep_at-requires-clause-weights g c = ap (λ (x : Search). x.weights) c.loop-place.invariant.frame ∙ c.requires.weights

pub loop-place-preserved : goal.loop-place-preserved
loop-place-preserved g c =
    let i = c.loop-place.invariant in let e = c.sweep_at.ensures in
    let graph : Multigraph = c.args.search.now.graph in
    let same : graph ≡ c.loop-place.search.graph = sym (ap (λ (x : Search). x.graph) i.frame) in
    record {
      sound = e.sound;
      started = e.started;
      frame = kept_on c.args.search.now c.loop-place.search c.sweep_at.new.search i.frame e.frame;
      inspections = round_more graph c.loop-place.place c.new.result c.args.steps.now c.loop-place.steps c.sweep_at.new.steps c.new.ensures i.inspections
          (omega (
            arith,
            e.exact,
            turn_most (is_exposed (state_of c.loop-place.search) c.new.result) (length (edges_around c.loop-place.search.graph c.new.result)),
            ap (λ (k : Multigraph). length (edges_around k c.new.result)) same,
          ));
      grows = omega (arith, i.grows, e.exact);
      turn = λ v first. turn_next c.args.search.now c.loop-place.search c.sweep_at.new.search c.args.steps.now c.loop-place.steps c.sweep_at.new.steps c.loop-place.place v c.new.result
          first (i.turn v first) c.new.ensures e.unchanged e.exact;
    }

pub returns : goal.returns
returns g c =
    let i = c.loop-place.invariant in
    let good = c.requires.sound.shape.graph.graph in
    let looks = round_looks c.args.search.now.graph c.loop-place.place c.vertices-place-end.result c.args.steps.now c.loop-place.steps good c.vertices-place-end.ensures.count
    c.loop-place-test.false c.loop-place.auto.place-end i.inspections in
    record {
      sound = i.sound;
      started = i.started;
      frame = i.frame;
      inspections = looks;
      grows = i.grows;
      made = λ v first.
          let last = (vertex_range c.args.search.now.graph.vertices v first.vertex).1 in
          let done = (i.turn v first).after (omega (arith, last, c.vertices-place-end.ensures.count, c.loop-place-test.false)) in
          done;
    }
