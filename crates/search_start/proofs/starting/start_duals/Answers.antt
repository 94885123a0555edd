use Rattle.alt_forest.proofs.Common.{◌≡◌, ◌≤◌, ◌+◌, ◌*◌, ◌∙◌, ℕ, true, length, sym, ap, subst, Multigraph, IsStart, is_vertex}
use Rattle.search_start.specs.Sweeps.{start_looks}
use Rattle.search_start.specs.Bounds.{HasPerfect}
use Rattle.search_start.proofs.starting.start_duals.Goals as goal

pub start_pass-requires : goal.start_pass-requires
start_pass-requires g c =
    let s = c.args.search.now in let r = c.requires in
    record {
      sound = r.sound;
      event_times = r.event_times;
      listed = r.listed;
      start = subst (λ (k : Multigraph). IsStart k s.weights s.start) r.same_graph r.start;
      blossoms = r.blossoms;
      duals = λ v is. r.duals v (ap (λ (k : Multigraph). is_vertex k.vertices v) r.same_graph ∙ is);
      labels = r.labels;
      mates = r.mates;
    }

pub returns : goal.returns
returns g c =
    let e = c.start_pass.ensures in let r = c.requires in
    let here = λ (v : ℕ) (is : is_vertex c.args.graph.now.vertices v ≡ true). ap (λ (k : Multigraph). is_vertex k.vertices v) (sym r.same_graph) ∙ is in
    record {
      frame = e.frame;
      sound = e.sound;
      event_times = e.event_times;
      listed = e.listed;
      bounded = λ perfect. e.bounded (λ w. subst HasPerfect r.same_graph (perfect w));
      parity = λ u v is_u is_v. e.parity u v (here u is_u) (here v is_v);
      maximal = e.maximal;
      exposed = e.exposed;
      steps = subst (λ (k : Multigraph). c.start_pass.new.steps ≤ c.args.steps.now + start_looks k.vertices * length k.edges) (sym r.same_graph) e.steps;
      flat = λ zero. subst (λ (k : Multigraph). c.start_pass.new.steps ≤ c.args.steps.now + 4 * length k.edges) (sym r.same_graph) (e.flat zero);
    }
