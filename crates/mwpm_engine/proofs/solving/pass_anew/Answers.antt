use Rattle.alt_forest.proofs.Common.{◌≡◌, ◌∙◌, ℕ, ◌+◌, ◌*◌, ◌≤◌, length, Bool, true, false, MatchBool, refl, sym, ap, subst, rules, to_z, of_z, w64, Multigraph}
use Rattle.alt_forest.proofs.Common.{IsMatched, exposed_count, IsStart, dual_at, is_vertex, label_at, state_of}
use Rattle.alt_forest.specs.declared.search.Search.{Search}
use Rattle.alt_forest.specs.declared.weights.Weights.{Weights}
use Rattle.search_keys.specs.Bounds.{HasPlaces}
use Rattle.mwpm_engine.proofs.BoundedDuals.{unpacked_within}
use Rattle.mwpm_engine.proofs.BoundsBegun.{near_begun}
use Rattle.mwpm_engine.proofs.PassCounts.{exposed_few, pass_paid}
use Rattle.mwpm_engine.proofs.Concluded.{stuck_excludes}
use Rattle.mwpm_engine.proofs.CertificateRuns.{unpacked}
use Rattle.mwpm_engine.proofs.CommonWeight.{unpacked_zero}
use Rattle.mwpm_engine.proofs.Parted.{parted}
use Rattle.mwpm_engine.specs.Passes.{EndsPass, HasStuckForest, IsParted, pass_steps}
use Rattle.search_start.specs.Sweeps.{start_looks}
use Rattle.mwpm_engine.specs.Solutions.{HasPerfect, size_of_graph}
use Rattle.mwpm_engine.specs.Solving.{IsUnpacked}
use Rattle.mwpm_engine.proofs.solving.pass_anew.Goals as goal

-- a pass that has ended either way, once its blossoms are opened
opened : (old new : Search) (done : Bool) → EndsPass old done → (IsMatched (state_of old) → IsUnpacked new) → (HasStuckForest old → IsParted new)
    → MatchBool done (IsUnpacked new) (IsParted new)
opened old new true h complete stuck = complete h.matched
opened old new false h complete stuck = stuck h

never_stuck : (s : Search) (done : Bool) → EndsPass s done → (HasStuckForest s → ⊥) → done ≡ true
never_stuck s true h none = refl
never_stuck s false h none = absurd (none h)

pub start_pass-requires : goal.start_pass-requires
start_pass-requires g c =
    let back : to_z w64 (of_z w64 c.args.start) ≡ c.args.start = search rules in let e = c.begin.ensures in
    let given = subst (λ (w : Weights). IsStart c.args.search.now.graph w c.begin.new.self.start) (sym e.weights)
    (subst (IsStart c.args.search.now.graph c.args.weights) (sym (e.start ∙ back)) c.requires.start) in
    let start = subst (λ (k : Multigraph). IsStart k c.begin.new.self.weights c.begin.new.self.start) (sym e.graph) given in
    let duals : (v : ℕ) → is_vertex c.begin.new.self.graph.vertices v ≡ true → dual_at c.begin.new.self.arena.duals v ≡ c.begin.new.self.start =
    λ v is. e.duals v (ap (λ (k : Multigraph). is_vertex k.vertices v) (sym e.graph) ∙ is) ∙ sym e.start in
    record { sound = e.sound; event_times = e.event_times; listed = e.listed; start = start; blossoms = e.blossoms; duals = duals; labels = e.labels; mates = e.mates }

pub pass-done-requires-clause-well_formed : goal.pass-done-requires-clause-well_formed
pass-done-requires-clause-well_formed g c =
    let e = c.start_pass.ensures in
    record {
      sound = e.sound;
      event_times = e.event_times;
      listed = e.listed;
      labels = λ a. ap (λ (t : Search). label_at t.labels.items a) e.frame ∙ c.begin.ensures.labels a;
      bounded = e.bounded (λ given. subst HasPerfect (sym c.begin.ensures.graph) (c.requires.perfect (sym c.begin.ensures.weights ∙ given)));
    }

pub pass-done-requires-clause-near : goal.pass-done-requires-clause-near
pass-done-requires-clause-near g c =
    let t : Search = c.start_pass.new.search in let e = c.start_pass.ensures in
    let graph : c.begin.new.self.graph ≡ t.graph = sym (ap (λ (x : Search). x.graph) e.frame) in
    near_begun t (ap (λ (x : Search). x.arena.blossoms) e.frame ∙ c.begin.ensures.blossoms) (ap (λ (x : Search). x.clock) e.frame ∙ c.begin.ensures.clock)
    (λ v is. e.in_range v (ap (λ (k : Multigraph). is_vertex k.vertices v) graph ∙ is))

pub pass-done-requires-clause-places : goal.pass-done-requires-clause-places
pass-done-requires-clause-places g c =
    let graph = ap (λ (t : Search). t.graph) c.start_pass.ensures.frame ∙ c.begin.ensures.graph in
    subst (λ (k : Multigraph). HasPlaces k c.args.bounds.now) (sym graph) c.requires.places

pub pass-done-requires-clause-blossoms : goal.pass-done-requires-clause-blossoms
pass-done-requires-clause-blossoms g c = ap (λ (t : Search). t.arena.blossoms) c.start_pass.ensures.frame ∙ c.begin.ensures.blossoms

-- With weights there is a perfect matching, so the pass isn't stuck. It begins with no more exposed nodes than vertices, which is what it counts.
pub returns : goal.returns
returns g c =
    let graph : Multigraph = c.args.search.now.graph in let begun : Search = c.start_pass.new.search in
    let last : Search = c.pass-done.new.search in let done = c.pass-done.result in
    let d = c.start_pass.ensures in let p = c.pass-done.ensures in let e = c.unpack.ensures in
    let r = c.begin.ensures in
    let same : begun.graph ≡ graph = ap (λ (t : Search). t.graph) d.frame ∙ r.graph in
    let few = exposed_few c.begin.new.self begun graph d.exposed r.exposed r.graph in
    let exposed : ℕ = exposed_count (state_of begun) in
    let begin_steps = subst (λ (k : Multigraph). c.start_pass.new.steps ≤ c.args.steps.now + start_looks k.vertices * length k.edges) r.graph d.steps in
    let after : c.unpack.new.search.graph ≡ last.graph = ap (λ (t : Search). t.graph) e.frame in
    record {
      ends = opened last c.unpack.new.search done p.ends
          (λ matched. unpacked last c.unpack.new.search e.frame e.sound (e.mates matched) (e.perfect matched) e.tight (e.leaves matched))
          (λ stuck. parted last c.unpack.new.search stuck e.frame e.sound e.outermost e.some e.matching e.misses);
      sure = λ given. never_stuck last done p.ends (λ stuck. stuck_excludes last graph (p.pass.graph ∙ same) stuck (c.requires.perfect given));
      bounded = λ sure. unpacked_within last c.unpack.new.search e.frame (subst (EndsPass last) sure p.ends);
      zero_duals = λ zero sure. unpacked_zero last c.unpack.new.search e.frame (subst (EndsPass last) sure p.ends) (p.pass.weights ∙ ap (λ (t : Search). t.weights) d.frame ∙ r.weights
          ∙ zero);
      shape = e.sound.shape;
      places = subst (λ (k : Multigraph). HasPlaces k c.pass-done.new.bounds) (sym after) p.places;
      graph = after ∙ p.pass.graph ∙ same;
      weights = ap (λ (t : Search). t.weights) e.frame ∙ p.pass.weights ∙ ap (λ (t : Search). t.weights) d.frame ∙ r.weights;
      steps = pass_paid graph done exposed c.args.steps.now c.start_pass.new.steps c.pass-done.new.steps few begin_steps
          (subst (λ k. 4 * c.pass-done.new.steps ≤ 4 * c.start_pass.new.steps + pass_steps (size_of_graph k) exposed done) same p.steps);
    }
