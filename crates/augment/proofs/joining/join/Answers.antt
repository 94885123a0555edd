use Rattle.alt_forest.specs.Counts.{exposed_count, tree_count}
use Rattle.alt_forest.proofs.Common.{Bool, cond, pos, refl, sym, ◌∙◌, both_ways, ◌≡◌, ◌≤◌, true, length, ap, arith, all_holds, is_vertex, out_ends, state_of, entry_count}
use Rattle.alt_forest.specs.declared.search.Search.{Search}
use Rattle.augment.proofs.Joined.{none_entered, scanned_vertex, scanned_looks, queued_but, out_rises, all_out}
use Rattle.augment.proofs.joining.join.Goals as goal

pub returns-then-not-cut_trees-clause-edge_ends : goal.returns-then-not-cut_trees-clause-edge_ends
returns-then-not-cut_trees-clause-edge_ends g c =
    let s : Search = c.args.search.now in let t : Search = c.cut_trees.new.search in
    let all : out_ends (state_of s) ≤ out_ends (state_of t) = all_out t s (ap (λ (u : Search). u.graph) c.cut_trees.ensures.frame) (c.cut_trees.ensures.none c.if-not-cut_trees.true) in
    omega (arith, all)

pub returns-then-not-cut_trees-clause-count : goal.returns-then-not-cut_trees-clause-count
returns-then-not-cut_trees-clause-count g c =
    let t : Search = c.cut_trees.new.search in
    let none = none_entered t.queue ((c.cut_trees.ensures.event_times c.if-not-cut_trees.true).empty (λ a is. c.cut_trees.ensures.none c.if-not-cut_trees.true a)) in
    omega (arith, none)

pub look_again-requires : goal.look_again-requires
look_again-requires g c =
    let s : Search = c.args.search.now in let t : Search = c.cut_trees.new.search in
    let can = c.requires.possible in let e = c.cut_trees.ensures in let l = e.lasts c.if-not-cut_trees.false in
    let x = e.exchanged c.if-not-cut_trees.false can in let sound = c.requires.sound in
    let v = all_holds (λ v. is_vertex t.graph.vertices v ≡ true) t.scanned.items (scanned_vertex s t c.args.e can.one can.other sound l x) in
    let few = scanned_looks s t c.args.e can.one can.other sound l x in
    let q = queued_but s t c.args.e can.one can.other sound l x (e.some c.if-not-cut_trees.false) c.requires.event_times in
    record { sound = e.sound; listed = e.listed; same_graph = c.requires.same_graph ∙ sym (ap (λ (x : Search). x.graph) e.frame); vertices = v; size_limit = few; event_times = q }

pub returns-then-not-cut_trees-clause-clock : goal.returns-then-not-cut_trees-clause-clock
returns-then-not-cut_trees-clause-clock g c = c.cut_trees.ensures.clock ∙ ap (λ (b : Bool). cond b c.args.search.now.clock (pos 0)) c.if-not-cut_trees.true

pub returns-then-not-cut_trees-clause-left : goal.returns-then-not-cut_trees-clause-left
returns-then-not-cut_trees-clause-left g c = ((λ q. c.cut_trees.ensures.left.0 c.if-not-cut_trees.true), (λ none. refl))

pub returns-then-not-cut_trees-clause-step : goal.returns-then-not-cut_trees-clause-step
returns-then-not-cut_trees-clause-step g c = omega (arith)

pub returns-then-not-cut_trees-clause-inspections : goal.returns-then-not-cut_trees-clause-inspections
returns-then-not-cut_trees-clause-inspections g c = omega (arith)

pub returns-then-not-cut_trees-clause-event_times : goal.returns-then-not-cut_trees-clause-event_times
returns-then-not-cut_trees-clause-event_times g c = c.cut_trees.ensures.event_times c.if-not-cut_trees.true

pub returns : goal.returns
returns g c =
    let s : Search = c.args.search.now in let t : Search = c.cut_trees.new.search in
    let can = c.requires.possible in let e = c.cut_trees.ensures in let k = c.look_again.ensures in
    let left = c.if-not-cut_trees.false in
    let few = scanned_looks s t c.args.e can.one can.other c.requires.sound (e.lasts left) (e.exchanged left can) in
    let rises = out_rises s t c.args.e can.one can.other c.requires.sound (e.lasts left) (e.exchanged left can) in
    record {
      sound = k.sound;
      event_times = k.event_times;
      listed = k.listed;
      cleared = λ h a is_a p. rw k.frame (e.cleared h a is_a p);
      stays = λ h a is_a not_one not_other. rw k.frame (e.stays h a is_a not_one not_other);
      frame = rw (k.frame, e.frame) refl;
      clock = ap (λ (x : Search). x.clock) k.frame ∙ e.clock ∙ ap (λ (b : Bool). cond b s.clock (pos 0)) left;
      one = λ h. rw k.frame (e.one h);
      other = λ h. rw k.frame (e.other h);
      keeps = λ h a off_one off_other. rw k.frame (e.keeps h a off_one off_other);
      exposed = λ h a. rw k.frame (e.exposed h a);
      fewer = omega (arith, ap (λ (x : Search). exposed_count (state_of x)) k.frame, e.fewer);
      trees = omega (arith, ap (λ (x : Search). tree_count (state_of x)) k.frame, e.trees);
      left = (
        λ q. absurd (both_ways true q refl),
        λ none. absurd (both_ways c.cut_trees.result (e.left.1 (sym (ap (λ (x : Search). tree_count (state_of x)) k.frame) ∙ none)) left),
      );
      all_rooted = λ planted. rw k.frame (e.all_rooted planted);
      step = omega (arith, k.more);
      edge_ends = omega (arith, rises, ap (λ (x : Search). out_ends (state_of x)) k.frame, k.edge_ends);
      inspections = omega (arith, few, ap (λ (x : Search). length x.graph.edges) e.frame, k.edge_ends);
      count = omega (arith, k.count, ap (λ (x : Search). entry_count x.queue) (e.lasts left));
    }
