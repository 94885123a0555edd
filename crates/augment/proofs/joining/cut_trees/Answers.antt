use Rattle.alt_forest.proofs.Common.{◌≢◌, true, false, length, refl, sym, ap, ◌∙◌, subst, arith, both_ways, nil_from_length, IsExposed, IsOutermost, state_of}
use Rattle.alt_forest.specs.declared.search.Search.{Search}
use Rattle.augment.proofs.Joined.{some_tree, no_tree, none_left}
use Rattle.augment.proofs.joining.cut_trees.Goals as goal

pub returns-then-lists_none : goal.returns-then-lists_none
returns-then-lists_none c =
    let s : Search = c.args.search.now in let t : Search = c.exchange.new.search in
    let can = c.requires.possible in let e = c.exchange.ensures in let k = c.clear.ensures in
    let empty = c.lists_none.ensures.0 c.if-lists_none.true in
    let none = none_left s t c.args.e can.one can.other c.requires.sound e.frame (e.exchanged can) empty in
    let out = no_tree s t c.args.e can.one can.other c.requires.sound e.frame (e.exchanged can) empty in
    record {
      sound = k.sound;
      listed = k.listed;
      cleared = λ h a is_a p. k.labels a;
      stays = λ h a is_a not_one not_other. k.labels a ∙ sym (no_tree s t c.args.e h.one h.other c.requires.sound e.frame (e.exchanged h) empty a is_a) ∙ e.stays h a is_a not_one
          not_other;
      frame = rw (k.frame, e.frame) refl;
      clock = ap (λ (x : Search). x.clock) k.frame;
      one = λ h. rw k.frame (e.one h);
      other = λ h. rw k.frame (e.other h);
      keeps = λ h a off_one off_other. rw k.frame (e.keeps h a off_one off_other);
      exposed = λ h a. rw k.frame (e.exposed h a);
      fewer = omega (arith, k.exposed, e.fewer);
      trees = omega (arith, none, k.trees, e.trees);
      left = ((λ q. k.trees), (λ q. refl));
      all_rooted = λ planted a x lab.
          let was = subst (λ (y : Search). IsExposed (state_of y) a) k.frame x in
          e.all_rooted planted a was (out a (subst (λ (y : Search). IsOutermost (state_of y) a) e.frame was.0));
      event_times = λ q. k.event_times;
      none = λ q. k.labels;
      some = λ q. absurd (both_ways false refl q);
      lasts = λ q. absurd (both_ways false refl q);
      exchanged = λ q. absurd (both_ways false refl q);
    }

pub returns-clause-clock : goal.returns-clause-clock
returns-clause-clock c = ap (λ (x : Search). x.clock) c.exchange.ensures.frame

pub returns-clause-event_times : goal.returns-clause-event_times
returns-clause-event_times c = λ q. absurd (both_ways true q refl)

pub returns-clause-none : goal.returns-clause-none
returns-clause-none c = λ q. absurd (both_ways true q refl)

pub returns-clause-some : goal.returns-clause-some
returns-clause-some c = λ q none. both_ways c.lists_none.result c.if-lists_none.false (c.lists_none.ensures.1 (nil_from_length c.exchange.new.search.tree_nodes.nodes none))

pub returns-clause-lasts : goal.returns-clause-lasts
returns-clause-lasts c = λ q. c.exchange.ensures.frame

pub returns-clause-exchanged : goal.returns-clause-exchanged
returns-clause-exchanged c = λ q can. c.exchange.ensures.exchanged can

pub returns-clause-left : goal.returns-clause-left
returns-clause-left c =
    let s : Search = c.args.search.now in let t : Search = c.exchange.new.search in
    let can = c.requires.possible in
    let some : length t.tree_nodes.nodes ≢ 0 = (λ q. both_ways c.lists_none.result c.if-lists_none.false (c.lists_none.ensures.1 (nil_from_length t.tree_nodes.nodes q))) in (
      λ q. absurd (both_ways true q refl),
      λ none. absurd (some_tree s t c.args.e can.one can.other c.requires.sound c.exchange.ensures.frame (c.exchange.ensures.exchanged can) c.exchange.ensures.sound some none),
    )

pub returns-clause-listed : goal.returns-clause-listed
returns-clause-listed c = (c.exchange.ensures.exchanged c.requires.possible).listed
