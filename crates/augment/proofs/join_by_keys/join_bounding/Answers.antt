use Rattle.alt_forest.proofs.Common.{◌≡◌, ◌∙◌, pos, Bool, true, false, cond, length, refl, ap, both_ways, arith, all_holds, is_vertex}
use Rattle.alt_forest.specs.declared.search.Search.{Search}
use Rattle.search_keys.proofs.Stale.{stale_most}
use Rattle.augment.proofs.Bounded.{bounding_but, no_looks}
use Rattle.augment.proofs.Joined.{scanned_vertex}
use Rattle.augment.proofs.join_by_keys.join_bounding.Goals as goal

pub enter_scanned-requires : goal.enter_scanned-requires
enter_scanned-requires g c =
    let s : Search = c.args.search.now in let t : Search = c.cut_trees.new.search in
    let can = c.requires.possible in let e = c.cut_trees.ensures in let l = e.lasts c.if-not-cut_trees.false in
    let x = e.exchanged c.if-not-cut_trees.false can in
    let v = all_holds (λ v. is_vertex t.graph.vertices v ≡ true) t.scanned.items (scanned_vertex s t c.args.e can.one can.other c.requires.sound l x) in
    record { sound = e.sound; vertices = v; vertex_keys = bounding_but s t c.args.e can.one can.other c.requires.sound l x c.args.bounds.now c.requires.vertex_keys }

pub returns-then-not-cut_trees-clause-vertex_keys : goal.returns-then-not-cut_trees-clause-vertex_keys
returns-then-not-cut_trees-clause-vertex_keys g c = λ q. absurd (both_ways false refl q)

pub returns-then-not-cut_trees-clause-inspections : goal.returns-then-not-cut_trees-clause-inspections
returns-then-not-cut_trees-clause-inspections g c = λ q. absurd (both_ways false refl q)

pub returns-clause-last : goal.returns-clause-last
returns-clause-last g c = λ q. absurd (both_ways true q refl)

pub returns-clause-inspections : goal.returns-clause-inspections
returns-clause-inspections g c = λ _.
    let s : Search = c.args.search.now in let t : Search = c.cut_trees.new.search in
    let can = c.requires.possible in
    let none = no_looks s t c.args.e can.one can.other c.requires.sound (c.cut_trees.ensures.lasts c.if-not-cut_trees.false) (c.cut_trees.ensures.exchanged c.if-not-cut_trees.false can) in
    let most = stale_most t c.enter_scanned.new.self c.cut_trees.ensures.sound.shape in
    let edges : length t.graph.edges ≡ length s.graph.edges = ap (λ (x : Search). length x.graph.edges) c.cut_trees.ensures.frame in
    omega (arith, none, most, edges, c.enter_scanned.ensures.edge_ends, c.tick.ensures)

pub returns-then-not-cut_trees-clause-clock : goal.returns-then-not-cut_trees-clause-clock
returns-then-not-cut_trees-clause-clock g c = c.cut_trees.ensures.clock ∙ ap (λ (b : Bool). cond b c.args.search.now.clock (pos 0)) c.if-not-cut_trees.true

pub returns-clause-clock : goal.returns-clause-clock
returns-clause-clock g c = c.cut_trees.ensures.clock ∙ ap (λ (b : Bool). cond b c.args.search.now.clock (pos 0)) c.if-not-cut_trees.false

pub returns-then-not-cut_trees-clause-left : goal.returns-then-not-cut_trees-clause-left
returns-then-not-cut_trees-clause-left g c = ((λ q. c.cut_trees.ensures.left.0 c.if-not-cut_trees.true), (λ none. refl))

pub returns-clause-left : goal.returns-clause-left
returns-clause-left g c = ((λ q. absurd (both_ways true q refl)), (λ none. absurd (both_ways c.cut_trees.result (c.cut_trees.ensures.left.1 none) c.if-not-cut_trees.false)))
