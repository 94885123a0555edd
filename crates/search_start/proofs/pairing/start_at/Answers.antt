use Rattle.alt_forest.proofs.Common.{◌≡◌, ◌≢◌, ◌∙◌, ℕ, Option, sym, ap, subst, rules, to_z, of_z, w64, is_some, both_ways, Multigraph, edge_of, IsExposed, IsTight}
use Rattle.alt_forest.proofs.Common.{state_of}
use Rattle.alt_forest.specs.declared.search.Search.{Search}
use Rattle.search_start.specs.Starts.{CanMove, CanPair}
use Rattle.search_start.proofs.StartSearch.{least_rises, state_raised, can_be_paired, end_exposed, joins_before}
use Rattle.search_start.proofs.Settled.{raised_settled, raised_others, matched_settled}
use Rattle.search_start.proofs.FirstTurns.{turn_passed, turn_still, turn_taken}
use Rattle.search_start.proofs.pairing.start_at.Given.{Over}
use Rattle.search_start.proofs.pairing.start_at.Goals as goal

pub move_dual-requires-clause-possible : goal.move_dual-requires-clause-possible
move_dual-requires-clause-possible g c =
    let s = c.args.search.now in
    let back : to_z w64 (of_z w64 c.least_rise-rise.result.by) ≡ c.least_rise-rise.result.by = search rules in
    let r = c.least_rise-rise.ensures in
    let exposed : IsExposed (state_of s) c.args.v = subst (IsExposed (state_of s)) (c.new.ensures ∙ c.number.ensures) (c.is_exposed.ensures.0 c.if-not-is_exposed.false) in
    subst (CanMove (state_of s) s.start c.args.v) (sym back) (least_rises s c.args.v c.least_rise-rise.result.by c.least_rise-rise.result.mate c.requires.sound c.requires.started
    c.requires.vertex exposed r.rise (λ e is t. (r.above e is t).0) r.none)

-- the edge is tight now, and joins two exposed vertices
ready : (g : Over) (c : goal.After-pair-arg-1 g)
    → IsTight (state_of c.move_dual.new.search) c.in-Some.e × IsExposed (state_of c.move_dual.new.search) (edge_of c.move_dual.new.search.graph c.in-Some.e).u × IsExposed
    (state_of c.move_dual.new.search) (edge_of c.move_dual.new.search.graph c.in-Some.e).v
ready g c =
    let s = c.args.search.now in
    let back : to_z w64 (of_z w64 c.least_rise-rise.result.by) ≡ c.least_rise-rise.result.by = search rules in
    let exposed : IsExposed (state_of s) c.args.v = subst (IsExposed (state_of s)) (c.new.ensures ∙ c.number.ensures) (c.is_exposed.ensures.0 c.if-not-is_exposed.false) in
    let can = subst (λ y. CanPair (state_of s) c.args.v y c.in-Some.e) (sym back) (c.least_rise-rise.ensures.rise.mate_pairs c.in-Some.e c.in-Some.is) in
    can_be_paired s c.move_dual.new.search c.args.v c.in-Some.e _ (state_raised s c.move_dual.new.search c.args.v _ c.move_dual.ensures.frame c.move_dual.ensures.duals) c.requires.sound
    c.requires.started exposed can

pub pair-requires-clause-tight : goal.pair-requires-clause-tight
pair-requires-clause-tight g c = (ready g c).0

pub pair-requires-clause-u : goal.pair-requires-clause-u
pair-requires-clause-u g c = (ready g c).1

pub pair-requires-clause-v : goal.pair-requires-clause-v
pair-requires-clause-v g c = (ready g c).2

pub returns-in-Some-clause-settled : goal.returns-in-Some-clause-settled
returns-in-Some-clause-settled g c e at j =
    let s : Search = c.args.search.now in let v = c.args.v in
    let first : c.move_dual.new.search.graph ≡ s.graph = ap (λ (x : Search). x.graph) c.move_dual.ensures.frame in
    matched_settled c.pair.new.search s.graph v e c.in-Some.e (ap (λ (x : Search). x.graph) c.pair.ensures.frame ∙ first)
    (c.least_rise-rise.ensures.rise.mate_pairs c.in-Some.e c.in-Some.is).at_vertex
    (λ x. let f = c.pair.ensures.free v x in subst (λ (k : Multigraph). (v ≢ (edge_of k c.in-Some.e).u) × (v ≢ (edge_of k c.in-Some.e).v)) first (f.1, f.2)) at j

pub returns-in-Some-clause-others : goal.returns-in-Some-clause-others
returns-in-Some-clause-others g c e at j =
    let s : Search = c.args.search.now in let u : Search = c.move_dual.new.search in
    raised_others s u c.args.v e _ (state_raised s u c.args.v _ c.move_dual.ensures.frame c.move_dual.ensures.duals) c.requires.started at
    (joins_before u c.pair.new.search e c.pair.ensures.frame (λ a x. (c.pair.ensures.free a x).0) j)

pub returns-in_default-clause-settled : goal.returns-in_default-clause-settled
returns-in_default-clause-settled g c e at j =
    let s : Search = c.args.search.now in let u : Search = c.move_dual.new.search in
    let back : to_z w64 (of_z w64 c.least_rise-rise.result.by) ≡ c.least_rise-rise.result.by = search rules in
    let can = raised_settled s u c.args.v e _ (state_raised s u c.args.v _ c.move_dual.ensures.frame c.move_dual.ensures.duals) c.requires.started c.requires.sound at j in
    both_ways (is_some c.least_rise-rise.result.mate) (ap (λ (o : Option ℕ). is_some o) c.in_default.is)
    ((c.least_rise-rise.ensures.above e can.is_edge can.at_vertex).1 (subst (λ y. CanPair (state_of s) c.args.v y e) back can))

pub returns-in_default-clause-others : goal.returns-in_default-clause-others
returns-in_default-clause-others g c e at j =
    let s : Search = c.args.search.now in let u : Search = c.move_dual.new.search in
    raised_others s u c.args.v e _ (state_raised s u c.args.v _ c.move_dual.ensures.frame c.move_dual.ensures.duals) c.requires.started at j

pub returns-then-not-is_exposed-clause-settled : goal.returns-then-not-is_exposed-clause-settled
returns-then-not-is_exposed-clause-settled g c e at j =
    let s = c.args.search.now in
    let free = subst (IsExposed (state_of s)) (sym (c.new.ensures ∙ c.number.ensures)) (end_exposed (state_of s) c.args.v e at j) in
    both_ways c.is_exposed.result c.if-not-is_exposed.true (c.is_exposed.ensures.1 free)

pub returns-in-Some-clause-exact : goal.returns-in-Some-clause-exact
returns-in-Some-clause-exact g c =
    let s = state_of c.args.search.now in
    turn_taken s c.args.v _ _ _ (subst (IsExposed s) (c.new.ensures ∙ c.number.ensures) (c.is_exposed.ensures.0 c.if-not-is_exposed.false)) c.least_rise-rise.ensures.inspections

pub returns-in-Some-clause-unchanged : goal.returns-in-Some-clause-unchanged
returns-in-Some-clause-unchanged g c = λ none.
    let s = state_of c.args.search.now in
    absurd (turn_still s c.args.v (subst (IsExposed s) (c.new.ensures ∙ c.number.ensures) (c.is_exposed.ensures.0 c.if-not-is_exposed.false)) none)

pub returns-in_default-clause-exact : goal.returns-in_default-clause-exact
returns-in_default-clause-exact g c =
    let s = state_of c.args.search.now in
    turn_taken s c.args.v _ _ _ (subst (IsExposed s) (c.new.ensures ∙ c.number.ensures) (c.is_exposed.ensures.0 c.if-not-is_exposed.false)) c.least_rise-rise.ensures.inspections

pub returns-in_default-clause-unchanged : goal.returns-in_default-clause-unchanged
returns-in_default-clause-unchanged g c = λ none.
    let s = state_of c.args.search.now in
    absurd (turn_still s c.args.v (subst (IsExposed s) (c.new.ensures ∙ c.number.ensures) (c.is_exposed.ensures.0 c.if-not-is_exposed.false)) none)

pub returns-then-not-is_exposed-clause-exact : goal.returns-then-not-is_exposed-clause-exact
returns-then-not-is_exposed-clause-exact g c =
    let s = state_of c.args.search.now in
    turn_passed s c.args.v _ _ (λ x. both_ways c.is_exposed.result c.if-not-is_exposed.true (c.is_exposed.ensures.1 (subst (IsExposed s) (sym (c.new.ensures ∙ c.number.ensures)) x)))
