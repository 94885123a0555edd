use Rattle.alt_forest.proofs.Common.{◌≡◌, ◌≢◌, ◌∙◌, ℕ, ℤ, Some, sym, ap, subst, arith, to_z, of_z, w128, both_ways, outermost, Inner, NeedsMoment, state_of}
use Rattle.alt_forest.proofs.Common.{Multigraph, IsEdgeNumber, label_at, nested_of}
use Rattle.graph_theory.proofs.Common.{to_z-of_z}
use Rattle.alt_forest.specs.declared.search.Search.{Search}
use Rattle.dual_change.specs.declared.event.Next.TheVariants.{Stuck}
use Rattle.search_keys.specs.declared.bounds.EventBounds.{EventBounds}
use Rattle.search_keys.specs.Bounds.{IsIdle, bound_of, hint_of}
use Rattle.search_keys.proofs.Least.{IsHintAt, hint_needs}
use Rattle.dual_change.proofs.Hints.{hint_comes}
use Rattle.dual_change.proofs.Turns.{idle_vertex}
use Rattle.dual_change.proofs.Due.{comes_at}
use Rattle.dual_change.proofs.find_by_keys.by_vertex.Goals as goal

pub drop_moment-requires-clause-has : goal.drop_moment-requires-clause-has
drop_moment-requires-clause-has g c =
    (c.args.moment, ap (bound_of c.args.bounds.now.moments) (c.new.ensures ∙ c.number.ensures) ∙ c.requires.has)

pub drop_moment-requires-clause-idle : goal.drop_moment-requires-clause-idle
drop_moment-requires-clause-idle g c =
    let s : Search = c.args.search.now in
    subst (IsIdle (state_of s)) (sym (c.new.ensures ∙ c.number.ensures))
    (idle_vertex (state_of s) c.args.v (nested_of s c.requires.sound.shape) c.requires.vertex (c.lies_in_inner.ensures.0 c.if-lies_in_inner.true))

pub by_edge-requires-clause-edge : goal.by_edge-requires-clause-edge
by_edge-requires-clause-edge g c =
    let s : Search = c.args.search.now in let b : EventBounds = c.args.bounds.now in
    let lies : label_at s.labels.items (outermost s.arena.blossoms c.args.v) ≢ Inner = λ q. both_ways c.lies_in_inner.result c.if-lies_in_inner.false (c.lies_in_inner.ensures.1 q) in
    let h = hint_needs s b c.args.v c.args.moment c.requires.sound c.requires.vertex_keys c.requires.vertex lies (sym c.is_stale.ensures ∙ c.if-is_stale.false) c.requires.has in
    subst (IsEdgeNumber c.args.graph.now) (sym c.hint.ensures) (subst (λ (k : Multigraph). IsEdgeNumber k (hint_of b c.args.v)) (sym c.requires.same_graph) h.number)

pub by_edge-requires-clause-entered : goal.by_edge-requires-clause-entered
by_edge-requires-clause-entered g c =
    let s : Search = c.args.search.now in let b : EventBounds = c.args.bounds.now in
    let back : to_z w128 (of_z w128 c.args.moment) ≡ c.args.moment = to_z-of_z w128 c.args.moment c.ranges.moment in
    let lies : label_at s.labels.items (outermost s.arena.blossoms c.args.v) ≢ Inner = λ q. both_ways c.lies_in_inner.result c.if-lies_in_inner.false (c.lies_in_inner.ensures.1 q) in
    let h = hint_needs s b c.args.v c.args.moment c.requires.sound c.requires.vertex_keys c.requires.vertex lies (sym c.is_stale.ensures ∙ c.if-is_stale.false) c.requires.has in
    subst (λ (e : ℕ). NeedsMoment (state_of s) s.clock e (Some (to_z w128 (of_z w128 c.args.moment)))) (sym c.hint.ensures)
    (subst (λ (x : ℤ). NeedsMoment (state_of s) s.clock (hint_of b c.args.v) (Some x)) (sym back) h.needs)

pub renew-requires-clause-lies : goal.renew-requires-clause-lies
renew-requires-clause-lies g c = λ q. both_ways c.lies_in_inner.result c.if-lies_in_inner.false (c.lies_in_inner.ensures.1 q)

pub returns : goal.returns
returns g c =
    let s : Search = c.args.search.now in let b : EventBounds = c.args.bounds.now in
    let lies : label_at s.labels.items (outermost s.arena.blossoms c.args.v) ≢ Inner = λ q. both_ways c.lies_in_inner.result c.if-lies_in_inner.false (c.lies_in_inner.ensures.1 q) in
    let h = hint_needs s b c.args.v c.args.moment c.requires.sound c.requires.vertex_keys c.requires.vertex lies (sym c.is_stale.ensures ∙ c.if-is_stale.false) c.requires.has in
    let at : IsHintAt s c.hint.result c.args.v c.args.moment = subst (λ (e : ℕ). IsHintAt s e c.args.v c.args.moment) (sym c.hint.ensures) h in
    let e = c.by_edge.ensures in
    let there : c.by_edge.result ≢ Stuck = λ q. hint_comes s c.hint.result c.args.v c.args.moment c.requires.sound at lies (e.stale q) in
    let comes = comes_at _ _ _ _ (to_z-of_z w128 c.args.moment c.ranges.moment) e.comes in
    let looks = e.inspections there in
    record {
      candidate = e.candidate;
      comes = comes;
      vertex_keys = c.requires.vertex_keys;
      left = λ q. absurd (there q);
      count = omega (arith, looks, e.step);
      look = omega (arith, looks, e.step);
    }
