use Rattle.mb_problem.proofs.Common.{◌≡◌, ℕ, List, [], ◌∷◌, length, ap, sym, subst, refl, ◌∙◌, arith, common_steps, edge_at}
use Rattle.mb_problem.proofs.Common.{touched-within, edge_at-within, walk-rest, taken-sum}
use Rattle.postman_walk.proofs.TracingLemmas.{tracing-push, tracing-pop, tracing-end, tracing-same, IsTracing}
use Rattle.postman_walk.proofs.trace.walk_on.Goals as goal

pub walk-smaller-in-Some : goal.walk-smaller-in-Some
walk-smaller-in-Some c =
    let takes = c.in-Some.ensures.taken in
    omega (arith, taken-sum c.walk.left c.take_left.new.left c.in-Some.edge (length c.args.graph.now.edges) takes.number.0 takes.number.1 takes.taken, ap length c.in_ok-push.ensures.items)

pub walk-preserved-in-Some : goal.walk-preserved-in-Some
walk-preserved-in-Some c =
    let g = c.args.graph.now in
    let uses = c.args.left.now in
    let start = c.args.start in
    let takes = c.in-Some.ensures.taken in
    let step = tracing-push g uses c.walk.left c.take_left.new.left start c.walk.here c.in-Some.edge c.walk.opened.items c.walk.finished.items c.requires.graph.ends
    c.walk.invariant.tracing takes in
    let next = tracing-same g uses _ _ start _ _ _ _ _ _ refl (sym c.other_end-here.ensures.end) (sym c.in_ok-push.ensures.items) refl step in
    record { size = takes.size ∙ c.walk.invariant.size; here = c.other_end-here.ensures.high; passed = c.in-Some.ensures.passed; tracing = next }

pub other_end-here-requires-in-Some-pop : goal.other_end-here-requires-in-Some-pop
other_end-here-requires-in-Some-pop c =
    let g = c.args.graph.now in
    let start = c.args.start in
    let P : List ℕ → Type 0 = λ xs. IsTracing g c.args.left.now c.walk.left start c.walk.here xs c.walk.finished.items in
    (walk-rest g start c.pop.new.self.items (c.in-Some-pop.edge ∷ []) (subst P c.in-Some-pop.ensures.items c.walk.invariant.tracing).opened_is).0

pub walk-preserved : goal.walk-preserved
walk-preserved c =
    let g = c.args.graph.now in
    let start = c.args.start in
    let uses = c.args.left.now in
    let here = c.walk.here in
    let left = c.walk.left in
    let finished = c.walk.finished.items in
    let kept = c.in_default.ensures.taken in
    let ends = c.requires.graph.ends in
    let first = c.requires.start in
    let within = touched-within g.vertices (edge_at g first.0) start (edge_at-within g first.0 ends first.1) first.2 in
    let P : List ℕ → Type 0 = λ xs. IsTracing g uses left start here xs finished in
    let step = tracing-pop g uses left start here c.in-Some-pop.edge c.pop.new.self.items finished ends within (subst P c.in-Some-pop.ensures.items c.walk.invariant.tracing) kept.1 in
    let to = c.other_end-here-in-Some-pop.ensures in
    let next = tracing-same g uses left _ start _ _ _ _ _ _ (sym kept.0) (sym to.end) refl (sym c.in_ok-push-2.ensures.items) step in
    record { size = ap length kept.0 ∙ c.walk.invariant.size; here = to.high; passed = c.in_default.ensures.passed; tracing = next }

pub returns-in_default-pop : goal.returns-in_default-pop
returns-in_default-pop c =
    let g = c.args.graph.now in
    let first = c.requires.start in
    let none : c.walk.opened.items ≡ [] = grind (arith, common_steps) in
    let P : List ℕ → Type 0 = λ xs. IsTracing g c.args.left.now c.walk.left c.args.start c.walk.here xs c.walk.finished.items in
    let traced = tracing-end g c.args.left.now c.walk.left c.args.start c.walk.here c.walk.finished.items c.requires.graph.ends (subst P none c.walk.invariant.tracing)
    c.in_default.ensures.taken.1 c.requires.all c.requires.connected first.0 first.1 first.2 in
    record { closed = traced.0; uses = traced.1 }
