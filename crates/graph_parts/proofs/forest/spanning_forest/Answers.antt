use Rattle.graph_theory.proofs.Common.{◌≡◌, ℕ, ◌+◌, List, Bool, [], length, arith, refl, sym, ◌∙◌, ap, subst, false≢true, with_items_is}
use Rattle.graph_parts.specs.declared.links.Link.{Link}
use Rattle.graph_parts.specs.Marks.{is_marked, MarksSet}
use Rattle.graph_parts.specs.Forests.{IsForest}
use Rattle.graph_parts.proofs.VisitLemmas.{visited}
use Rattle.graph_parts.proofs.ForestLemmas.{forest-none, forest-all}
use Rattle.graph_parts.proofs.forest.spanning_forest.Goals as goal

pub loop-number-init : goal.loop-number-init
loop-number-init c =
    let seen = c.in_ok-seen.seen.items in
    let L : List Link → Type 0 = λ ls. IsForest c.args.graph.now [] seen ls in
    record {
      size = c.in_ok-seen.ensures.size ∙ omega arith;
      seen = λ w. (λ h. absurd (false≢true (sym (c.in_ok-seen.ensures.none w) ∙ h)), λ s. let low = s.1 in let high = s.2 in absurd (omega (arith, low, high)));
      forest = subst L (sym c.new-links.ensures.items) (forest-none c.args.graph.now [] seen c.in_ok-seen.ensures.none);
    }

pub visit-requires : goal.visit-requires
visit-requires c =
    let removed = ap length c.deref.ensures.value ∙ c.in_ok-removed.ensures.size ∙ ap (λ (k : ℕ). k + 1) c.vertices.ensures.count in
    let size = ap length c.deref_mut.ensures.value ∙ c.loop-number.invariant.size in
    record { graph = c.vertices.ensures.graph; index = c.requires; low = omega arith; high = omega arith; removed = removed; size = size }

pub loop-number-preserved : goal.loop-number-preserved
loop-number-preserved c =
    let v = c.loop-number.number + 1 in
    let old = c.loop-number.invariant in
    let off : MarksSet c.deref.result.now [] = λ w. ap (λ (m : List Bool). is_marked m w) c.deref.ensures.value ∙ c.in_ok-removed.ensures.none w in
    let long : length c.visit.new.seen ≡ c.loop-number.seen.len = omega arith in
    let items = with_items_is c.loop-number.seen c.visit.new.seen long in
    let visit = visited c.args.graph.now [] c.new-vertex.result v _ c.deref.result.now c.deref.result.now c.deref_mut.result.now c.loop-number.seen.items c.visit.new.seen _
    c.visit.new.reached.items c.loop-number.links.items c.visit.new.links.items c.in_ok-visit.ensures c.new-vertex.ensures refl c.deref_mut.ensures.value items off old.seen in
    record { size = ap length items ∙ omega arith; seen = visit.seen; forest = visit.forest old.forest }

pub returns : goal.returns
returns c = forest-all c.args.graph.now (c.loop-number.number + 1) c.loop-number.seen.items c.loop-number.links.items
    (omega arith) c.loop-number.invariant.seen c.loop-number.invariant.forest
