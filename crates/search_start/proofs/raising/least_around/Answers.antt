use Rattle.alt_forest.proofs.Common.{◌≡◌, ◌∙◌, ◌<◌, ◌≤ℤ◌, List, length, sym, subst, arith, rules, to_z, of_z, w64, ints, IsWeight, edge_of, IsIncidentEdge}
use Rattle.alt_forest.proofs.Common.{leads_weight, incidence_leads}
use Rattle.search_tables.specs.declared.incident_edges.IncidentEdge.{IncidentEdge}
use Rattle.search_start.proofs.LeastSeen.{seen_first, seen_one, seen_around, some_there, count_around}
use Rattle.search_start.proofs.Lesser.{min_by}
use Rattle.search_start.proofs.raising.least_around.Goals as goal

pub loop-place-init : goal.loop-place-init
loop-place-init g c =
    let s = c.args.search.now in let xs : List IncidentEdge = c.at-incidence.result.now in
    let p : IncidentEdge = c.index-incidence-0.result in
    let some : 0 < length xs = some_there xs c.is_empty.result c.is_empty.ensures c.if-is_empty.false in
    let to : IsIncidentEdge s.graph c.args.v p = incidence_leads s c.args.v xs 0 p c.requires.shape c.requires.vertex c.at-incidence.ensures.list some c.index-incidence-0.is in
    let back : to_z w64 (of_z w64 p.weight) ≡ p.weight = search rules in
    let is : to_z w64 (of_z w64 p.weight) ≡ (edge_of s.graph p.edge).w = back ∙ sym to.weight in
    record {
      weight = subst IsWeight (sym back) (leads_weight s.graph p.edge c.args.v p.far p.weight c.requires.shape.graph.graph to);
      low = subst (λ x. s.start ≤ℤ x) (sym is) (c.requires.start.1 p.edge to.number);
      each = seen_first (λ e. to_z w64 (of_z w64 p.weight) ≤ℤ (edge_of s.graph e).w) xs p some c.index-incidence-0.is (omega (arith, ints, is));
    }

pub loop-place-preserved : goal.loop-place-preserved
loop-place-preserved g c =
    let s = c.args.search.now in let xs : List IncidentEdge = c.at-incidence.result.now in
    let p : IncidentEdge = c.index-incidence-place.result in let i = c.loop-place.invariant in
    let l = c.min-least.ensures in let low : c.loop-place.place < length xs = omega arith in
    let to : IsIncidentEdge s.graph c.args.v p =
    incidence_leads s c.args.v xs c.loop-place.place p c.requires.shape c.requires.vertex c.at-incidence.ensures.list low c.index-incidence-place.is in
    let back : to_z w64 (of_z w64 p.weight) ≡ p.weight = search rules in
    let is : to_z w64 (of_z w64 p.weight) ≡ (edge_of s.graph p.edge).w = back ∙ sym to.weight in
    let now : to_z w64 (of_z w64 c.min-least.result) ≡ c.min-least.result = search rules in
    let weight = subst IsWeight (sym back) (leads_weight s.graph p.edge c.args.v p.far p.weight c.requires.shape.graph.graph to) in
    let start = subst (λ x. s.start ≤ℤ x) (sym is) (c.requires.start.1 p.edge to.number) in
    let one = l.self_bound in let other = l.other_bound in
    record {
      weight = subst IsWeight (sym (now ∙ l.value)) (min_by IsWeight _ _ i.weight weight);
      low = subst (λ x. s.start ≤ℤ x) (sym (now ∙ l.value)) (min_by (λ x. s.start ≤ℤ x) _ _ i.low start);
      each = seen_one (λ e. to_z w64 c.loop-place.least-bits ≤ℤ (edge_of s.graph e).w) (λ e. to_z w64 (of_z w64 c.min-least.result) ≤ℤ (edge_of s.graph e).w) xs
          c.loop-place.place p low c.index-incidence-place.is (λ e most. omega (arith, ints, now, one, most)) (omega (arith, ints, now, other, is)) i.each;
    }

pub bounds-incidence-0 : goal.bounds-incidence-0
bounds-incidence-0 g c = some_there c.at-incidence.result.now c.is_empty.result c.is_empty.ensures c.if-is_empty.false

pub returns-then-is_empty-clause-inspections : goal.returns-then-is_empty-clause-inspections
returns-then-is_empty-clause-inspections g c =
    omega (arith, c.at-incidence.ensures.counted, count_around c.args.search.now c.args.v c.at-incidence.result.now c.requires.shape c.requires.vertex c.at-incidence.ensures.list)

pub returns : goal.returns
returns g c =
    let s = c.args.search.now in let xs = c.at-incidence.result.now in let i = c.loop-place.invariant in
    let each = seen_around s c.args.v (λ e. to_z w64 c.loop-place.least-bits ≤ℤ (edge_of s.graph e).w) xs c.loop-place.place c.requires.shape c.requires.vertex
    c.at-incidence.ensures.list (omega arith) i.each in
    let count = count_around s c.args.v xs c.requires.shape c.requires.vertex c.at-incidence.ensures.list in
    record { weight = i.weight; low = i.low; each = each; inspections = omega (arith, c.at-incidence.ensures.counted, count) }
