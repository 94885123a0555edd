use Rattle.graph_theory.proofs.Common.{◌≡◌, ℕ, ◌+◌, ◌-◌, ◌<◌, ◌≤◌, Bool, true, false, List, length, get_or, take, replicate, refl, sym, ap, ◌∙◌, arith, subst}
use Rattle.graph_theory.proofs.Common.{with_items_is, get_or_read, length-set, false≢true, true_from_ne_false, edge_of, IsEdgeNumber, touches, holds, walk_vertices, vertices-length}
use Rattle.mb_problem.specs.Network.{Network, graph_of, vertices}
use Rattle.mb_problem.specs.Marks.{AreMarks}
use Rattle.mb_problem.proofs.MarkLemmas.{marks-none, marks-more, differ-more, differ-not, marked-here}
use Rattle.mb_problem.proofs.WalkPlaces.{first_vertex, edge_there}
use Rattle.mb_problem.proofs.WalkSteps.{step-facts}
use Rattle.mb_problem.proofs.walks.vertices_differ.Goals.{After-number-in-loop-e}
use Rattle.mb_problem.proofs.walks.vertices_differ.Goals as goal

pub loop-e-init : goal.loop-e-init
loop-e-init c =
    let i = c.args.instance.now in
    let n = vertices i in
    let vs = walk_vertices (graph_of i) c.args.start c.args.edges.now in
    let long : length vs ≡ length c.args.edges.now + 1 = vertices-length (graph_of i) c.args.start c.args.edges.now in
    let below : 0 < length vs = omega arith in
    let first : get_or vs 0 0 ≡ c.args.start = first_vertex (graph_of i) c.args.start c.args.edges.now in
    let x = c.number.result in
    let number : x ≡ get_or vs 0 0 = c.number.ensures ∙ sym first in
    let low : 1 ≤ x = omega (arith, c.number.ensures) in
    let high : x ≤ n = omega (arith, c.number.ensures) in
    let fresh : c.in_ok-marks.marks.items ≡ replicate c.vertices.result false = c.in_ok-marks.ensures.items_if_clones_equal (λ y h. h) in
    let count : c.vertices.result ≡ n = c.vertices.ensures.count in
    let off : c.deref_mut.result.now ≡ replicate n false = c.deref_mut.ensures.value ∙ fresh ∙ ap (λ (k : ℕ). replicate k false) count in
    let none : AreMarks n c.deref_mut.result.now (take 0 vs) = subst (λ (ms : List Bool). AreMarks n ms (take 0 vs)) (sym off) (marks-none n vs) in
    let one = marks-more n c.deref_mut.result.now vs 0 x none below number low high in
    let size : length c.mark.new.marks ≡ length c.in_ok-marks.marks.items = ap length c.mark.ensures.marked ∙ length-set c.deref_mut.result.now (x - 1) true
    ∙ ap length c.deref_mut.ensures.value in
    let items = with_items_is c.in_ok-marks.marks c.mark.new.marks (size ∙ sym c.in_ok-marks.marks.ok.0) in
    record {
      here = sym first;
      marks = subst (λ (ms : List Bool). AreMarks n ms (take 1 vs)) (sym (items ∙ c.mark.ensures.marked)) one;
      differ = λ a b earlier within. absurd (omega arith);
    }

pub returns-in_default : goal.returns-in_default
returns-in_default c =
    let i = c.args.instance.now in
    let es = c.args.edges.now in
    let k = c.loop-e.e-index in
    let e : c.e-item.result ≡ get_or es k 0 = get_or_read es k c.e-item.result c.loop-e-test.true c.e-item.is 0 in
    let there = edge_there (graph_of i) c.args.start es k c.requires.walk c.loop-e-test.true in
    let here : IsEdgeNumber (graph_of i) c.e-item.result × (touches (edge_of (graph_of i) c.e-item.result) c.loop-e.at ≡ true) =
    subst (λ (f : ℕ). IsEdgeNumber (graph_of i) f × (touches (edge_of (graph_of i) f) c.loop-e.at ≡ true)) (sym e)
    (subst (λ (w : ℕ). IsEdgeNumber (graph_of i) (get_or es k 0) × (touches (edge_of (graph_of i) (get_or es k 0)) w ≡ true)) (sym c.loop-e.invariant.here) there) in
    absurd (c.in_default.ensures here)

-- the vertex that an edge leads to is the next one of the walk, and its mark tells whether it is new
record IsNext (i : Network) (vs : List ℕ) (k x : ℕ) (ms : List Bool) : Type 0 where
  number : x ≡ get_or vs (k + 1) 0
  low : 1 ≤ x
  high : x ≤ vertices i
  below : k + 1 < length vs
  marks : AreMarks (vertices i) ms (take (k + 1) vs)
  here : get_or ms (x - 1) false ≡ holds (take (k + 1) vs) (get_or vs (k + 1) 0)

abbrev walked : After-number-in-loop-e → List ℕ
walked c = walk_vertices (graph_of c.args.instance.now) c.args.start c.args.edges.now

next : (c : After-number-in-loop-e) → IsNext c.args.instance.now (walked c) c.loop-e.e-index c.number-in-loop-e.result c.deref_mut-in-loop-e.result.now
next c =
    let i = c.args.instance.now in
    let es = c.args.edges.now in
    let k = c.loop-e.e-index in
    let x = c.number-in-loop-e.result in
    let before = c.deref_mut-in-loop-e.result.now in
    let e : c.e-item.result ≡ get_or es k 0 = get_or_read es k c.e-item.result c.loop-e-test.true c.e-item.is 0 in
    let to = c.number-in-loop-e.ensures ∙ c.in-Some.ensures.2 in
    let facts = step-facts i c.args.start es k c.loop-e.at c.e-item.result x c.vertices.ensures.network c.loop-e-test.true c.loop-e.invariant.here e c.in-Some.ensures.0 to in
    let long : length (walked c) ≡ length es + 1 = vertices-length (graph_of i) c.args.start es in
    let marks : AreMarks (vertices i) before (take (k + 1) (walked c)) =
    subst (λ (ms : List Bool). AreMarks (vertices i) ms (take (k + 1) (walked c))) (sym c.deref_mut-in-loop-e.ensures.value) c.loop-e.invariant.marks in
    record {
      number = facts.0;
      low = facts.1;
      high = facts.2;
      below = omega (arith, long, c.loop-e-test.true);
      marks = marks;
      here = marked-here (vertices i) before (walked c) (k + 1) x marks facts.0 facts.1 facts.2;
    }

pub mark-requires-in-loop-e-clause-low : goal.mark-requires-in-loop-e-clause-low
mark-requires-in-loop-e-clause-low c = (next c).low

pub mark-requires-in-loop-e-clause-high : goal.mark-requires-in-loop-e-clause-high
mark-requires-in-loop-e-clause-high c = omega (arith, (next c).high, (next c).marks.one_each)

pub returns-then-not-mark : goal.returns-then-not-mark
returns-then-not-mark c =
    let there = next c.before.before.before.before in
    let had : get_or c.deref_mut-in-loop-e.result.now (c.number-in-loop-e.result - 1) false ≡ true = true_from_ne_false _ (λ new. false≢true (c.if-not-mark.ensures.new.1 new)) in (
      (λ t. absurd (cc)),
      (λ differ. absurd (differ-not _ (c.loop-e.e-index + 1) there.below (sym there.here ∙ had) differ)),
    )

pub loop-e-preserved : goal.loop-e-preserved
loop-e-preserved c =
    let n = vertices c.args.instance.now in
    let k = c.loop-e.e-index in
    let x = c.number-in-loop-e.result in
    let before = c.deref_mut-in-loop-e.result.now in
    let vs = walk_vertices (graph_of c.args.instance.now) c.args.start c.args.edges.now in
    let there = next c.before.before.before in
    let had : get_or before (x - 1) false ≡ false = c.if-not-mark.ensures.new.0 refl in
    let more = marks-more n before vs (k + 1) x there.marks there.below there.number there.low there.high in
    let after = c.mark-in-loop-e.new.marks in
    let size : length after ≡ length c.loop-e.marks.items =
    ap length c.if-not-mark.ensures.marked ∙ length-set before (x - 1) true ∙ ap length c.deref_mut-in-loop-e.ensures.value in
    let items = with_items_is c.loop-e.marks after (size ∙ sym c.loop-e.marks.ok.0) in
    record {
      here = sym c.number-in-loop-e.ensures ∙ there.number;
      marks = subst (λ (ms : List Bool). AreMarks n ms (take (k + 1 + 1) vs)) (sym (items ∙ c.if-not-mark.ensures.marked)) more;
      differ = differ-more vs (k + 1) there.below c.loop-e.invariant.differ (sym there.here ∙ had);
    }

pub returns : goal.returns
returns c =
    let vs = walk_vertices (graph_of c.args.instance.now) c.args.start c.args.edges.now in
    let long : length vs ≡ length c.args.edges.now + 1 = vertices-length (graph_of c.args.instance.now) c.args.start c.args.edges.now in
    let end : c.loop-e.e-index ≡ length c.args.edges.now = omega (arith, c.loop-e-test.false, c.loop-e.auto.e-index-end) in (
      (λ t a b earlier within. c.loop-e.invariant.differ a b earlier (omega arith)),
      (λ differ. refl),
    )
