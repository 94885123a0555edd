use Rattle.graph_theory.proofs.Common.{◌≡◌, ◌+◌, ℕ, List, Bool, length, cond, arith, refl, sym, ◌∙◌, ap, subst, with_items_is}
use Rattle.graph_parts.specs.Marks.{MarksSet}
use Rattle.graph_parts.specs.Heads.{SeenBelow}
use Rattle.graph_parts.specs.Forests.{Visited}
use Rattle.graph_parts.proofs.VisitLemmas.{visited}
use Rattle.graph_parts.proofs.HeadLemmas.{seen-none, counts-none, counts-next, counts-all}
use Rattle.graph_parts.proofs.odd.count_odd.Goals.{then-branch, else-branch}
use Rattle.graph_parts.proofs.odd.count_odd.Goals as goal

pub loop-number-init : goal.loop-number-init
loop-number-init c =
    record {
      size = c.in_ok-seen.ensures.size ∙ omega arith;
      seen = λ removed is. seen-none c.args.graph.now removed c.in_ok-seen.seen.items c.in_ok-seen.ensures.none;
      counts = λ removed is. counts-none c.args.graph.now removed;
      value_limit = omega arith;
    }

pub visit-requires : goal.visit-requires
visit-requires c =
    let size = ap length c.deref_mut.ensures.value ∙ c.loop-number.invariant.size in
    record { graph = c.requires.graph; index = c.requires.index; low = omega arith; high = omega arith; removed = c.requires.out; size = size }

pub loop-number-preserved : goal.loop-number-preserved
loop-number-preserved c =
    let g = c.args.graph.now in
    let v = c.loop-number.number + 1 in
    let old = c.loop-number.invariant in
    let visit : (removed : List ℕ) → MarksSet c.args.out.now removed → Visited g removed v c.in_ok-visit.field-0 c.loop-number.seen.items c.visit.new.seen c.visit.new.reached.items
    c.loop-number.links.items c.visit.new.links.items = λ removed is. visited g removed c.new-vertex.result v c.in_ok-visit.field-0 c.args.out.now c.args.out.now c.deref_mut.result.now
    c.loop-number.seen.items c.visit.new.seen c.visit.new.seen c.visit.new.reached.items c.loop-number.links.items c.visit.new.links.items c.in_ok-visit.ensures c.new-vertex.ensures
    refl c.deref_mut.ensures.value refl is (old.seen removed is) in
    let long : length c.visit.new.seen ≡ c.loop-number.seen.len = omega arith in
    let items = with_items_is c.loop-number.seen c.visit.new.seen long in
    record {
      size = ap length items ∙ omega arith;
      seen = λ removed is. subst (λ (m : List Bool). SeenBelow g removed (v + 1) m) (sym items) (visit removed is).seen;
      counts = λ removed is. counts-next g removed v c.loop-number.count c.if-branch.count c.in_ok-visit.field-0 (old.counts removed is) (visit removed is).head (elim c.if-branch.branch [
        | then-branch w ↦ w.count-is ∙ ap (λ t. cond t (c.loop-number.count + 1) c.loop-number.count) (sym w.if-branch.true)
        | else-branch w ↦ w.count-is ∙ ap (λ t. cond t (c.loop-number.count + 1) c.loop-number.count) (sym w.if-branch.false)
      ]);
      value_limit = elim c.if-branch.branch [ then-branch w ↦ omega arith | else-branch w ↦ omega arith ];
    }

pub returns : goal.returns
returns c = λ removed is. counts-all c.args.graph.now removed c.loop-number.number c.loop-number.count (omega arith) (c.loop-number.invariant.counts removed is)
