use Rattle.graph_theory.proofs.Common.{◌≡◌, ℕ, ◌+◌, ◌≤◌, Bool, true, refl, List, length, All, cond, sym, ap, ◌∙◌, subst, arith, false≢true}
use Rattle.graph_theory.proofs.Common.{with_items_is, all_holds, holds_all, Some, None}
use Rattle.graph_parts.specs.Marks.{MarksSet}
use Rattle.graph_parts.specs.Heads.{SeenBelow}
use Rattle.graph_parts.specs.Forests.{Visited}
use Rattle.graph_parts.proofs.VisitLemmas.{visited}
use Rattle.graph_parts.proofs.HeadLemmas.{seen-none, counts-none, counts-next, counts-all}
use Rattle.graph_parts.proofs.InsideLemmas.{is_inside, inside-none, inside-more, inside-all, reached-within, head-inside}
use Rattle.graph_parts.proofs.odd.count_odd_within.Goals.{then-branch+else-not-are_all_inside, else-branch}
use Rattle.graph_parts.proofs.odd.count_odd_within.Goals as goal

not_none : {P : Type 0} (k : ℕ) → Some k ≡ None → P
not_none k is = absurd (cc)

pub loop-number-init : goal.loop-number-init
loop-number-init c =
    let g = c.args.graph.now in
    record {
      size = c.in_ok-seen.ensures.size ∙ omega arith;
      seen = λ removed is. seen-none g removed c.in_ok-seen.seen.items c.in_ok-seen.ensures.none;
      counts = λ removed is. counts-none g removed;
      value_limit = omega arith;
      inside = λ removed is. inside-none g removed c.args.inside.now;
    }

pub visit-requires : goal.visit-requires
visit-requires c =
    let size = ap length c.deref_mut.ensures.value ∙ c.loop-number.invariant.size in
    record { graph = c.requires.graph; index = c.requires.index; low = omega arith; high = omega arith; removed = c.requires.out; size = size }

pub are_all_inside-requires : goal.are_all_inside-requires
are_all_inside-requires c =
    let g = c.args.graph.now in
    let v = c.loop-number.number + 1 in
    let visit : (removed : List ℕ) → MarksSet c.args.out.now removed → Visited g removed v c.in_ok-visit.field-0 c.loop-number.seen.items c.visit.new.seen c.visit.new.reached.items
    c.loop-number.links.items c.visit.new.links.items = λ removed is. visited g removed c.new-vertex.result v c.in_ok-visit.field-0 c.args.out.now c.args.out.now c.deref_mut.result.now
    c.loop-number.seen.items c.visit.new.seen c.visit.new.seen c.visit.new.reached.items c.loop-number.links.items c.visit.new.links.items c.in_ok-visit.ensures c.new-vertex.ensures
    refl c.deref_mut.ensures.value refl is (c.loop-number.invariant.seen removed is) in
    let some = c.requires.some in
    let within = reached-within g some.0 c.visit.new.reached.items v c.requires.graph (omega arith, omega arith) ((visit some.0 some.1).members c.if-branch.true) in
    subst (λ (ws : List ℕ). All (λ w. (1 ≤ w) × (w ≤ length c.args.inside.now)) ws) (sym c.deref.ensures.value)
    (subst (λ (n : ℕ). All (λ w. (1 ≤ w) × (w ≤ n)) c.visit.new.reached.items) (sym c.requires.inside) within)

pub returns-then-not-are_all_inside-clause-within : goal.returns-then-not-are_all_inside-clause-within
returns-then-not-are_all_inside-clause-within c =
    let g = c.args.graph.now in
    let v = c.loop-number.number + 1 in
    let visit : (removed : List ℕ) → MarksSet c.args.out.now removed → Visited g removed v c.in_ok-visit.field-0 c.loop-number.seen.items c.visit.new.seen c.visit.new.reached.items
    c.loop-number.links.items c.visit.new.links.items = λ removed is. visited g removed c.new-vertex.result v c.in_ok-visit.field-0 c.args.out.now c.args.out.now c.deref_mut.result.now
    c.loop-number.seen.items c.visit.new.seen c.visit.new.seen c.visit.new.reached.items c.loop-number.links.items c.visit.new.links.items c.in_ok-visit.ensures c.new-vertex.ensures
    refl c.deref_mut.ensures.value refl is (c.loop-number.invariant.seen removed is) in
    λ removed is set marks. (
      λ none hold.
          let all = all_holds (λ w. is_inside c.args.inside.now w ≡ true) c.visit.new.reached.items
          (λ w h. head-inside g removed set c.args.inside.now v w marks hold ((visit removed is).head.0 c.if-branch.true) (((visit removed is).members c.if-branch.true w).0 h)) in
          let there : All (λ w. is_inside c.args.inside.now w ≡ true) c.deref.result.now =
          subst (λ (ws : List ℕ). All (λ w. is_inside c.args.inside.now w ≡ true) ws) (sym c.deref.ensures.value) all in
          false≢true (c.if-not-are_all_inside.ensures.1 there),
      tt,
    )

pub loop-number-preserved : goal.loop-number-preserved
loop-number-preserved c =
    let g = c.args.graph.now in
    let v = c.loop-number.number + 1 in
    let old = c.loop-number.invariant in
    let visit : (removed : List ℕ) → MarksSet c.args.out.now removed → Visited g removed v c.in_ok-visit.field-0 c.loop-number.seen.items c.visit.new.seen c.visit.new.reached.items
    c.loop-number.links.items c.visit.new.links.items = λ removed is. visited g removed c.new-vertex.result v c.in_ok-visit.field-0 c.args.out.now c.args.out.now c.deref_mut.result.now
    c.loop-number.seen.items c.visit.new.seen c.visit.new.seen c.visit.new.reached.items c.loop-number.links.items c.visit.new.links.items c.in_ok-visit.ensures c.new-vertex.ensures
    refl c.deref_mut.ensures.value refl is (old.seen removed is) in
    let long : length c.visit.new.seen ≡ c.loop-number.seen.len = omega arith in
    let items = with_items_is c.loop-number.seen c.visit.new.seen long in
    record {
      size = ap length items ∙ omega arith;
      seen = λ removed is. subst (λ (m : List Bool). SeenBelow g removed (v + 1) m) (sym items) (visit removed is).seen;
      counts = λ removed is. counts-next g removed v c.loop-number.count c.if-branch.count c.in_ok-visit.field-0 (old.counts removed is) (visit removed is).head (elim c.if-branch.branch [
        | then-branch+else-not-are_all_inside w ↦ w.count-is ∙ ap (λ t. cond t (c.loop-number.count + 1) c.loop-number.count) (sym w.if-branch.true)
        | else-branch w ↦ w.count-is ∙ ap (λ t. cond t (c.loop-number.count + 1) c.loop-number.count) (sym w.if-branch.false)
      ]);
      value_limit = elim c.if-branch.branch [ then-branch+else-not-are_all_inside w ↦ omega arith | else-branch w ↦ omega arith ];
      inside = λ removed is. inside-more g removed c.args.inside.now v (old.inside removed is) (elim c.if-branch.branch [
        | then-branch+else-not-are_all_inside w ↦
            let all : All (λ u. is_inside c.args.inside.now u ≡ true) c.visit.new.reached.items =
            subst (λ (ws : List ℕ). All (λ u. is_inside c.args.inside.now u ≡ true) ws) w.deref.ensures.value (w.if-not-are_all_inside.ensures.0 refl) in
            λ h u a. holds_all (λ x. is_inside c.args.inside.now x ≡ true) c.visit.new.reached.items u all (((visit removed is).members w.if-branch.true u).1 a)
        | else-branch w ↦ λ h u a. absurd (false≢true (sym w.if-branch.false ∙ (visit removed is).head.1 h))
      ]);
    }

pub returns-clause-count : goal.returns-clause-count
returns-clause-count c = λ removed is. counts-all c.args.graph.now removed c.loop-number.number c.loop-number.count (omega arith) (c.loop-number.invariant.counts removed is)

pub returns-clause-within : goal.returns-clause-within
returns-clause-within c = λ removed is set marks. (
  not_none c.loop-number.count,
  inside-all c.args.graph.now removed set c.args.inside.now c.loop-number.number (omega arith) marks (c.loop-number.invariant.inside removed is),
)
