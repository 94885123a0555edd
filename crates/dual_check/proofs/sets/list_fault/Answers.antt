use Rattle.graph_theory.proofs.Common.{◌≡◌, ◌∙◌, sym, ap, subst, ℕ, true, false, ◌||◌, List, arith, get_or_read, holds, given_at, no_given, false≢true}
use Rattle.graph_theory.specs.declared.odd_set.OddSet.{OddSet}
use Rattle.graph_parts.specs.Marks.{is_marked}
use Rattle.dual_check.specs.Forests.{IsItemList}
use Rattle.dual_check.proofs.ListFaults.{HasItems, references-within, lacks_items, lacks_free, item_list, lists_next, marks_next}
use Rattle.dual_check.proofs.sets.list_fault.Goals as goal

pub loop-k-init : goal.loop-k-init
loop-k-init c = record {
  size = c.requires.size;
  lists = λ j b. absurd (omega (arith, b));
  marked = record { marked = λ i r b h. absurd (omega (arith, b)); only = λ r m. absurd (false≢true (sym (c.requires.none r) ∙ m)) };
}

pub are_free-requires : goal.are_free-requires
are_free-requires c =
    let sets = c.args.sets.now in
    let k = c.loop-k.k in
    let here : c.index-sets-k.result ≡ given_at sets k = get_or_read sets k c.index-sets-k.result c.loop-k-test.true c.index-sets-k.is no_given in
    references-within sets k _ c.as_slice-references.result.now c.requires.earlier c.loop-k-test.true
    (c.as_slice-references.ensures ∙ ap (λ (t : OddSet). t.references) here) c.loop-k.invariant.size

pub mark_references-requires : goal.mark_references-requires
mark_references-requires c =
    let sets = c.args.sets.now in
    let k = c.loop-k.k in
    let here : c.index-sets-k.result ≡ given_at sets k = get_or_read sets k c.index-sets-k.result c.loop-k-test.true c.index-sets-k.is no_given in
    references-within sets k _ c.as_slice-references.result.now c.requires.earlier c.loop-k-test.true
    (c.as_slice-references.ensures ∙ ap (λ (t : OddSet). t.references) here) c.loop-k.invariant.size

pub loop-k-preserved : goal.loop-k-preserved
loop-k-preserved c =
    let sets = c.args.sets.now in
    let k = c.loop-k.k in
    let old = c.loop-k.marks in
    let here : c.index-sets-k.result ≡ given_at sets k = get_or_read sets k c.index-sets-k.result c.loop-k-test.true c.index-sets-k.is no_given in
    let references : c.as_slice-references.result.now ≡ (given_at sets k).references = c.as_slice-references.ensures ∙ ap (λ (t : OddSet). t.references) here in
    let has : c.has_items.result ≡ true = c.if-not-has_items.false in
    let open_ones : c.are_free.result ≡ true = c.if-not-are_free.false in
    let own : HasItems (given_at sets k) = subst HasItems here (c.has_items.ensures.0 has) in
    let unmarked : (r : ℕ) → holds (given_at sets k).references r ≡ true → is_marked old r ≡ false = λ r h.
    c.are_free.ensures.0 open_ones r (ap (λ (rs : List ℕ). holds rs r) references ∙ h) in
    let list : IsItemList sets k = item_list sets old k c.loop-k.invariant.marked own unmarked in
    record {
      size = c.mark_references.auto.marks ∙ c.loop-k.invariant.size;
      lists = lists_next sets k c.loop-k.invariant.lists list;
      marked = marks_next sets old _ k c.loop-k.invariant.marked (λ r.
          c.mark_references.ensures r ∙ ap (λ (rs : List ℕ). is_marked old r || holds rs r) references);
    }

pub returns-then-not-has_items : goal.returns-then-not-has_items
returns-then-not-has_items c = lacks_items c.args.sets.now c.loop-k.k c.index-sets-k.result c.loop-k.invariant.lists c.loop-k-test.true c.index-sets-k.is
    (λ has. false≢true (sym c.if-not-has_items.true ∙ c.has_items.ensures.1 has))

pub returns-then-not-are_free : goal.returns-then-not-are_free
returns-then-not-are_free c =
    let sets = c.args.sets.now in
    let k = c.loop-k.k in
    let here = get_or_read sets k c.index-sets-k.result c.loop-k-test.true c.index-sets-k.is no_given in
    let references : c.as_slice-references.result.now ≡ (given_at sets k).references = c.as_slice-references.ensures ∙ ap (λ (t : OddSet). t.references) here in
    lacks_free sets c.loop-k.marks k c.loop-k.invariant.lists c.loop-k.invariant.marked c.loop-k-test.true
    (λ free. false≢true (sym c.if-not-are_free.true ∙ c.are_free.ensures.1 (λ r held.
    free r (ap (λ (rs : List ℕ). holds rs r) (sym references) ∙ held))))

pub returns : goal.returns
returns c = λ j below. c.loop-k.invariant.lists j (omega (arith, below, c.loop-k-test.false))
