use Rattle.graph_theory.proofs.Common.{◌≡◌, ℕ, ◌+◌, List, Bool, true, length, ◌∙◌, ap, ◌↔◌, [], subst, sym, with_items_is, AreTogether}
use Rattle.graph_parts.specs.Marks.{is_marked}
use Rattle.graph_parts.proofs.ComponentLemmas.{marked_exact}
use Rattle.graph_parts.proofs.components.mark_component.Goals as goal

pub search-requires : goal.search-requires
search-requires c =
    let places = ap (λ (k : ℕ). k + 1) c.vertices.ensures.count in
    record {
      index = c.in_ok-index.ensures.index;
      removed = ap length c.deref.ensures.value ∙ c.in_ok-removed.ensures.size ∙ places;
      marks = ap length c.deref_mut.ensures.value ∙ c.in_ok-marks.ensures.size ∙ places;
      low = c.requires.low;
      high = c.requires.high;
      free = ap (λ (m : List Bool). is_marked m c.args.v) c.deref.ensures.value ∙ c.in_ok-removed.ensures.none c.args.v;
      new = ap (λ (m : List Bool). is_marked m c.args.v) c.deref_mut.ensures.value ∙ c.in_ok-marks.ensures.none c.args.v;
    }

pub returns-clause-size : goal.returns-clause-size
returns-clause-size c =
    let size = c.search.auto.marks ∙ ap length c.deref_mut.ensures.value in
    ap length (with_items_is c.in_ok-marks.marks c.search.new.marks (size ∙ sym c.in_ok-marks.marks.ok.0)) ∙ size ∙ c.in_ok-marks.ensures.size
    ∙ ap (λ (k : ℕ). k + 1) c.vertices.ensures.count

pub returns-clause-exact : goal.returns-clause-exact
returns-clause-exact c =
    let P : List Bool → Type 0 = λ m. (w : ℕ) → (is_marked m w ≡ true) ↔ AreTogether c.args.graph.now [] c.args.v w in
    subst P (sym (with_items_is c.in_ok-marks.marks c.search.new.marks ((c.search.auto.marks ∙ ap length c.deref_mut.ensures.value) ∙ sym c.in_ok-marks.marks.ok.0)))
    (marked_exact c.args.graph.now c.deref.result.now c.args.v c.deref_mut.result.now c.search.new.marks c.search.new.reached.items
    (λ w. ap (λ (m : List Bool). is_marked m w) c.deref.ensures.value ∙ c.in_ok-removed.ensures.none w)
    (λ w. ap (λ (m : List Bool). is_marked m w) c.deref_mut.ensures.value ∙ c.in_ok-marks.ensures.none w)
    c.in_ok-search.ensures.finds)
