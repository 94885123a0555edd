use Rattle.graph_theory.proofs.Common.{ℕ, Bool, true, false, List, set, inr, ap, sym, ◌∙◌, get_or-set_same}
use Rattle.graph_parts.specs.Marks.{is_marked}
use Rattle.graph_parts.proofs.search.reach.Goals as goal

pub returns-clause-reached : goal.returns-clause-reached
returns-clause-reached c =
    let old = c.args.marks.now in
    let place = c.number-place.ensures in
    let marked = ap (λ (p : ℕ). set old p true) place in
    record {
      settled = λ _. ap (λ (m : List Bool). is_marked m c.args.link.to) marked ∙ get_or-set_same old c.args.link.to true false c.requires.marks;
      step = inr (
        ap (is_marked c.args.removed.now) (sym place) ∙ c.if-removed-place.false,
        ap (is_marked old) (sym place) ∙ c.if-marks-place.false,
        marked,
        c.in_ok-push.ensures.items,
      );
    }
