use Rattle.graph_theory.proofs.Common.{◌≡◌, ◌↔◌, ℕ, ◌%◌, IsTrue, List, length, inl, inr, sym, ◌∙◌, ap, subst}
use Rattle.graph_parts.specs.Marks.{is_marked}
use Rattle.graph_parts.proofs.VisitLemmas.{visit-found, visit-skipped}
use Rattle.graph_parts.proofs.odd.visit.Goals as goal

pub returns-then-seen-place : goal.returns-then-seen-place
returns-then-seen-place c = λ set is seen. visit-skipped c.args.graph.now set c.args.vertex c.args.seen.now _ _ c.requires.graph seen
    (inl (ap (is_marked c.args.seen.now) (sym c.number-place.ensures) ∙ c.if-seen-place.true))

pub returns-then-removed-place : goal.returns-then-removed-place
returns-then-removed-place c = λ set is seen. visit-skipped c.args.graph.now set c.args.vertex c.args.seen.now _ _ c.requires.graph seen
    (inr (sym (is c.args.vertex) ∙ ap (is_marked c.args.removed.now) (sym c.number-place.ensures) ∙ c.if-removed-place.true))

pub returns : goal.returns
returns c = λ set is seen.
    visit-found c.args.graph.now c.args.removed.now set c.search.new.reached.items c.args.vertex c.args.seen.now c.search.new.marks c.is_odd.result c.args.links.now.items
    c.search.new.links.items c.requires.graph c.requires.low c.requires.high is seen (ap (is_marked c.args.seen.now) (sym c.number-place.ensures) ∙ c.if-seen-place.false)
    (ap (is_marked c.args.removed.now) (sym c.number-place.ensures) ∙ c.if-removed-place.false) c.in_ok-search.ensures.finds c.in_ok-search.ensures.links
    (subst (λ (ms : List ℕ). IsTrue c.is_odd.result ↔ (length ms % 2 ≡ 1)) c.deref.ensures.value c.is_odd.ensures)
