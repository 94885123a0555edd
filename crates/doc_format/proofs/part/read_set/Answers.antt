use Rattle.graph_theory.proofs.Common.{◌≡◌, true, ℤ, List, Option, subst, IfSome, All, list_all-from_AllPass}
use Rattle.doc_format.specs.declared.part.SetItem.{SetItem}
use Rattle.doc_format.specs.Items.{is_item}
use Rattle.doc_format.proofs.part.read_set.Goals as goal

pub returns-clause-form : goal.returns-clause-form
returns-clause-form c =
    list_all-from_AllPass is_item c.in-Some.items
    (subst (λ (o : Option (ℤ × List SetItem)). IfSome o (λ p. All (λ x. is_item x ≡ true) p.1)) c.in-Some.is c.in_ok-dual.ensures.form)
