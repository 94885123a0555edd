use Rattle.graph_theory.proofs.Common.{◌≡◌, ◌⊎◌, ℤ, ◌≤ℤ◌, ◌∙◌, inl, inr, sym, subst, rules, to_z, of_z, w64, IsWeight, edge_of}
use Rattle.search_start.proofs.Lesser.{min_by}
use Rattle.search_start.proofs.weights.lesser_of.Goals as goal

pub returns-clause-weight : goal.returns-clause-weight
returns-clause-weight g c =
    let a : to_z w64 (of_z w64 c.args.least) ≡ c.args.least = search rules in
    let b : to_z w64 (of_z w64 c.weight_of.result) ≡ c.weight_of.result = search rules in
    let r : to_z w64 (of_z w64 c.min.result) ≡ c.min.result = search rules in
    subst IsWeight (sym (r ∙ c.min.ensures.value)) (min_by IsWeight _ _ (subst IsWeight (sym a) c.requires.least) (subst IsWeight (sym b) c.weight_of.ensures.weight))

pub returns-clause-low : goal.returns-clause-low
returns-clause-low g c x one other =
    let P : ℤ → Type 0 = λ z. x ≤ℤ z in
    let a : to_z w64 (of_z w64 c.args.least) ≡ c.args.least = search rules in
    let b : to_z w64 (of_z w64 c.weight_of.result) ≡ c.weight_of.result = search rules in
    let r : to_z w64 (of_z w64 c.min.result) ≡ c.min.result = search rules in
    subst P (sym (r ∙ c.min.ensures.value)) (min_by P _ _ (subst P (sym a) one) (subst P (sym (b ∙ c.weight_of.ensures.is)) other))

pub returns-clause-either : goal.returns-clause-either
returns-clause-either g c =
    let P : ℤ → Type 0 = λ z. (z ≡ c.args.least) ⊎ (z ≡ (edge_of c.args.graph.now c.args.e).w) in
    let a : to_z w64 (of_z w64 c.args.least) ≡ c.args.least = search rules in
    let b : to_z w64 (of_z w64 c.weight_of.result) ≡ c.weight_of.result = search rules in
    let r : to_z w64 (of_z w64 c.min.result) ≡ c.min.result = search rules in
    subst P (sym (r ∙ c.min.ensures.value)) (min_by P _ _ (inl a) (inr (b ∙ c.weight_of.ensures.is)))
