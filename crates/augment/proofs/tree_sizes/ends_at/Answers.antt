use Rattle.alt_forest.proofs.Common.{◌≡◌, ◌∙◌, ◌∷◌, ◌+◌, ℕ, List, drop, add-one, sym, ap, ap₂, arith, ends_around}
use Rattle.std.proofs.Math.Seq.{drop-cons}
use Rattle.augment.proofs.tree_sizes.ends_at.Goals as goal

pub loop-v-preserved : goal.loop-v-preserved
loop-v-preserved c =
    let xs : List ℕ = c.args.vertices.now in let place : ℕ = c.loop-v.v-index in
    let v : ℕ = c.v-item.result in
    let step : drop place xs ≡ v ∷ drop (place + 1) xs = drop-cons xs place v c.loop-v-test.true ∙ ap₂ (λ (x k : ℕ). x ∷ drop k xs) (sym c.v-item.is) (sym (add-one place)) in
    omega (arith, c.loop-v.invariant, ap (ends_around c.args.search.now.graph) step, c.degree-ends.ensures)
