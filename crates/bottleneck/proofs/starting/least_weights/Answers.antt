use Rattle.graph_theory.proofs.Common.{◌≡◌, ◌+◌, ℤ, List, sym, ◌∙◌, subst, ap, length, ◌≤ℤ◌, ℕ}
use Rattle.std.proofs.lemmas.List.{with_items_is}
use Rattle.bottleneck.specs.Halving.{AreLeast, weight_at}
use Rattle.bottleneck.proofs.LeastWeights.{least-more}
use Rattle.bottleneck.proofs.starting.least_weights.Goals as goal

pub loop-place-preserved : goal.loop-place-preserved
loop-place-preserved c =
    let g = c.args.graph.now in
    let k = c.loop-place.place in
    let vec = c.loop-place.least in
    let new = c.lower_ends.new.least in
    let low = c.lower_ends.ensures in
    let value = c.deref_mut.ensures.value in
    let size : length new ≡ length vec.items = low.size ∙ ap length value in
    let items = sym (with_items_is vec new (size ∙ sym vec.ok.0)) in
    let lower : (v : ℕ) → weight_at new v ≤ℤ weight_at vec.items v = λ v. subst (λ (ws : List ℤ). weight_at new v ≤ℤ weight_at ws v) value (low.lower v) in
    subst (λ (ws : List ℤ). (length ws ≡ g.vertices + 1) × AreLeast g (k + 1) ws) items
    (size ∙ c.loop-place.invariant.0, least-more g k c.new.result vec.items new c.new.ensures c.loop-place.invariant.1 (low.from, low.to) lower)
