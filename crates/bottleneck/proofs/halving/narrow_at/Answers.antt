use Rattle.graph_theory.proofs.Common.{ℤ, List, ℕ, length, subst, FitsSigned, rules, to_z-of_z}
use Rattle.std.proofs.Common.{w64}
use Rattle.bottleneck.specs.Halving.{AreLight, IsFound, chosen, weight_at}
use Rattle.bottleneck.proofs.Ranges.{narrows}
use Rattle.bottleneck.proofs.halving.narrow_at.Goals as goal

pub returns-clause-narrowed : goal.returns-clause-narrowed
returns-clause-narrowed g c =
    let h = c.args.graph.now in
    let r = c.args.range.now in
    let ws = c.args.weights.now in
    let place = c.args.place in
    let numbers = c.in_ok-numbers.numbers.items in
    let found = c.in_ok-found.found in
    let fits : FitsSigned w64 (weight_at ws place) = search rules in
    let light : AreLight h (weight_at ws place) (length h.edges) numbers =
    subst (λ (z : ℤ). AreLight h z (length h.edges) numbers) (to_z-of_z w64 (weight_at ws place) fits) c.in_ok-numbers.ensures in
    let is : IsFound (chosen h numbers) numbers found = subst (λ (xs : List ℕ). IsFound (chosen h xs) xs found) c.deref.ensures.value c.in_ok-found.ensures.found in
    rw (c.narrow.ensures) (narrows h ws numbers r place found c.requires.weights c.requires.range c.requires.low c.requires.high light is)

pub search-requires-clause-numbers : goal.search-requires-clause-numbers
search-requires-clause-numbers g c = rw c.deref.ensures.value (λ k d b. (c.in_ok-numbers.ensures.each k d b).0)
