use Rattle.alt_forest.proofs.Common.{◌≡◌, ◌≢◌, ◌∙◌, ℕ, ◌+◌, ◌*◌, ◌≤◌, length, refl, ap, subst, arith, nat_tests, rules, Multigraph}
use Rattle.alt_forest.specs.declared.search.Search.{Search}
use Rattle.alt_forest.specs.declared.weights.Weights.TheVariants.{Zero}
use Rattle.search_start.specs.Sweeps.{sweep_looks}
use Rattle.search_start.proofs.sweeping.sweep_twice.Goals as goal

-- three rounds, where there are ten vertices or more
three_rounds : (n m old one two new : ℕ) → 10 ≤ n → one ≤ old + 2 * m → two ≤ one + 2 * m → new ≤ two + 2 * m → new ≤ old + sweep_looks n * m
three_rounds n m old one two new ten a b d =
    let six : sweep_looks n ≡ 6 = grind (arith, nat_tests) in
    omega (arith, a, b, d, ap (λ k. k * m) six)

pub returns : goal.returns
returns g c =
    let e = c.start_all.ensures in let one = c.sweep_all.ensures in let two = c.sweep_all-2.ensures in
    let n : ℕ = c.args.search.now.graph.vertices in
    let ten : 10 ≤ n = omega (arith, c.if-vertices-lt10.false, c.vertices.ensures.count) in
    let some : c.args.search.now.weights ≢ Zero = search rules in
    let after : c.sweep_all.new.search.graph ≡ c.args.search.now.graph = ap (λ (x : Search). x.graph) one.frame in
    let last : c.sweep_all-2.new.search.graph ≡ c.args.search.now.graph = ap (λ (x : Search). x.graph) two.frame ∙ after in
    let second = subst (λ (k : Multigraph). c.sweep_all-2.new.steps ≤ c.sweep_all.new.steps + 2 * length k.edges) after two.inspections in
    let third = subst (λ (k : Multigraph). c.start_all.new.steps ≤ c.sweep_all-2.new.steps + 2 * length k.edges) last e.inspections in
    let looks = three_rounds n (length c.args.search.now.graph.edges) c.args.steps.now _ _ _ ten one.inspections second third in
    record {
      sound = e.sound;
      started = e.started;
      frame = rw (e.frame, two.frame, one.frame) refl;
      maximal = e.maximal;
      inspections = looks;
      flat = λ zero. absurd (some zero);
      made = λ given many v first. let first_sweep = one.made v first in omega (arith, first_sweep, two.grows, e.grows);
    }
