use Rattle.graph_theory.proofs.Common.{◌≡◌, ◌≤◌, ◌∙◌, ◌+◌, length, ap, sym, subst, arith, rules, to_z, of_z, ⊎_elim, w64, cases_eq, ints, IsWeight, edge_of}
use Rattle.search_start.proofs.weights.least_weight.Goals as goal

pub loop-place-preserved : goal.loop-place-preserved
loop-place-preserved g c =
    let i = c.loop-place.invariant in
    let l = c.lesser_of-least.ensures in
    let now : to_z w64 (of_z w64 c.lesser_of-least.result) ≡ c.lesser_of-least.result = search rules in
    let high : c.new-in-loop-place.result ≤ length c.args.graph.now.edges = search rules in
    record {
      started = omega (arith, i.started);
      weight = subst IsWeight (sym now) l.weight;
      below = λ e low high. ⊎_elim
          (λ last.
          let here : (edge_of c.args.graph.now c.new-in-loop-place.result).w ≡ (edge_of c.args.graph.now e).w = ap (λ k. (edge_of c.args.graph.now k).w)
          (c.new-in-loop-place.ensures ∙ sym last) in
          let most = l.edge in
          omega (arith, ints, now, here, most))
          (λ other. let most = i.below e low (omega (arith, high, other)) in let less = l.least in omega (arith, ints, now, most, less))
          (cases_eq e (c.loop-place.place + 1));
      some = ⊎_elim
          (λ same. (i.some.0, i.some.1, i.some.2 ∙ sym (now ∙ same)))
          (λ here. (c.new-in-loop-place.result, (omega (arith, c.new-in-loop-place.ensures), high), sym (now ∙ here)))
          l.either;
      steps = omega (arith, i.steps, l.step);
    }
