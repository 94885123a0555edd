use Rattle.graph_theory.proofs.Common.{◌≡◌, ◌∙◌, ◌+◌, ◌-◌, ◌≤◌, length, drop, sym, ap, ap₂, arith, length-drop}
use Rattle.graph_theory.specs.declared.limits.TheConstants.{GRAPH_VERTEX_LIMIT}
use Rattle.alt_forest.specs.Chains.{apart, holders}
use Rattle.alt_forest.proofs.Forks.{IsEnds, ends_of, ends_turned, chain_few, counts, holders_few}
use Rattle.alt_forest.proofs.slack.holder_counts.Goals.{After-chain, After-apart-both}
use Rattle.alt_forest.proofs.slack.holder_counts.Goals as goal

ends : (c : After-chain) → IsEnds c.args.arena.now.vertex_count c.args.arena.now.blossoms c.args.edge.now.u c.args.edge.now.v
ends c = ends_of c.args.arena.now.vertex_count c.args.arena.now.blossoms c.args.edge.now c.chain.ensures.is_family.nested c.chain.ensures.is_family.size_limit c.requires.ends
    c.requires.loopless

pub count-left-requires : goal.count-left-requires
count-left-requires c = omega (arith, chain_few _ _ _ _ (ends (goal.at.count-left-requires c).After-chain), ap length c.chain.ensures.chain)

pub count-right-requires : goal.count-right-requires
count-right-requires c = omega (arith, chain_few _ _ _ _ (ends_turned _ _ _ _ (ends (goal.at.count-right-requires c).After-chain)), ap length c.chain-2.ensures.chain)

pub apart-both-requires : goal.apart-both-requires
apart-both-requires c =
    let few = chain_few _ _ _ _ (ends (goal.at.apart-both-requires c).After-chain) in
    let sizes : (length c.chain.result ≡ length c.chain-3.result) × (length c.chain-2.result ≡ length c.chain-4.result) =
    (ap length (c.chain.ensures.chain ∙ sym c.chain-3.ensures.chain), ap length (c.chain-2.ensures.chain ∙ sym c.chain-4.ensures.chain)) in
    let left = ap length c.shortened.ensures ∙ length-drop c.saturating_sub-more.result c.chain-3.result in
    let right = ap length c.shortened-2.ensures ∙ length-drop c.saturating_sub-less.result c.chain-4.result in
    record { size_limit = omega (arith, left, sizes, few, ap length c.chain.ensures.chain); level = omega (arith, left, right, sizes) }

record AreCounted (c : After-apart-both) : Type 0 where
  left : c.saturating_sub-more.result + c.apart-both.result ≡ length (holders c.args.arena.now.blossoms c.args.edge.now.u c.args.edge.now.v)
  right : c.saturating_sub-less.result + c.apart-both.result ≡ length (holders c.args.arena.now.blossoms c.args.edge.now.v c.args.edge.now.u)
  size_limit : (c.saturating_sub-more.result + c.apart-both.result) + (c.saturating_sub-less.result + c.apart-both.result) ≤ GRAPH_VERTEX_LIMIT

counted : (c : After-apart-both) → IsEnds c.args.arena.now.vertex_count c.args.arena.now.blossoms c.args.edge.now.u c.args.edge.now.v → AreCounted c
counted c h =
    let one = c.count-left.ensures ∙ ap length c.chain.ensures.chain in
    let other = c.count-right.ensures ∙ ap length c.chain-2.ensures.chain in
    let is = counts _ _ _ _ _ _ h (c.saturating_sub-more.ensures ∙ ap₂ ◌-◌ one other) (c.saturating_sub-less.ensures ∙ ap₂ ◌-◌ other one) in
    let same = c.apart-both.ensures ∙ ap₂ apart (c.shortened.ensures ∙ ap (drop _) c.chain-3.ensures.chain) (c.shortened-2.ensures ∙ ap (drop _) c.chain-4.ensures.chain) in
    let few = holders_few _ _ _ _ h in
    record { left = omega (arith, is.0, same); right = omega (arith, is.1, same); size_limit = omega (arith, is, same, few) }

pub overflow_add-result : goal.overflow_add-result
overflow_add-result c = let r = counted (goal.at.overflow_add-result c).After-apart-both (ends (goal.at.overflow_add-result c).After-chain) in let few = r.size_limit in omega arith

pub overflow_add-result-2 : goal.overflow_add-result-2
overflow_add-result-2 c = let r = counted (goal.at.overflow_add-result-2 c).After-apart-both (ends (goal.at.overflow_add-result-2 c).After-chain) in let few = r.size_limit in omega arith

pub returns : goal.returns
returns c = let r = counted (goal.at.returns c).After-apart-both (ends (goal.at.returns c).After-chain) in record { u = r.left; v = r.right; size_limit = omega (arith, r.size_limit) }
