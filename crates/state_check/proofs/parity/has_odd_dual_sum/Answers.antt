use Rattle.alt_forest.proofs.Common.{◌≡◌, ◌∙◌, ℕ, true, List, sym, ap, subst, rules, to_z, of_z, w64, AllByRecursion, holds, is_node, is_vertex, dual_at, chain_of, each_from}
use Rattle.alt_forest.proofs.Common.{chain_node, dual_sum, state_of}
use Rattle.state_check.proofs.Parities.{chain_summed, one_summed, all_summed}
use Rattle.state_check.proofs.parity.has_odd_dual_sum.Goals as goal

pub loop-node-init : goal.loop-node-init
loop-node-init c =
    let s = c.args.search.now in
    let n : ℕ = s.arena.vertex_count in
    let items : c.into_iter-node-iterator.result ≡ chain_of s.arena.blossoms c.args.v = c.into_iter-node-iterator.ensures.into_iter_gives ∙ c.chain-node-items.ensures.chain in
    let vertex : is_vertex n c.args.v ≡ true = ap (λ (k : ℕ). is_vertex k c.args.v) c.requires.shape.arena ∙ c.requires.vertex in
    record {
      summed = chain_summed (dual_at s.arena.duals) s.arena.blossoms c.args.v c.into_iter-node-iterator.result items;
      nodes = each_from (λ a. is_node n s.arena.blossoms a ≡ true) c.into_iter-node-iterator.result
          (λ a e. chain_node n s.arena.blossoms c.args.v a vertex (ap (λ (xs : List ℕ). holds xs a) (sym items) ∙ e));
    }

pub loop-node-preserved : goal.loop-node-preserved
loop-node-preserved c =
    let s = c.args.search.now in
    let v = c.loop-node.invariant in
    let back : to_z w64 (of_z w64 c.dual.result) ≡ c.dual.result = search rules in
    record {
      summed = one_summed (dual_at s.arena.duals)
          (dual_sum (state_of s) c.args.v) c.loop-node.odd c.loop-node.node-iterator c.in-Some.node c.next.new.self _ c.is_odd_sum-odd.result c.in-Some.ensures.steps
          (back ∙ c.dual.ensures.dual) c.is_odd_sum-odd.ensures v.summed;
      nodes = (subst (AllByRecursion (λ a. is_node s.arena.vertex_count s.arena.blossoms a ≡ true)) c.in-Some.ensures.steps v.nodes).1;
    }

pub returns : goal.returns
returns c =
    let s = c.args.search.now in
    all_summed (dual_at s.arena.duals) (dual_sum (state_of s) c.args.v) c.loop-node.odd c.loop-node.node-iterator c.in-None.ensures.steps.0 c.loop-node.invariant.summed
