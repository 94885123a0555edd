use Rattle.graph_theory.proofs.Common.{◌≡◌, ◌∙◌, ℕ, ◌<◌, List, length, sym, ap, ap₂, subst, arith, rules, to_z, of_z, w128, AllByRecursion}
use Rattle.blossom_arena.specs.Family.{Family, dual_at}
use Rattle.blossom_arena.specs.Slack.{IsDualSum, total_of}
use Rattle.blossom_arena.proofs.ChainSums.{chain_dual_sum, chain_places, chain_few}
use Rattle.blossom_arena.proofs.arena.Arena.dual_sum.Goals as goal

pub total-requires : goal.total-requires
total-requires c =
    let f : Family = c.args.self.now in
    let good = c.chain.ensures.is_family in
    let values = c.self.inside.duals.values in
    record {
      places = subst (AllByRecursion (λ a. a < length values)) (sym c.chain.ensures.chain)
          (chain_places f.vertex_count (length values) f.blossoms c.args.v good.nested c.requires
          (omega (arith, good.duals.one_each, ap (λ (g : Family). length g.duals) c.self.view_is)));
      size_limit = omega (arith, ap length c.chain.ensures.chain, chain_few f.vertex_count f.blossoms c.args.v good.size_limit good.nested);
    }

pub returns : goal.returns
returns c =
    let f : Family = c.args.self.now in
    let back : to_z w128 (of_z w128 c.total.result) ≡ c.total.result = search rules in
    record {
      dual_sum = back ∙ c.total.ensures.total ∙ ap₂ (λ (g : Family) (xs : List ℕ). total_of (dual_at g.duals) xs) c.self.view_is c.chain.ensures.chain
          ∙ chain_dual_sum (dual_at f.duals) f.blossoms c.args.v;
      in_range = subst IsDualSum (sym back) c.total.ensures.in_range;
      is_family = c.chain.ensures.is_family;
    }
