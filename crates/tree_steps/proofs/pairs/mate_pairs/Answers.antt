use Rattle.alt_forest.proofs.Common.{◌<◌, ◌-◌, ◌∙◌, List, length, take, drop, Some, sym, ap, subst, vec_len, AllByRecursion, Link, edge_in, put}
use Rattle.tree_steps.specs.Expanded.{mated}
use Rattle.tree_steps.proofs.Neighbours.{two_first, mated_end}
use Rattle.tree_steps.proofs.pairs.mate_pairs.Goals as goal

pub loop-left-preserved : goal.loop-left-preserved
loop-left-preserved c =
    let v = c.loop-left.invariant in let one = c.one-item.result in let left = c.loop-left.left.now in
    let rest : List Link = take (length left - 2) (drop 2 left) in
    let split = two_first left one c.other-item.result c.in-len2-up.len_at_least c.one-item.is c.other-item.is in
    let len = c.set_edge-in-len2-up.ensures.len ∙ c.set_edge.ensures.len in
    let places = subst (AllByRecursion (λ (k : Link). k.node < vec_len c.loop-left.mates)) split v.places in
    record {
      mates = ap (λ m. mated m rest) (c.set_edge-in-len2-up.ensures.edges ∙ ap (λ m. put m c.other-item.result.node (Some one.edge)) c.set_edge.ensures.edges)
          ∙ sym (ap (mated (edge_in c.loop-left.mates.items)) split) ∙ v.mates;
      places = subst (λ n. AllByRecursion (λ (k : Link). k.node < n) rest) (sym len) places.1.1;
      len = len ∙ v.len;
    }

pub returns-clause-mates : goal.returns-clause-mates
returns-clause-mates c = sym (mated_end (edge_in c.loop-left.mates.items) c.loop-left.left.now c.in_default.len_below) ∙ c.loop-left.invariant.mates
