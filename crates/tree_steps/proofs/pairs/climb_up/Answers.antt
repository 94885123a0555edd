use Rattle.alt_forest.proofs.Common.{◌<◌, ◌-◌, ◌∙◌, List, length, take, drop, sym, ap, subst, vec_len, AllByRecursion, Link, label_at, edge_in}
use Rattle.tree_steps.specs.Expanded.{labels_up, parents_up}
use Rattle.tree_steps.proofs.Neighbours.{two_first, none_left, even_rest}
use Rattle.tree_steps.proofs.pairs.climb_up.Goals as goal

pub loop-left-preserved : goal.loop-left-preserved
loop-left-preserved c =
    let v = c.loop-left.invariant in let a = c.outer-item.result in let b = c.inner-item.result in
    let left = c.loop-left.left.now in let rest : List Link = take (length left - 2) (drop 2 left) in
    let split = two_first left a b c.in-len2-up.len_at_least c.outer-item.is c.inner-item.is in
    let labelled = subst (AllByRecursion (λ (k : Link). k.node < vec_len c.loop-left.labels)) split v.label_places in
    let hung = subst (AllByRecursion (λ (k : Link). k.node < vec_len c.loop-left.parents)) split v.parent_places in
    record {
      even = even_rest left rest a b split v.even;
      labels = ap (λ l. labels_up l rest) c.label_pair.ensures.labels ∙ sym (ap (labels_up (label_at c.loop-left.labels.items)) split) ∙ v.labels;
      parents = ap (λ p. parents_up p b.node b.edge c.args.parent rest) c.set_edge.ensures.edges
          ∙ sym (ap (parents_up (edge_in c.loop-left.parents.items) c.loop-left.node c.loop-left.edge c.args.parent) split) ∙ v.parents;
      label_places = subst (λ n. AllByRecursion (λ (k : Link). k.node < n) rest) (sym c.label_pair.ensures.len) labelled.1.1;
      parent_places = subst (λ n. AllByRecursion (λ (k : Link). k.node < n) rest) (sym c.set_edge.ensures.len) hung.1.1;
      place = subst (λ n. b.node < n) (sym c.set_edge.ensures.len) hung.1.0;
      labels_len = c.label_pair.ensures.len ∙ v.labels_len;
      parents_len = c.set_edge.ensures.len ∙ v.parents_len;
    }

pub returns-clause-labels : goal.returns-clause-labels
returns-clause-labels c =
    let v = c.loop-left.invariant in
    ap (labels_up (label_at c.loop-left.labels.items)) (sym (none_left c.loop-left.left.now c.in_default.len_below v.even)) ∙ v.labels

pub returns-clause-parents : goal.returns-clause-parents
returns-clause-parents c =
    let v = c.loop-left.invariant in
    c.set_edge-2.ensures.edges ∙ ap (parents_up (edge_in c.loop-left.parents.items) c.loop-left.node c.loop-left.edge c.args.parent)
    (sym (none_left c.loop-left.left.now c.in_default.len_below v.even)) ∙ v.parents
