use Rattle.alt_forest.proofs.Common.{◌≡◌, ℕ, ◌<◌, ◌-◌, ◌∙◌, List, [], ◌∷◌, ◌++◌, length, take, sym, ap, ap₂, subst, arith, length-append, vec_len}
use Rattle.alt_forest.proofs.Common.{each_parts, AllByRecursion, Link, label_at, edge_in}
use Rattle.tree_steps.proofs.Mirror.{mirror-append, last_edge-append}
use Rattle.tree_steps.specs.Circuits.{mirror, last_edge}
use Rattle.tree_steps.specs.Expanded.{labels_up, parents_up}
use Rattle.tree_steps.proofs.Neighbours.{two_last, none_left}
use Rattle.tree_steps.proofs.pairs.climb_down.Goals as goal

pub loop-left-preserved : goal.loop-left-preserved
loop-left-preserved c =
    let v = c.loop-left.invariant in let a = c.inner-item.result in let b = c.outer-item.result in
    let e = c.args.parent in let left = c.loop-left.left.now in
    let rest : List Link = take (length left - 2) left in let two : List Link = a ∷ (b ∷ []) in
    let split : left ≡ rest ++ two = two_last left a b c.in-len2-up.len_at_least c.inner-item.is c.outer-item.is in
    let links : mirror e left [] ≡ mirror (last_edge e rest) two (mirror e rest []) = ap (λ ls. mirror e ls []) split ∙ mirror-append e rest two [] in
    let last : last_edge e left ≡ b.edge = ap (last_edge e) split ∙ last_edge-append e rest two in
    let hung = each_parts (λ (k : Link). k.node < vec_len c.loop-left.parents) rest two
    (subst (AllByRecursion (λ (k : Link). k.node < vec_len c.loop-left.parents)) split v.parent_places) in
    record {
      even = omega (arith, ap length split, length-append rest two, v.even);
      within = omega (arith, ap length split, length-append rest two, v.within);
      labels = ap (λ l. labels_up l (mirror e rest [])) c.label_pair.ensures.labels ∙ sym (ap (labels_up (label_at c.loop-left.labels.items)) links) ∙ v.labels;
      parents = ap (λ p. parents_up p a.node (last_edge e rest) e (mirror e rest [])) c.set_edge.ensures.edges
          ∙ sym (ap₂ (λ (d : ℕ) (ks : List Link). parents_up (edge_in c.loop-left.parents.items) c.loop-left.node d e ks) last links) ∙ v.parents;
      label_places = subst (λ n. AllByRecursion (λ (k : Link). k.node < n) rest) (sym c.label_pair.ensures.len)
          (each_parts (λ (k : Link). k.node < vec_len c.loop-left.labels) rest two (subst (AllByRecursion (λ (k : Link). k.node < vec_len c.loop-left.labels)) split v.label_places)).0;
      parent_places = subst (λ n. AllByRecursion (λ (k : Link). k.node < n) rest) (sym c.set_edge.ensures.len) hung.0;
      place = subst (λ n. a.node < n) (sym c.set_edge.ensures.len) hung.1.0;
      labels_len = c.label_pair.ensures.len ∙ v.labels_len;
      parents_len = c.set_edge.ensures.len ∙ v.parents_len;
    }

pub returns-clause-labels : goal.returns-clause-labels
returns-clause-labels c =
    let v = c.loop-left.invariant in
    ap (λ ls. labels_up (label_at c.loop-left.labels.items) (mirror c.args.parent ls [])) (sym (none_left c.loop-left.left.now c.in_default.len_below v.even)) ∙ v.labels

pub returns-clause-parents : goal.returns-clause-parents
returns-clause-parents c =
    let v = c.loop-left.invariant in
    c.set_edge-2.ensures.edges ∙ ap (λ ls. parents_up (edge_in c.loop-left.parents.items) c.loop-left.node (last_edge c.args.parent ls) c.args.parent (mirror c.args.parent ls []))
    (sym (none_left c.loop-left.left.now c.in_default.len_below v.even)) ∙ v.parents
