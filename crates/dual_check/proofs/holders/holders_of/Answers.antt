use Rattle.graph_theory.proofs.Common.{ℕ, List, subst}
use Rattle.weighted_graph.specs.Grouped.{AreGrouped}
use Rattle.dual_check.proofs.HolderLemmas.{holders_from}
use Rattle.dual_check.proofs.holders.holders_of.Goals as goal

pub returns : goal.returns
returns c =
    let n = c.args.vertices in
    let lists = c.in_ok-lists.lists in
    let grouped = subst (λ (l : List (ℕ × ℕ)). AreGrouped n l lists) c.deref.ensures.value c.in_ok-lists.ensures in
    holders_from n c.args.sets.now c.args.taken.now c.in_ok-entries.entries.items lists grouped (c.in_ok-entries.ensures.within n c.requires.within) c.in_ok-entries.ensures.holders
