use Rattle.graph_theory.proofs.Common.{◌∙◌, ◌<◌, ◌≤◌, None, length, sym, ap, arith, get_or_past, ⊎_elim, both_ways, lt-ltb, cases_lt}
use Rattle.search_tables.specs.Listing.{Listing, tree_id_at}
use Rattle.search_tables.proofs.tree_nodes.TreeNodes.tree_id.Goals as goal

pub returns-in-None : goal.returns-in-None
returns-in-None c =
    let tree_ids = c.self.inside.tree_ids.items in
    let past : length tree_ids ≤ c.args.node = ⊎_elim (λ (low : c.number.result < length c.deref.result.now). absurd (both_ways _ (sym c.in-None.ensures.lookup.0) (lt-ltb _ _ low)))
    (λ high. omega (arith, high, c.number.ensures, ap length c.deref.ensures.value)) (cases_lt c.number.result (length c.deref.result.now)) in
    sym (ap (λ (l : Listing). tree_id_at l.tree_ids c.args.node) (sym c.self.view_is) ∙ get_or_past tree_ids c.args.node None past)
