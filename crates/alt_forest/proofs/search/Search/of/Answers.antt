use Rattle.graph_theory.proofs.Common.{◌≡◌, ◌∙◌, ℕ, ◌+◌, ℤ, pos, List, length, Option, None, refl, ap, subst, sym, length-replicate, most_blossoms}
use Rattle.blossom_arena.specs.Family.{Family, dual_at, empty_family}
use Rattle.search_heap.specs.Moments.{Moments, moment_of}
use Rattle.search_heap.proofs.Maps.{new_has_none}
use Rattle.blossom_arena.specs.declared.label.Label.TheVariants.{Out}
use Rattle.alt_forest.specs.declared.weights.Weights.TheVariants.{Zero}
use Rattle.alt_forest.specs.Trees.{node_limit}
use Rattle.alt_forest.specs.Searches.{label_at, IsSearchGraph}
use Rattle.alt_forest.specs.TreeNodes.{AreListed}
use Rattle.alt_forest.proofs.Fresh.{fresh, same_entry}
use Rattle.alt_forest.proofs.Listed.{none_listed}
use Rattle.alt_forest.proofs.NoTree.{none_queued, none_tree_nodes}
use Rattle.alt_forest.proofs.search.Search.of.Goals as goal

pub returns-clause-shape : goal.returns-clause-shape
returns-clause-shape c =
    let k = c.in_ok-kept.ensures in
    let count : c.in_ok-arena.arena.vertex_count ≡ c.args.graph.vertices = ap (λ (f : Family). f.vertex_count) c.in_ok-arena.ensures.family ∙ c.vertices.ensures.count in
    let limit : c.node_limit.result ≡ node_limit c.args.graph.vertices = c.node_limit.ensures.limit ∙ ap (λ (n : ℕ). n + most_blossoms n) count in
    let one_more = ap (λ (n : ℕ). n + 1) limit in let none : Option ℤ = None in
    rw k.graph (assumption (
      c.requires.graph,
      c.in_ok-arena.ensures.is_family,
      count,
      k.lists.label_places ∙ one_more,
      k.lists.parent_places ∙ one_more,
      k.lists.mate_places ∙ one_more,
      k.lists.circuit,
      k.incidence,
      ap (λ (q : Moments). length q.edges) k.queue ∙ length-replicate (length c.args.graph.edges) none,
      ap (λ (q : Moments). length q.blossoms) k.queue ∙ length-replicate c.node_limit.result none ∙ limit,
      k.lists.tree_id_places ∙ one_more,
      k.lists.scanned,
    ))

pub returns-clause-sound : goal.returns-clause-sound
returns-clause-sound c =
    let k = c.in_ok-kept.ensures in
    let graph : IsSearchGraph c.in_ok-kept.field-0.kept.graph = rw k.graph c.requires.graph in
    record {
      shape = returns-clause-shape c;
      depth = λ a. 0;
      state = fresh _ Zero (pos 0) refl graph.graph refl (ap (λ (f : Family). f.blossoms) c.in_ok-arena.ensures.family) k.lists.labels k.lists.mates
          (λ v iv. ap (λ (f : Family). dual_at f.duals v) c.in_ok-arena.ensures.family ∙ same_entry _ v (pos 0));
    }

pub returns-clause-event_times : goal.returns-clause-event_times
returns-clause-event_times c = none_queued _ c.in_ok-kept.ensures.lists.labels refl (λ item. ap (λ (q : Moments). moment_of q item) c.in_ok-kept.ensures.queue ∙ new_has_none _ _ item)

pub returns-clause-listed : goal.returns-clause-listed
returns-clause-listed c =
    none_tree_nodes _ c.in_ok-kept.ensures.lists.labels (λ a. ap (λ (f : Family). label_at f.motions a) c.in_ok-arena.ensures.family ∙ same_entry _ a Out)
    (subst (λ (xs : List ℕ). AreListed c.in_ok-kept.field-0.kept.graph.vertices xs c.in_ok-kept.field-0.lists.tree_nodes.tree_ids) (sym c.in_ok-kept.ensures.lists.listed)
    (none_listed c.in_ok-kept.field-0.kept.graph.vertices c.in_ok-kept.field-0.lists.tree_nodes.tree_ids c.in_ok-kept.ensures.lists.tree_ids))

pub returns-clause-arena : goal.returns-clause-arena
returns-clause-arena c = c.in_ok-arena.ensures.family ∙ ap empty_family c.vertices.ensures.count
