-- A search where no node is in a tree: nothing has a moment, and nothing need be listed.
use Rattle.graph_theory.proofs.Common.{◌≡◌, ℕ, ℤ, pos, ◌≤ℤ◌, Option, None, length, sym, ap, ◌∙◌, subst, arith, vec_capacity, length-replicate, ints}
use Rattle.graph_theory.specs.declared.limits.TheConstants.{NUMBER_LIMIT}
use Rattle.search_heap.specs.declared.item.Item.{Item}
use Rattle.search_heap.specs.Moments.{Moments, no_moments, moment_of}
use Rattle.blossom_arena.specs.declared.label.Label.TheVariants.{Out}
use Rattle.alt_forest.specs.declared.search.Search.{Search}
use Rattle.alt_forest.specs.Searches.{HasShape, HasRoom, label_at}
use Rattle.alt_forest.specs.Entries.{IsQueued}
use Rattle.alt_forest.specs.TreeNodes.{AreListed, HasTreeNodes}
use Rattle.alt_forest.proofs.Relabelled.{outer_not_out, inner_not_out}

within_limit : pos 0 ≤ℤ NUMBER_LIMIT
within_limit = omega (arith, ints)

pub none_queued : (s : Search) → ((a : ℕ) → label_at s.labels.items a ≡ Out) → s.clock ≡ pos 0 → ((item : Item) → moment_of s.queue item ≡ None) → IsQueued s
none_queued s out clock none = record {
  low = subst (λ (x : ℤ). pos 0 ≤ℤ x) (sym clock) (omega (arith, ints));
  high = subst (λ (x : ℤ). x ≤ℤ NUMBER_LIMIT) (sym clock) within_limit;
  edges = λ e is. record { to_out = λ a b j la lb. outer_not_out (sym la ∙ out a); between = λ a b half j ne la lb twice. outer_not_out (sym la ∙ out a) };
  blossoms = λ b name is lab. inner_not_out (sym lab ∙ out b);
  idle_clock = λ no. clock;
  empty = λ no item. none item;
}

pub none_tree_nodes : (s : Search) → ((a : ℕ) → label_at s.labels.items a ≡ Out) → ((a : ℕ) → label_at s.arena.motions a ≡ Out)
    → AreListed s.graph.vertices s.tree_nodes.nodes s.tree_nodes.tree_ids
    → HasTreeNodes s
none_tree_nodes s out rest listed = record {
  listed = listed;
  trees = λ a is ne. absurd (ne (out a));
  same = λ a b is also ne ne_b roots. absurd (ne (out a));
  moves = λ a is. rest a
      ∙ sym (out a);
}

-- a queue that is cleared has its places
pub room_cleared : (s : Search) (q : Moments) → q ≡ no_moments (length s.queue.edges) (length s.queue.blossoms) → HasShape s
    → HasRoom s.graph s.incidence q (length s.tree_nodes.tree_ids) (vec_capacity s.scanned)
room_cleared s q is h =
    let none : Option ℤ = None in
    assumption (
      ap (λ (r : Moments). length r.edges) is ∙ length-replicate (length s.queue.edges) none ∙ h.room.edges,
      ap (λ (r : Moments). length r.blossoms) is ∙ length-replicate (length s.queue.blossoms) none ∙ h.room.nodes,
    )
