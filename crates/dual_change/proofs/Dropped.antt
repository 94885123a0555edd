-- A stale entry is dropped.
use Rattle.alt_forest.proofs.Common.{◌≡◌, ◌⊎◌, ◌+◌, ◌<◌, ◌≤◌, ℤ, eqb, Some, None, refl, sym, ◌∙◌, subst, inl, arith, nat_tests, eqb-true, eqb-false}
use Rattle.alt_forest.proofs.Common.{by_test, Item, Moments, moment_of, with_moment, IsItem, state_of, NeedsMoment, IsEntered, IsQueued, entry_count, HasTreeNodes, edge_set, edge_other}
use Rattle.alt_forest.proofs.Common.{blossom_set, blossom_other, count_removed, entered_same}
use Rattle.alt_forest.specs.declared.search.Search.{Search}
use Rattle.search_heap.specs.declared.item.Item.TheVariants.{Edge, Blossom}
use Rattle.dual_change.specs.Candidates.{IsStale, entries_left, item_looks}

-- what has no moment gets none
none_stays : (q : Moments) (item other : Item) → IsItem q item → moment_of q other ≡ None → moment_of (with_moment q item None) other ≡ None
none_stays q (Edge e) (Edge d) is none = grind (arith, nat_tests, edge_set q e None is, edge_other q e d None is)
none_stays q (Edge e) (Blossom c) is none = none
none_stays q (Blossom b) (Edge d) is none = none
none_stays q (Blossom b) (Blossom c) is none = grind (arith, nat_tests, blossom_set q b None is, blossom_other q b c None is)

-- each item has what it had, or none
abbrev pub Drops : Moments → Moments → Type 0
Drops q r = (item : Item) → (moment_of r item ≡ moment_of q item) ⊎ (moment_of r item ≡ None)

pub drops_one : (q : Moments) (item : Item) → IsItem q item → Drops q (with_moment q item None)
drops_one q (Edge e) is (Edge d) = grind (arith, nat_tests, edge_set q e None is, edge_other q e d None is)
drops_one q (Edge e) is (Blossom c) = inl refl
drops_one q (Blossom b) is (Edge d) = inl refl
drops_one q (Blossom b) is (Blossom c) = grind (arith, nat_tests, blossom_set q b None is, blossom_other q b c None is)

-- all else keeps what it needs
pub dropped : (s : Search) (item : Item) → IsItem s.queue item → IsStale (state_of s) s.clock item → IsQueued s → IsQueued (record s { queue = with_moment s.queue item None })
dropped s (Edge e) is stale h = record {
  low = h.low;
  high = h.high;
  edges = λ d number. by_test (eqb d e)
      (λ t. subst (IsEntered (state_of s) s.clock (with_moment s.queue (Edge e) None)) (sym (eqb-true d e t))
      (subst (NeedsMoment (state_of s) s.clock e) (sym (edge_set s.queue e None is)) stale))
      (λ t. entered_same (state_of s) s.clock s.queue (with_moment s.queue (Edge e) None) d (edge_other s.queue e d None is (eqb-false d e t)) (h.edges d number));
  blossoms = h.blossoms;
  idle_clock = h.idle_clock;
  empty = λ no item. none_stays s.queue (Edge e) item is (h.empty no item);
}
dropped s (Blossom b) is stale h = record {
  low = h.low;
  high = h.high;
  edges = h.edges;
  blossoms = λ c name outer lab. by_test (eqb c b)
      (λ t. absurd (subst (λ k. IsStale (state_of s) s.clock (Blossom k)) (sym (eqb-true c b t)) stale name outer lab))
      (λ t. blossom_other s.queue b c None is (eqb-false c b t) ∙ h.blossoms c name outer lab);
  idle_clock = h.idle_clock;
  empty = λ no item. none_stays s.queue (Blossom b) item is (h.empty no item);
}

-- one item less has a moment
pub one_dropped : (q : Moments) (item : Item) (m : ℤ) → moment_of q item ≡ Some m → entries_left (with_moment q item None) < entries_left q
one_dropped q (Edge e) m has = omega (arith, count_removed q e m has)
one_dropped q (Blossom b) m has =
    let turned : Moments = record { edges = q.blossoms; blossoms = q.edges } in
    omega (arith, count_removed turned b m has)

pub looks_dropped : (q : Moments) (item : Item) (m : ℤ) → moment_of q item ≡ Some m → entry_count (with_moment q item None) + item_looks item ≤ entry_count q
looks_dropped q (Edge e) m has = omega (arith, count_removed q e m has)
looks_dropped q (Blossom b) m has = omega arith

-- what stands in trees is not in the queue
pub still_tree_nodes : (s t : Search) → t ≡ record s { queue = t.queue } → HasTreeNodes s → HasTreeNodes t
still_tree_nodes s t rest h = subst HasTreeNodes (sym rest) (record { listed = h.listed; trees = h.trees; same = h.same; moves = h.moves })
