-- A stuck forest stays stuck once its blossoms are opened: nothing but mates of nodes within others has changed.
use Rattle.alt_forest.proofs.Common.{◌≡◌, ◌∙◌, ℕ, sym, ap, subst, Option, IsGraph, IsNested, State, IsOutermost, IsSound, state_of, edge_in, root_of, nested_of}
use Rattle.alt_forest.specs.declared.search.Search.{Search}
use Rattle.augment.specs.Matching.{AreVertexMates, MissesOneEach, mate_counts}
use Rattle.dual_change.specs.declared.event.Event.TheVariants.{Grow, Shrink, Augment, Expand}
use Rattle.dual_change.specs.Changes.{IsStuck, applied}
use Rattle.dual_change.proofs.Least.{HasNoBound, stuck_none}
use Rattle.gallai_theory.specs.Matchings.{IsMatched as IsMatchedBy}
use Rattle.mwpm_engine.specs.Passes.{HasStuckForest, IsParted}

abbrev with_mates : State → (ℕ → Option ℕ) → State
with_mates s m = record s { mate = m }

-- no event is left, whatever the mates
still_stuck : (s : State) (depth : ℕ → ℕ) (m : ℕ → Option ℕ) (graph : IsGraph s.graph) (nested : IsNested s.graph.vertices s.blossoms)
    → HasNoBound s depth graph nested → IsStuck (with_mates s m)
still_stuck s depth m graph nested none c (Grow e) low p = none.to_out e p.near p.far p.tight.edge p.joins p.near_outer p.far_out
still_stuck s depth m graph nested none c (Shrink e) low p = none.between e p.one p.other p.tight.edge p.joins p.different p.one_outer p.other_outer
still_stuck s depth m graph nested none c (Augment e) low p =
    none.between e p.one p.other p.tight.edge p.joins (λ same. p.two_trees (ap (root_of (applied (with_mates s m) c)) same)) p.one_outer p.other_outer
still_stuck s depth m graph nested none c (Expand a) low p = none.inner a p.blossom p.outermost p.inner

pub parted : (old new : Search) → HasStuckForest old → new ≡ record old { mates = new.mates } → IsSound new
    → ((a : ℕ) → IsOutermost (state_of old) a → edge_in new.mates.items a ≡ edge_in old.mates.items a) → AreVertexMates old.graph (edge_in new.mates.items)
    → IsMatchedBy old.graph (mate_counts old.graph (edge_in new.mates.items)) → MissesOneEach (state_of new) (edge_in new.mates.items) → IsParted new
parted old new h rest sound kept mates matched misses =
    let s = state_of old in let graph = h.sound.shape.graph.graph in
    let nested = nested_of old h.sound.shape in let r = h.is_root in
    subst IsParted (sym rest) (record {
      forest = record {
        sound = subst IsSound rest sound;
        all_rooted = λ a x. h.all_rooted a (x.0, sym (kept a x.0) ∙ x.1);
        root = h.root;
        is_root = record { outermost = r.outermost; outer = r.outer; exposed = kept h.root r.outermost ∙ r.exposed };
        stuck = still_stuck s h.sound.depth (edge_in new.mates.items) graph nested (stuck_none s h.sound.depth graph nested h.sound.state h.all_rooted h.stuck);
      };
      mates = mates;
      matched = matched;
      misses = subst (λ (x : Search). MissesOneEach (state_of x) (edge_in new.mates.items)) rest misses;
    })
