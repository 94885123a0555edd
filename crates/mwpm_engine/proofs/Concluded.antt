-- What a run leaves, from what its search has come to.
use Rattle.alt_forest.proofs.Common.{◌≡◌, ◌≢◌, ◌↔◌, ◌∙◌, ℕ, ◌≤◌, true, false, eqb, cond, List, Option, None, Some, refl, ap, sym, subst, arith, ne_eqb}
use Rattle.alt_forest.proofs.Common.{Multigraph, degree, IsBarrier, barrier_excludes, is_vertex, outermost, range_vertex, Outer, Inner, state_of, edge_in, is_label, nested_of, picked_set}
use Rattle.alt_forest.specs.declared.search.Search.{Search}
use Rattle.dual_change.specs.Laws.{inner_vertices}
use Rattle.augment.specs.Matching.{mate_counts}
use Rattle.gallai_theory.specs.Matchings.{edges_used, IsMatched}
use Rattle.gallai_theory.specs.Decomposition.{IsDecomposed}
use Rattle.dual_change.proofs.Barrier.{barrier}
use Rattle.augment.proofs.Counts.{degree-free, degree-mated}
use Rattle.mwpm_engine.specs.declared.outcome.Outcome.{Outcome}
use Rattle.mwpm_engine.specs.declared.outcome.Outcome.TheVariants.{Matched, Barrier}
use Rattle.mwpm_engine.specs.Solutions.{Ends, HasPerfect, IsSolved, IsDecomposedBy, found_mate}
use Rattle.mwpm_engine.specs.Solving.{mate_numbers, number_or_none, outer_vertices, solution_of}
use Rattle.search_start.specs.Proving.{proving}
use Rattle.mwpm_engine.specs.Passes.{Concludes, HasStuckForest, IsParted}
use Rattle.mwpm_engine.proofs.Certificate.{solved}
use Rattle.mwpm_engine.proofs.CertificateMates.{length-mate_numbers, mate_kept, mate_numbers_at, matching_same}
use Rattle.mwpm_engine.proofs.MateCounts.{kept_twice}
use Rattle.mwpm_engine.proofs.Decomposed.{is_decomposed, outer_odd}

-- the inner vertices of a stuck search are a barrier
stuck_barrier : (s : Search) → HasStuckForest s → IsBarrier s.graph (inner_vertices (state_of s))
stuck_barrier s h =
    let t = state_of s in let nested = nested_of s h.sound.shape in let graph = h.sound.shape.graph.graph in
    barrier t h.sound.depth h.root graph nested h.sound.state h.all_rooted h.is_root h.stuck

-- so there is no perfect matching
pub stuck_excludes : (s : Search) (g : Multigraph) → s.graph ≡ g → HasStuckForest s → HasPerfect g → ⊥
stuck_excludes s g same h perfect =
    let here : HasPerfect s.graph = subst HasPerfect (sym same) perfect in
    barrier_excludes s.graph (inner_vertices (state_of s)) here.0 h.sound.shape.graph.graph (stuck_barrier s h) here.1

-- a number stands for an edge where it isn't 0
number_some : (o : Option ℕ) → number_or_none o ≢ 0 → (e : ℕ) × (o ≡ Some e)
number_some None h = absurd (h refl)
number_some (Some e) h = (e, refl)

-- a vertex has no edge where its degree is 0
missed_by : (o : Option ℕ) (d : ℕ) → (o ≡ None → d ≡ 0) → ((e : ℕ) → o ≡ Some e → (1 ≤ e) × (d ≡ 1)) → (number_or_none o ≡ 0) ↔ (d ≡ 0)
missed_by None d free mated = (λ q. free refl, λ q. refl)
missed_by (Some e) d free mated = let p = mated e refl in (λ q. absurd (omega (arith, p.0, q)), λ q. absurd (omega (arith, p.1, q)))

-- no edge has the number 0
pub edge_low : (s : Search) → IsParted s → (v e : ℕ) → is_vertex s.graph.vertices v ≡ true → edge_in s.mates.items v ≡ Some e → 1 ≤ e
edge_low s h v e iv has = (kept_twice s.graph (edge_in s.mates.items) h.forest.sound.shape.graph.graph.ends h.mates v e iv has).is_edge.0

-- a matching with the sets of Gallai and Edmonds beside the barrier
decomposed : (s : Search) (nodes : List ℕ) → IsParted s → IsDecomposedBy (solution_of s (Some Barrier) nodes)
decomposed s nodes h =
    let n = s.graph.vertices in let t = state_of s in let m = edge_in s.mates.items in
    let sound = h.forest.sound in let graph = sound.shape.graph.graph in
    let nested = nested_of s sound.shape in let same = matching_same s.graph m graph.ends in
    record {
      one_each = length-mate_numbers m n;
      each_mate = λ v low high some.
          let e = number_some (m v) (λ none. some (mate_numbers_at m n v low high ∙ none)) in
          mate_kept s.graph m v graph.ends low high (h.mates v e.0 (range_vertex n v low high) e.1);
      matched = subst (IsMatched s.graph) (sym same) h.matched;
      missed = λ v low high. rw (mate_numbers_at m n v low high, same) (missed_by (m v) (degree s.graph (mate_counts s.graph m) v)
          (degree-free s.graph m graph.ends h.mates sound.shape.graph.loopless v)
          (λ e has. let iv = range_vertex n v low high in (edge_low s h v e iv has, degree-mated s.graph m graph.ends h.mates sound.shape.graph.loopless v (h.mates v e iv has))));
      outer_set = picked_set n (λ v. is_label (t.label (outermost t.blossoms v)) Outer);
      decomposed = subst (λ c. IsDecomposed s.graph (edges_used s.graph c) (outer_vertices t) (inner_vertices t)) (sym same)
          (is_decomposed t sound.depth graph nested sound.state h.forest.all_rooted h.forest.stuck sound.shape.graph.loopless m h.mates h.matched h.misses);
      odd = outer_odd t sound.depth graph nested sound.state h.forest.all_rooted h.forest.stuck;
    }

pub ends : (s : Search) (outcome : Outcome) (nodes : List ℕ) → Concludes s outcome → nodes ≡ proving s.arena.duals s.arena.blossoms
    → Ends (solution_of s (Some outcome) nodes) outcome
ends s Matched nodes h list = subst (λ ns. IsSolved (solution_of s (Some Matched) ns)) (sym list) (solved s (Some Matched) h.0 h.1 h.2)
ends s Barrier nodes h list =
    let t = state_of s in
    record { vertex_set = picked_set s.graph.vertices (λ v. is_label (t.label (outermost t.blossoms v)) Inner); excludes = stuck_barrier s h.forest; beside = decomposed s nodes h }

-- what the edge at a vertex is found as
pub found : (s : Search) → IsParted s → (v : ℕ) → 1 ≤ v → v ≤ s.graph.vertices
    → edge_in s.mates.items v ≡ found_mate (mate_numbers (edge_in s.mates.items) s.graph.vertices) v
found s h v low high =
    let m = edge_in s.mates.items in
    by_mate (m v) (λ e has. edge_low s h v e (range_vertex s.graph.vertices v low high) has)
    ∙ ap (λ x. cond (eqb x 0) None (Some x)) (sym (mate_numbers_at m s.graph.vertices v low high))
  where
    by_mate : (o : Option ℕ) → ((e : ℕ) → o ≡ Some e → 1 ≤ e) → o ≡ cond (eqb (number_or_none o) 0) None (Some (number_or_none o))
    by_mate None some = refl
    by_mate (Some e) some = let off : eqb e 0 ≡ false = ne_eqb e 0 (λ q. let low : 1 ≤ e = some e refl in absurd (omega (arith, low, q))) in ap (λ q. cond q None (Some e)) (sym off)
