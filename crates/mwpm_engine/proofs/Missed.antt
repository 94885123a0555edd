-- Where the blossoms of a forest of all exposed nodes are opened, no more vertices are missed than there are trees (chapter 24).
use Rattle.alt_forest.proofs.Common.{◌≡◌, ◌∙◌, ℕ, ◌+◌, ◌*◌, ◌≤◌, pos, ◌-ℤ◌, ◌≤ℤ◌, Bool, true, not, List, length, map, refl, sym, subst, arith}
use Rattle.alt_forest.proofs.Common.{Option, Some, None, is_some, filter, ints, and_from, and_parts, length-map, Multigraph, IsGraph, HasNoLoop, degree, holds, int_sum_to-le, int_sum_to-pos}
use Rattle.alt_forest.proofs.Common.{IsNested, is_vertex, outermost, holds-filter, holds-vertices, length-within, new-filter, new-vertices, vertices, node_range, outermost_parts}
use Rattle.alt_forest.proofs.Common.{range_vertex, outermost_has, State, IsExposed, IsOutermost, IsSearchState, node_limit, IsRoot, IsPlanted, is_root, tree_count, new-map, no_entry, one_if}
use Rattle.alt_forest.proofs.Common.{root_passes, member-mapped as holds-map}
use Rattle.dual_change.proofs.Total.{length-picked}
use Rattle.augment.specs.Matching.{AreVertexMates, IsMissedIn, MissesOneEach, mate_counts}
use Rattle.gallai_theory.specs.Matchings.{edges_used, IsMatched}
use Rattle.gallai_theory.proofs.Berge.{lack_total}
use Rattle.augment.proofs.Counts.{degree-mated}
use Rattle.mwpm_engine.proofs.Forest.{exposed_root}

abbrev pub is_missed : (ℕ → Option ℕ) → ℕ → Bool
is_missed m v = not (is_some (m v))

-- the vertices that have no edge
abbrev pub missed_vertices : ℕ → (ℕ → Option ℕ) → List ℕ
missed_vertices n m = filter (is_missed m) (vertices n)

missed_is : (n : ℕ) (m : ℕ → Option ℕ) (v : ℕ) → holds (missed_vertices n m) v ≡ true → (is_vertex n v ≡ true) × (m v ≡ None)
missed_is n m v h =
    let p = and_parts (holds (vertices n) v) (is_missed m v) (sym (holds-filter (is_missed m) (vertices n) v) ∙ h) in
    (sym (holds-vertices n v) ∙ p.0, no_entry (m v) p.1)

module _ (s : State) (depth : ℕ → ℕ) (nested : IsNested s.graph.vertices s.blossoms) (st : IsSearchState s depth) (planted : IsPlanted s)
    (m : ℕ → Option ℕ) (misses : MissesOneEach s m) where
  -- the node of a missed vertex is exposed
  missed_in : (v : ℕ) → holds (missed_vertices s.graph.vertices m) v ≡ true → IsMissedIn s m (outermost s.blossoms v) v
  missed_in v h = let p = missed_is s.graph.vertices m v h in record { vertex = p.0; within = refl; none = p.1 }

  exposed_by : (v : ℕ) → holds (missed_vertices s.graph.vertices m) v ≡ true → IsExposed s (outermost s.blossoms v)
  exposed_by v h = (is, by_mate (s.mate (outermost s.blossoms v)) refl)
    where
      is : IsOutermost s (outermost s.blossoms v)
      is = (outermost_has s.graph.vertices s.blossoms v nested (missed_is s.graph.vertices m v h).0).0

      by_mate : (o : Option ℕ) → s.mate (outermost s.blossoms v) ≡ o → s.mate (outermost s.blossoms v) ≡ None
      by_mate None has = has
      by_mate (Some e) has = absurd (misses.none (outermost s.blossoms v) e v is has (missed_in v h))

  abbrev roots : List ℕ
  roots = filter (is_root s) (vertices (node_limit s.graph.vertices))

  in_roots : (a : ℕ) → IsRoot s a → holds roots a ≡ true
  in_roots a root =
      let limit : ℕ = node_limit s.graph.vertices in
      let range = node_range s.graph.vertices s.blossoms a nested (outermost_parts s.graph.vertices s.blossoms a root.outermost).0 in
      holds-filter (is_root s) (vertices limit) a
      ∙ and_from (holds (vertices limit) a) (is_root s a) (holds-vertices limit a ∙ range_vertex limit a range.0 range.1) (root_passes s a root)

  pub missed_few : length (missed_vertices s.graph.vertices m) ≤ tree_count s
  missed_few =
      let missed : List ℕ = missed_vertices s.graph.vertices m in
      let few : length (map (outermost s.blossoms) missed) ≤ length roots = length-within (map (outermost s.blossoms) missed) roots
      (new-map (outermost s.blossoms) missed (new-filter (is_missed m) (vertices s.graph.vertices) (new-vertices s.graph.vertices)) (λ v w hv hw same.
      let one = misses.one (outermost s.blossoms w) (exposed_by w hw) in
      one.2 v (subst (λ a. IsMissedIn s m a v) same (missed_in v hv)) ∙ sym (one.2 w (missed_in w hw))))
      (λ a h.
      let p = holds-map (outermost s.blossoms) missed a h in
      subst (λ x. holds roots x ≡ true) p.2 (in_roots (outermost s.blossoms p.0) (exposed_root s depth (outermost s.blossoms p.0) st planted (exposed_by p.0 p.1)))) in
      omega (arith, few, length-map missed (outermost s.blossoms), length-picked (is_root s) (node_limit s.graph.vertices))

-- what a vertex lacks of degree 1
lack_most : (o : Option ℕ) (d : ℕ) → ((e : ℕ) → o ≡ Some e → d ≡ 1) → (pos 1 -ℤ pos d) ≤ℤ pos (one_if (not (is_some o)))
lack_most None d h = omega (arith, ints)
lack_most (Some e) d h = let one : d ≡ 1 = h e refl in omega (arith, ints, one)

-- the edges of the matching have all vertices as ends but the missed ones
pub used_many : (g : Multigraph) (m : ℕ → Option ℕ) → IsGraph g → HasNoLoop g → AreVertexMates g m → IsMatched g (mate_counts g m)
    → g.vertices ≤ length (missed_vertices g.vertices m) + 2 * edges_used g (mate_counts g m)
used_many g m graph plain mates matched =
    let n : ℕ = g.vertices in
    let lacks = int_sum_to-le (λ i. pos 1 -ℤ pos (degree g (mate_counts g m) (i + 1))) (λ i. pos (one_if (is_missed m (i + 1)))) n
    (λ i low. lack_most (m (i + 1)) (degree g (mate_counts g m) (i + 1))
    (λ e has. degree-mated g m graph.ends mates plain (i + 1) (mates (i + 1) e (range_vertex n (i + 1) (omega arith) (omega (arith, low))) has))) in
    let total = lack_total g (mate_counts g m) graph.ends matched in
    let whole = int_sum_to-pos (λ i. one_if (is_missed m (i + 1))) n in
    omega (arith, ints, lacks, total, whole, length-picked (is_missed m) n)
