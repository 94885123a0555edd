-- The edges at the vertices, one after the other, say the same matching as the mates.
use Rattle.graph_theory.proofs.Common.{◌≡◌, ℕ, ◌+◌, ◌-◌, ◌<◌, ◌≤◌, eqb, cond, length, true, refl, sym, ap, subst, ◌∙◌, arith, Option, Some, None, All}
use Rattle.graph_theory.proofs.Common.{slice_index, ne_eqb, ext_get_or, get_or-map-range_with_len, length-map-range_with_len, Multigraph, IsEdgeWithin, IsEdgeNumber, edge_of, touches}
use Rattle.graph_theory.proofs.Common.{other_end, edge_of_within, other_end-within, number_of-place}
use Rattle.augment.specs.Matching.{is_edge, mate_counts, IsVertexMate}
use Rattle.mwpm_engine.specs.Solutions.{IsMate, mate_at, matching_of}
use Rattle.mwpm_engine.specs.Solving.{number_or_none, mate_numbers}

pub length-mate_numbers : (m : ℕ → Option ℕ) (n : ℕ) → length (mate_numbers m n) ≡ n
length-mate_numbers m n = length-map-range_with_len (λ v. number_or_none (m v)) 1 n

-- what stands for a vertex
pub mate_numbers_at : (m : ℕ → Option ℕ) (n v : ℕ) → 1 ≤ v → v ≤ n → mate_at (mate_numbers m n) v ≡ number_or_none (m v)
mate_numbers_at m n v low high = get_or-map-range_with_len (λ w. number_or_none (m w)) 1 n (v - 1) v 0 (omega arith) (omega arith)

-- no edge has the number 0, which stands for none
same_edge : (o : Option ℕ) (e : ℕ) → 1 ≤ e → eqb (number_or_none o) e ≡ is_edge o e
same_edge None e low = ne_eqb 0 e (λ s. absurd (omega arith))
same_edge (Some f) e low = refl

-- the mates of the vertices are mates still
pub mate_kept : (g : Multigraph) (m : ℕ → Option ℕ) (v : ℕ) → All (IsEdgeWithin g.vertices) g.edges → 1 ≤ v → v ≤ g.vertices → IsVertexMate g m v → IsMate g (mate_numbers m g.vertices) v
mate_kept g m v ends low high h =
    let n = g.vertices in let other = other_end (edge_of g h.edge) v in
    let range = other_end-within n (edge_of g h.edge) v (edge_of_within g h.edge ends h.is_edge) in
    let here : mate_at (mate_numbers m n) v ≡ h.edge = mate_numbers_at m n v low high ∙ ap number_or_none h.has in
    let there : mate_at (mate_numbers m n) other ≡ h.edge = mate_numbers_at m n other range.0 range.1 ∙ ap number_or_none h.back in
    record {
      is_edge = subst (IsEdgeNumber g) (sym here) h.is_edge;
      at_vertex = subst (λ (e : ℕ). touches (edge_of g e) v ≡ true) (sym here) h.at_v;
      at_other_end = subst (λ (e : ℕ). mate_at (mate_numbers m n) (other_end (edge_of g e) v) ≡ e) (sym here) there;
    }

-- how often edge e is counted, by what stands for its first end and by the mate of that end
abbrev by_number : Multigraph → (ℕ → Option ℕ) → ℕ → ℕ
by_number g m e = cond (eqb (mate_at (mate_numbers m g.vertices) (edge_of g e).u) e) 1 0

abbrev pub by_mate : Multigraph → (ℕ → Option ℕ) → ℕ → ℕ
by_mate g m e = cond (is_edge (m (edge_of g e).u) e) 1 0

same_count : (g : Multigraph) (m : ℕ → Option ℕ) (e : ℕ) → All (IsEdgeWithin g.vertices) g.edges → IsEdgeNumber g e → by_number g m e ≡ by_mate g m e
same_count g m e ends is =
    let within = edge_of_within g e ends is in
    ap (λ x. cond (eqb x e) 1 0) (mate_numbers_at m g.vertices (edge_of g e).u within.u_low within.u_high) ∙ ap (λ t. cond t 1 0) (same_edge (m (edge_of g e).u) e is.0)

pub matching_same : (g : Multigraph) (m : ℕ → Option ℕ) → All (IsEdgeWithin g.vertices) g.edges → matching_of g (mate_numbers m g.vertices) ≡ mate_counts g m
matching_same g m ends =
    let edges = length g.edges in let size = length-map-range_with_len (by_number g m) 1 edges in
    let other_size = length-map-range_with_len (by_mate g m) 1 edges in
    ext_get_or 0 (matching_of g (mate_numbers m g.vertices)) (mate_counts g m) (size ∙ sym other_size) (λ i low.
    let within : i < edges = omega (arith, low, size) in
    get_or-map-range_with_len (by_number g m) 1 edges i (i + 1) 0 within (omega arith)
    ∙ same_count g m (i + 1) ends (number_of-place g i within)
    ∙ sym (get_or-map-range_with_len (by_mate g m) 1 edges i (i + 1) 0 within (omega arith)))

-- an edge counts where it is the mate of its first end
pub count_at : (g : Multigraph) (m : ℕ → Option ℕ) (k : ℕ) → k < length g.edges → slice_index (mate_counts g m) k ≡ by_mate g m (k + 1)
count_at g m k low = get_or-map-range_with_len (by_mate g m) 1 (length g.edges) k (k + 1) 0 low (omega arith)
