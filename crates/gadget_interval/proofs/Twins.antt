-- Degrees and weights in a graph that is another one twice, with further edges.
use Rattle.mb_problem.proofs.Common.{◌≡◌, ℕ, zero, suc, ◌+◌, ◌*◌, ◌<◌, ◌≤◌, refl, ap, sym, ◌∙◌, arith, List, [], ◌∷◌, ◌++◌, length, slice_index}
use Rattle.mb_problem.proofs.Common.{slice_index_or, All, ℤ, ◌+ℤ◌, ints, length-map, Edge, sum_to, int_sum_to, Multigraph, IsEdgeWithin, no_edge, edge_at, ends_at, degree, weight}
use Rattle.mb_problem.proofs.Common.{ends_at-other, eqb-shift as eqb_shift, sum_to-none}
use Rattle.gadget_base.proofs.Common.{moved_edge, moved, over, at_vertex, weighing, IsSum, nat-sum, int-sum, Sums, sums-append}

-- the graph twice, and further edges
abbrev pub twice : Multigraph → List Edge → Multigraph
twice g between = record { vertices = 2 * g.vertices; edges = g.edges ++ (moved g.vertices g.edges ++ between) }

moved-at : (by : ℕ) (es : List Edge) (k : ℕ) → k < length es → slice_index_or (moved by es) k no_edge ≡ moved_edge by (slice_index_or es k no_edge)
moved-at by [] k b = absurd (omega arith)
moved-at by (e ∷ es) zero b = refl
moved-at by (e ∷ es) (suc k) b = moved-at by es k (omega arith)

ends-moved : (e : Edge) (by v : ℕ) → ends_at (moved_edge by e) (v + by) ≡ ends_at e v
ends-moved e by v = rw (eqb_shift e.u v by, eqb_shift e.v v by) refl

-- no edge ends there
over-none : (v : ℕ) (es : List Edge) (cs : List ℕ) → ((k : ℕ) → k < length es → ends_at (slice_index_or es k no_edge) v ≡ 0) → over (at_vertex v) es cs ≡ 0
over-none v es cs none = sum_to-none _ (length es) (λ k b. ap (λ (d : ℕ). slice_index cs k * d) (none k b) ∙ omega arith)

-- moved edges count further on what the edges do, and nothing where these have their ends

module _ {A : Type 0} {total : (ℕ → A) → ℕ → A} {none : A} {plus : A → A → A} (law : IsSum total none plus) (F : Edge → ℕ → A) where
  over-moved : (G : Edge → ℕ → A) (by : ℕ) (es : List Edge) (cs : List ℕ) → ((e : Edge) (c : ℕ) → F (moved_edge by e) c ≡ G e c)
      → total (λ k. F (slice_index_or (moved by es) k no_edge) (slice_index cs k)) (length (moved by es)) ≡ total (λ k. G (slice_index_or es k no_edge) (slice_index cs k)) (length es)
  over-moved G by es cs same =
      ap (total _) (length-map es (moved_edge by))
      ∙ law.same _ _ (length es) (λ k b. ap (λ (e : Edge). F e (slice_index cs k)) (moved-at by es k b) ∙ same _ (slice_index cs k))

  over-twice : (g : Multigraph) (between : List Edge) (one two rest : List ℕ) {s : A} → length one ≡ length g.edges → length two ≡ length g.edges → Sums total F between rest s
      → total (λ k. F (edge_at (twice g between) k) (slice_index (one ++ (two ++ rest)) k)) (length (twice g between).edges)
      ≡ plus (total (λ k. F (edge_at g k) (slice_index one k)) (length g.edges))
      (plus (total (λ k. F (slice_index_or (moved g.vertices g.edges) k no_edge) (slice_index two k)) (length (moved g.vertices g.edges))) s)
  over-twice g between one two rest size size' p =
      (sums-append law (record { one_each = sym size; is = refl }) (sums-append law (record { one_each = length-map g.edges (moved_edge g.vertices) ∙ sym size'; is = refl }) p)).is

-- a vertex of the first graph, one of the second, and the weight

module _ (g : Multigraph) (between : List Edge) (one two rest : List ℕ) (size : length one ≡ length g.edges) (size' : length two ≡ length g.edges) where
  pub low-degree : (v : ℕ) {s : ℕ} → All (IsEdgeWithin g.vertices) g.edges → v ≤ g.vertices → Sums sum_to (at_vertex v) between rest s
      → degree (twice g between) (one ++ (two ++ rest)) v ≡ degree g one v + s
  low-degree v ends low p =
      let none = over-none v (moved g.vertices g.edges) two
      (λ k b.
      let e = edge_at g k in
      let below : k < length g.edges = omega (arith, length-map g.edges (moved_edge g.vertices), b) in
      let within : IsEdgeWithin g.vertices e = ends k no_edge below in
      ap (λ (x : Edge). ends_at x v) (moved-at g.vertices g.edges k below)
      ∙ ends_at-other (moved_edge g.vertices e) v (λ h. omega (arith, within.u_low, h)) (λ h. omega (arith, within.v_low, h))) in
      omega (arith, over-twice nat-sum (at_vertex v) g between one two rest size size' p, none)

  pub high-degree : (v : ℕ) {s : ℕ} → All (IsEdgeWithin g.vertices) g.edges → 1 ≤ v → Sums sum_to (at_vertex (v + g.vertices)) between rest s
      → degree (twice g between) (one ++ (two ++ rest)) (v + g.vertices) ≡ degree g two v + s
  high-degree v ends low p =
      let n = g.vertices in
      let none = over-none (v + n) g.edges one
      (λ k b.
      let within : IsEdgeWithin n (edge_at g k) = ends k no_edge b in
      ends_at-other (edge_at g k) (v + n) (λ h. omega (arith, within.u_high, h)) (λ h. omega (arith, within.v_high, h))) in
      let same = over-moved nat-sum (at_vertex (v + n)) (at_vertex v) n g.edges two (λ e c. ap (λ (d : ℕ). c * d) (ends-moved e n v)) in
      omega (arith, over-twice nat-sum (at_vertex (v + n)) g between one two rest size size' p, none, same)

  pub twice-weight : {s : ℤ} → Sums int_sum_to weighing between rest s → weight (twice g between) (one ++ (two ++ rest)) ≡ weight g one +ℤ (weight g two +ℤ s)
  twice-weight p =
      let same = over-moved int-sum weighing weighing g.vertices g.edges two (λ e c. refl) in
      omega (arith, ints, over-twice int-sum weighing g between one two rest size size' p, same)
