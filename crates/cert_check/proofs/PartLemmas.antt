-- Marks of vertices against sets that no edge leaves.
use Rattle.mb_problem.proofs.Common.{◌≡◌, ℕ, ◌+◌, ◌-◌, ◌<◌, ◌≤◌, ◌%◌, ◌↔◌, IsTrue, count_by, Bool, true, false, not, cond, List, length, refl, sym, ap}
use Rattle.mb_problem.proofs.Common.{◌∙◌, arith, subst, ◌==◌, false≢true, All-get_or, All-from_get_or, Edge, no_edge, edge_at, holds, crosses, LeavesNone, IsVertexSet, IsOddPart}
use Rattle.mb_problem.proofs.Common.{IsSplitPart, same_side, Network, IsNetwork, vertices, value_of, graph_of, plain, instance_edge_at, AreMarks, edge_at-graph_of, edges-count, edge-ends}
use Rattle.cert_check.specs.Marked.{mark_of, AgreeAtEnds, HasEdgeMarked}

pub mark-holds : (n : ℕ) (marks : List Bool) (set : List ℕ) (v : ℕ) → AreMarks n marks set → 1 ≤ v → v ≤ n → mark_of marks v ≡ holds set v
mark-holds n marks set v are low high =
    let back : v - 1 + 1 ≡ v = omega arith in
    are.each (v - 1) (omega arith) ∙ ap (holds set) back

stays : (p q : Bool) → p ≡ q → cond p (not q) q ≡ false
stays true true h = refl
stays true false h = absurd (false≢true (sym h))
stays false true h = absurd (false≢true h)
stays false false h = refl

-- no edge has exactly one marked end exactly where no edge leaves the set
pub agree-leaves : (i : Network) (marks : List Bool) (set : List ℕ) → IsNetwork i → AreMarks (vertices i) marks set → AgreeAtEnds i marks ↔ LeavesNone (graph_of i) set
agree-leaves i marks set ok are =
    let size : length (graph_of i).edges ≡ length i.edges = edges-count i in (
      (λ at_ends. All-from_get_or (λ (e : Edge). crosses set e ≡ false) (graph_of i).edges no_edge (λ k b. (let below : k < length i.edges = omega arith in
          let ends = edge-ends i k ok below in
          let same : holds set (instance_edge_at i k).u ≡ holds set (instance_edge_at i k).v =
          sym (mark-holds (vertices i) marks set (instance_edge_at i k).u are ends.u_low ends.u_high) ∙ at_ends k below
          ∙ mark-holds (vertices i) marks set (instance_edge_at i k).v are ends.v_low ends.v_high in
          subst (λ (e : Edge). crosses set e ≡ false) (sym (edge_at-graph_of i k)) (stays (holds set (instance_edge_at i k).u) (holds set (instance_edge_at i k).v) same)))),
      (λ closed k below. (let b : k < length (graph_of i).edges = omega arith in
          let ends = edge-ends i k ok below in
          let here : crosses set (plain (instance_edge_at i k)) ≡ false =
          subst (λ (e : Edge). crosses set e ≡ false) (edge_at-graph_of i k) (All-get_or (λ (e : Edge). crosses set e ≡ false) (graph_of i).edges k no_edge b closed) in
          mark-holds (vertices i) marks set (instance_edge_at i k).u are ends.u_low ends.u_high ∙ same_side (holds set (instance_edge_at i k).u) (holds set (instance_edge_at i k).v) here
          ∙ sym (mark-holds (vertices i) marks set (instance_edge_at i k).v are ends.v_low ends.v_high))),
    )

-- an edge whose first end is marked as wanted
pub marked-edge : (i : Network) (marks : List Bool) (set : List ℕ) (wanted : Bool) → IsNetwork i → AreMarks (vertices i) marks set →
    HasEdgeMarked i marks wanted ↔ ((k : ℕ) × (k < length (graph_of i).edges) × (holds set (edge_at (graph_of i) k).u ≡ wanted))
marked-edge i marks set wanted ok are =
    let size : length (graph_of i).edges ≡ length i.edges = edges-count i in (
      (λ h. (let below : h.0 < length i.edges = h.1 in
          let ends = edge-ends i h.0 ok below in (
            h.0,
            omega arith,
            ap (λ (e : Edge). holds set e.u) (edge_at-graph_of i h.0) ∙ sym (mark-holds (vertices i) marks set (instance_edge_at i h.0).u are ends.u_low ends.u_high) ∙ h.2,
          ))),
      (λ h. (let b : h.0 < length (graph_of i).edges = h.1 in
          let below : h.0 < length i.edges = omega arith in
          let ends = edge-ends i h.0 ok below in
          (h.0, below, mark-holds (vertices i) marks set (instance_edge_at i h.0).u are ends.u_low ends.u_high ∙ ap (λ (e : Edge). holds set e.u) (sym (edge_at-graph_of i h.0)) ∙ h.2))),
    )

pub odd-by_marks : (i : Network) (marks : List Bool) (set : List ℕ) (b : Bool) → IsNetwork i → AreMarks (vertices i) marks set → IsVertexSet (vertices i) set →
    count_by (λ v. value_of i v % 2 == 1) set % 2 ≡ 1 → IsTrue b ↔ AgreeAtEnds i marks → IsTrue b ↔ IsOddPart (graph_of i) (λ v. value_of i v % 2 == 1) set
odd-by_marks i marks set b ok are vertex_set odd test = (
  (λ t. record { vertices = vertex_set; closed = (agree-leaves i marks set ok are).0 (test.0 t); odd = odd }),
  (λ part. test.1 ((agree-leaves i marks set ok are).1 part.closed)),
)

pub split-by_marks : (i : Network) (marks : List Bool) (set : List ℕ) (b : Bool) → IsNetwork i → AreMarks (vertices i) marks set → IsVertexSet (vertices i) set →
    IsTrue b ↔ (HasEdgeMarked i marks true × HasEdgeMarked i marks false × AgreeAtEnds i marks) → IsTrue b ↔ IsSplitPart (graph_of i) set
split-by_marks i marks set b ok are vertex_set test = (
  (λ t. (let split = test.0 t in record {
    vertices = vertex_set;
    closed = (agree-leaves i marks set ok are).0 split.2;
    inside = (marked-edge i marks set true ok are).0 split.0;
    outside = (marked-edge i marks set false ok are).0 split.1;
  })),
  (λ part. test.1 (
    (marked-edge i marks set true ok are).1 part.inside,
    (marked-edge i marks set false ok are).1 part.outside,
    (agree-leaves i marks set ok are).1 part.closed,
  )),
)
