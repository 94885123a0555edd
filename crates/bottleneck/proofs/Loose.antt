-- A vertex without an edge is a component of odd size, so the empty set is a barrier.
use Rattle.graph_theory.proofs.Common.{◌≡◌, ℕ, ◌≤◌, true, false, refl, sym, ◌∙◌, subst, arith, List, [], ◌∷◌, length, false≢true}
use Rattle.graph_theory.proofs.Common.{All-nil, All-cons, Multigraph, IsGraph, IsEdgeNumber, edge_of, touches, holds, holds_place, IsWalk, walk_end, AreTogether, IsComponent}
use Rattle.graph_theory.proofs.Common.{IsOddHead, IsOddCount, IsBarrier, holds_first, only-member as one_member, together-refl}
use Rattle.dual_change.proofs.Heads.{odd_heads, counted}

-- no edge has this end
abbrev pub IsLoose : Multigraph → ℕ → Type 0
IsLoose g v = (e : ℕ) → IsEdgeNumber g e → touches (edge_of g e) v ≡ false

-- a walk stays where it starts
stays : (g : Multigraph) (v : ℕ) (by : List ℕ) → IsLoose g v → IsWalk g v by → walk_end g v by ≡ v
stays g v [] loose walk = refl
stays g v (e ∷ by) loose walk = absurd (false≢true (sym (loose e walk.0) ∙ walk.1))

alone : (g : Multigraph) (v : ℕ) → IsLoose g v → 1 ≤ v → v ≤ g.vertices → IsComponent g [] (v ∷ [])
alone g v loose low high = record {
  vertices = record {
    ascending = λ k b. absurd (omega (arith, b));
    in_range = All-cons (λ x. (1 ≤ x) × (x ≤ g.vertices)) v [] (low, high) (All-nil (λ x. (1 ≤ x) × (x ≤ g.vertices)));
  };
  outside = All-cons (λ x. holds [] x ≡ false) v [] refl (All-nil (λ x. holds [] x ≡ false));
  some = omega arith;
  joined = λ a b ha hb. subst (λ (x : ℕ). AreTogether g [] x b) (one_member v a ha) (subst (AreTogether g [] v) (one_member v b hb) (together-refl g [] v refl));
  whole = λ a b ha t.
      let from : AreTogether g [] v b = subst (λ (x : ℕ). AreTogether g [] x b) (sym (one_member v a ha)) t in
      subst (λ (x : ℕ). holds (v ∷ []) x ≡ true) (sym (stays g v from.by loose from.walk) ∙ from.ends) (holds_first (v ∷ []) (omega arith));
}

pub loose-barrier : (g : Multigraph) (v : ℕ) → IsGraph g → IsLoose g v → 1 ≤ v → v ≤ g.vertices → IsBarrier g []
loose-barrier g v good loose low high =
    let count : IsOddCount g [] (length (odd_heads g [] good)) = counted g [] good in
    let head : IsOddHead g [] v = (v ∷ [], alone g v loose low high, refl, refl) in
    let there = holds_place count.heads v ((count.exact v).1 head) in
    let size = count.size in
    (length (odd_heads g [] good), count, omega (arith, there.1, size))
