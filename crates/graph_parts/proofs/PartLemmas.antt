-- Lemmas on flags in components: the first odd part.
use Rattle.mb_problem.proofs.Common.{◌≡◌, ℕ, ◌+◌, ◌%◌, ◌<◌, ◌≤◌, Bool, true, false, not, cond, eqb, refl, ap, sym, ◌∙◌, subst, inl, inr, arith, List, []}
use Rattle.mb_problem.proofs.Common.{length, slice_index, count_by, All, cases_lt, eq-eqb, eqb-true, false≢true, false_from_ne_true, nat_tests, get_or_default, sum_to, Edge, Multigraph}
use Rattle.mb_problem.proofs.Common.{IsGraph, IsEdgeWithin, no_edge, edge_at, edge_of, degree, holds, crosses, IsVertexSet, LeavesNone, AreTogether, IsComponent, sum_to-same, sum_to-add}
use Rattle.mb_problem.proofs.Common.{sum_to-zero, sum_to-parity, sum_to-at_one, edge_of-place, number_of-place, touches-u, other_end-u, holds_first, least_first, members_sum, together-edge}
use Rattle.mb_problem.proofs.Common.{together-sym, component-within, leaves_none-even}
use Rattle.graph_parts.specs.Marks.{is_marked}
use Rattle.graph_parts.specs.Forests.{IsLeastTogether}
use Rattle.graph_parts.specs.Flags.{taken_counts, IsBalanced}
use Rattle.graph_parts.specs.OddParts.{IsFirstOddPart}
use Rattle.graph_parts.proofs.FlagLemmas.{one_if, bit-test}

-- an edge joins its two ends
pub edge-together : (g : Multigraph) (k : ℕ) → k < length g.edges → AreTogether g [] (edge_at g k).u (edge_at g k).v
edge-together g k b =
    let e = edge_of g (k + 1) in
    subst (λ (x : Edge). AreTogether g [] x.u x.v) (edge_of-place g k) (together-edge g [] (k + 1) e.u e.v (number_of-place g k b) (touches-u e) (other_end-u e) refl refl)

crossing-test : (p q : Bool) → (p ≡ true → q ≡ true) → (q ≡ true → p ≡ true) → cond p (not q) q ≡ false
crossing-test p q a b = grind (arith, nat_tests)

-- no edge leaves a component
pub component-closed : (g : Multigraph) (part : List ℕ) → All (IsEdgeWithin g.vertices) g.edges → IsComponent g [] part → LeavesNone g part
component-closed g part ends is = λ k d b.
    let e = edge_at g k in
    let near = edge-together g k b in
    subst (λ (x : Edge). crosses part x ≡ false) (get_or_default g.edges k no_edge d b) (crossing-test (holds part e.u) (holds part e.v) (λ h. is.whole e.u e.v h near)
    (λ h. is.whole e.v e.u h (together-sym g [] e.u e.v ends near)))

-- the parity of the terminals in a part is that of the flags there

member-term : (s f : Bool) (d o : ℕ) → (d + one_if f) % 2 ≡ o → o ≤ 1 → (cond s d 0 + cond s (one_if f) 0) % 2 ≡ cond s (one_if (eqb o 1)) 0 % 2
member-term true f d o h small = let bit = bit-test o small in omega (arith, h, bit, small)
member-term false f d o h small = refl

-- how many flags are in a part, as a sum over all vertices
abbrev pub flags_in : Multigraph → List Bool → List ℕ → ℕ
flags_in g flags part = sum_to (λ i. cond (holds part (i + 1)) (one_if (is_marked flags (i + 1))) 0) g.vertices

pub terminals-parity : (g : Multigraph) (odd : ℕ → ℕ) (taken flags : List Bool) (part : List ℕ) → IsGraph g → ((v : ℕ) → odd v ≤ 1) → IsBalanced g odd taken flags
    → IsVertexSet g.vertices part → LeavesNone g part → count_by (λ v. eqb (odd v) 1) part % 2 ≡ flags_in g flags part % 2
terminals-parity g odd taken flags part ok bit even set closed =
    let n = g.vertices in
    let counts = taken_counts taken (length g.edges) in
    let d : ℕ → ℕ = λ i. cond (holds part (i + 1)) (degree g counts (i + 1)) 0 in
    let f : ℕ → ℕ = λ i. cond (holds part (i + 1)) (one_if (is_marked flags (i + 1))) 0 in
    let o : ℕ → ℕ = λ i. cond (holds part (i + 1)) (one_if (eqb (odd (i + 1)) 1)) 0 in
    let degrees : sum_to d n % 2 ≡ 0 = leaves_none-even g counts part ok.ends closed in
    let agree = sum_to-parity (λ i. d i + f i) o n (λ i b. member-term (holds part (i + 1)) (is_marked flags (i + 1)) (degree g counts (i + 1)) (odd (i + 1)) (even (i + 1) (omega arith)
    (omega arith)) (bit (i + 1))) in
    let listed : sum_to o n ≡ count_by (λ v. eqb (odd v) 1) part = members_sum (λ v. one_if (eqb (odd v) 1)) n part set.ascending set.in_range in
    omega (arith, degrees, sum_to-add d f n, agree, listed)

none-term : (s f : Bool) → (s ≡ true → f ≡ false) → cond s (one_if f) 0 ≡ 0
none-term s f off = grind (arith, nat_tests)

-- no flag in a part
pub flags-none : (g : Multigraph) (flags : List Bool) (part : List ℕ) → ((v : ℕ) → holds part v ≡ true → is_marked flags v ≡ false) → flags_in g flags part ≡ 0
flags-none g flags part off =
    sum_to-same (λ i. cond (holds part (i + 1)) (one_if (is_marked flags (i + 1))) 0) (λ _. 0) g.vertices (λ i b. none-term (holds part (i + 1)) (is_marked flags (i + 1)) (off (i + 1)))
    ∙ sum_to-zero g.vertices

root-term : (s f r : Bool) → (r ≡ true → s ≡ true) → (r ≡ true → f ≡ true) → (s ≡ true → f ≡ true → r ≡ true) → cond s (one_if f) 0 ≡ cond r 1 0
root-term s f r inside on only = grind (arith, nat_tests)

-- one flag in a part
pub flags-one : (g : Multigraph) (flags : List Bool) (part : List ℕ) (root : ℕ) → 1 ≤ root → root ≤ g.vertices → holds part root ≡ true → is_marked flags root ≡ true
    → ((v : ℕ) → holds part v ≡ true → is_marked flags v ≡ true → root ≡ v) → flags_in g flags part ≡ 1
flags-one g flags part root low high here on only =
    sum_to-same (λ i. cond (holds part (i + 1)) (one_if (is_marked flags (i + 1))) 0) (λ i. cond (eqb root (i + 1)) 1 0) g.vertices
    (λ i b. root-term (holds part (i + 1)) (is_marked flags (i + 1)) (eqb root (i + 1)) (λ e. ap (holds part) (sym (eqb-true root (i + 1) e)) ∙ here)
    (λ e. ap (is_marked flags) (sym (eqb-true root (i + 1) e)) ∙ on) (λ h t. eq-eqb root (i + 1) (only (i + 1) h t))) ∙ sum_to-at_one (λ _. 1) root g.vertices low high

-- the component of the first flag, where flags are at the least vertices of components alone
pub first-odd : (g : Multigraph) (odd : ℕ → ℕ) (taken flags : List Bool) (part : List ℕ) (root : ℕ) → IsGraph g → ((v : ℕ) → odd v ≤ 1) → IsBalanced g odd taken flags
    → ((v : ℕ) → is_marked flags v ≡ true → IsLeastTogether g [] v) → is_marked flags root ≡ true → ((w : ℕ) → w < root → is_marked flags w ≡ false) → IsComponent g [] part → holds part root
    ≡ true → IsFirstOddPart g (λ v. eqb (odd v) 1) part
first-odd g odd taken flags part root ok bit even least on first is here =
    let closed = component-closed g part ok.ends is in
    let range = component-within g [] part root is here in
    record {
      part = record {
        vertices = is.vertices;
        closed = closed;
        odd =
            let one = flags-one g flags part root range.0 range.1 here on (λ v h t.
            let near = is.joined root v here h in
            omega (arith, (least root on).1 v near, (least v t).1 root (together-sym g [] root v ok.ends near))) in
            let parity = terminals-parity g odd taken flags part ok bit even is.vertices closed in
            omega (arith, parity, one);
      };
      component = is;
      least = λ other is_other odd_other.
          let w = slice_index other 0 in
          let start = least_first part root is.vertices.ascending here in
          elim (cases_lt w root) [
            | inl less ↦
                let none = flags-none g flags other (λ v h. false_from_ne_true (is_marked flags v) (λ t.
                let low : w ≤ v = least_first other v is_other.vertices.ascending h in
                let high : v ≤ w = (least v t).1 w (is_other.joined v w h (holds_first other is_other.some)) in
                let same : w ≡ v = omega (arith, low, high) in
                false≢true (sym (first w less) ∙ ap (is_marked flags) same ∙ t))) in
                absurd (omega (arith, terminals-parity g odd taken flags other ok bit even is_other.vertices (component-closed g other ok.ends is_other), none, odd_other))
            | inr more ↦ omega (arith, start, more)
          ];
    }
