-- Lemmas on flags that are carried along links, and on the parity of the edges that are taken.
use Rattle.mb_problem.proofs.Common.{◌≡◌, ◌≢◌, ◌⊎◌, ℕ, ◌+◌, ◌*◌, ◌%◌, ◌<◌, ◌≤◌, Bool, true, false, not, cond, eqb, ap, sym, ◌∙◌, inl, inr}
use Rattle.mb_problem.proofs.Common.{arith, List, [], ◌∷◌, ◌++◌, length, slice_index, cases_eq, cases_lt, eqb-true, false≢true, or_cases, nat_tests, get_or_past}
use Rattle.mb_problem.proofs.Common.{get_or-map-range_with_len, sum_to, Edge, Multigraph, IsEdgeNumber, edge_at, edge_of, ends_at, degree, holds, sum_to-same, sum_to-add, sum_to-zero}
use Rattle.mb_problem.proofs.Common.{sum_to-parity, sum_to-at_one, edge_of-place}
use Rattle.graph_parts.specs.declared.links.Link.{Link}
use Rattle.graph_parts.specs.Marks.{is_marked}
use Rattle.graph_parts.specs.Links.{tos, from_of, IsTree}
use Rattle.graph_parts.specs.Forests.{IsLeastTogether, IsSpanningForest}
use Rattle.graph_parts.specs.Flags.{IsToggled, taken_counts, IsBalanced}
use Rattle.graph_parts.proofs.LinkLemmas.{tos-push, tree-pop}

-- 1 where the test passes
abbrev pub one_if : Bool → ℕ
one_if b = cond b 1 0

-- a bit is 1 where it is odd
pub bit-test : (o : ℕ) → o ≤ 1 → one_if (eqb o 1) ≡ o
bit-test o small = grind (arith, nat_tests)

-- the edges that are taken count once
pub taken-at : (taken : List Bool) (m k : ℕ) → k < m → slice_index (taken_counts taken m) k ≡ one_if (is_marked taken (k + 1))
taken-at taken m k b = get_or-map-range_with_len (λ e. cond (is_marked taken e) 1 0) 1 m k (k + 1) 0 b (omega arith)

one_if-times : (t : Bool) (x : ℕ) → one_if t * x ≡ cond t x 0
one_if-times true x = omega arith
one_if-times false x = omega arith

pub taken-degree : (g : Multigraph) (taken : List Bool) (v : ℕ) → degree g (taken_counts taken (length g.edges)) v ≡ sum_to (λ k. cond (is_marked taken (k + 1)) (ends_at (edge_at g k) v) 0)
    (length g.edges)
taken-degree g taken v =
    let m = length g.edges in
    sum_to-same (λ k. slice_index (taken_counts taken m) k * ends_at (edge_at g k) v) (λ k. cond (is_marked taken (k + 1)) (ends_at (edge_at g k) v) 0) m
    (λ k b. ap (λ (x : ℕ). x * ends_at (edge_at g k) v) (taken-at taken m k b) ∙ one_if-times (is_marked taken (k + 1)) (ends_at (edge_at g k) v))

-- an edge that is turned

turned-term : (p b : Bool) (x : ℕ) → (cond b x 0 + cond (cond p (not b) b) x 0) % 2 ≡ cond p x 0 % 2
turned-term p b x = grind (arith, nat_tests)

-- the degrees change by an odd number where the edge that is turned has one end
pub turned-degree : (g : Multigraph) (e v : ℕ) (old new : List Bool) → IsEdgeNumber g e → IsToggled e old new → (degree g (taken_counts old (length g.edges)) v + degree g
    (taken_counts new (length g.edges)) v) % 2 ≡ ends_at (edge_of g e) v % 2
turned-degree g e v old new number turned =
    let m = length g.edges in
    let at : ℕ → ℕ = λ k. ends_at (edge_at g k) v in
    let was : ℕ → ℕ = λ k. cond (is_marked old (k + 1)) (at k) 0 in
    let now : ℕ → ℕ = λ k. cond (is_marked new (k + 1)) (at k) 0 in
    let here : ℕ → ℕ = λ x. ends_at (edge_of g x) v in
    let agree = sum_to-parity (λ k. was k + now k) (λ k. cond (eqb e (k + 1)) (here (k + 1)) 0) m (λ k b.
    ap (λ (t : Bool). (was k + cond t (at k) 0) % 2) (turned (k + 1)) ∙ turned-term (eqb e (k + 1)) (is_marked old (k + 1)) (at k)
    ∙ ap (λ (x : Edge). cond (eqb e (k + 1)) (ends_at x v) 0 % 2) (sym (edge_of-place g k))) in
    omega (arith, sum_to-add was now m, agree, sum_to-at_one here e m number.0 number.1, taken-degree g old v, taken-degree g new v)

turned-test : (p b : Bool) → (one_if b + one_if (cond p (not b) b)) % 2 ≡ one_if p
turned-test p b = grind (arith, nat_tests)

turned-flag : (place v : ℕ) (old new : List Bool) → IsToggled place old new → (one_if (is_marked old v) + one_if (is_marked new v)) % 2 ≡ one_if (eqb place v)
turned-flag place v old new turned = ap (λ (b : Bool). (one_if (is_marked old v) + one_if b) % 2) (turned v) ∙ turned-test (eqb place v) (is_marked old v)

-- an edge and the flags at its ends are turned
pub balanced-switch : (g : Multigraph) (e u v : ℕ) (odd : ℕ → ℕ) (taken after flags middle last : List Bool) → IsEdgeNumber g e → u ≡ (edge_of g e).u → v ≡ (edge_of g e).v
    → IsToggled u flags middle → IsToggled v middle last → IsToggled e taken after → IsBalanced g odd taken flags → IsBalanced g odd after last
balanced-switch g e u v odd taken after flags middle last number at_u at_v one two three even = λ x low high.
    let m = length g.edges in
    let p : one_if (eqb u x) ≡ one_if (eqb (edge_of g e).u x) = ap (λ (y : ℕ). one_if (eqb y x)) at_u in
    let q : one_if (eqb v x) ≡ one_if (eqb (edge_of g e).v x) = ap (λ (y : ℕ). one_if (eqb y x)) at_v in
    omega (arith, even x low high, turned-degree g e x taken after number three, turned-flag u x flags middle one, p, turned-flag v x middle last two, q)

-- a flag that is turned at both ends stays
-- links along which flags are carried

-- a vertex at an edge is one of its two ends
-- an edge that has other than one end at a vertex is a loop there
-- a flag is at a root, or a link that is left leads to it
abbrev pub IsLive : List ℕ → List Link → List Bool → Type 0
IsLive roots left flags = (v : ℕ) → is_marked flags v ≡ true → (holds roots v ≡ true) ⊎ (holds (tos left) v ≡ true)

-- the links of a forest that are left, and flags that they lead to the roots
pub record IsCarried (g : Multigraph) (left : List Link) (flags : List Bool) : Type 0 where
  pub roots : List ℕ
  pub least : (v : ℕ) → holds roots v ≡ true → IsLeastTogether g [] v
  pub tree : IsTree g roots left
  pub live : IsLive roots left flags

-- a marked place is one of the list
pub flag-within : (flags : List Bool) (v : ℕ) → is_marked flags v ≡ true → v < length flags
flag-within flags v h =
    elim (cases_lt v (length flags)) [
      | inl less ↦ less
      | inr more ↦ absurd (false≢true (sym (get_or_past flags v false (omega (arith, more))) ∙ h))
    ]

pub carried-start : (g : Multigraph) (links : List Link) (flags : List Bool) → length flags ≡ g.vertices + 1 → is_marked flags 0 ≡ false → IsSpanningForest g links → IsCarried g links flags
carried-start g links flags size none forest = record {
  roots = forest.roots;
  least = forest.least;
  tree = forest.tree;
  live = λ v h.
      let within = flag-within flags v h in
      forest.covered v (elim (cases_eq v 0) [ inl e ↦ absurd (false≢true (sym none ∙ ap (is_marked flags) (sym e) ∙ h)) | inr d ↦ omega (arith, d) ]) (omega (arith, within, size));
}

pub carried-step : (g : Multigraph) (front : List Link) (l : Link) (old new : List Bool) → IsCarried g (front ++ l ∷ []) old → ((v : ℕ) → is_marked new v ≡ true
    → (v ≡ from_of g l) ⊎ ((v ≢ l.to) × (is_marked old v ≡ true))) → IsCarried g front new
carried-step g front l old new is cleared = record {
  roots = is.roots;
  least = is.least;
  tree = (tree-pop g is.roots front l is.tree).tree;
  live = λ v h.
      elim (cleared v h) [
        | inl e ↦ elim (tree-pop g is.roots front l is.tree).from [
          | inl x ↦ inl (ap (holds is.roots) e ∙ x)
          | inr x ↦ inr (ap (holds (tos front)) e ∙ x)
        ]
        | inr p ↦ elim (is.live v p.1) [
          | inl x ↦ inl x
          | inr x ↦ elim (or_cases (holds (tos front) v) (eqb l.to v) (sym (tos-push front l v) ∙ x)) [
            | inl y ↦ inr y
            | inr y ↦ absurd (p.0 (sym (eqb-true l.to v y)))
          ]
        ]
      ];
}

-- no link is left
pub carried-all : (g : Multigraph) (flags : List Bool) → IsCarried g [] flags → (v : ℕ) → is_marked flags v ≡ true → IsLeastTogether g [] v
carried-all g flags is v h = elim (is.live v h) [ inl e ↦ is.least v e | inr e ↦ absurd (false≢true e) ]

-- no edge is taken

bit_of : (b : Bool) → (0 + one_if b) % 2 ≡ one_if b
bit_of b = grind (arith, nat_tests)

pub balanced-start : (g : Multigraph) (taken flags : List Bool) → ((e : ℕ) → is_marked taken e ≡ false) → IsBalanced g (λ v. one_if (is_marked flags v)) taken flags
balanced-start g taken flags none = λ v low high.
    let zero : degree g (taken_counts taken (length g.edges)) v ≡ 0 = taken-degree g taken v
    ∙ sum_to-same (λ k. cond (is_marked taken (k + 1)) (ends_at (edge_at g k) v) 0) (λ _. 0) (length g.edges) (λ k b. ap (λ (t : Bool). cond t (ends_at (edge_at g k) v) 0) (none (k + 1)))
    ∙ sum_to-zero (length g.edges) in
    ap (λ (d : ℕ). (d + one_if (is_marked flags v)) % 2) zero ∙ bit_of (is_marked flags v)
