-- A graph whose first edges match 1 and 2, 3 and 4, and so on, has a perfect matching.
use Rattle.graph_theory.proofs.Common.{◌≡◌, ◌≢◌, ℕ, zero, suc, ◌+◌, ◌*◌, ◌-◌, ◌<◌, ◌≤◌, ◌++◌, ◌∷◌, [], ◌⊎◌, List, cond, ltb, map, length}
use Rattle.graph_theory.proofs.Common.{slice_index, range_with_len, refl, ap, ap₂, sym, subst, false}
use Rattle.graph_theory.proofs.Common.{◌∙◌, arith, inl, inr, All, All-push, All-from_get_or, length_push, get_or_push, get_or_append_left}
use Rattle.graph_theory.proofs.Common.{get_or-map-range_with_len, length-map-range_with_len}
use Rattle.graph_theory.proofs.Common.{cases_lt, lt-ltb, le-ltb, ne_eqb, eq-eqb, one_if-most, sum_to-only, Multigraph, is_loop, edge_at, ends_at, degree, no_edge}
use Rattle.graph_theory.specs.declared.edge.Edge.{Edge}
use Rattle.graph_theory.specs.declared.limits.TheConstants.{GRAPH_EDGE_LIMIT}
use Rattle.mwpm_engine.specs.Solutions.{HasPerfect}
use Rattle.array_joins.specs.PairedUp.{IsPairedUp}

-- a number is twice another one, or one more
record IsHalved (w : ℕ) : Type 0 where
  half : ℕ
  is : (w ≡ 2 * half) ⊎ (w ≡ 2 * half + 1)

half_of : (w : ℕ) → IsHalved w
half_of zero = record { half = 0; is = inl refl }
half_of (suc w) =
    let h = half_of w in
    elim h.is [
      | inl even ↦ record { half = h.half; is = inr (omega (arith, even)) }
      | inr odd ↦ record { half = h.half + 1; is = inl (omega (arith, odd)) }
    ]

-- the first edges count once, the others not at all
abbrev first_of : ℕ → ℕ → ℕ
first_of twos k = cond (ltb k twos) 1 0

abbrev firsts : ℕ → ℕ → List ℕ
firsts twos m = map (first_of twos) (range_with_len 0 m)

count_at : (twos m k : ℕ) → k < m → slice_index (firsts twos m) k ≡ first_of twos k
count_at twos m k low = get_or-map-range_with_len (first_of twos) 0 m k k 0 low (omega arith)

count_first : (twos m k : ℕ) → k < m → k < twos → slice_index (firsts twos m) k ≡ 1
count_first twos m k low first = count_at twos m k low ∙ ap (λ t. cond t 1 0) (lt-ltb k twos first)

count_past : (twos m k : ℕ) → k < m → twos ≤ k → slice_index (firsts twos m) k ≡ 0
count_past twos m k low past = count_at twos m k low ∙ ap (λ t. cond t 1 0) (le-ltb k twos past)

ends-none : (e : Edge) (v : ℕ) → e.u ≢ v → e.v ≢ v → ends_at e v ≡ 0
ends-none e v a b = ap₂ (λ s t. cond s 1 0 + cond t 1 0) (ne_eqb e.u v a) (ne_eqb e.v v b)

ends-u : (e : Edge) (v : ℕ) → e.u ≡ v → e.v ≢ v → ends_at e v ≡ 1
ends-u e v a b = ap₂ (λ s t. cond s 1 0 + cond t 1 0) (eq-eqb e.u v a) (ne_eqb e.v v b)

ends-v : (e : Edge) (v : ℕ) → e.u ≢ v → e.v ≡ v → ends_at e v ≡ 1
ends-v e v a b = ap₂ (λ s t. cond s 1 0 + cond t 1 0) (ne_eqb e.u v a) (eq-eqb e.v v b)

module _ (twos : ℕ) (g : Multigraph) (paired : IsPairedUp twos g) where
  abbrev term : ℕ → ℕ → ℕ
  term v k = slice_index (firsts twos (length g.edges)) k * ends_at (edge_at g k) v

  none_there : (v k : ℕ) → ends_at (edge_at g k) v ≡ 0 → term v k ≡ 0
  none_there v k none = ap (λ x. slice_index (firsts twos (length g.edges)) k * x) none ∙ (let e : slice_index (firsts twos (length g.edges)) k * 0 ≡ 0 = omega arith in e)

  past_there : (v k : ℕ) → k < length g.edges → twos ≤ k → term v k ≡ 0
  past_there v k low past = ap (λ c. c * ends_at (edge_at g k) v) (count_past twos (length g.edges) k low past) ∙ (let e : 0 * ends_at (edge_at g k) v ≡ 0 = omega arith in e)

  one_there : (v k : ℕ) → k < length g.edges → k < twos → ends_at (edge_at g k) v ≡ 1 → term v k ≡ 1
  one_there v k low first one = ap₂ (λ c x. c * x) (count_first twos (length g.edges) k low first) one

  other : (v p k : ℕ) → k < length g.edges → (v ≡ 2 * p + 1) ⊎ (v ≡ 2 * p + 2) → k ≢ p → term v k ≡ 0
  other v p k low at differ = elim (cases_lt k twos) [
    | inl first ↦
        let from = paired.from k first in
        let to = paired.to k first in
        none_there v k (ends-none (edge_at g k) v
        (λ e. elim at [ inl x ↦ differ (omega (arith, from, e, x)) | inr x ↦ absurd (omega (arith, from, e, x)) ])
        (λ e. elim at [ inl x ↦ absurd (omega (arith, to, e, x)) | inr x ↦ differ (omega (arith, to, e, x)) ]))
    | inr past ↦ past_there v k low past
  ]

  here : (v p : ℕ) → p < twos → (v ≡ 2 * p + 1) ⊎ (v ≡ 2 * p + 2) → term v p ≡ 1
  here v p first at =
      let from = paired.from p first in
      let to = paired.to p first in
      let low : p < length g.edges = omega (arith, first, paired.enough) in
      elim at [
        | inl x ↦ one_there v p low first (ends-u (edge_at g p) v (omega (arith, from, x)) (λ e. absurd (omega (arith, to, e, x))))
        | inr x ↦ one_there v p low first (ends-v (edge_at g p) v (λ e. absurd (omega (arith, from, e, x))) (omega (arith, to, x)))
      ]

  at_half : (v p : ℕ) → 1 ≤ v → v ≤ 2 * twos → (v ≡ 2 * p + 1) ⊎ (v ≡ 2 * p + 2) → degree g (firsts twos (length g.edges)) v ≡ 1
  at_half v p low high at =
      let first : p < twos = elim at [ inl x ↦ omega (arith, high, x) | inr x ↦ omega (arith, high, x) ] in
      let below : p < length g.edges = omega (arith, first, paired.enough) in
      sum_to-only (term v) p (length g.edges) below (λ k b differ. other v p k b at differ) ∙ here v p first at

  degree_one : (v : ℕ) → 1 ≤ v → v ≤ 2 * twos → degree g (firsts twos (length g.edges)) v ≡ 1
  degree_one v low high =
      let h = half_of (v - 1) in
      at_half v h.half low high (elim h.is [ inl even ↦ inl (omega (arith, low, even)) | inr odd ↦ inr (omega (arith, low, odd)) ])

  pub paired_perfect : g.vertices ≡ 2 * twos → HasPerfect g
  paired_perfect size =
      let m : ℕ = length g.edges in
      let long : length (firsts twos m) ≡ m = length-map-range_with_len (first_of twos) 0 m in (
        firsts twos m,
        record {
          one_each = long;
          at_most_one = All-from_get_or (λ c. c ≤ 1) (firsts twos m) 0 (λ k b. subst (λ c. c ≤ 1) (sym (count_at twos m k (omega (arith, b, long)))) (one_if-most (ltb k twos)));
          degrees = λ v low high. degree_one v low (omega (arith, high, size));
        },
      )

abbrev pushed : Multigraph → Edge → Multigraph
pushed g e = record g { edges = g.edges ++ e ∷ [] }

kept : (g : Multigraph) (e : Edge) (k : ℕ) → k < length g.edges → edge_at (pushed g e) k ≡ edge_at g k
kept g e k low = get_or_append_left g.edges (e ∷ []) no_edge k low

-- a pair more

pub two_added : (twos : ℕ) (g : Multigraph) (e : Edge) → IsPairedUp twos g → length g.edges ≡ twos → twos < GRAPH_EDGE_LIMIT → e.u ≡ 2 * twos + 1 → e.v ≡ 2 * twos + 2
    → IsPairedUp (twos + 1) (pushed g e)
two_added twos g e paired each few from to =
    let size = length_push g.edges e in
    let last : edge_at (pushed g e) twos ≡ e = get_or_push g.edges e no_edge twos each in
    record {
      enough = omega (arith, size, each);
      from = λ k low. elim (cases_lt k twos) [
        | inl first ↦ ap (λ (x : Edge). x.u) (kept g e k (omega (arith, first, each))) ∙ paired.from k first
        | inr past ↦
            let same : k ≡ twos = omega (arith, low, past) in
            ap (λ j. (edge_at (pushed g e) j).u) same ∙ ap (λ (x : Edge). x.u) last ∙ from ∙ (let y : 2 * twos + 1 ≡ 2 * k + 1 = omega (arith, same) in y)
      ];
      to = λ k low. elim (cases_lt k twos) [
        | inl first ↦ ap (λ (x : Edge). x.v) (kept g e k (omega (arith, first, each))) ∙ paired.to k first
        | inr past ↦
            let same : k ≡ twos = omega (arith, low, past) in
            ap (λ j. (edge_at (pushed g e) j).v) same ∙ ap (λ (x : Edge). x.v) last ∙ to ∙ (let y : 2 * twos + 2 ≡ 2 * k + 2 = omega (arith, same) in y)
      ];
      loopless = All-push (λ x. is_loop x ≡ false) g.edges e paired.loopless (ne_eqb e.u e.v (λ same. absurd (omega (arith, same, from, to))));
      size_limit = omega (arith, size, each, few);
    }

pub other_added : (twos : ℕ) (g : Multigraph) (e : Edge) → IsPairedUp twos g → length g.edges < GRAPH_EDGE_LIMIT → e.u < e.v → IsPairedUp twos (pushed g e)
other_added twos g e paired few differ =
    let size = length_push g.edges e in
    let enough = paired.enough in
    record {
      enough = omega (arith, size, enough);
      from = λ k low. ap (λ (x : Edge). x.u) (kept g e k (omega (arith, low, enough))) ∙ paired.from k low;
      to = λ k low. ap (λ (x : Edge). x.v) (kept g e k (omega (arith, low, enough))) ∙ paired.to k low;
      loopless = All-push (λ x. is_loop x ≡ false) g.edges e paired.loopless (ne_eqb e.u e.v (λ same. absurd (omega (arith, same, differ))));
      size_limit = omega (arith, size, few);
    }

-- a graph without edges is paired up to none
pub none_paired : (g : Multigraph) → g.edges ≡ [] → IsPairedUp 0 g
none_paired g none = record {
  enough = omega arith;
  from = λ k low. absurd (omega (arith, low));
  to = λ k low. absurd (omega (arith, low));
  loopless = subst (All (λ x. is_loop x ≡ false)) (sym none) (λ k d low. absurd (omega (arith, low)));
  size_limit = omega (arith, ap length none);
}
