-- What the heaviest edge of a matching weighs.
use Rattle.certificates.proofs.Common.{◌≡◌, ℕ, zero, suc, ◌+◌, ◌<◌, ◌≤◌, ℤ, pos, neg_ℤ, ◌≤ℤ◌, Bool, true, false, cond, List, length, slice_index, Option}
use Rattle.certificates.proofs.Common.{None, Some, IfSome, refl, sym, ap, ◌∙◌, arith, int_le, nat_lt, unwrap_or, dec_lt, ints, Edge, IsNumber, Multigraph, IsGraph, IsWeight, edge_at}
use Rattle.certificates.proofs.Common.{no_edge, greater_of, greatest_to, used_weight, heaviest, Network, IsNetwork, vertices, graph_of, plain_graph, is_loop_at, edges-count, times_each}
use Rattle.certificates.proofs.Common.{links_below, with_loops, plain-length, with_loops-at, heaviest-none}
use Rattle.bottleneck.specs.declared.found.Bottleneck.TheVariants.{Best}
use Rattle.bottleneck.specs.Thresholds.{IsThreshold}
use Rattle.gallai.proofs.Links.{link-at}

-- ---- it is a weight

either : (t : Bool) (a b : ℤ) → IsWeight a → IsWeight b → IsWeight (cond t a b)
either true a b f h = f
either false a b f h = h

greater-weight : (a b : Option ℤ) → IfSome a IsWeight → IfSome b IsWeight → IfSome (greater_of a b) IsWeight
greater-weight None b f h = h
greater-weight (Some a) None f h = f
greater-weight (Some a) (Some b) f h = either (int_le b a) a b f h

if_used : (t : Bool) (w : ℤ) → IsWeight w → IfSome (cond t (Some w) None) IsWeight
if_used true w h = h
if_used false w h = tt

greatest-weight : (g : Multigraph) (counts : List ℕ) (n : ℕ) → IsGraph g → n ≤ length g.edges → IfSome (greatest_to (used_weight g counts) n) IsWeight
greatest-weight g counts zero graph few = tt
greatest-weight g counts (suc n) graph few =
    let here : n < length g.edges = omega (arith, few) in
    greater-weight (greatest_to (used_weight g counts) n) (used_weight g counts n) (greatest-weight g counts n graph (omega (arith, few)))
    (if_used (nat_lt 0 (slice_index counts n)) (edge_at g n).w (graph.weights n no_edge here))

or_none : (w : Option ℤ) → IfSome w IsWeight → IsNumber (unwrap_or w (pos 0))
or_none None h = (omega (arith, ints), omega (arith, ints))
or_none (Some w) h =
    let low : neg_ℤ (pos 1000000000000) ≤ℤ w = h.0 in
    let high : w ≤ℤ pos 1000000000000 = h.1 in
    (omega (arith, ints, low), omega (arith, ints, high))

pub heaviest-number : (g : Multigraph) (counts : List ℕ) → IsGraph g → IsNumber (heaviest g counts)
heaviest-number g counts graph = or_none (greatest_to (used_weight g counts) (length g.edges)) (greatest-weight g counts (length g.edges) graph (omega arith))

-- ---- loops change nothing

used-same : (g h : Multigraph) (cs ds : List ℕ) (k j : ℕ) → slice_index cs k ≡ slice_index ds j → edge_at g k ≡ edge_at h j → used_weight g cs k ≡ used_weight h ds j
used-same g h cs ds k j count edge = ap (λ (c : ℕ). cond (nat_lt 0 c) (Some (edge_at g k).w) None) count ∙ ap (λ (e : Edge). cond (nat_lt 0 (slice_index ds j)) (Some e.w) None) edge

greater-none : (a : Option ℤ) → greater_of a None ≡ a
greater-none None = refl
greater-none (Some a) = refl

module _ (i : Network) (counts : List ℕ) where
  abbrev all : ℕ → Option ℤ
  all = used_weight (graph_of i) (with_loops i counts)

  abbrev links : ℕ → Option ℤ
  links = used_weight (plain_graph i) counts

  one-more : (k : ℕ) → k < length i.edges → (t : Bool) → is_loop_at i k ≡ t → greater_of (greatest_to links (links_below i k)) (all k)
      ≡ greatest_to links (links_below i k + cond t 0 1)
  one-more k b true is =
      let none : slice_index (with_loops i counts) k ≡ 0 = with_loops-at i counts k b ∙ ap (λ (t : Bool). cond t 0 (slice_index counts (links_below i k))) is in
      let same : links_below i k ≡ links_below i k + 0 = omega arith in
      ap (λ (c : ℕ). greater_of (greatest_to links (links_below i k)) (cond (nat_lt 0 c) (Some (edge_at (graph_of i) k).w) None)) none
      ∙ greater-none (greatest_to links (links_below i k)) ∙ ap (greatest_to links) same
  one-more k b false is =
      let count : slice_index (with_loops i counts) k ≡ slice_index counts (links_below i k) =
      with_loops-at i counts k b ∙ ap (λ (t : Bool). cond t 0 (slice_index counts (links_below i k))) is in
      let next : suc (links_below i k) ≡ links_below i k + 1 = omega arith in
      ap (greater_of (greatest_to links (links_below i k))) (used-same (graph_of i) (plain_graph i) (with_loops i counts) counts k (links_below i k) count (sym (link-at i k b is)))
      ∙ ap (greatest_to links) next

  all-links : (n : ℕ) → n ≤ length i.edges → greatest_to all n ≡ greatest_to links (links_below i n)
  all-links zero few = refl
  all-links (suc n) few =
      ap (λ (w : Option ℤ). greater_of w (all n)) (all-links n (omega (arith, few))) ∙ one-more n (omega (arith, few)) (is_loop_at i n) refl

  pub heaviest-with_loops : heaviest (graph_of i) (with_loops i counts) ≡ heaviest (plain_graph i) counts
  heaviest-with_loops =
      ap (λ (m : ℕ). unwrap_or (greatest_to all m) (pos 0)) (edges-count i)
      ∙ ap (λ (w : Option ℤ). unwrap_or w (pos 0)) (all-links (length i.edges) (omega arith))
      ∙ ap (λ (m : ℕ). unwrap_or (greatest_to links m) (pos 0)) (sym (plain-length i))

-- the weight that is found is that of the answer
pub weighs-found : (i : Network) (w : ℤ) (matching barrier : List ℕ) → IsNetwork i → IsThreshold i (Best w matching barrier) →
    heaviest (graph_of i) (with_loops i (times_each (plain_graph i) matching)) ≡ w
weighs-found i w matching barrier network found =
    let counts = times_each (plain_graph i) matching in
    elim (dec_lt 0 (vertices i)) [
      | yes some ↦ heaviest-with_loops i counts ∙ (found.2 (λ none. absurd (omega (arith, some, none)))).weighs
      | no empty ↦ (let none : vertices i ≡ 0 = omega arith in heaviest-none i (with_loops i counts) network none ∙ sym (found.1 none).no_weight)
    ]
