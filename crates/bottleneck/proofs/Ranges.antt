-- What halving keeps, and what it ends with.
use Rattle.mb_problem.proofs.Common.{◌≡◌, ◌≢◌, ℕ, zero, suc, ◌+◌, ◌-◌, ◌*◌, ◌/◌, ◌^◌, ◌<◌, ◌≤◌, ℤ, ◌≤ℤ◌, false, ap, sym, ◌∙◌}
use Rattle.mb_problem.proofs.Common.{subst, inl, inr, arith, List, [], length, int_lt, ints, cases_lt}
use Rattle.mb_problem.proofs.Common.{cases_Bool, touches, lt-ltb, le-ltb, mul-le-mul_left, length-map, All-nil, Multigraph, IsGraph, HasNoLoop}
use Rattle.mb_problem.proofs.Common.{IsEdgeNumber, edge_of, IsVertexSet, IsBarrier, holds_all, IsWithinLimits, heaviest, Network, IsNetwork, vertices, plain_graph, size_of, link_count}
use Rattle.gadget_base.proofs.Common.{IsPerfectList, lighter_than, times_each, plain-length, links-few}
use Rattle.mb_problem.specs.declared.kind.Kind.TheVariants.{Bottleneck as BottleneckKind}
use Rattle.mb_problem.specs.declared.limits.TheConstants.{EDGE_LIMIT}
use Rattle.mwpm_engine.specs.Solutions.{most_steps, size_of_graph}
use Rattle.bottleneck.specs.declared.found.Bottleneck.TheVariants.{Best}
use Rattle.bottleneck.specs.declared.range.Range.{Range}
use Rattle.bottleneck.specs.declared.range.Found.{Found}
use Rattle.bottleneck.specs.declared.range.Found.TheVariants.{Matching, Barrier}
use Rattle.bottleneck.specs.Halving.{AreLight, AreWeights, weight_at, weightless, chosen, numbers_in, BarsBelow, IsUpTo, IsRange, IsStart, IsFound, narrowed, told, IsNarrowed}
use Rattle.bottleneck.specs.Thresholds.{IsThreshold}
use Rattle.bottleneck.proofs.Parts.{lighter-loose, lighter-graph, chosen-numbers, chosen-perfect, chosen-all, bars-lighter, bars-whole, not_all_lighter}
use Rattle.bottleneck.proofs.Loose.{loose-barrier}
use Rattle.bottleneck.proofs.Places.{up_to-next, next-up_to, up_to-last, none-before}
use Rattle.bottleneck.proofs.Greatest.{listed-heaviest, all_or_one}

-- the edges at some vertex aren't lighter than the weight at the place where halving starts
bars_start : (g : Multigraph) (ws : List ℤ) (t : ℕ) → IsGraph g → AreWeights g ws → IsStart g ws t → BarsBelow g ws t []
bars_start g ws t good are at = record {
  vertex_set = record { ascending = λ k b. absurd (omega (arith, b)); in_range = All-nil (λ v. (1 ≤ v) × (v ≤ g.vertices)) };
  lighter = λ b. loose-barrier (lighter_than (weight_at ws t) g) at.vertex (lighter-graph g (weight_at ws t) good)
      (lighter-loose g (weight_at ws t) at.vertex (λ e is on light. none-before g ws are t e at.bound is at.below (at.least e is on) (λ _. light) at.size_limit)) at.low at.high;
  whole = λ last. loose-barrier g at.vertex good (λ e is. elim (cases_Bool (touches (edge_of g e) at.vertex)) [
    | inl on ↦ absurd (none-before g ws are t e at.bound is at.below (at.least e is on) (λ b. absurd (omega (arith, b, last))) at.size_limit)
    | inr off ↦ off
  ]) at.low at.high;
}

-- a barrier of the edges up to a place
bars_next : (g : Multigraph) (ws : List ℤ) (t : ℕ) (numbers set : List ℕ) → AreWeights g ws → AreLight g (weight_at ws t) (length g.edges) numbers → IsVertexSet g.vertices set
    → IsBarrier (chosen g numbers) set → BarsBelow g ws (t + 1) set
bars_next g ws t numbers set are light is barrier = record {
  vertex_set = is;
  lighter = λ b. bars-lighter g (weight_at ws t) (weight_at ws (t + 1)) numbers set light (λ e n h. up_to-next g ws are t e b h) (λ e n h. next-up_to g ws are t e b n h) barrier;
  whole = λ last. bars-whole g (weight_at ws t) numbers set light (λ e n. up_to-last g ws are t e last n) barrier;
}

-- a perfect matching of them
pub up_to : (g : Multigraph) (ws : List ℤ) (t : ℕ) (numbers es : List ℕ) → AreLight g (weight_at ws t) (length g.edges) numbers → IsPerfectList (chosen g numbers) es
    → IsUpTo g ws t (numbers_in numbers es)
up_to g ws t numbers es light perfect = record {
  perfect = chosen-perfect g numbers es (chosen-numbers g (weight_at ws t) numbers light) perfect;
  light = chosen-all (λ e. (edge_of g e).w ≤ℤ weight_at ws t) g numbers es (λ k d b. (light.each k d b).1) perfect.numbers;
}

-- a search among the edges up to a place narrows a range
pub narrows : (g : Multigraph) (ws : List ℤ) (numbers : List ℕ) (r : Range) (place : ℕ) (found : Found) → AreWeights g ws → IsRange g ws r → r.low ≤ place → place < r.high
    → AreLight g (weight_at ws place) (length g.edges) numbers → IsFound (chosen g numbers) numbers found → IsNarrowed g ws place r (narrowed place found r)
narrows g ws numbers r place (Matching edges) are range low high light found = record {
  range = record {
    order = low;
    end = omega (arith, high, range.end);
    bars = range.bars;
    matched = λ b. subst (IsUpTo g ws place) (sym found.2) (up_to g ws place numbers found.0 light found.1);
  };
  narrow = λ most before after. before;
}
narrows g ws numbers r place (Barrier set) are range low high light found = record {
  range = record {
    order = omega (arith, high);
    end = range.end;
    bars = bars_next g ws place numbers set.items are light found.0 found.1;
    matched = range.matched;
  };
  narrow = λ most before after. after;
}

not_lighter : (a w : ℤ) → a ≤ℤ w → int_lt a w ≡ false → a ≡ w
not_lighter a w h off = grind (arith, ints)

-- at its end one edge is as heavy as the weight at that place
tight : (g : Multigraph) (ws : List ℤ) (t : ℕ) (es set : List ℕ) → IsGraph g → HasNoLoop g → IsUpTo g ws t es → IsBarrier (lighter_than (weight_at ws t) g) set
    → heaviest g (times_each g es) ≡ weight_at ws t
tight g ws t es set good plain up barrier =
    let w = weight_at ws t in
    elim (all_or_one (λ e. int_lt (edge_of g e).w w) es) [
      | inl all ↦ absurd (not_all_lighter g w set es good plain barrier up.perfect all)
      | inr one ↦
          let most = holds_all (λ e. (edge_of g e).w ≤ℤ w) es one.0 up.light one.1 in
          listed-heaviest g es w one.0 up.light one.1 (holds_all (IsEdgeNumber g) es one.0 up.perfect.numbers one.1) (not_lighter (edge_of g one.0).w w most one.2)
    ]

-- the places from a start on
pub started : (g : Multigraph) (ws : List ℤ) (r : Range) (t : ℕ) → IsGraph g → AreWeights g ws → IsStart g ws t → r.low ≡ t → r.high ≡ length ws → r.barrier.items ≡ []
    → IsRange g ws r
started g ws r t good are at low high none = record {
  order = omega (arith, low, high, at.size_limit);
  end = omega (arith, high);
  bars = rw (low, none) (bars_start g ws t good are at);
  matched = λ b. absurd (omega (arith, b, high));
}

-- a place with a weight
best : (i : Network) (ws : List ℤ) (t : ℕ) (es set : List ℕ) → IsGraph (plain_graph i) → HasNoLoop (plain_graph i) → vertices i ≢ 0 → IsUpTo (plain_graph i) ws t es
    → BarsBelow (plain_graph i) ws t set → t < length ws → IsThreshold i (Best (weight_at ws t) es set)
best i ws t es set good plain some up bars b = (
  up.perfect,
  (λ none. absurd (some none)),
  (λ _. record { weighs = tight (plain_graph i) ws t es set good plain up (bars.lighter b); vertex_set = bars.vertex_set; excludes = bars.lighter b }),
)

-- one place
pub answered : (i : Network) (g : Multigraph) (ws : List ℤ) (r : Range) → g ≡ plain_graph i → IsGraph g → HasNoLoop g → vertices i ≢ 0 → IsRange g ws r → r.low ≡ r.high
    → IsThreshold i (told ws r)
answered i g ws r same good plain some places one =
    let h = plain_graph i in
    let range : IsRange h ws r = subst (λ (k : Multigraph). IsRange k ws r) same places in
    let bars : BarsBelow h ws r.high r.barrier.items = subst (λ (t : ℕ). BarsBelow h ws t r.barrier.items) one range.bars in
    elim (cases_lt r.high (length ws)) [
      | inl b ↦ rw (lt-ltb r.high (length ws) b)
          (best i ws r.high r.matching.items r.barrier.items (subst IsGraph same good) (subst HasNoLoop same plain) some (range.matched b) bars b)
      | inr past ↦ rw (le-ltb r.high (length ws) past) (bars.vertex_set, bars.whole (omega (arith, past, range.end)))
    ]

-- the graph without loops is within the limits, and a search there counts what the size of the kind allows

pub plain_limits : (i : Network) (g : Multigraph) → g ≡ plain_graph i → IsNetwork i → IsWithinLimits (size_of_graph g)
plain_limits i g same network = rw same record {
  vertices = omega (arith, network.few_vertices);
  edges = omega (arith, network.few_edges, plain-length i, links-few i (length i.edges));
}

pub plain_few : (i : Network) (g : Multigraph) (ws : List ℤ) → g ≡ plain_graph i → IsNetwork i → AreWeights g ws → length ws ≤ EDGE_LIMIT
plain_few i g ws same network are =
    let size : length g.edges ≡ link_count i = ap (λ (h : Multigraph). length h.edges) same ∙ plain-length i in
    omega (arith, are.size_limit, network.few_edges, size, links-few i (length i.edges))

pub plain_paid : (i : Network) (g : Multigraph) (before after : ℕ) → g ≡ plain_graph i → after ≤ before + 17 * most_steps (size_of_graph g)
    → after ≤ before + 17 * most_steps (size_of BottleneckKind i)
plain_paid i g before after same paid =
    subst (λ (m : ℕ). after ≤ before + 17 * most_steps (record { vertices = vertices i; edges = m })) (plain-length i)
    (subst (λ (h : Multigraph). after ≤ before + 17 * most_steps (size_of_graph h)) same paid)

-- fewer edges, fewer steps
pub fewer_steps : (g : Multigraph) (numbers : List ℕ) → length numbers ≤ length g.edges → most_steps (size_of_graph (chosen g numbers)) ≤ most_steps (size_of_graph g)
fewer_steps g numbers few =
    let size = length-map numbers (weightless g) in
    mul-le-mul_left ((g.vertices + 1) * (3 * g.vertices + 2)) (let z : length (chosen g numbers).edges + 1 ≤ length g.edges + 1 = omega (arith, size, few) in z)

-- how often a range can still be halved, and how many steps have been counted
pub record IsHalving (g : Multigraph) (ws : List ℤ) (r : Range) (start steps most : ℕ) : Type 0 where
  pub range : IsRange g ws r
  pub left : ℕ
  pub value_limit : r.high - r.low < 2 ^ left
  pub paid : steps + left * most ≤ start + 16 * most

pub halving_start : (g : Multigraph) (ws : List ℤ) (r : Range) (start most : ℕ) → IsRange g ws r → r.high - r.low < 2 ^ 16 → IsHalving g ws r start start most
halving_start g ws r start most range few = record { range = range; left = 16; value_limit = few; paid = omega arith }

-- one search more, and at most half the width
halving_step : (old new start before after most left : ℕ) → old < 2 ^ left → before + left * most ≤ start + 16 * most → 1 ≤ old → 2 * new ≤ old → after ≤ before + most
    → (k : ℕ) × (new < 2 ^ k) × (after + k * most ≤ start + 16 * most)
halving_step old new start before after most zero small paid some half once = absurd (omega (arith, small, some))
halving_step old new start before after most (suc k) small paid some half once = (k, omega (arith, small, half), omega (arith, paid, once))

pub halving_more : (g : Multigraph) (ws : List ℤ) (old new : Range) (middle start before after most : ℕ) → IsHalving g ws old start before most → old.low < old.high
    → middle ≡ old.low + (old.high - old.low) / 2 → IsNarrowed g ws middle old new → after ≤ before + most → IsHalving g ws new start after most
halving_more g ws old new middle start before after most is more at narrowed once =
    let width = narrowed.narrow ((old.high - old.low) / 2) (omega (arith, at)) (omega (arith, at, more)) in
    let step = halving_step (old.high - old.low) (new.high - new.low) start before after most is.left is.value_limit is.paid (omega (arith, more)) (omega (arith, width)) once in
    record { range = narrowed.range; left = step.0; value_limit = step.1; paid = step.2 }

pub halving_once : (g : Multigraph) (ws : List ℤ) (r : Range) (start before after most : ℕ) → IsHalving g ws r start before most → r.low < r.high → after ≤ before + most
    → after ≤ start + 16 * most
halving_once g ws r start before after most is more once =
    let step = halving_step (r.high - r.low) 0 start before after most is.left is.value_limit is.paid (omega (arith, more)) (omega arith) once in
    omega (arith, step.2)
