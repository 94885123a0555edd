-- Roots and exposed nodes, counted.
use Rattle.graph_theory.proofs.Common.{◌≡◌, ℕ, zero, suc, ◌+◌, ◌-◌, ◌<◌, ◌≤◌, Bool, true, false, not, ◌&&◌, ◌||◌, eqb, cond, [], Option, Some, None, refl}
use Rattle.graph_theory.proofs.Common.{ap, ◌∙◌, arith, is_some, both_ways, and_parts, and_from, and-false, sum_to, sum_to-same, sum_to-add, sum_to-zero, sum_to-one, sum_to-append}
use Rattle.graph_theory.proofs.Common.{sum_to-at_one, sum_to-has, most_blossoms, nat_tests}
use Rattle.blossom_arena.specs.Family.{IsNested, is_vertex, is_outermost}
use Rattle.blossom_arena.proofs.Lists.{by_test}
use Rattle.blossom_arena.proofs.Nested.{outermost_parts, node_range, range_vertex, vertex_range}
use Rattle.blossom_arena.specs.declared.label.Label.TheVariants.{Outer, Out}
use Rattle.alt_forest.specs.State.{State, IsOutermost, IsExposed}
use Rattle.alt_forest.specs.Trees.{IsRoot, is_label, node_limit}
use Rattle.alt_forest.specs.Counts.{is_exposed, exposed_count, is_root, tree_count}
use Rattle.alt_forest.specs.Searches.{put}
use Rattle.alt_forest.specs.Laws.{RootsCounted, ExposedCounted}
use Rattle.alt_forest.proofs.Relabelled.{with_labels}
use Rattle.alt_forest.proofs.Pairs.{is_outer}

abbrev pub one_if : Bool → ℕ
one_if t = cond t 1 0

-- how many of the numbers 1 to n pass a test
abbrev pub counted : (ℕ → Bool) → ℕ → ℕ
counted p n = sum_to (λ i. one_if (p (i + 1))) n

-- some number passes where the count is not 0
some_passes : (p : ℕ → Bool) (n : ℕ) → 1 ≤ counted p n → (a : ℕ) × (p a ≡ true)
some_passes p zero low = absurd (omega (arith, low))
some_passes p (suc n) low = by_test (p (n + 1))
    (λ t. (n + 1, t))
    (λ t. let none : one_if (p (n + 1)) ≡ 0 = ap one_if t in some_passes p n (omega (arith, low, none)))

-- a number that passes is counted
one_passes : (p : ℕ → Bool) (n a : ℕ) → 1 ≤ a → a ≤ n → p a ≡ true → 1 ≤ counted p n
one_passes p n a low high t =
    let same : (a - 1) + 1 ≡ a = omega (arith, low) in
    let here : one_if (p ((a - 1) + 1)) ≡ 1 = ap (λ k. one_if (p k)) same ∙ ap one_if t in
    let has : one_if (p ((a - 1) + 1)) ≤ counted p n = sum_to-has (λ i. one_if (p (i + 1))) n (a - 1) (omega (arith, low, high)) in
    omega (arith, has, here)

-- and two are counted twice
none_pass : (p : ℕ → Bool) (n : ℕ) → ((a : ℕ) → p a ≡ false) → counted p n ≡ 0
none_pass p n h = sum_to-same (λ i. one_if (p (i + 1))) (λ _. 0) n (λ i _. ap one_if (h (i + 1))) ∙ sum_to-zero n

pub no_entry : (o : Option ℕ) → not (is_some o) ≡ true → o ≡ None
no_entry None e = refl
no_entry (Some x) e = absurd (both_ways false refl e)

-- a root passes its test, and what passes is a root
pub root_passes : (s : State) (a : ℕ) → IsRoot s a → is_root s a ≡ true
root_passes s a r =
    and_from (is_outermost s.graph.vertices s.blossoms a) (is_label (s.label a) Outer && not (is_some (s.mate a))) r.outermost
    (and_from (is_label (s.label a) Outer) (not (is_some (s.mate a))) (ap (λ l. is_label l Outer) r.outer) (ap (λ o. not (is_some o)) r.exposed))

pub passing_root : (s : State) (a : ℕ) → is_root s a ≡ true → IsRoot s a
passing_root s a e =
    let p = and_parts (is_outermost s.graph.vertices s.blossoms a) (is_label (s.label a) Outer && not (is_some (s.mate a))) e in
    let q = and_parts (is_label (s.label a) Outer) (not (is_some (s.mate a))) p.1 in
    record { outermost = p.0; outer = is_outer (s.label a) q.0; exposed = no_entry (s.mate a) q.1 }

outer_range : (s : State) (a : ℕ) → IsNested s.graph.vertices s.blossoms → IsOutermost s a → (1 ≤ a) × (a ≤ node_limit s.graph.vertices)
outer_range s a nested is = node_range s.graph.vertices s.blossoms a nested (outermost_parts s.graph.vertices s.blossoms a is).0

pub roots_counted : RootsCounted
roots_counted s some = let p = some_passes (is_root s) (node_limit s.graph.vertices) (omega (arith, some)) in (p.0, passing_root s p.0 p.1)

pub exposed_counted : ExposedCounted
exposed_counted s nested none a x =
    let range = outer_range s a nested x.0 in
    let passes : is_exposed s a ≡ true = and_from (is_outermost s.graph.vertices s.blossoms a) (not (is_some (s.mate a))) x.0 (ap (λ o. not (is_some o)) x.1) in
    absurd (omega (arith, none, one_passes (is_exposed s) (node_limit s.graph.vertices) a range.0 range.1 passes))

-- a root more
pub one_more : (s : State) (v : ℕ) → IsNested s.graph.vertices s.blossoms → IsExposed s v → s.label v ≡ Out
    → tree_count (with_labels s (put s.label v Outer)) ≡ tree_count s + 1
one_more s v nested x was_out =
    let n : ℕ = node_limit s.graph.vertices in let t : State = with_labels s (put s.label v Outer) in
    let range = outer_range s v nested x.0 in
    let all : tree_count t ≡ sum_to (λ i. one_if (is_root s (i + 1)) + one_if (eqb v (i + 1))) n =
    sum_to-same (λ i. one_if (is_root t (i + 1))) (λ i. one_if (is_root s (i + 1)) + one_if (eqb v (i + 1))) n (λ i _. step (i + 1)) in
    let both = sum_to-add (λ i. one_if (is_root s (i + 1))) (λ i. one_if (eqb v (i + 1))) n in
    let here : counted (eqb v) n ≡ 1 = sum_to-at_one (λ _. 1) v n range.0 range.1 in
    omega (arith, all, both, here)
  where
    step : (a : ℕ) → one_if (is_root (with_labels s (put s.label v Outer)) a) ≡ one_if (is_root s a) + one_if (eqb v a)
    step a = grind (arith, nat_tests, x.0, x.1, was_out)

-- no root where no node is in a tree
pub no_roots : (s : State) → ((a : ℕ) → s.label a ≡ Out) → tree_count s ≡ 0
no_roots s out = none_pass (is_root s) (node_limit s.graph.vertices) (λ a. ap (λ l. is_outermost s.graph.vertices s.blossoms a && (is_label l Outer && not (is_some (s.mate a)))) (out a)
    ∙ and-false (is_outermost s.graph.vertices s.blossoms a))

-- where there is no blossom and no mate, each vertex is exposed
pub all_exposed : (s : State) → s.blossoms ≡ [] → ((a : ℕ) → s.mate a ≡ None) → exposed_count s ≡ s.graph.vertices
all_exposed s bare unmated =
    let n : ℕ = s.graph.vertices in
    let split = sum_to-append (λ i. one_if (is_exposed s (i + 1))) n (most_blossoms n) in
    let first = sum_to-same (λ i. one_if (is_exposed s (i + 1))) (λ _. 1) n (λ i low. ap one_if (is_vertex_test (i + 1) ∙ range_vertex n (i + 1) (omega arith) (omega (arith, low)))) in
    let rest = sum_to-same (λ i. one_if (is_exposed s (n + i + 1))) (λ _. 0) (most_blossoms n) (λ i _. ap one_if (is_vertex_test (n + i + 1) ∙ above (n + i + 1) (omega arith))) in
    omega (arith, split, first, rest, sum_to-one n, sum_to-zero (most_blossoms n))
  where
    is_vertex_test : (a : ℕ) → is_exposed s a ≡ is_vertex s.graph.vertices a
    is_vertex_test a = rw (bare, unmated a) (plain (is_vertex s.graph.vertices a))
      where
        plain : (q : Bool) → (((q || false) && true) && true) ≡ q
        plain q = grind arith

    above : (a : ℕ) → s.graph.vertices < a → is_vertex s.graph.vertices a ≡ false
    above a high = by_test (is_vertex s.graph.vertices a) (λ t. absurd (omega (arith, high, (vertex_range s.graph.vertices a t).1))) (λ t. t)
