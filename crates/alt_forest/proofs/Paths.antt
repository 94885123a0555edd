-- A path comes to its root before it has used up its steps.
use Rattle.graph_theory.proofs.Common.{◌≡◌, ◌≢◌, ℕ, zero, suc, ◌+◌, ◌-◌, ◌<◌, ◌≤◌, true, false, eqb, cond, List, [], ◌∷◌, length, refl, sym, ap}
use Rattle.graph_theory.proofs.Common.{◌∙◌, subst, arith, ⊎_elim, add-one, AllByRecursion, false_from_ne_true, holds}
use Rattle.blossom_arena.specs.Family.{IsNested}
use Rattle.blossom_arena.proofs.Lists.{by_test, AllNew, each_at, vertices, holds-vertices, length-vertices, length-within}
use Rattle.blossom_arena.proofs.Nested.{outermost_parts, node_range, range_vertex}
use Rattle.alt_forest.specs.State.{State, IsOutermost, IsSearchState}
use Rattle.alt_forest.specs.Trees.{node_limit, up_of, path_within, path_of}
use Rattle.alt_forest.proofs.Walk.{up_falls, path_step, path_none}
use Rattle.alt_forest.proofs.Tight.{each_kept}

-- a node on a path: outermost, and not deeper than this
pub record IsPassed (s : State) (depth : ℕ → ℕ) (most a : ℕ) : Type 0 where
  pub outermost : IsOutermost s a
  pub shallow : depth a ≤ most

weaker : (s : State) (depth : ℕ → ℕ) (m n : ℕ) (xs : List ℕ) → m ≤ n → AllByRecursion (IsPassed s depth m) xs → AllByRecursion (IsPassed s depth n) xs
weaker s depth m n xs h = each_kept (IsPassed s depth m) (IsPassed s depth n) (λ x p. record { outermost = p.outermost; shallow = omega (arith, p.shallow) }) xs

others : (s : State) (depth : ℕ → ℕ) (a m : ℕ) (xs : List ℕ) → m < depth a → AllByRecursion (IsPassed s depth m) xs → holds xs a ≡ false
others s depth a m xs h each = false_from_ne_true (holds xs a) (λ e. absurd (omega (arith, h, (each_at (IsPassed s depth m) xs a each e).shallow)))

-- each node on the path is outermost, and no deeper than the first, and none is there twice
pub record Descends (s : State) (depth : ℕ → ℕ) (a : ℕ) (xs : List ℕ) : Type 0 where
  pub passed : AllByRecursion (IsPassed s depth (depth a)) xs
  pub different : AllNew xs

pub descends : (k : ℕ) (s : State) (depth : ℕ → ℕ) (a : ℕ) → IsSearchState s depth → IsOutermost s a → Descends s depth a (path_within k s a)
descends zero s depth a h is = record { passed = tt; different = tt }
descends (suc k) s depth a h is = by_test (eqb a 0)
    (λ none. subst (Descends s depth a) (sym (ap (λ t. cond t [] (a ∷ path_within k s (up_of s a))) none)) (record { passed = tt; different = tt }))
    (λ some. subst (Descends s depth a) (sym (ap (λ t. cond t [] (a ∷ path_within k s (up_of s a))) some))
    (let here : IsPassed s depth (depth a) a = record { outermost = is; shallow = omega arith } in
    ⊎_elim
    (λ none. let empty : path_within k s (up_of s a) ≡ [] = ap (path_within k s) none ∙ path_none k s in
    subst (λ xs. Descends s depth a (a ∷ xs)) (sym empty) (record { passed = (here, tt); different = (refl, tt) }))
    (λ p. let rest = descends k s depth (up_of s a) h p.0 in
    record {
      passed = (here, weaker s depth (depth (up_of s a)) (depth a) (path_within k s (up_of s a)) (omega (arith, p.1)) rest.passed);
      different = (others s depth a (depth (up_of s a)) (path_within k s (up_of s a)) p.1 rest.passed, rest.different);
    })
    (up_falls s depth a h is)))

pub passed_at : (s : State) (depth : ℕ → ℕ) (m : ℕ) (xs : List ℕ) (q : ℕ) → AllByRecursion (IsPassed s depth m) xs → holds xs q ≡ true → IsPassed s depth m q
passed_at s depth m xs q each e = each_at (IsPassed s depth m) xs q each e

-- a path is no longer than there are nodes
pub path_short : (k : ℕ) (s : State) (depth : ℕ → ℕ) (a : ℕ) → IsNested s.graph.vertices s.blossoms → IsSearchState s depth → IsOutermost s a
    → length (path_within k s a) ≤ node_limit s.graph.vertices
path_short k s depth a nested h is =
    let d = descends k s depth a h is in let most : ℕ = node_limit s.graph.vertices in
    let fits : length (path_within k s a) ≤ length (vertices most) = length-within (path_within k s a) (vertices most) d.different
    (λ q e. holds-vertices most q ∙ (let range = node_range s.graph.vertices s.blossoms q nested
    (outermost_parts s.graph.vertices s.blossoms q (passed_at s depth (depth a) (path_within k s a) q d.passed e).outermost).0 in range_vertex most q range.0 range.1)) in
    omega (arith, fits, length-vertices most)

-- where steps are left over, more change nothing
pub path_enough : (k : ℕ) (s : State) (a : ℕ) → length (path_within k s a) < k → path_within (k + 1) s a ≡ path_within k s a
path_enough zero s a h = absurd (omega arith)
path_enough (suc k) s a h = ap (λ j. path_within j s a) (add-one (suc k)) ∙ by_test (eqb a 0)
    (λ none. ap (λ t. cond t [] (a ∷ path_within (suc k) s (up_of s a))) none ∙ sym (ap (λ t. cond t [] (a ∷ path_within k s (up_of s a))) none))
    (λ some.
    let long : length (path_within (suc k) s a) ≡ suc (length (path_within k s (up_of s a))) = ap (λ t. length (cond t [] (a ∷ path_within k s (up_of s a)))) some in
    let less : length (path_within k s (up_of s a)) < k = omega (arith, long) in
    ap (λ t. cond t [] (a ∷ path_within (suc k) s (up_of s a))) some
    ∙ ap (λ xs. a ∷ xs) (ap (λ j. path_within j s (up_of s a)) (sym (add-one k)) ∙ path_enough k s (up_of s a) less)
    ∙ sym (ap (λ t. cond t [] (a ∷ path_within k s (up_of s a))) some))

-- the path of a node is the node, and the path of the next
pub path_of-step : (s : State) (depth : ℕ → ℕ) (a : ℕ) → IsNested s.graph.vertices s.blossoms → IsSearchState s depth → IsOutermost s a → a ≢ 0
    → path_of s a ≡ a ∷ path_of s (up_of s a)
path_of-step s depth a nested h is ne =
    let n : ℕ = node_limit s.graph.vertices in
    let then : path_within (n + 1) s a ≡ a ∷ path_within n s (up_of s a) = path_step (n + 1) s a (λ e. absurd (omega (arith, e))) ne
    ∙ ap (λ k. a ∷ path_within k s (up_of s a)) (let one : (n + 1) - 1 ≡ n = omega arith in one) in
    let short : length (path_within (n + 1) s a) ≤ n = path_short (n + 1) s depth a nested h is in
    let rest : length (path_within n s (up_of s a)) < n = omega (arith, ap length then, short) in
    then ∙ ap (λ xs. a ∷ xs) (sym (path_enough n s (up_of s a) rest))
