-- The least vertex of each class that edges outside a removed set make, by recursion on the list of edges.
use Rattle.alt_forest.proofs.Common.{◌≡◌, ℕ, ◌+◌, ◌-◌, ◌≤◌, Bool, false, ◌||◌, eqb, leb, cond, List, [], ◌∷◌, All, subst, arith, AllByRecursion, nat_tests}
use Rattle.alt_forest.proofs.Common.{get_or_default, All-from_recursion, recursion_from_All, Edge, Multigraph, IsEdgeNumber, no_edge, edge_at, edge_of, edge_of-place}

abbrev pub least : ℕ → ℕ → ℕ
least x y = cond (leb x y) x y

-- the classes x and y made one
abbrev pub joined : ℕ → ℕ → ℕ → ℕ
joined x y z = cond (eqb z x || eqb z y) (least x y) z

-- the least vertex of the class of v
abbrev pub rep : (ℕ → Bool) → List Edge → ℕ → ℕ
rep r [] v = v
rep r (e ∷ es) v = cond (r e.u || r e.v) (rep r es v) (joined (rep r es e.u) (rep r es e.v) (rep r es v))

pub rep_low : (r : ℕ → Bool) (es : List Edge) (v : ℕ) → rep r es v ≤ v
rep_low r [] v = omega arith
rep_low r (e ∷ es) v = grind (arith, nat_tests, rep_low r es v)

-- a relation like equality that holds along the edges outside the removed set holds between a vertex and its least one
module _ (R : ℕ → ℕ → Type 0) (same : (u : ℕ) → R u u) (turn : (u v : ℕ) → R u v → R v u) (join : (u v w : ℕ) → R u v → R v w → R u w) (r : ℕ → Bool) where
  rep_in : (es : List Edge) → AllByRecursion (λ (e : Edge). r e.u ≡ false → r e.v ≡ false → R e.u e.v) es → (v : ℕ) → R (rep r es v) v
  rep_in [] each v = same v
  rep_in (e ∷ es) each v =
      let at_u = rep_in es each.1 e.u in let at_v = rep_in es each.1 e.v in
      let xy : (r e.u || r e.v) ≡ false → R (rep r es e.u) (rep r es e.v) = λ t.
      join (rep r es e.u) e.u (rep r es e.v) at_u (join e.u e.v (rep r es e.v) (grind (arith, nat_tests, each.0)) (turn (rep r es e.v) e.v at_v)) in
      grind (arith, nat_tests, rep_in es each.1 v, xy, turn (rep r es e.u) (rep r es e.v), join (rep r es e.u) (rep r es e.v) v, join (rep r es e.v) (rep r es e.u) v)

-- each edge outside the removed set joins vertices of one class
abbrev pub Keeps : (ℕ → Bool) → (ℕ → ℕ) → Edge → Type 0
Keeps r f e = r e.u ≡ false → r e.v ≡ false → f e.u ≡ f e.v

keeps_more : (r : ℕ → Bool) (f g : ℕ → ℕ) (es : List Edge) → ((u v : ℕ) → f u ≡ f v → g u ≡ g v) → AllByRecursion (λ e. Keeps r f e) es
    → AllByRecursion (λ e. Keeps r g e) es
keeps_more r f g [] h each = tt
keeps_more r f g (e ∷ es) h each = (λ fu fv. h e.u e.v (each.0 fu fv), keeps_more r f g es h each.1)

rep_keeps : (r : ℕ → Bool) (es : List Edge) → AllByRecursion (λ e. Keeps r (rep r es) e) es
rep_keeps r [] = tt
rep_keeps r (e ∷ es) = (λ fu fv. grind (arith, nat_tests), keeps_more r (rep r es) (rep r (e ∷ es)) es (λ u v q. grind (arith, nat_tests)) (rep_keeps r es))

-- the same for a graph and the numbers of its edges
number_of : (g : Multigraph) (P : Edge → Type 0) → All P g.edges → (e : ℕ) → IsEdgeNumber g e → P (edge_of g e)
number_of g P all e is = all (e - 1) no_edge (omega (arith, is.0, is.1))

all_numbers : (g : Multigraph) (P : Edge → Type 0) → ((e : ℕ) → IsEdgeNumber g e → P (edge_of g e)) → All P g.edges
all_numbers g P each = λ k d b.
    let at : P (edge_at g k) = subst P (edge_of-place g k) (each (k + 1) (omega arith, omega (arith, b))) in
    subst P (get_or_default g.edges k no_edge d b) at

module _ (g : Multigraph) (r : ℕ → Bool) where
  pub rep_edge : (e : ℕ) → IsEdgeNumber g e → r (edge_of g e).u ≡ false → r (edge_of g e).v ≡ false → rep r g.edges (edge_of g e).u ≡ rep r g.edges (edge_of g e).v
  rep_edge e is = number_of g (λ x. Keeps r (rep r g.edges) x) (All-from_recursion (λ x. Keeps r (rep r g.edges) x) g.edges (rep_keeps r g.edges)) e is

  pub rep_related : (R : ℕ → ℕ → Type 0) → ((u : ℕ) → R u u) → ((u v : ℕ) → R u v → R v u) → ((u v w : ℕ) → R u v → R v w → R u w)
      → ((e : ℕ) → IsEdgeNumber g e → r (edge_of g e).u ≡ false → r (edge_of g e).v ≡ false → R (edge_of g e).u (edge_of g e).v) → (v : ℕ) → R (rep r g.edges v) v
  rep_related R same turn join each v =
      rep_in R same turn join r g.edges
      (recursion_from_All (λ (e : Edge). r e.u ≡ false → r e.v ≡ false → R e.u e.v) g.edges (all_numbers g (λ (e : Edge). r e.u ≡ false → r e.v ≡ false → R e.u e.v) each))
      v
