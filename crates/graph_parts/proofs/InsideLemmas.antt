-- Lemmas on components of odd size that lie within a set.
use Rattle.mb_problem.proofs.Common.{◌≡◌, ◌↔◌, ℕ, ◌+◌, ◌-◌, ◌<◌, ◌≤◌, Bool, true, false, sym, ◌∙◌, subst, refl, inl, inr, arith, List, slice_index}
use Rattle.mb_problem.proofs.Common.{get_or, All, cases_eq, Multigraph, IsGraph, holds, AreTogether, IsComponent, IsOddHead, HoldsOddComponents, holds_first, all_holds, component-within}
use Rattle.mb_problem.proofs.Common.{together-within}
use Rattle.graph_parts.proofs.HeadLemmas.{head_held}

-- v's mark, where marks begin with that of vertex 1
abbrev pub is_inside : List Bool → ℕ → Bool
is_inside inside v = get_or inside (v - 1) false

-- exactly the members of the set have such marks
abbrev pub MarksInside : ℕ → List Bool → List ℕ → Type 0
MarksInside n inside set = (v : ℕ) → 1 ≤ v → v ≤ n → holds set v ≡ is_inside inside v

-- all components of odd size whose least vertex is below n are marked
abbrev pub InsideBelow : Multigraph → List ℕ → List Bool → ℕ → Type 0
InsideBelow g removed inside n = (v w : ℕ) → v < n → IsOddHead g removed v → AreTogether g removed v w → is_inside inside w ≡ true

pub inside-none : (g : Multigraph) (removed : List ℕ) (inside : List Bool) → InsideBelow g removed inside 1
inside-none g removed inside v w low head a = absurd (omega (arith, (component-within g removed head.0 v head.1 (head_held g removed head.0 v head.1 head.3)).0))

-- one vertex more
pub inside-more : (g : Multigraph) (removed : List ℕ) (inside : List Bool) (n : ℕ) → InsideBelow g removed inside n
    → (IsOddHead g removed n → (w : ℕ) → AreTogether g removed n w → is_inside inside w ≡ true) → InsideBelow g removed inside (n + 1)
inside-more g removed inside n so_far here v w low head a =
    elim (cases_eq v n) [
      | inl e ↦
          let H : ℕ → Type 0 = λ x. IsOddHead g removed x in
          let A : ℕ → Type 0 = λ x. AreTogether g removed x w in
          here (subst H e head) w (subst A e a)
      | inr d ↦ so_far v w (omega (arith, low, d)) head a
    ]

-- all vertices are below
pub inside-all : (g : Multigraph) (removed set : List ℕ) (inside : List Bool) (n : ℕ) → n ≡ g.vertices → MarksInside g.vertices inside set → InsideBelow g removed inside (n + 1)
    → HoldsOddComponents g set removed
inside-all g removed set inside n all marks so_far component v is odd here =
    let u = slice_index component 0 in
    let first : holds component u ≡ true = holds_first component is.some in
    let within = component-within g removed component v is here in
    marks v within.0 within.1 ∙ so_far u v (omega (arith, (component-within g removed component u is first).1, all)) (component, is, odd, refl) (is.joined u v first here)

-- what is together with the least vertex of a component of odd size, where they all lie in the set
pub head-inside : (g : Multigraph) (removed set : List ℕ) (inside : List Bool) (v w : ℕ) → MarksInside g.vertices inside set → HoldsOddComponents g set removed
    → IsOddHead g removed v → AreTogether g removed v w → is_inside inside w ≡ true
head-inside g removed set inside v w marks hold head a =
    let is : IsComponent g removed head.0 = head.1 in
    let member = is.whole v w (head_held g removed head.0 v is head.3) a in
    let within = component-within g removed head.0 w is member in
    sym (marks w within.0 within.1) ∙ hold head.0 w is head.2 member

-- the vertices that are reached are vertices of the graph
pub reached-within : (g : Multigraph) (removed reached : List ℕ) (v : ℕ) → IsGraph g → (1 ≤ v) × (v ≤ g.vertices)
    → ((w : ℕ) → (holds reached w ≡ true) ↔ AreTogether g removed v w) → All (λ w. (1 ≤ w) × (w ≤ g.vertices)) reached
reached-within g removed reached v ok within exact = all_holds (λ w. (1 ≤ w) × (w ≤ g.vertices)) reached (λ w h. together-within g removed v w ok.ends within ((exact w).0 h))
