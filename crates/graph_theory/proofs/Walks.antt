-- Lemmas on walks: their edges and vertices, one walk after another, back again, and sets that they can't leave.
use Rattle.std.proofs.Common.{◌≡◌, ℕ, ◌+◌, ◌-◌, ◌≤◌, ◌+ℤ◌, Bool, true, false, not, cond, eqb, refl, ap, sym, ◌∙◌, inl, inr, arith, List, [], ◌∷◌}
use Rattle.std.proofs.Common.{◌++◌, length, All}
use Rattle.std.proofs.lemmas.Int.{ints}
use Rattle.std.proofs.lemmas.Bool.{cases_Bool, eqb-true, or_cases, false≢true}
use Rattle.std.proofs.lemmas.List.Elements.{All-nil, All-cons, All-head, All-tail}
use Rattle.graph_theory.specs.declared.edge.Edge.{Edge}
use Rattle.graph_theory.specs.Graph.{Multigraph, IsEdgeWithin, no_edge, edge_at, edge_of, IsEdgeNumber, touches, other_end}
use Rattle.graph_theory.specs.Parts.{holds, crosses, LeavesNone, IsSplitPart}
use Rattle.graph_theory.specs.Walk.{IsWalk, walk_end, walk_left, walk_vertices, walk_weight}
use Rattle.graph_theory.proofs.Edges.{edge_of_within, edge_of-place, number_of-place, other_end-within, touched-within}
use Rattle.graph_theory.proofs.Members.{holds_at}

-- what a walk comes to

pub walk-numbers : (g : Multigraph) (v : ℕ) (es : List ℕ) → IsWalk g v es → All (IsEdgeNumber g) es
walk-numbers g v [] walk = All-nil (IsEdgeNumber g)
walk-numbers g v (e ∷ es) walk = All-cons (IsEdgeNumber g) e es walk.0 (walk-numbers g (other_end (edge_of g e) v) es walk.2)

pub walk-within : (g : Multigraph) (v : ℕ) (es : List ℕ) → All (IsEdgeWithin g.vertices) g.edges → (1 ≤ v) × (v ≤ g.vertices) → IsWalk g v es → (1 ≤ walk_end g v es)
    × (walk_end g v es ≤ g.vertices)
walk-within g v [] ends within walk = within
walk-within g v (e ∷ es) ends within walk = walk-within g (other_end (edge_of g e) v) es ends (other_end-within g.vertices (edge_of g e) v (edge_of_within g e ends walk.0)) walk.2

pub vertices-within : (g : Multigraph) (v : ℕ) (es : List ℕ) → All (IsEdgeWithin g.vertices) g.edges → (1 ≤ v) × (v ≤ g.vertices) → IsWalk g v es → All (λ x. (1 ≤ x) × (x ≤ g.vertices))
    (walk_vertices g v es)
vertices-within g v [] ends within walk = All-cons (λ x. (1 ≤ x) × (x ≤ g.vertices)) v [] within (All-nil (λ x. (1 ≤ x) × (x ≤ g.vertices)))
vertices-within g v (e ∷ es) ends within walk =
    let w = other_end (edge_of g e) v in
    All-cons (λ x. (1 ≤ x) × (x ≤ g.vertices)) v (walk_vertices g w es) within (vertices-within g w es ends (other_end-within g.vertices (edge_of g e) v (edge_of_within g e ends walk.0))
    walk.2)

-- the start of a walk of at least one edge is a vertex
pub start-within : (g : Multigraph) (v e : ℕ) (es : List ℕ) → All (IsEdgeWithin g.vertices) g.edges → IsWalk g v (e ∷ es) → (1 ≤ v) × (v ≤ g.vertices)
start-within g v e es ends walk = touched-within g.vertices (edge_of g e) v (edge_of_within g e ends walk.0) walk.1

-- the start and the end are among the vertices

pub start_has : (P : ℕ → Type 0) (g : Multigraph) (v : ℕ) (es : List ℕ) → All P (walk_vertices g v es) → P v
start_has P g v [] a = All-head P v [] a
start_has P g v (e ∷ es) a = All-head P v (walk_vertices g (other_end (edge_of g e) v) es) a

pub end_has : (P : ℕ → Type 0) (g : Multigraph) (v : ℕ) (es : List ℕ) → All P (walk_vertices g v es) → P (walk_end g v es)
end_has P g v [] a = All-head P v [] a
end_has P g v (e ∷ es) a =
    let w = other_end (edge_of g e) v in
    end_has P g w es (All-tail P v (walk_vertices g w es) a)

pub start_held : (g : Multigraph) (v : ℕ) (es : List ℕ) → holds (walk_vertices g v es) v ≡ true
start_held g v es = start_has (λ x. holds (walk_vertices g v es) x ≡ true) g v es (holds_at (walk_vertices g v es))

pub end_held : (g : Multigraph) (v : ℕ) (es : List ℕ) → holds (walk_vertices g v es) (walk_end g v es) ≡ true
end_held g v es = end_has (λ x. holds (walk_vertices g v es) x ≡ true) g v es (holds_at (walk_vertices g v es))

-- all vertices are those that are left, and the end
pub vertices-left : (g : Multigraph) (v : ℕ) (es : List ℕ) → walk_vertices g v es ≡ walk_left g v es ++ walk_end g v es ∷ []
vertices-left g v [] = refl
vertices-left g v (e ∷ es) = ap (λ xs. v ∷ xs) (vertices-left g (other_end (edge_of g e) v) es)

pub left-length : (g : Multigraph) (v : ℕ) (es : List ℕ) → length (walk_left g v es) ≡ length es
left-length g v [] = refl
left-length g v (e ∷ es) = omega (arith, left-length g (other_end (edge_of g e) v) es)

pub vertices-length : (g : Multigraph) (v : ℕ) (es : List ℕ) → length (walk_vertices g v es) ≡ length es + 1
vertices-length g v [] = refl
vertices-length g v (e ∷ es) = omega (arith, vertices-length g (other_end (edge_of g e) v) es)

-- one walk after another

pub walk-append : (g : Multigraph) (v : ℕ) (es fs : List ℕ) → IsWalk g v es → IsWalk g (walk_end g v es) fs → IsWalk g v (es ++ fs)
walk-append g v [] fs a b = b
walk-append g v (e ∷ es) fs a b = (a.0, a.1, walk-append g (other_end (edge_of g e) v) es fs a.2 b)

pub end-append : (g : Multigraph) (v : ℕ) (es fs : List ℕ) → walk_end g v (es ++ fs) ≡ walk_end g (walk_end g v es) fs
end-append g v [] fs = refl
end-append g v (e ∷ es) fs = end-append g (other_end (edge_of g e) v) es fs

pub left-append : (g : Multigraph) (v : ℕ) (es fs : List ℕ) → walk_left g v (es ++ fs) ≡ walk_left g v es ++ walk_left g (walk_end g v es) fs
left-append g v [] fs = refl
left-append g v (e ∷ es) fs = ap (λ xs. v ∷ xs) (left-append g (other_end (edge_of g e) v) es fs)

-- one edge more at the end of a walk
pub left-push : (g : Multigraph) (v e : ℕ) (es : List ℕ) → walk_left g v (es ++ e ∷ []) ≡ walk_vertices g v es
left-push g v e es = left-append g v es (e ∷ []) ∙ sym (vertices-left g v es)

pub weight-append : (g : Multigraph) (es fs : List ℕ) → walk_weight g (es ++ fs) ≡ walk_weight g es +ℤ walk_weight g fs
weight-append g [] fs = omega (arith, ints)
weight-append g (e ∷ es) fs = omega (arith, ints, weight-append g es fs)

pub all_vertices-append : (P : ℕ → Type 0) (g : Multigraph) (v : ℕ) (es fs : List ℕ) → All P (walk_vertices g v es) → All P (walk_vertices g (walk_end g v es) fs)
    → All P (walk_vertices g v (es ++ fs))
all_vertices-append P g v [] fs a b = b
all_vertices-append P g v (e ∷ es) fs a b =
    let w = other_end (edge_of g e) v in
    All-cons P v (walk_vertices g w (es ++ fs)) (All-head P v (walk_vertices g w es) a) (all_vertices-append P g w es fs (All-tail P v (walk_vertices g w es) a) b)

-- the two parts of a walk
pub walk-front : (g : Multigraph) (v : ℕ) (es fs : List ℕ) → IsWalk g v (es ++ fs) → IsWalk g v es
walk-front g v [] fs walk = tt
walk-front g v (e ∷ es) fs walk = (walk.0, walk.1, walk-front g (other_end (edge_of g e) v) es fs walk.2)

pub walk-rest : (g : Multigraph) (v : ℕ) (es fs : List ℕ) → IsWalk g v (es ++ fs) → IsWalk g (walk_end g v es) fs
walk-rest g v [] fs walk = walk
walk-rest g v (e ∷ es) fs walk = walk-rest g (other_end (edge_of g e) v) es fs walk.2

-- one edge more at the end
pub walk-push : (g : Multigraph) (v : ℕ) (es : List ℕ) (e : ℕ) → IsWalk g v es → IsEdgeNumber g e → touches (edge_of g e) (walk_end g v es) ≡ true → IsWalk g v (es ++ e ∷ [])
walk-push g v es e walk is meets = walk-append g v es (e ∷ []) walk (is, meets, tt)

pub end-push : (g : Multigraph) (v : ℕ) (es : List ℕ) (e : ℕ) → walk_end g v (es ++ e ∷ []) ≡ other_end (edge_of g e) (walk_end g v es)
end-push g v es e = end-append g v es (e ∷ [])

pub vertices-push : (g : Multigraph) (v e : ℕ) (es : List ℕ) → walk_vertices g v (es ++ e ∷ []) ≡ walk_vertices g v es ++ walk_end g v (es ++ e ∷ []) ∷ []
vertices-push g v e es = vertices-left g v (es ++ e ∷ []) ∙ ap (λ (xs : List ℕ). xs ++ walk_end g v (es ++ e ∷ []) ∷ []) (left-push g v e es)

-- back again

-- a set that no edge leaves

pub same_side : (p q : Bool) → cond p (not q) q ≡ false → p ≡ q
same_side true true h = refl
same_side true false h = h
same_side false true h = sym h
same_side false false h = refl

-- both ends of an edge lie in the set, or none
pub leaves_none-edge : (g : Multigraph) (set : List ℕ) (e v : ℕ) → LeavesNone g set → IsEdgeNumber g e → touches (edge_of g e) v ≡ true → holds set (other_end (edge_of g e) v) ≡ holds set v
leaves_none-edge g set e v closed is meets =
    let low : 1 ≤ e = is.0 in
    let high : e ≤ length g.edges = is.1 in
    let stays : crosses set (edge_of g e) ≡ false = closed (e - 1) no_edge (omega arith) in
    let side = same_side (holds set (edge_of g e).u) (holds set (edge_of g e).v) stays in
    elim (cases_Bool (eqb (edge_of g e).u v)) [
      | inl at_u ↦ rw at_u (sym side ∙ ap (holds set) (eqb-true (edge_of g e).u v at_u))
      | inr off ↦
          let at_v : eqb (edge_of g e).v v ≡ true = elim (or_cases (eqb (edge_of g e).u v) (eqb (edge_of g e).v v) meets) [ inl h ↦ absurd (false≢true (sym off ∙ h)) | inr h ↦ h ] in
          rw off (side ∙ ap (holds set) (eqb-true (edge_of g e).v v at_v))
    ]

-- a walk stays in the set, or outside
pub leaves_none-walk : (g : Multigraph) (set : List ℕ) (v : ℕ) (es : List ℕ) → LeavesNone g set → IsWalk g v es → holds set (walk_end g v es) ≡ holds set v
leaves_none-walk g set v [] closed walk = refl
leaves_none-walk g set v (e ∷ es) closed walk = leaves_none-walk g set (other_end (edge_of g e) v) es closed walk.2 ∙ leaves_none-edge g set e v closed walk.0 walk.1

first_side : (g : Multigraph) (set : List ℕ) (e v : ℕ) → LeavesNone g set → IsEdgeNumber g e → touches (edge_of g e) v ≡ true → holds set (edge_of g e).u ≡ holds set v
first_side g set e v closed is meets =
    elim (or_cases (eqb (edge_of g e).u v) (eqb (edge_of g e).v v) meets) [
      | inl at_u ↦ ap (holds set) (eqb-true (edge_of g e).u v at_u)
      | inr at_v ↦
          let low : 1 ≤ e = is.0 in
          let high : e ≤ length g.edges = is.1 in
          let stays : crosses set (edge_of g e) ≡ false = closed (e - 1) no_edge (omega arith) in
          same_side (holds set (edge_of g e).u) (holds set (edge_of g e).v) stays ∙ ap (holds set) (eqb-true (edge_of g e).v v at_v)
    ]

-- both ends of an edge that a walk uses lie where its start does
pub leaves_none-used : (g : Multigraph) (set : List ℕ) (v : ℕ) (es : List ℕ) (e : ℕ) → LeavesNone g set → IsWalk g v es → holds es e ≡ true → holds set (edge_of g e).u ≡ holds set v
leaves_none-used g set v [] e closed walk used = absurd (false≢true used)
leaves_none-used g set v (f ∷ fs) e closed walk used =
    elim (or_cases (eqb f e) (holds fs e) used) [
      | inl same ↦
          let here : edge_of g f ≡ edge_of g e = ap (edge_of g) (eqb-true f e same) in
          sym (ap (λ (x : Edge). holds set x.u) here) ∙ first_side g set f v closed walk.0 walk.1
      | inr later ↦ leaves_none-used g set (other_end (edge_of g f) v) fs e closed walk.2 later ∙ leaves_none-edge g set f v closed walk.0 walk.1
    ]

place_side : (g : Multigraph) (set : List ℕ) (v : ℕ) (es : List ℕ) (k : ℕ) → LeavesNone g set → IsWalk g v es → holds es (k + 1) ≡ true → holds set (edge_at g k).u ≡ holds set v
place_side g set v es k closed walk used = sym (ap (λ (x : Edge). holds set x.u) (edge_of-place g k)) ∙ leaves_none-used g set v es (k + 1) closed walk used

-- where no edge leaves a set, no walk uses both an edge in it and an edge outside
pub split_part_excludes : (g : Multigraph) (set : List ℕ) (v : ℕ) (es : List ℕ) → IsSplitPart g set → IsWalk g v es → ((e : ℕ) → IsEdgeNumber g e → holds es e ≡ true) → ⊥
split_part_excludes g set v es part walk all =
    let within : holds set (edge_at g part.inside.0).u ≡ true = part.inside.2 in
    let beyond : holds set (edge_at g part.outside.0).u ≡ false = part.outside.2 in
    let one = place_side g set v es part.inside.0 part.closed walk (all (part.inside.0 + 1) (number_of-place g part.inside.0 part.inside.1)) in
    let other = place_side g set v es part.outside.0 part.closed walk (all (part.outside.0 + 1) (number_of-place g part.outside.0 part.outside.1)) in
    absurd (false≢true (sym beyond ∙ other ∙ sym one ∙ within))
