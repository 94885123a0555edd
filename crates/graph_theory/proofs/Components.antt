-- Lemmas on vertices that hang together where a set is removed, and on the components that they make.
use Rattle.std.proofs.Common.{◌≡◌, ℕ, ◌≤◌, Bool, true, false, refl, ap, sym, ◌∙◌, subst, inl, inr, arith, List, [], ◌∷◌, ◌++◌, get_or, slice_index, All}
use Rattle.std.proofs.lemmas.Bool.{cases_Bool, false≢true}
use Rattle.std.proofs.lemmas.List.Elements.{All-nil, All-cons, All-head, All-tail}
use Rattle.graph_theory.specs.Graph.{Multigraph, IsEdgeWithin, edge_of, IsEdgeNumber, touches, other_end}
use Rattle.graph_theory.specs.Parts.{holds, IsVertexSet}
use Rattle.graph_theory.specs.Walk.{IsWalk, walk_end, walk_vertices}
use Rattle.graph_theory.specs.Barrier.{AreTogether, IsComponent}
use Rattle.graph_theory.proofs.Members.{holds_place, holds_at, holds_all, same_list}
use Rattle.graph_theory.proofs.Edges.{edge_of_within, edge_back}
use Rattle.graph_theory.proofs.Walks.{start_has, end_has, walk-append, end-append, all_vertices-append, walk-within}

-- x is outside the removed set
abbrev IsFree : List ℕ → ℕ → Type 0
IsFree removed x = holds removed x ≡ false

-- vertices together

pub together-refl : (g : Multigraph) (removed : List ℕ) (v : ℕ) → holds removed v ≡ false → AreTogether g removed v v
together-refl g removed v free = record { by = []; walk = tt; ends = refl; avoids = All-cons (IsFree removed) v [] free (All-nil (IsFree removed)) }

pub together-trans : (g : Multigraph) (removed : List ℕ) (u v w : ℕ) → AreTogether g removed u v → AreTogether g removed v w → AreTogether g removed u w
together-trans g removed u v w a b =
    let P : ℕ → Type 0 = λ x. IsWalk g x b.by in
    let Q : ℕ → Type 0 = λ x. All (IsFree removed) (walk_vertices g x b.by) in
    record {
      by = a.by ++ b.by;
      walk = walk-append g u a.by b.by a.walk (subst P (sym a.ends) b.walk);
      ends = end-append g u a.by b.by ∙ ap (λ x. walk_end g x b.by) a.ends ∙ b.ends;
      avoids = all_vertices-append (IsFree removed) g u a.by b.by a.avoids (subst Q (sym a.ends) b.avoids);
    }

-- by one edge outside the removed set
pub together-edge : (g : Multigraph) (removed : List ℕ) (e v w : ℕ) → IsEdgeNumber g e → touches (edge_of g e) v ≡ true → other_end (edge_of g e) v ≡ w → holds removed v ≡ false
    → holds removed w ≡ false → AreTogether g removed v w
together-edge g removed e v w is meets leads free_v free_w =
    let free : holds removed (other_end (edge_of g e) v) ≡ false = ap (holds removed) leads ∙ free_w in
    record {
      by = e ∷ [];
      walk = (is, meets, tt);
      ends = leads;
      avoids = All-cons (IsFree removed) v (other_end (edge_of g e) v ∷ []) free_v (All-cons (IsFree removed) (other_end (edge_of g e) v) [] free (All-nil (IsFree removed)));
    }

-- one edge further
pub together-push : (g : Multigraph) (removed : List ℕ) (e u v : ℕ) → AreTogether g removed u v → IsEdgeNumber g e → touches (edge_of g e) v ≡ true → holds removed v ≡ false
    → holds removed (other_end (edge_of g e) v) ≡ false → AreTogether g removed u (other_end (edge_of g e) v)
together-push g removed e u v so_far is meets free_v free_w = together-trans g removed u v (other_end (edge_of g e) v) so_far (together-edge g removed e v
    (other_end (edge_of g e) v) is meets refl free_v free_w)

back_along : (g : Multigraph) (removed : List ℕ) (v : ℕ) (es : List ℕ) → All (IsEdgeWithin g.vertices) g.edges → IsWalk g v es → All (IsFree removed) (walk_vertices g v es)
    → AreTogether g removed (walk_end g v es) v
back_along g removed v [] ends walk free = together-refl g removed v (All-head (IsFree removed) v [] free)
back_along g removed v (e ∷ es) ends walk free =
    let w = other_end (edge_of g e) v in
    let rest = All-tail (IsFree removed) v (walk_vertices g w es) free in
    let home = edge_back g.vertices (edge_of g e) v (edge_of_within g e ends walk.0) walk.1 in
    let last = together-edge g removed e w v walk.0 home.0 home.1 (start_has (IsFree removed) g w es rest) (All-head (IsFree removed) v (walk_vertices g w es) free) in
    together-trans g removed (walk_end g w es) w v (back_along g removed w es ends walk.2 rest) last

pub together-sym : (g : Multigraph) (removed : List ℕ) (v w : ℕ) → All (IsEdgeWithin g.vertices) g.edges → AreTogether g removed v w → AreTogether g removed w v
together-sym g removed v w ends a =
    let P : ℕ → Type 0 = λ x. AreTogether g removed x v in
    subst P a.ends (back_along g removed v a.by ends a.walk a.avoids)

-- both are outside the removed set
pub together-free : (g : Multigraph) (removed : List ℕ) (v w : ℕ) → AreTogether g removed v w → holds removed w ≡ false
together-free g removed v w a = subst (IsFree removed) a.ends (end_has (IsFree removed) g v a.by a.avoids)

pub together-free_start : (g : Multigraph) (removed : List ℕ) (v w : ℕ) → AreTogether g removed v w → holds removed v ≡ false
together-free_start g removed v w a = start_has (IsFree removed) g v a.by a.avoids

pub together-within : (g : Multigraph) (removed : List ℕ) (v w : ℕ) → All (IsEdgeWithin g.vertices) g.edges → (1 ≤ v) × (v ≤ g.vertices) → AreTogether g removed v w → (1 ≤ w)
    × (w ≤ g.vertices)
together-within g removed v w ends within a =
    let P : ℕ → Type 0 = λ x. (1 ≤ x) × (x ≤ g.vertices) in
    subst P a.ends (walk-within g v a.by ends within a.walk)

-- a set that no edge leaves, but into the removed set

abbrev pub IsClosedBut : Multigraph → List ℕ → (ℕ → Bool) → Type 0
IsClosedBut g removed marked = (e v : ℕ) → IsEdgeNumber g e → touches (edge_of g e) v ≡ true → marked v ≡ true → holds removed (other_end (edge_of g e) v) ≡ false
    → marked (other_end (edge_of g e) v) ≡ true

stays_marked : (g : Multigraph) (removed : List ℕ) (marked : ℕ → Bool) (v : ℕ) (es : List ℕ) → IsClosedBut g removed marked → IsWalk g v es → All (IsFree removed) (walk_vertices g v es)
    → marked v ≡ true → marked (walk_end g v es) ≡ true
stays_marked g removed marked v [] closed walk free h = h
stays_marked g removed marked v (e ∷ es) closed walk free h =
    let w = other_end (edge_of g e) v in
    let rest = All-tail (IsFree removed) v (walk_vertices g w es) free in
    stays_marked g removed marked w es closed walk.2 rest (closed e v walk.0 walk.1 h (start_has (IsFree removed) g w es rest))

pub closed_has : (g : Multigraph) (removed : List ℕ) (marked : ℕ → Bool) (v w : ℕ) → IsClosedBut g removed marked → marked v ≡ true → AreTogether g removed v w → marked w ≡ true
closed_has g removed marked v w closed h a =
    let P : ℕ → Type 0 = λ x. marked x ≡ true in
    subst P a.ends (stays_marked g removed marked v a.by closed a.walk a.avoids h)

-- components

-- an ascending list of all that is together with a vertex
pub component_from : (g : Multigraph) (removed component : List ℕ) (start : ℕ) → All (IsEdgeWithin g.vertices) g.edges → IsVertexSet g.vertices component → holds component start ≡ true
    → ((w : ℕ) → holds component w ≡ true → AreTogether g removed start w) → ((w : ℕ) → AreTogether g removed start w → holds component w ≡ true) → IsComponent g removed component
component_from g removed component start ends set first sound whole = record {
  vertices = set;
  outside = λ k d b. together-free g removed start (get_or component k d) (sound (get_or component k d) (holds_at component k d b));
  some = let place = holds_place component start first in omega (arith, place.1);
  joined = λ v w hv hw. together-trans g removed v start w (together-sym g removed start v ends (sound v hv)) (sound w hw);
  whole = λ v w hv a. whole w (together-trans g removed start v w (sound v hv) a);
}

pub component-outside : (g : Multigraph) (removed component : List ℕ) (v : ℕ) → IsComponent g removed component → holds component v ≡ true → holds removed v ≡ false
component-outside g removed component v is h = holds_all (IsFree removed) component v is.outside h

pub component-within : (g : Multigraph) (removed component : List ℕ) (v : ℕ) → IsComponent g removed component → holds component v ≡ true → (1 ≤ v) × (v ≤ g.vertices)
component-within g removed component v is h = holds_all (λ x. (1 ≤ x) × (x ≤ g.vertices)) component v is.vertices.in_range h

-- an edge that leaves a component leads to the removed set
pub component-border : (g : Multigraph) (removed component : List ℕ) (e v w : ℕ) → IsComponent g removed component → IsEdgeNumber g e → touches (edge_of g e) v ≡ true
    → other_end (edge_of g e) v ≡ w → holds component v ≡ true → holds component w ≡ false → holds removed w ≡ true
component-border g removed component e v w is number meets leads inside outside =
    elim (cases_Bool (holds removed w)) [
      | inl h ↦ h
      | inr h ↦
          absurd (false≢true (sym outside ∙ is.whole v w inside (together-edge g removed e v w number meets leads (component-outside g removed component v is inside) h)))
    ]

-- components that share a vertex hold the same
pub shared : (g : Multigraph) (removed c d : List ℕ) (v w : ℕ) → IsComponent g removed c → IsComponent g removed d → holds c v ≡ true → holds d v ≡ true → holds c w ≡ true → holds d w ≡ true
shared g removed c d v w is other hc hd h = other.whole v w hd (is.joined v w hc h)

-- .. and so they are equal
pub component-unique : (g : Multigraph) (removed c d : List ℕ) (v : ℕ) → IsComponent g removed c → IsComponent g removed d → holds c v ≡ true → holds d v ≡ true → c ≡ d
component-unique g removed c d v is other hc hd = same_list c d is.vertices.ascending other.vertices.ascending (λ w h. shared g removed c d v w is other hc hd h)
    (λ w h. shared g removed d c v w other is hd hc h)

-- vertices of one component have one component
-- no vertex is in both
abbrev pub AreApart : List ℕ → List ℕ → Type 0
AreApart c d = (v : ℕ) → holds c v ≡ true → holds d v ≡ false

-- components with different least vertices are apart
pub heads-apart : (g : Multigraph) (removed c d : List ℕ) → IsComponent g removed c → IsComponent g removed d → (slice_index c 0 ≡ slice_index d 0 → ⊥) → AreApart c d
heads-apart g removed c d is other differ v h =
    elim (cases_Bool (holds d v)) [
      | inl there ↦ absurd (differ (ap (λ (xs : List ℕ). slice_index xs 0) (component-unique g removed c d v is other h there)))
      | inr off ↦ off
    ]

-- components with one least vertex are equal
-- different components have different least vertices
