-- Graphs on the same vertices whose edges, but for loops, join the same ones: what a removed set leaves hangs together alike.
use Rattle.graph_theory.proofs.Common.{◌≡◌, ◌⊎◌, ℕ, ◌+◌, true, false, eqb, refl, ap, sym, ◌∙◌, subst, inl, inr, List, [], ◌∷◌, length, All, cases_Bool}
use Rattle.graph_theory.proofs.Common.{false≢true, eqb-true, or_cases, All-cons, All-head, All-tail, Multigraph, IsEdgeNumber, edge_of, touches, other_end, is_loop, holds, IsVertexSet}
use Rattle.graph_theory.proofs.Common.{IsWalk, walk_end, walk_vertices, AreTogether, IsComponent, IsOddHead, IsOddCount}
use Rattle.graph_theory.specs.declared.edge.Edge.{Edge}
use Rattle.gallai_theory.specs.Matchings.{IsBeside, IsBorder}
use Rattle.gallai_theory.specs.Decomposition.{IsDecomposed}

-- edge f of b has the ends of edge e of a
pub record IsTwin (a b : Multigraph) (e f : ℕ) : Type 0 where
  pub is_edge : IsEdgeNumber b f
  pub u : (edge_of b f).u ≡ (edge_of a e).u
  pub v : (edge_of b f).v ≡ (edge_of a e).v

-- some edge of b has
abbrev pub HasTwin : Multigraph → Multigraph → ℕ → Type 0
HasTwin a b e = (f : ℕ) × IsTwin a b e f

-- each edge of a is a loop or has one
abbrev pub HaveTwins : Multigraph → Multigraph → Type 0
HaveTwins a b = (e : ℕ) → IsEdgeNumber a e → (is_loop (edge_of a e) ≡ true) ⊎ HasTwin a b e

-- the same vertices, and each edge but loops has a twin
pub record AreAlike (a b : Multigraph) : Type 0 where
  pub vertices : a.vertices ≡ b.vertices
  pub there : HaveTwins a b
  pub back : HaveTwins b a

pub alike-sym : (a b : Multigraph) → AreAlike a b → AreAlike b a
alike-sym a b like = record { vertices = sym like.vertices; there = like.back; back = like.there }

pub touches-twin : (x y : Edge) (v : ℕ) → y.u ≡ x.u → y.v ≡ x.v → touches y v ≡ touches x v
touches-twin x y v u w = rw (u, w) refl

pub other_end-twin : (x y : Edge) (v : ℕ) → y.u ≡ x.u → y.v ≡ x.v → other_end y v ≡ other_end x v
other_end-twin x y v u w = rw (u, w) refl

-- a loop leads to where it starts
loop-home : (e : Edge) (v : ℕ) → is_loop e ≡ true → touches e v ≡ true → other_end e v ≡ v
loop-home e v loop meets =
    elim (cases_Bool (eqb e.u v)) [
      | inl at_u ↦ rw at_u (sym (eqb-true e.u e.v loop) ∙ eqb-true e.u v at_u)
      | inr off ↦
          let at_v : eqb e.v v ≡ true = elim (or_cases (eqb e.u v) (eqb e.v v) meets) [ inl h ↦ absurd (false≢true (sym off ∙ h)) | inr h ↦ h ] in
          rw off (eqb-true e.u e.v loop ∙ eqb-true e.v v at_v)
    ]

-- a walk of b from v to the end of a walk of a, by vertices with a property
record WalkTwin (a b : Multigraph) (P : ℕ → Type 0) (v : ℕ) (es : List ℕ) : Type 0 where
  by : List ℕ
  walk : IsWalk b v by
  ends : walk_end b v by ≡ walk_end a v es
  all : All P (walk_vertices b v by)

-- loops are left out
walk-twin : (a b : Multigraph) (P : ℕ → Type 0) → HaveTwins a b → (v : ℕ) (es : List ℕ) → IsWalk a v es → All P (walk_vertices a v es) → WalkTwin a b P v es
walk-twin a b P twins v [] walk all = record { by = []; walk = tt; ends = refl; all = all }
walk-twin a b P twins v (e ∷ es) walk all =
    let w = other_end (edge_of a e) v in
    let vs = walk_vertices a w es in
    let rest = walk-twin a b P twins w es walk.2 (All-tail P v vs all) in
    elim (twins e walk.0) [
      | inl loop ↦
          let home : w ≡ v = loop-home (edge_of a e) v loop walk.1 in
          record {
            by = rest.by;
            walk = subst (λ (x : ℕ). IsWalk b x rest.by) home rest.walk;
            ends = ap (λ (x : ℕ). walk_end b x rest.by) (sym home) ∙ rest.ends;
            all = subst (λ (x : ℕ). All P (walk_vertices b x rest.by)) home rest.all;
          }
      | inr t ↦
          let next : w ≡ other_end (edge_of b t.0) v = sym (other_end-twin (edge_of a e) (edge_of b t.0) v t.1.u t.1.v) in
          record {
            by = t.0 ∷ rest.by;
            walk = (
              t.1.is_edge,
              touches-twin (edge_of a e) (edge_of b t.0) v t.1.u t.1.v ∙ walk.1,
              subst (λ (x : ℕ). IsWalk b x rest.by) next rest.walk,
            );
            ends = ap (λ (x : ℕ). walk_end b x rest.by) (sym next) ∙ rest.ends;
            all = All-cons P v (walk_vertices b (other_end (edge_of b t.0) v) rest.by) (All-head P v vs all) (subst (λ (x : ℕ). All P (walk_vertices b x rest.by)) next rest.all);
          }
    ]

pub together-twin : (a b : Multigraph) (removed : List ℕ) (v w : ℕ) → HaveTwins a b → AreTogether a removed v w → AreTogether b removed v w
together-twin a b removed v w twins t =
    let r = walk-twin a b (λ x. holds removed x ≡ false) twins v t.by t.walk t.avoids in
    record { by = r.by; walk = r.walk; ends = r.ends ∙ t.ends; avoids = r.all }

pub component-twin : (a b : Multigraph) (removed component : List ℕ) → AreAlike a b → IsComponent a removed component → IsComponent b removed component
component-twin a b removed component like is = record {
  vertices = subst (λ (n : ℕ). IsVertexSet n component) like.vertices is.vertices;
  outside = is.outside;
  some = is.some;
  joined = λ v w hv hw. together-twin a b removed v w like.there (is.joined v w hv hw);
  whole = λ v w hv t. is.whole v w hv (together-twin b a removed v w like.back t);
}

pub head-twin : (a b : Multigraph) (removed : List ℕ) (v : ℕ) → AreAlike a b → IsOddHead a removed v → IsOddHead b removed v
head-twin a b removed v like head = (head.0, component-twin a b removed head.0 like head.1, head.2, head.3)

pub count-twin : (a b : Multigraph) (removed : List ℕ) (n : ℕ) → AreAlike a b → IsOddCount a removed n → IsOddCount b removed n
count-twin a b removed n like count = record {
  heads = count.heads;
  ascending = count.ascending;
  exact = λ v. ((λ h. head-twin a b removed v like ((count.exact v).0 h)), (λ h. (count.exact v).1 (head-twin b a removed v (alike-sym a b like) h)));
  size = count.size;
}

-- an edge that leads into a set from outside is no loop
beside-twin : (a b : Multigraph) (set : List ℕ) (v : ℕ) → HaveTwins a b → IsBeside a set v → IsBeside b set v
beside-twin a b set v twins beside =
    elim (twins beside.edge beside.is_edge) [
      | inl loop ↦ absurd (false≢true (sym beside.outside ∙ ap (holds set) (sym (loop-home (edge_of a beside.edge) v loop beside.at_vertex)) ∙ beside.inside))
      | inr t ↦ record {
        outside = beside.outside;
        edge = t.0;
        is_edge = t.1.is_edge;
        at_vertex = touches-twin (edge_of a beside.edge) (edge_of b t.0) v t.1.u t.1.v ∙ beside.at_vertex;
        inside = ap (holds set) (other_end-twin (edge_of a beside.edge) (edge_of b t.0) v t.1.u t.1.v) ∙ beside.inside;
      }
    ]

pub border-twin : (a b : Multigraph) (set border : List ℕ) → AreAlike a b → IsBorder a set border → IsBorder b set border
border-twin a b set border like is v = ((λ h. beside-twin a b set v like.there ((is v).0 h)), (λ h. (is v).1 (beside-twin b a set v like.back h)))

pub decomposed-twin : (a b : Multigraph) (size : ℕ) (set border : List ℕ) → AreAlike a b → IsDecomposed a size set border → IsDecomposed b size set border
decomposed-twin a b size set border like is = record {
  is_border = border-twin a b set border like is.is_border;
  odd = is.odd;
  counted = count-twin a b border is.odd like is.counted;
  enough = is.enough ∙ ap (λ (n : ℕ). n + length border) like.vertices;
  inside = λ component v c. is.inside component v (component-twin b a border component (alike-sym a b like) c);
}
