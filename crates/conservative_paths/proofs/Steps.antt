-- The steps of a path that grows and is cut back.
use Rattle.graph_theory.proofs.Common.{◌≡◌, ◌≢◌, ℕ, ◌+◌, ◌<◌, ◌≤◌, pos, ◌≤ℤ◌, ap, sym, ◌∙◌, subst, inl, inr, arith, List, [], ◌∷◌, ◌++◌}
use Rattle.graph_theory.proofs.Common.{length, slice_index, take, drop, set, All, ints, cases_eq, common_steps, All-push, All-drop, get_or-set_same, get_or-set_other, get_or-take}
use Rattle.graph_theory.proofs.Common.{length-set, length_push, get_or_push, get_or_append_left, Multigraph, IsEdgeWithin, edge_of, other_end, walk_end, walk_left, walk_vertices}
use Rattle.graph_theory.proofs.Common.{walk_weight, AllDiffer, edge_of_within, other_end-within, left-length, left-push, vertices-push}
use Rattle.std.proofs.Common.{take-append-drop}
use Rattle.conservative_paths.specs.declared.trail.Trail.{Trail}
use Rattle.conservative_paths.specs.Trails.{Takes, IsWayOver, IsTrail, IsOpen, IsClosed, GoesOn, ComesBack, IsCut, KeepsOpen, KeepsWeight}
use Rattle.conservative_paths.proofs.Ways.{way-push, way-front, left-at, left-take}
use Rattle.conservative_paths.proofs.Weights.{weight-push, weight-front}

-- the places of the vertices

-- each vertex stands at the place that the table has for it
abbrev pub KnowPlaces : List ℕ → List ℕ → Type 0
KnowPlaces place vertices = (i : ℕ) → i < length vertices → slice_index place (slice_index vertices i) ≡ i

pub places-differ : (place vertices : List ℕ) → KnowPlaces place vertices → AllDiffer vertices
places-differ place vertices each i j a b same =
    let equal : slice_index place (slice_index vertices i) ≡ slice_index place (slice_index vertices j) = ap (slice_index place) same in
    omega (arith, a, each i (omega (arith, a, b)), each j b, equal)

pub places-push : (place vertices : List ℕ) (v : ℕ) → v < length place → KnowPlaces place vertices
    → (slice_index place v < length vertices → slice_index vertices (slice_index place v) ≢ v) → KnowPlaces (set place v (length vertices)) (vertices ++ v ∷ [])
places-push place vertices v b each fresh i low =
    let new = set place v (length vertices) in
    elim (cases_eq i (length vertices)) [
      | inl last ↦ ap (slice_index new) (get_or_push vertices v 0 i (sym last)) ∙ get_or-set_same place v (length vertices) 0 b ∙ sym last
      | inr other ↦
          let short : i < length vertices = omega (arith, low, other, length_push vertices v) in
          let x = slice_index vertices i in
          let known : slice_index place x ≡ i = each i short in
          let away : x ≢ v = (λ (e : x ≡ v).
          let there : slice_index place v ≡ i = ap (slice_index place) (sym e) ∙ known in
          fresh (omega (arith, there, short)) (ap (slice_index vertices) there ∙ e)) in
          ap (slice_index new) (get_or_append_left vertices (v ∷ []) 0 i short) ∙ get_or-set_other place v x (length vertices) 0 away ∙ known
    ]

pub places-take : (place vertices : List ℕ) (p : ℕ) → KnowPlaces place vertices → KnowPlaces place (take p vertices)
places-take place vertices p each i low =
    let short : (i < p) × (i < length vertices) = grind (arith, low, common_steps) in
    ap (slice_index place) (get_or-take p vertices i 0 short.0) ∙ each i short.1

both_new : (place place' vertices vertices' : List ℕ) → place' ≡ place → vertices' ≡ vertices → KnowPlaces place vertices → KnowPlaces place' vertices'
both_new place place' vertices vertices' p v each =
    let P : List ℕ → Type 0 = λ xs. KnowPlaces xs vertices' in
    subst P (sym p) (subst (KnowPlaces place) (sym v) each)

-- a path begins

-- an edge more

way-followed : (g : Multigraph) (total left after : List ℕ) (base target edge there : ℕ) (old new : Trail) → All (IsEdgeWithin g.vertices) g.edges
    → IsTrail g total left base target old → Takes g old.here edge there left after → new.here ≡ there → new.edges.items ≡ old.edges.items ++ edge ∷ []
    → IsWayOver g total after base target new.here new.edges.items
way-followed g total left after base target edge there old new ends r takes here edges =
    let W : ℕ → List ℕ → Type 0 = IsWayOver g total after base target in
    let H : ℕ → Type 0 = λ h. IsWayOver g total after base target h new.edges.items in
    let way = way-push g total left after base target old.here edge old.edges.items ends r.way takes.number takes.meets takes.taken in
    subst H (sym (here ∙ takes.leads)) (subst (W (other_end (edge_of g edge) old.here)) (sym edges) way)

within-followed : (g : Multigraph) (left after : List ℕ) (edge there : ℕ) (old new : Trail) → All (IsEdgeWithin g.vertices) g.edges → Takes g old.here edge there left after
    → new.here ≡ there → (1 ≤ new.here) × (new.here ≤ g.vertices)
within-followed g left after edge there old new ends takes here =
    let R : ℕ → Type 0 = λ h. (1 ≤ h) × (h ≤ g.vertices) in
    subst R (sym (here ∙ takes.leads)) (other_end-within g.vertices (edge_of g edge) old.here (edge_of_within g edge ends takes.number))

pub open-goes : (g : Multigraph) (edge there : ℕ) (old new : Trail) → All (IsEdgeWithin g.vertices) g.edges → GoesOn edge there old new → KeepsOpen g edge there old new
open-goes g edge there old new ends goes total left after base target r takes =
    let way = way-followed g total left after base target edge there old new ends r.trail takes goes.here goes.edges in
    let within = within-followed g left after edge there old new ends takes goes.here in
    let size = r.trail.one_each in
    let last : walk_end g base (old.edges.items ++ edge ∷ []) ≡ there = ap (walk_end g base) (sym goes.edges) ∙ way.ends ∙ goes.here in
    record {
      trail = record {
        way = way;
        within = within;
        one_each = ap length goes.table ∙ length-set old.place.items there (length old.vertices.items) ∙ size;
        places = both_new (set old.place.items there (length old.vertices.items)) new.place.items (old.vertices.items ++ there ∷ []) new.vertices.items goes.table goes.vertices
            (places-push old.place.items old.vertices.items there (omega (arith, size, within.1, goes.here)) r.trail.places goes.fresh);
      };
      vertices =
          goes.vertices
          ∙ ap (λ (xs : List ℕ). xs ++ there ∷ []) r.vertices
          ∙ ap (λ (v : ℕ). walk_vertices g base old.edges.items ++ v ∷ []) (sym last)
          ∙ sym (vertices-push g base edge old.edges.items)
          ∙ ap (walk_vertices g base) (sym goes.edges);
    }

pub closed-comes : (g : Multigraph) (edge there place : ℕ) (old new : Trail) → All (IsEdgeWithin g.vertices) g.edges → ComesBack edge there place old new
    → (total left after : List ℕ) (base target : ℕ) → IsOpen g total left base target old → Takes g old.here edge there left after → IsClosed g total after base target place new
closed-comes g edge there place old new ends comes total left after base target r takes = record {
  trail = record {
    way = way-followed g total left after base target edge there old new ends r.trail takes comes.here comes.edges;
    within = within-followed g left after edge there old new ends takes comes.here;
    one_each = ap length comes.table ∙ r.trail.one_each;
    places = both_new old.place.items new.place.items old.vertices.items new.vertices.items comes.table comes.vertices r.trail.places;
  };
  vertices = comes.vertices ∙ r.vertices ∙ sym (left-push g base edge old.edges.items) ∙ ap (walk_left g base) (sym comes.edges);
  below = let b = comes.below in let same : length new.vertices.items ≡ length old.vertices.items = ap length comes.vertices in omega (arith, b, same);
  back = ap (λ (xs : List ℕ). slice_index xs place) comes.vertices ∙ comes.back ∙ sym comes.here;
}

-- where the path came back to

pub closed-below : (g : Multigraph) (total left : List ℕ) (base target place : ℕ) (t : Trail) → IsClosed g total left base target place t → place < length t.edges.items
closed-below g total left base target place t r =
    let same : length t.vertices.items ≡ length (walk_left g base t.edges.items) = ap length r.vertices in
    omega (arith, r.below, same, left-length g base t.edges.items)

pub closed-home : (g : Multigraph) (total left : List ℕ) (base target place : ℕ) (t : Trail) → IsClosed g total left base target place t
    → walk_end g base (take place t.edges.items) ≡ t.here
closed-home g total left base target place t r =
    sym (left-at g base t.edges.items place (closed-below g total left base target place t r)) ∙ ap (λ (xs : List ℕ). slice_index xs place) (sym r.vertices) ∙ r.back

pub closed-parts : (g : Multigraph) (total left : List ℕ) (base target place : ℕ) (t : Trail) → IsClosed g total left base target place t
    → IsWayOver g total left base target t.here (take place t.edges.items ++ drop place t.edges.items)
closed-parts g total left base target place t r =
    let W : List ℕ → Type 0 = IsWayOver g total left base target t.here in
    subst W (sym (take-append-drop place t.edges.items)) r.trail.way

pub open-cut : (g : Multigraph) (total left : List ℕ) (base target place : ℕ) (mid new : Trail) → IsClosed g total left base target place mid → IsCut place mid new
    → IsOpen g total left base target new
open-cut g total left base target place mid new r cut =
    let home = closed-home g total left base target place mid r in
    let front = way-front g total left base target mid.here (take place mid.edges.items) (drop place mid.edges.items) (closed-parts g total left base target place mid r) home in
    let W : ℕ → List ℕ → Type 0 = IsWayOver g total left base target in
    let H : ℕ → Type 0 = λ h. IsWayOver g total left base target h new.edges.items in
    let R : ℕ → Type 0 = λ h. (1 ≤ h) × (h ≤ g.vertices) in
    record {
      trail = record {
        way = subst H (sym cut.here) (subst (W mid.here) (sym cut.edges) front);
        within = subst R (sym cut.here) r.trail.within;
        one_each = ap length cut.table ∙ r.trail.one_each;
        places = both_new mid.place.items new.place.items (take (place + 1) mid.vertices.items) new.vertices.items cut.table cut.vertices
            (places-take mid.place.items mid.vertices.items (place + 1) r.trail.places);
      };
      vertices =
          cut.vertices
          ∙ ap (take (place + 1)) r.vertices
          ∙ left-take g base place mid.edges.items (closed-below g total left base target place mid r)
          ∙ ap (walk_vertices g base) (sym cut.edges);
    }

pub open-back : (g : Multigraph) (edge there place : ℕ) (old mid new : Trail) → All (IsEdgeWithin g.vertices) g.edges → ComesBack edge there place old mid → IsCut place mid new
    → KeepsOpen g edge there old new
open-back g edge there place old mid new ends comes cut total left after base target r takes =
    open-cut g total after base target place mid new (closed-comes g edge there place old mid ends comes total left after base target r takes) cut

-- what is left and the path weigh no more together

pub keeps-goes : (g : Multigraph) (edge there : ℕ) (old new : Trail) → All (IsEdgeWithin g.vertices) g.edges → GoesOn edge there old new → KeepsWeight g edge there old new
keeps-goes g edge there old new ends goes = record {
  open_path = open-goes g edge there old new ends goes;
  weighs = λ left after takes.
      let same : walk_weight g new.edges.items ≡ walk_weight g (old.edges.items ++ edge ∷ []) = ap (walk_weight g) goes.edges in
      omega (arith, ints, weight-push g left after old.edges.items edge takes.number takes.taken, same);
}

pub keeps-back : (g : Multigraph) (edge there place : ℕ) (old mid new : Trail) → All (IsEdgeWithin g.vertices) g.edges → ComesBack edge there place old mid → IsCut place mid new
    → pos 0 ≤ℤ walk_weight g (drop place mid.edges.items) → KeepsWeight g edge there old new
keeps-back g edge there place old mid new ends comes cut low = record {
  open_path = open-back g edge there place old mid new ends comes cut;
  weighs = λ left after takes.
      let same : walk_weight g mid.edges.items ≡ walk_weight g (old.edges.items ++ edge ∷ []) = ap (walk_weight g) comes.edges in
      let fewer = weight-front g (take place mid.edges.items) (drop place mid.edges.items) low in
      let whole : walk_weight g (take place mid.edges.items ++ drop place mid.edges.items) ≡ walk_weight g mid.edges.items = ap (walk_weight g) (take-append-drop place mid.edges.items) in
      let now : walk_weight g new.edges.items ≡ walk_weight g (take place mid.edges.items) = ap (walk_weight g) cut.edges in
      omega (arith, ints, weight-push g left after old.edges.items edge takes.number takes.taken, same, fewer, whole, now);
}

-- what holds of all edges of a path holds of those from a place on
pub numbers-since : (P : ℕ → Type 0) (es : List ℕ) (e p : ℕ) → All P es → P e → All P (drop p (es ++ e ∷ []))
numbers-since P es e p all is = All-drop P p (es ++ e ∷ []) (All-push P es e all is)
