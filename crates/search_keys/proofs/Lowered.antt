-- What is left of the bounds when keys of vertices come or are lowered.
use Rattle.alt_forest.proofs.Common.{◌≡◌, ◌≢◌, ℕ, ◌<◌, ℤ, ◌≤ℤ◌, true, false, eqb, List, ◌∷◌, Option, Some, sym, ap, ap₂, ◌∙◌, subst, arith, vec_len}
use Rattle.alt_forest.proofs.Common.{length, refl, both_ways, eqb-true, eqb-false, Multigraph, IsEdgeNumber, edge_of, other_end, touches, holds, is_vertex, by_test, name_no_vertex}
use Rattle.alt_forest.proofs.Common.{vertex_range, Moments, with_moment, blossom_set, blossom_other, IsItem, places_stay, LeadsTo, HasShape, state_of, nested_of, nat_tests}
use Rattle.alt_forest.specs.declared.search.Search.{Search}
use Rattle.search_heap.specs.declared.item.Item.TheVariants.{Blossom as OfNode}
use Rattle.search_keys.specs.declared.bounds.EventBounds.{EventBounds}
use Rattle.search_keys.specs.Bounds.{HasHints, HasPlaces, IsBoundEntered, IsBoundingBut, IsKey, IsKeyed, bound_of, hint_of, key_from, key_of}
use Rattle.search_keys.specs.Looks.{gives_still, is_stale, is_stale_at}
use Rattle.search_keys.specs.Keys.{HasGiven, IsGiven, IsLowered}
use Rattle.alt_forest.proofs.Leads.{leads_touch}
use Rattle.search_keys.proofs.Gives.{fresh_from, key_same, key_there}

-- the places of nodes and vertices
pub vertex_item : (g : Multigraph) (b : EventBounds) (v : ℕ) → HasPlaces g b → is_vertex g.vertices v ≡ true → IsItem b.moments (OfNode v)
vertex_item g b v places vertex = let range = vertex_range g.vertices v vertex in (range.0, omega (arith, range.1, places.nodes))

pub hint_place : (g : Multigraph) (b : EventBounds) (v : ℕ) → HasPlaces g b → is_vertex g.vertices v ≡ true → v < vec_len b.hints
hint_place g b v places vertex = let range = vertex_range g.vertices v vertex in omega (arith, range.1, places.hints)

pub key_place : (g : Multigraph) (b : EventBounds) (v : ℕ) → HasPlaces g b → is_vertex g.vertices v ≡ true → v < vec_len b.keys
key_place g b v places vertex = let range = vertex_range g.vertices v vertex in omega (arith, range.1, places.keys)

-- a moment that is set or taken away leaves all places
pub places_with : (g : Multigraph) (b : EventBounds) (a : ℕ) (m : Option ℤ) → HasPlaces g b → HasPlaces g (record b { moments = with_moment b.moments (OfNode a) m })
places_with g b a m h =
    let same = places_stay b.moments (OfNode a) m in
    record { edges = same.0 ∙ h.edges; nodes = same.1 ∙ h.nodes; hints = h.hints; keys = h.keys }

-- What the bounds are once the moment at a vertex's place has been set or taken away.
module _ (g : Multigraph) (b d : EventBounds) (v p : ℕ) (m : Option ℤ) (places : HasPlaces g b) (vertex : is_vertex g.vertices v ≡ true) (at : p ≡ v)
    (is : d ≡ record b { moments = with_moment b.moments (OfNode p) m }) where
  pub set_places : HasPlaces g d
  set_places = subst (HasPlaces g) (sym is) (places_with g b p m places)

  pub set_rest : d ≡ record b { moments = d.moments }
  set_rest = is ∙ sym (ap (λ (x : EventBounds). let y : EventBounds = record b { moments = x.moments } in y) is)

  pub set_here : bound_of d.moments v ≡ m
  set_here = ap (λ (x : EventBounds). bound_of x.moments v) is ∙ ap (λ (a : ℕ). bound_of (with_moment b.moments (OfNode a) m) v) at
      ∙ blossom_set b.moments v m (vertex_item g b v places vertex)

  pub set_others : (a : ℕ) → a ≢ v → bound_of d.moments a ≡ bound_of b.moments a
  set_others a ne = ap (λ (x : EventBounds). bound_of x.moments a) is ∙ ap (λ (i : ℕ). bound_of (with_moment b.moments (OfNode i) m) a) at
      ∙ blossom_other b.moments v a m (vertex_item g b v places vertex) ne

-- as a key that is given does
pub hints_given : (g : Multigraph) (b c : EventBounds) (v e : ℕ) (k : ℤ) → IsGiven b c v e k → (e ≢ 0 → IsEdgeNumber g e × (touches (edge_of g e) v ≡ true) × IsKey k) → HasHints g b
    → HasHints g c
hints_given g b c v e k given new h a vertex some = by_test (eqb a v)
    (λ t. let same : a ≡ v = eqb-true a v t in rw (same, given.hint, given.key) (new (λ none. some (ap (hint_of c) same ∙ given.hint ∙ none))))
    (λ f. let ne : a ≢ v = eqb-false a v f in rw (given.hints a ne, given.keys a ne) (h a vertex (λ none. some (given.hints a ne ∙ none))))

pub places_given : (g : Multigraph) (b c : EventBounds) (v e : ℕ) (k : ℤ) → IsGiven b c v e k → HasPlaces g b → HasPlaces g c
places_given g b c v e k given h = record {
  edges = ap (λ (q : Moments). length q.edges) given.moments ∙ h.edges;
  nodes = ap (λ (q : Moments). length q.blossoms) given.moments ∙ h.nodes;
  hints = given.hints_size ∙ h.hints;
  keys = given.keys_size ∙ h.keys;
}

pub lowered_none : (s : Search) (b : EventBounds) → HasPlaces s.graph b → HasHints s.graph b → IsLowered s b b
lowered_none s b places hints = record { places = places; hints = hints; keyed = λ u k h. h; entered = λ u there h. h; others = λ a none. refl; known_keys = λ u there h. h }

-- it has that key, if by an edge, and the keys of the others are what they were
pub given_key : (b c : EventBounds) (v e : ℕ) (k : ℤ) → IsGiven b c v e k → e ≢ 0 → key_of c v ≡ Some k
given_key b c v e k given some = key_there c v (λ none. some (sym given.hint ∙ none)) ∙ ap (λ (x : ℤ). let o : Option ℤ = Some x in o) given.key

pub key_else : (b c : EventBounds) (v e a : ℕ) (k : ℤ) → IsGiven b c v e k → a ≢ v → key_of c a ≡ key_of b a
key_else b c v e a k given ne = key_same b c a (given.hints a ne) (given.keys a ne)

pub stale_else : (s : Search) (b c : EventBounds) (v e a : ℕ) (k : ℤ) → IsGiven b c v e k → a ≢ v → is_stale_at s c a ≡ is_stale_at s b a
stale_else s b c v e a k given ne = ap₂ (λ (d : ℕ) (x : Option ℤ). is_stale (state_of s) s.clock d a x) (given.hints a ne) (key_else b c v e a k given ne)

-- a vertex that is entered with the moment that it had
pub entered_same : (s : Search) (b c : EventBounds) (a : ℕ) → key_of c a ≡ key_of b a → bound_of c.moments a ≡ bound_of b.moments a → IsBoundEntered (state_of s) s.clock b a
    → IsBoundEntered (state_of s) s.clock c a
entered_same s b c a key moment h = rw (key, moment) h

-- Only the vertex v is entered, as it is in d.
module _ (s : Search) (c d : EventBounds) (v : ℕ) (rest : d ≡ record c { moments = d.moments }) (places : HasPlaces s.graph d) (here : IsBoundEntered (state_of s) s.clock d v)
    (others : (a : ℕ) → a ≢ v → bound_of d.moments a ≡ bound_of c.moments a) where
  pub enter_key : (a : ℕ) → key_of d a ≡ key_of c a
  enter_key a = ap (λ (x : EventBounds). key_of x a) rest

  pub enter_stale : (a : ℕ) → is_stale_at s d a ≡ is_stale_at s c a
  enter_stale a = ap (λ (x : EventBounds). is_stale_at s x a) rest

  pub enter_hints : HasHints s.graph c → HasHints s.graph d
  enter_hints h = subst (HasHints s.graph) (sym rest) h

  pub enter_keyed : (a : ℕ) (k : ℤ) → IsKeyed c a k → IsKeyed d a k
  enter_keyed a k h = record { key = h.key; has = enter_key a ∙ h.has; low = h.low }

  pub enter_entered : (a : ℕ) → IsBoundEntered (state_of s) s.clock c a → IsBoundEntered (state_of s) s.clock d a
  enter_entered a h = by_test (eqb a v)
      (λ t. subst (IsBoundEntered (state_of s) s.clock d) (sym (eqb-true a v t)) here)
      (λ f. entered_same s c d a (enter_key a) (others a (eqb-false a v f)) h)

  -- it gets a lower key before, by an edge that gives it
  pub lowered_by : (b : EventBounds) (e : ℕ) (k : ℤ) → IsGiven b c v e k → is_vertex s.graph.vertices v ≡ true → e ≢ 0 → HasHints s.graph c
      → ((low : ℤ) → IsKeyed b v low → k ≤ℤ low) → gives_still (state_of s) s.clock e (other_end (edge_of s.graph e) v) v k ≡ true → IsLowered s b d
  lowered_by b e k given vertex some hints lower gives =
      let has = given_key b c v e k given some in
      record {
        places = places;
        hints = enter_hints hints;
        keyed = λ u low h. by_test (eqb u v)
            (λ t. let same : u ≡ v = eqb-true u v t in rw same (record { key = k; has = enter_key v ∙ has; low = lower low (rw same at h) }))
            (λ f. record { key = h.key; has = enter_key u ∙ key_else b c v e u k given (eqb-false u v f) ∙ h.has; low = h.low });
        entered = λ u there h. by_test (eqb u v)
            (λ t. subst (IsBoundEntered (state_of s) s.clock d) (sym (eqb-true u v t)) here)
            (λ f.
            let ne : u ≢ v = eqb-false u v f in
            entered_same s b d u (enter_key u ∙ key_else b c v e u k given ne) (others u ne ∙ ap (λ (q : Moments). bound_of q u) given.moments) h);
        others = λ a none.
            others a (λ p. both_ways (is_vertex s.graph.vertices a) none (ap (is_vertex s.graph.vertices) p ∙ vertex)) ∙ ap (λ (q : Moments). bound_of q a) given.moments;
        known_keys = λ u there h. by_test (eqb u v)
            (λ t.
            let same : u ≡ v = eqb-true u v t in
            ap (is_stale_at s d) same ∙ enter_stale v ∙ ap (λ (x : ℕ). is_stale (state_of s) s.clock x v (key_of c v)) given.hint
            ∙ fresh_from (state_of s) s.clock e v (key_of c v) (λ low is.
            let both : (let o : Option ℤ = Some k in o) ≡ Some low = sym has ∙ is in let one : k ≡ low = cc in
            subst (λ (x : ℤ). gives_still (state_of s) s.clock e (other_end (edge_of s.graph e) v) v x ≡ true) one gives))
            (λ f. enter_stale u ∙ stale_else s b c v e u k given (eqb-false u v f) ∙ h);
      }

-- nothing is done, and one thing after another
pub lowered_then : (s : Search) (b c d : EventBounds) → IsLowered s b c → IsLowered s c d → IsLowered s b d
lowered_then s b c d one two = record {
  places = two.places;
  hints = two.hints;
  keyed = λ u k h. two.keyed u k (one.keyed u k h);
  entered = λ u there h. two.entered u there (one.entered u there h);
  others = λ a none. two.others a none ∙ one.others a none;
  known_keys = λ u there h. two.known_keys u there (one.known_keys u there h);
}

-- a vertex that isn't among some, and isn't another one, is not among all of them
unnoted_more : (v x : ℕ) (vs : List ℕ) → eqb x v ≡ false → holds vs x ≡ false → holds (v ∷ vs) x ≡ false
unnoted_more v x vs f none = grind (arith, nat_tests)

-- A noted vertex less: it has given its keys, in c, and is entered, in d.
pub bounding_less : (s : Search) (b c d : EventBounds) (v : ℕ) (vs : List ℕ) → HasShape s → is_vertex s.graph.vertices v ≡ true → IsBoundingBut s b (v ∷ vs) → IsLowered s b c
    → HasGiven s c v → d ≡ record c { moments = d.moments } → HasPlaces s.graph d → IsBoundEntered (state_of s) s.clock d v
    → ((a : ℕ) → a ≢ v → bound_of d.moments a ≡ bound_of c.moments a)
    → IsBoundingBut s d vs
bounding_less s b c d v vs shape vertex h lowered given rest places here others = record {
  low = h.low;
  high = h.high;
  near = h.near;
  places = places;
  hints = enter_hints s c d v rest places here others lowered.hints;
  keys = λ e x u w to unnoted outer apart. enter_keyed s c d v rest places here others u (key_from (state_of s) s.clock x w) (by_test (eqb x v)
      (λ t.
      let same : x ≡ v = eqb-true x v t in let here : LeadsTo s.graph e v u w = rw same at to in
      rw same (given (rw same at outer) e to.number (leads_touch s.graph e v u w here) u w here (rw same at apart)))
      (λ f. lowered.keyed u (key_from (state_of s) s.clock x w) (h.keys e x u w to (unnoted_more v x vs f unnoted) outer apart)));
  vertices = λ x there unnoted. by_test (eqb x v)
      (λ t. subst (IsBoundEntered (state_of s) s.clock d) (sym (eqb-true x v t)) here)
      (λ f. enter_entered s c d v rest places here others x (lowered.entered x there (h.vertices x there (unnoted_more v x vs f unnoted))));
  blossoms = λ a name outer inner.
      let none = name_no_vertex s.graph.vertices s.arena.blossoms a (nested_of s shape) name in
      others a (λ p. both_ways (is_vertex s.graph.vertices a) none (ap (is_vertex s.graph.vertices) p ∙ vertex)) ∙ lowered.others a none
      ∙ h.blossoms a name outer inner;
  unused = h.unused;
}
