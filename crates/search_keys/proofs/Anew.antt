-- What is left of the bounds when a vertex is looked at anew.
use Rattle.alt_forest.proofs.Common.{◌≡◌, ◌≢◌, ℕ, ℤ, true, false, eqb, Option, Some, refl, sym, ap, ◌∙◌, subst, arith, both_ways, eqb-true, eqb-false, ints}
use Rattle.alt_forest.proofs.Common.{IsEdgeNumber, edge_of, other_end, touches, is_vertex, outermost, Outer, by_test, name_no_vertex, Moments, LeadsTo, HasShape, state_of, nested_of}
use Rattle.alt_forest.specs.declared.search.Search.{Search}
use Rattle.search_keys.specs.declared.bounds.EventBounds.{EventBounds}
use Rattle.search_keys.specs.declared.keys.Least.{Least}
use Rattle.search_keys.specs.Bounds.{HasPlaces, IsBounding, IsBoundEntered, IsKey, IsKeyed, bound_of, key_from, key_of}
use Rattle.search_keys.specs.Looks.{is_stale, is_stale_at}
use Rattle.search_keys.specs.Keys.{IsFrom, IsGiven, IsGiving, IsNoLower}
use Rattle.alt_forest.proofs.Leads.{leads_back, leads_end, leads_touch}
use Rattle.search_keys.proofs.Gives.{fresh_from, gives_from, key_has}
use Rattle.search_keys.proofs.Lowered.{enter_hints, enter_keyed, enter_stale, entered_same, enter_key, hints_given, given_key, key_else}

-- what is found is an edge at the vertex, and its key is in range
pub giving_parts : (s : Search) (v : ℕ) (least : Least) → IsGiving (state_of s) s.clock v least
    → IsEdgeNumber s.graph least.edge × (touches (edge_of s.graph least.edge) v ≡ true) × IsKey least.key
giving_parts s v least h = (h.leads.number, leads_touch s.graph least.edge v h.far h.weight h.leads, h.in_range)

-- Of the vertex v the least key of its edges is found; it gets that, in c, and is entered, in d.
module _ (s : Search) (b c d : EventBounds) (v : ℕ) (least : Least) (shape : HasShape s) (vertex : is_vertex s.graph.vertices v ≡ true) (h : IsBounding s b)
    (from : IsFrom (state_of s) s.clock v least)
    (lowest : (e : ℕ) → IsEdgeNumber s.graph e → touches (edge_of s.graph e) v ≡ true → IsNoLower (state_of s) s.clock v least e) (given : IsGiven b c v least.edge least.key)
    (rest : d ≡ record c { moments = d.moments }) (places : HasPlaces s.graph d) (here : IsBoundEntered (state_of s) s.clock d v)
    (others : (a : ℕ) → a ≢ v → bound_of d.moments a ≡ bound_of c.moments a) where
  has_least : least.edge ≢ 0 → key_of c v ≡ Some least.key
  has_least some = given_key b c v least.edge least.key given some

  keyed_anew : (e x u : ℕ) (w : ℤ) → LeadsTo s.graph e x u w → (state_of s).label (outermost s.arena.blossoms x) ≡ Outer → outermost s.arena.blossoms u ≢ outermost s.arena.blossoms x
      → IsKeyed c u (key_from (state_of s) s.clock x w)
  keyed_anew e x u w to outer apart = by_test (eqb u v)
      (λ t.
      let same : u ≡ v = eqb-true u v t in
      let back : LeadsTo s.graph e v x w = leads_back s.graph e x v w (subst (λ (y : ℕ). LeadsTo s.graph e x y w) same to) in
      let low = lowest e to.number (leads_touch s.graph e v x w back) x w back
      (record { other = λ p. apart (ap (outermost s.arena.blossoms) same ∙ sym p); outer = outer }) in
      rw same (record { key = least.key; has = has_least low.found; low = low.low }))
      (λ f.
      let old = h.keys e x u w to refl outer apart in
      record { key = old.key; has = key_else b c v least.edge u least.key given (eqb-false u v f) ∙ old.has; low = old.low })

  pub bounding_anew : IsBounding s d
  bounding_anew = record {
    low = h.low;
    high = h.high;
    near = h.near;
    places = places;
    hints = enter_hints s c d v rest places here others (hints_given s.graph b c v least.edge least.key given (λ some. giving_parts s v least (from some)) h.hints);
    keys = λ e x u w to unnoted outer apart. enter_keyed s c d v rest places here others u (key_from (state_of s) s.clock x w) (keyed_anew e x u w to outer apart);
    vertices = λ x there unnoted. by_test (eqb x v)
        (λ t. subst (IsBoundEntered (state_of s) s.clock d) (sym (eqb-true x v t)) here)
        (λ f.
        let ne : x ≢ v = eqb-false x v f in
        entered_same s b d x (enter_key s c d v rest places here others x ∙ key_else b c v least.edge x least.key given ne)
        (others x ne ∙ ap (λ (q : Moments). bound_of q x) given.moments) (h.vertices x there refl));
    blossoms = λ a name outer inner.
        let none = name_no_vertex s.graph.vertices s.arena.blossoms a (nested_of s shape) name in
        others a (λ p. both_ways (is_vertex s.graph.vertices a) none (ap (is_vertex s.graph.vertices) p ∙ vertex)) ∙ ap (λ (q : Moments). bound_of q a) given.moments
        ∙ h.blossoms a name outer inner;
    unused = h.unused;
  }

  -- the edge gives the key just so
  pub fresh_anew : is_stale_at s d v ≡ false
  fresh_anew = enter_stale s c d v rest places here others v ∙ ap (λ (x : ℕ). is_stale (state_of s) s.clock x v (key_of c v)) given.hint
      ∙ fresh_from (state_of s) s.clock least.edge v (key_of c v) (λ k is.
      let some : least.edge ≢ 0 = λ none. (key_has c v k is).0 (given.hint ∙ none) in let gives = from some in
      let both : (let o : Option ℤ = Some least.key in o) ≡ Some k = sym (has_least some) ∙ is in let one : least.key ≡ k = cc in
      let far : other_end (edge_of s.graph least.edge) v ≡ gives.far = leads_end s.graph least.edge v gives.far gives.weight gives.leads in
      rw far (gives_from (state_of s) s.clock least.edge gives.far v k gives.apart
      (omega (arith, ints, gives.key, one, ap (key_from (state_of s) s.clock gives.far) gives.leads.weight))))
