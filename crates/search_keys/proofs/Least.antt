-- The least of the moments bounds all events, and the edge of a vertex that needn't be looked at anew has its event just then.
use Rattle.alt_forest.proofs.Common.{◌≡◌, ◌≢◌, ℕ, ℤ, pos, ◌+ℤ◌, ◌-ℤ◌, ◌*ℤ◌, ◌≤ℤ◌, true, false, cond, Option, Some, None, refl, sym, ap, ◌∙◌}
use Rattle.alt_forest.proofs.Common.{subst, arith, inl, inr, ⊎_elim, ints, IsEdgeNumber, edge_of, other_end, holds, is_vertex, names_of, outermost, Label, Outer, Inner, Out, Item, Moments}
use Rattle.alt_forest.proofs.Common.{IsLeast, IsOutermost, Joins, dual_sum, slack_of, LeadsTo, IsSound, state_of, ForMoment, NeedsMoment, slack_leading, leads, leads_joins, leads_vertex}
use Rattle.alt_forest.proofs.Common.{MomentBy, needs_also, needs_between, nested_of, outer_not_out}
use Rattle.alt_forest.specs.declared.search.Search.{Search}
use Rattle.search_heap.specs.declared.item.Item.TheVariants.{Blossom as OfNode}
use Rattle.search_keys.specs.declared.bounds.EventBounds.{EventBounds}
use Rattle.search_keys.specs.Bounds.{ComesUp, IsBounding, bound_of, hint_of, key_from, key_of}
use Rattle.search_keys.specs.Looks.{is_stale_at}
use Rattle.alt_forest.proofs.Leads.{leads_back}
use Rattle.search_keys.proofs.Gives.{fresh_parts, gives_parts, key_has}

-- some vertex has a moment that is no later than m
pub record IsBoundedBy (q : Moments) (m : ℤ) : Type 0 where
  pub vertex : ℕ
  pub moment : ℤ
  pub bound : bound_of q vertex ≡ Some moment
  pub early : moment ≤ℤ m

-- A moment at which a key of at most `weight` less the reach of `near` comes up is no later than x, and just x where it is no less.
record IsDue (weight near clock k : ℤ) (moment : Option ℤ) (x : ℤ) : Type 0 where
  at : ℤ
  is : moment ≡ Some at
  early : at ≤ℤ x
  just : k ≡ weight -ℤ (near -ℤ clock) → at ≡ x

-- it is the moment that the edge needs, by the label of the vertex's node
due_by : (l : Label) (sum near clock weight slack k : ℤ) (moment : Option ℤ) → k ≤ℤ (weight -ℤ (near -ℤ clock)) → slack ≡ weight -ℤ (near +ℤ sum)
    → ComesUp l sum clock (Some k) moment → MomentBy Outer l clock slack (IsDue weight near clock k moment)
due_by Inner sum near clock weight slack k moment low is up = tt
due_by Out sum near clock weight slack k moment low is up = record { at = k -ℤ sum; is = up; early = omega (arith, ints); just = λ e. omega (arith, ints) }
due_by Outer sum near clock weight slack k moment low is up = λ half twice.
    record { at = up.0; is = up.1; early = up.2.low (clock +ℤ half) (omega (arith, ints)); just = λ e. up.2.even (clock +ℤ half) (omega (arith, ints)) }

module _ (s : Search) (b : EventBounds) (sound : IsSound s) (h : IsBounding s b) where
  abbrev label : ℕ → Label
  label v = (state_of s).label (outermost s.arena.blossoms v)

  -- an edge from an outer node gives its other end a key, which comes up early enough
  due : (e v u : ℕ) (w : ℤ) → LeadsTo s.graph e v u w → label v ≡ Outer → outermost s.arena.blossoms u ≢ outermost s.arena.blossoms v → (k : ℤ) × (key_of b u ≡ Some k)
      × (k ≤ℤ key_from (state_of s) s.clock v w)
      × ForMoment (state_of s) s.clock e (IsDue (cond (state_of s).weighted (pos 2 *ℤ w) (pos 0)) (dual_sum (state_of s) v) s.clock k (bound_of b.moments u))
  due e v u w to outer apart =
      let keyed = h.keys e v u w to refl outer apart in
      let up = h.vertices u (leads_vertex s.graph e v u w sound.shape.graph.graph to) refl in (
        keyed.key,
        keyed.has,
        keyed.low,
        needs_between (state_of s) s.clock e _ (outermost s.arena.blossoms v) (outermost s.arena.blossoms u) Outer (label u)
            (leads_joins s.graph s.arena.blossoms e v u (outermost s.arena.blossoms v) (outermost s.arena.blossoms u) w to refl refl) outer refl
            (due_by (label u) (dual_sum (state_of s) u) (dual_sum (state_of s) v) s.clock (cond (state_of s).weighted (pos 2 *ℤ w) (pos 0)) (slack_of (state_of s) e) keyed.key
            (bound_of b.moments u) keyed.low (slack_leading (state_of s) e v u w sound.shape.graph.graph (nested_of s sound.shape) to apart)
            (subst (λ (o : Option ℤ). ComesUp (label u) (dual_sum (state_of s) u) s.clock o (bound_of b.moments u)) keyed.has up)),
      )

  bounded : (e v u : ℕ) (w : ℤ) → LeadsTo s.graph e v u w → label v ≡ Outer → outermost s.arena.blossoms u ≢ outermost s.arena.blossoms v
      → ForMoment (state_of s) s.clock e (IsBoundedBy b.moments)
  bounded e v u w to outer apart = needs_also (state_of s) s.clock e _ (IsBoundedBy b.moments)
      (λ x d. record { vertex = u; moment = d.at; bound = d.is; early = d.early }) (due e v u w to outer apart).3

  -- each edge that needs a moment leads to a vertex that has one no later
  edge_bounded : (e : ℕ) → IsEdgeNumber s.graph e → ForMoment (state_of s) s.clock e (IsBoundedBy b.moments)
  edge_bounded e is = record {
    to_out = λ a c j la lc. (from_end a c j la (λ q. outer_not_out (sym la ∙ ap (state_of s).label q ∙ lc))).to_out a c j la lc;
    between = λ a c half j ne la lc twice. (from_end a c j la ne).between a c half j ne la lc twice;
  }
    where
      from_end : (a c : ℕ) → Joins s.graph s.arena.blossoms e a c → (state_of s).label a ≡ Outer → a ≢ c → ForMoment (state_of s) s.clock e (IsBoundedBy b.moments)
      from_end a c j la ne = ⊎_elim
          (λ p. bounded e (edge_of s.graph e).u (edge_of s.graph e).v (edge_of s.graph e).w (record { number = is; ends = inl (refl, refl); weight = refl })
          (ap (state_of s).label p.0 ∙ la) (λ q. ne (sym p.0 ∙ sym q ∙ p.1)))
          (λ p. bounded e (edge_of s.graph e).v (edge_of s.graph e).u (edge_of s.graph e).w (record { number = is; ends = inr (refl, refl); weight = refl })
          (ap (state_of s).label p.1 ∙ la) (λ q. ne (sym p.1 ∙ sym q ∙ p.0)))
          j

  -- no event comes before the least moment
  pub least_edges : (item : Item) (m : ℤ) → IsLeast b.moments (Some (item, m)) → (e : ℕ) → IsEdgeNumber s.graph e → ForMoment (state_of s) s.clock e (λ x. m ≤ℤ x)
  least_edges item m least e is = needs_also (state_of s) s.clock e (IsBoundedBy b.moments) (λ x. m ≤ℤ x)
      (λ x k. let early = least.1 (OfNode k.vertex) k.moment k.bound in omega (arith, ints, early, k.early)) (edge_bounded e is)

  pub least_blossoms : (item : Item) (m : ℤ) → IsLeast b.moments (Some (item, m)) → (a : ℕ) → holds (names_of s.arena.blossoms) a ≡ true → IsOutermost (state_of s) a
      → (state_of s).label a ≡ Inner → m ≤ℤ (s.clock +ℤ (state_of s).dual a)
  least_blossoms item m least a name outer inner = least.1 (OfNode a) (s.clock +ℤ (state_of s).dual a) (h.blossoms a name outer inner)

  -- where nothing has a moment no edge needs one, and no blossom is inner
  pub none_edges : IsLeast b.moments None → (e : ℕ) → IsEdgeNumber s.graph e → ForMoment (state_of s) s.clock e (λ x. ⊥)
  none_edges none e is = needs_also (state_of s) s.clock e (IsBoundedBy b.moments) (λ x. ⊥)
      (λ x k. let no : (let o : Option ℤ = None in o) ≡ Some k.moment = sym (none (OfNode k.vertex)) ∙ k.bound in absurd (cc)) (edge_bounded e is)

  pub none_blossoms : IsLeast b.moments None → (a : ℕ) → holds (names_of s.arena.blossoms) a ≡ true → IsOutermost (state_of s) a → (state_of s).label a ≡ Inner → ⊥
  none_blossoms none a name outer inner =
      let no : (let o : Option ℤ = None in o) ≡ Some (s.clock +ℤ (state_of s).dual a) = sym (none (OfNode a)) ∙ h.blossoms a name outer inner in
      absurd (cc)

-- The edge that gave a vertex its key leads to an outer node, another one, and its event comes at the moment that the vertex has.
pub record IsHintAt (s : Search) (e v : ℕ) (m : ℤ) : Type 0 where
  pub number : IsEdgeNumber s.graph e
  pub far : ℕ
  pub leads : LeadsTo s.graph e v far (edge_of s.graph e).w
  pub vertex : is_vertex s.graph.vertices far ≡ true
  pub apart : outermost s.arena.blossoms far ≢ outermost s.arena.blossoms v
  pub outer : (state_of s).label (outermost s.arena.blossoms far) ≡ Outer
  pub joins : Joins s.graph s.arena.blossoms e (outermost s.arena.blossoms v) (outermost s.arena.blossoms far)
  pub needs : NeedsMoment (state_of s) s.clock e (Some m)

-- what has a moment has a key, but in an inner node
key_behind : (l : Label) (sum clock : ℤ) (key moment : Option ℤ) (m : ℤ) → l ≢ Inner → moment ≡ Some m → ComesUp l sum clock key moment → (k : ℤ) × (key ≡ Some k)
key_behind Inner sum clock key moment m ne has h = absurd (ne refl)
key_behind Out sum clock None moment m ne has h = let no : (let o : Option ℤ = None in o) ≡ Some m = sym h ∙ has in absurd (cc)
key_behind Out sum clock (Some k) moment m ne has h = (k, refl)
key_behind Outer sum clock None moment m ne has h = let no : (let o : Option ℤ = None in o) ≡ Some m = sym h ∙ has in absurd (cc)
key_behind Outer sum clock (Some k) moment m ne has h = (k, refl)

pub hint_needs : (s : Search) (b : EventBounds) (v : ℕ) (m : ℤ) → IsSound s → IsBounding s b → is_vertex s.graph.vertices v ≡ true
    → (state_of s).label (outermost s.arena.blossoms v) ≢ Inner → is_stale_at s b v ≡ false → bound_of b.moments v ≡ Some m
    → IsHintAt s (hint_of b v) v m
hint_needs s b v m sound h vertex tree fresh has =
    let graph = sound.shape.graph.graph in let e : ℕ = hint_of b v in let w : ℤ = (edge_of s.graph e).w in
    let far : ℕ = other_end (edge_of s.graph e) v in let up = h.vertices v vertex refl in
    let key = key_behind ((state_of s).label (outermost s.arena.blossoms v)) (dual_sum (state_of s) v) s.clock (key_of b v) (bound_of b.moments v) m tree has up in
    let hint = h.hints v vertex (key_has b v key.0 key.1).0 in
    let parts = gives_parts (state_of s) s.clock e far v key.0 (fresh_parts (state_of s) s.clock e v (key_of b v) key.0 key.1 fresh) in
    let to : LeadsTo s.graph e v far w = leads s.graph e v far w hint.0 hint.1 refl refl in
    let there = leads_vertex s.graph e v far w graph to in let back = leads_back s.graph e v far w to in
    let apart : outermost s.arena.blossoms v ≢ outermost s.arena.blossoms far = λ p. parts.0.other (sym p) in
    let d = due s b sound h e far v w back parts.0.outer apart in
    let same : (let o : Option ℤ = Some d.0 in o) ≡ Some key.0 = sym d.1 ∙ key.1 in let one : d.0 ≡ key.0 = cc in
    let just : d.0 ≡ key_from (state_of s) s.clock far w = omega (arith, ints, d.2, one, parts.1) in
    record {
      number = hint.0;
      far = far;
      leads = to;
      vertex = there;
      apart = parts.0.other;
      outer = parts.0.outer;
      joins = leads_joins s.graph s.arena.blossoms e v far (outermost s.arena.blossoms v) (outermost s.arena.blossoms far) w to refl refl;
      needs = needs_also (state_of s) s.clock e _ (λ x. let o : Option ℤ = Some m in o ≡ Some x)
          (λ x r. sym has ∙ r.is ∙ ap (λ (y : ℤ). let o : Option ℤ = Some y in o) (r.just just)) d.3;
    }
