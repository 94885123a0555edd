use Rattle.alt_forest.proofs.Common.{◌≡◌, ◌≢◌, ◌∙◌, ℕ, ℤ, true, is_some, Option, Some, None, refl, sym, ap, subst, rules, to_z, of_z, w64, outermost, Label, Moments}
use Rattle.alt_forest.proofs.Common.{with_moment, same_Some, IsItem, dual_sum, is_vertex, state_of, Multigraph, Outer, Inner, Out}
use Rattle.alt_forest.specs.declared.search.Search.{Search}
use Rattle.std.proofs.Common.{true≢false}
use Rattle.search_heap.specs.declared.item.Item.TheVariants.{Blossom as OfNode}
use Rattle.search_keys.specs.declared.bounds.EventBounds.{EventBounds}
use Rattle.search_keys.specs.Bounds.{ComesUp, HasPlaces, IsBoundEntered, IsKey, bound_of, hint_of, kept_key, key_of}
use Rattle.search_keys.proofs.Gives.{key_none, key_there}
use Rattle.search_keys.proofs.Lowered.{hint_place, key_place, set_here, set_others, set_places, set_rest, vertex_item}
use Rattle.search_keys.proofs.bounds.EventBounds.enter.Goals as goal

-- a vertex with no key is entered with no moment
none_up : (label : Label) (sum clock : ℤ) → ComesUp label sum clock None None
none_up Outer sum clock = refl
none_up Inner sum clock = _
none_up Out sum clock = refl

none_entered : (s : Search) (b : EventBounds) (v : ℕ) → key_of b v ≡ None → bound_of b.moments v ≡ None → IsBoundEntered (state_of s) s.clock b v
none_entered s b v key bound = rw (key, bound) (none_up ((state_of s).label (outermost s.arena.blossoms v)) (dual_sum (state_of s) v) s.clock)

-- the place of a vertex
item_at : (g : Multigraph) (b : EventBounds) (v p : ℕ) → HasPlaces g b → is_vertex g.vertices v ≡ true → p ≡ v → IsItem b.moments (OfNode p)
item_at g b v p places vertex at = subst (λ (a : ℕ). IsItem b.moments (OfNode a)) (sym at) (vertex_item g b v places vertex)

pub is_blank-requires : goal.is_blank-requires
is_blank-requires c = hint_place c.args.search.now.graph c.args.self.now c.args.v c.requires.places c.requires.vertex

pub returns-then-is_blank-clause-entered : goal.returns-then-is_blank-clause-entered
returns-then-is_blank-clause-entered c =
    none_entered c.args.search.now c.args.self.now c.args.v (key_none c.args.self.now c.args.v (c.is_blank.ensures.key c.if-is_blank.true)) (c.is_blank.ensures.moment c.if-is_blank.true)

pub key-requires : goal.key-requires
key-requires c = record {
  hint = hint_place c.args.search.now.graph c.args.self.now c.args.v c.requires.places c.requires.vertex;
  key = key_place c.args.search.now.graph c.args.self.now c.args.v c.requires.places c.requires.vertex;
}

pub remove-requires : goal.remove-requires
remove-requires c =
    let item = item_at c.args.search.now.graph c.args.self.now c.args.v c.new-place.result c.requires.places c.requires.vertex (c.new-place.ensures ∙ c.number.ensures) in
    record { low = item.0; high = item.1 }

pub returns-in_default : goal.returns-in_default
returns-in_default c =
    let s = c.args.search.now in let b = c.args.self.now in let d : EventBounds = c.remove.new.self in
    let at : c.new-place.result ≡ c.args.v = c.new-place.ensures ∙ c.number.ensures in
    record {
      entered = none_entered s d c.args.v (ap (λ (x : EventBounds). key_of x c.args.v) c.remove.ensures ∙ sym c.key.ensures ∙ c.in_default.is)
          (set_here s.graph b d c.args.v c.new-place.result None c.requires.places c.requires.vertex at c.remove.ensures);
      others = set_others s.graph b d c.args.v c.new-place.result None c.requires.places c.requires.vertex at c.remove.ensures;
      frame = set_rest s.graph b d c.args.v c.new-place.result None c.requires.places c.requires.vertex at c.remove.ensures;
      places = set_places s.graph b d c.args.v c.new-place.result None c.requires.places c.requires.vertex at c.remove.ensures;
    }

pub remove-requires-in_default-comes_up : goal.remove-requires-in_default-comes_up
remove-requires-in_default-comes_up c =
    let item = item_at c.args.search.now.graph c.args.self.now c.args.v c.new-place.result c.requires.places c.requires.vertex (c.new-place.ensures ∙ c.number.ensures) in
    record { low = item.0; high = item.1 }

-- what has been set comes up when the key does, by the label that was read
set_comes : (was label : Label) (sum clock : ℤ) (key read : Option ℤ) (k : ℤ) (moment bound : Option ℤ) → label ≡ was → read ≡ key → read ≡ Some k → bound ≡ moment
    → ComesUp label sum clock (Some k) moment → ComesUp was sum clock key bound
set_comes was label sum clock key read k moment bound lab same is set h =
    subst (λ (l : Label). ComesUp l sum clock key bound) lab
    (subst (λ (x : Option ℤ). ComesUp label sum clock x bound) (sym is ∙ same) (subst (ComesUp label sum clock (Some k)) (sym set) h))

pub returns-in_default-comes_up : goal.returns-in_default-comes_up
returns-in_default-comes_up c =
    let s = c.args.search.now in let b = c.args.self.now in let v : ℕ = c.args.v in
    let d : EventBounds = c.remove-in_default-comes_up.new.self in let r = c.requires in
    let is = c.remove-in_default-comes_up.ensures in let place : ℕ = c.new-place.result in
    let key : to_z w64 (of_z w64 c.in-Some.key) ≡ c.in-Some.key = search rules in let at : place ≡ v = c.new-place.ensures ∙ c.number.ensures in
    let entered : IsBoundEntered (state_of s) s.clock d v =
    set_comes ((state_of s).label (outermost s.arena.blossoms v)) c.label-label.result (dual_sum (state_of s) v) s.clock (key_of d v) c.key.result c.in-Some.key None (bound_of d.moments v)
    (c.label-label.ensures.label ∙ ap (state_of s).label c.outermost-node.ensures.node) (c.key.ensures ∙ ap (λ (x : EventBounds). key_of x v) (sym is)) c.in-Some.is
    (set_here s.graph b d v place None r.places r.vertex at is)
    (subst (λ (k : ℤ). ComesUp c.label-label.result (dual_sum (state_of s) v) s.clock (Some k) None) key c.in_default-comes_up.ensures) in
    let others = set_others s.graph b d v place None r.places r.vertex at is in let places = set_places s.graph b d v place None r.places r.vertex at is in
    record { entered = entered; others = others; frame = set_rest s.graph b d v place None r.places r.vertex at is; places = places }

pub comes_up-requires : goal.comes_up-requires
comes_up-requires c =
    let b = c.args.self.now in let v : ℕ = c.args.v in let r = c.requires in
    let key : to_z w64 (of_z w64 c.in-Some.key) ≡ c.in-Some.key = search rules in
    let some : hint_of b v ≢ 0 = λ none. true≢false (ap (λ (x : Option ℤ). is_some x) (sym c.in-Some.is ∙ c.key.ensures ∙ key_none b v none)) in
    let is : kept_key b v ≡ c.in-Some.key = same_Some (kept_key b v) c.in-Some.key (sym (key_there b v some) ∙ sym c.key.ensures ∙ c.in-Some.is) in
    record { sound = r.sound; low = r.low; high = r.high; near = r.near; vertex = r.vertex; key = subst IsKey (is ∙ sym key) (r.hints v r.vertex some).2 }

pub comes_early-early-requires-clause-hint : goal.comes_early-early-requires-clause-hint
comes_early-early-requires-clause-hint c = λ none. true≢false (ap (λ (x : Option ℤ). is_some x) (sym c.in-Some.is ∙ c.key.ensures ∙ key_none c.args.self.now c.args.v none))

pub set_moment-requires : goal.set_moment-requires
set_moment-requires c = item_at c.args.search.now.graph c.args.self.now c.args.v c.new-place.result c.requires.places c.requires.vertex (c.new-place.ensures ∙ c.number.ensures)

pub returns : goal.returns
returns c =
    let s = c.args.search.now in let b = c.args.self.now in let v : ℕ = c.args.v in let d : EventBounds = record b { moments = c.set_moment.new.moments } in
    let m : ℤ = to_z w64 (of_z w64 c.in-Some-comes_up.moment) in let back : m ≡ c.in-Some-comes_up.moment = search rules in
    let key : to_z w64 (of_z w64 c.in-Some.key) ≡ c.in-Some.key = search rules in
    let at : c.new-place.result ≡ v = c.new-place.ensures ∙ c.number.ensures in
    let is : d ≡ record b { moments = with_moment b.moments (OfNode c.new-place.result) (Some m) } =
    ap (λ (q : Moments). let x : EventBounds = record b { moments = q } in x) c.set_moment.ensures in
    record {
      entered = set_comes ((state_of s).label (outermost s.arena.blossoms v)) c.label-label.result (dual_sum (state_of s) v) s.clock (key_of b v) c.key.result c.in-Some.key
          (Some c.in-Some-comes_up.moment) (bound_of c.set_moment.new.moments v)
          (c.label-label.ensures.label ∙ ap (state_of s).label c.outermost-node.ensures.node) c.key.ensures c.in-Some.is
          (set_here s.graph b d v c.new-place.result (Some m) c.requires.places c.requires.vertex at is ∙ ap (λ (x : ℤ). let o : Option ℤ = Some x in o) back)
          (subst (λ (k : ℤ). ComesUp c.label-label.result (dual_sum (state_of s) v) s.clock (Some k) (Some c.in-Some-comes_up.moment)) key c.in-Some-comes_up.ensures);
      others = set_others s.graph b d v c.new-place.result (Some m) c.requires.places c.requires.vertex at is;
      frame = refl;
      places = set_places s.graph b d v c.new-place.result (Some m) c.requires.places c.requires.vertex at is;
    }
