use Rattle.graph_theory.proofs.Common.{◌≡◌, ◌∙◌, ℕ, ◌<◌, ◌+◌, List, ◌∷◌, refl, sym, ap, ap₂, subst, length, arith, ℤ, pos, slice_set, vec_len, AllByRecursion}
use Rattle.blossom_arena.specs.declared.links.Link.{Link}
use Rattle.blossom_arena.specs.declared.runs.Run.{Run}
use Rattle.blossom_arena.specs.declared.arena.Arena.TheInside.{Inside}
use Rattle.blossom_arena.specs.Tables.{threaded, next_node}
use Rattle.blossom_arena.specs.Family.{Blossom, Family, is_node, made_of, shrunk}
use Rattle.blossom_arena.specs.declared.label.Label.{Label}
use Rattle.blossom_arena.specs.declared.label.Label.TheVariants.{Out}
use Rattle.blossom_arena.specs.Fields.{blossoms_of, runs_of, IsSound}
use Rattle.blossom_arena.specs.Placement.{placement_of}
use Rattle.blossom_arena.proofs.Sound.{tails_within}
use Rattle.blossom_arena.proofs.Stays.{AddsKept}
use Rattle.blossom_arena.proofs.Shrunk.{Shrinks, sound_after, blossoms_after, fresh, with_circuit}
use Rattle.blossom_arena.proofs.Written.{circuit_few, core_low, newest_within, nodes_within, room_left, adds, runs_then, sizes_few, top_low, c as circuit}
use Rattle.blossom_arena.proofs.arena.Arena.shrink.Goals as goal

pub join-run-requires : goal.join-run-requires
join-run-requires c =
    let a : Inside = c.self.inside in
    let len : vec_len a.followers ≡ length a.followers.items = omega arith in
    record {
      some = omega (arith, c.self.invariant.places.followers);
      within = subst (λ m. AllByRecursion (λ (r : Run). r.tail < m) (runs_of a.vertex_count a.kept c.args.circuit.now)) (sym len)
          (tails_within a c.args.circuit.now c.self.invariant (circuit a _ c.args.circuit.now c.self.invariant c.self.view_is c.requires));
      size_limit = omega (arith, sizes_few a _ c.args.circuit.now c.self.invariant c.self.view_is c.requires);
    }

pub overflow_cast-links : goal.overflow_cast-links
overflow_cast-links c = omega (arith, circuit_few c.self.inside _ c.args.circuit.now c.self.invariant c.self.view_is c.requires)

pub insert_reserved-key-requires : goal.insert_reserved-key-requires
insert_reserved-key-requires c = room_left c.self.inside _ c.args.circuit.now c.self.invariant c.self.view_is c.requires

pub thread-requires : goal.thread-requires
thread-requires c = nodes_within c.self.inside _ c.args.circuit.now c.self.invariant c.self.view_is c.requires _ (omega (arith, c.self.invariant.places.nexts))

pub note-requires : goal.note-requires
note-requires c =
    let within = nodes_within c.self.inside _ c.args.circuit.now c.self.invariant c.self.view_is c.requires in
    record { edges = within _ (omega (arith, c.self.invariant.places.edges)); parents = within _ (omega (arith, c.self.invariant.places.parents)) }

-- what stands once the circuit is joined and its blossom kept
more : (c : goal.After-absorb-arg-3-1) → AddsKept c.self.inside c.args.circuit.now c.insert_reserved-key.new.self c.deref.result.now
    (c.self.inside.vertex_count + 1 + c.insert_reserved-key.result) c.insert_reserved-key.result
more c =
    adds c.self.inside _ c.args.circuit.now c.self.invariant c.self.view_is c.requires c.join-run.new.followers.items c.join-run.result c.join-run.ensures.items c.join-run.ensures.head
    c.join-run.ensures.tail c.join-run.ensures.size c.join-run.ensures.core c.insert_reserved-key.new.self c.deref.result.now c.insert_reserved-key.result c.node_at-first.result
    c.insert_reserved-key.ensures.was_vacant c.insert_reserved-key.ensures.updates c.node_at-first.ensures c.deref.ensures.value

followers_len : (c : goal.After-absorb-arg-3-1) → length c.deref.result.now ≡ c.self.inside.vertex_count + 1
followers_len c = omega (arith, c.deref.ensures.len, c.join-run.ensures.len, c.self.invariant.places.followers)

pub absorb-requires : goal.absorb-requires
absorb-requires c =
    let a : Inside = c.self.inside in
    record {
      places = omega (arith, followers_len c, c.self.invariant.places.partition);
      core = omega (arith, followers_len c, c.join-run.ensures.core, core_low a _ c.args.circuit.now c.self.invariant c.self.view_is c.requires);
      largest = subst (λ x. (placement_of a.partition).top ((placement_of a.partition).set x) < length a.duals.values) (sym c.join-run.ensures.core)
          (top_low a _ c.args.circuit.now c.self.invariant c.self.view_is c.requires (length a.duals.values) (omega (arith, c.self.invariant.family.duals.one_each)));
      within = runs_then a _ c.args.circuit.now c.self.invariant c.self.view_is c.requires c.insert_reserved-key.new.self c.deref.result.now _ c.insert_reserved-key.result
          (more c) (followers_len c);
      nodes = nodes_within a _ c.args.circuit.now c.self.invariant c.self.view_is c.requires _ (omega (arith, c.self.invariant.family.duals.one_each));
    }

pub rest_each-requires : goal.rest_each-requires
rest_each-requires c = nodes_within c.self.inside _ c.args.circuit.now c.self.invariant c.self.view_is c.requires _ (omega (arith, c.self.invariant.family.duals.one_each))

pub put-requires-clause-place : goal.put-requires-clause-place
put-requires-clause-place c =
    let key = c.insert_reserved-key.ensures in
    omega (arith, key.key_in_range, key.capacity, c.self.invariant.room, c.self.invariant.family.duals.one_each, ap length c.rest_each.ensures.values)

pub put_first-requires : goal.put_first-requires
put_first-requires c =
    let key = c.insert_reserved-key.ensures in
    record {
      older = omega (arith, key.key_in_range, key.capacity, c.self.invariant.room, c.self.invariant.places.older);
      newer = omega (arith, key.key_in_range, key.capacity, c.self.invariant.room, c.self.invariant.places.newer);
      next = omega (arith, newest_within c.self.inside _ c.args.circuit.now c.self.invariant c.self.view_is c.requires);
    }

abbrev after : goal.After-new → Inside
after c = record {
  vertex_count = c.self.inside.vertex_count;
  duals = c.put.new.self;
  partition = c.absorb.new.partition;
  parents = c.set_entry.new.table;
  nexts = c.thread.new.nexts;
  edges = c.note.new.edges;
  followers = c.join-run.new.followers;
  older = c.put_first.new.older;
  newer = c.put_first.new.newer;
  kept = c.insert_reserved-key.new.self;
}

abbrev node : goal.After-new → ℕ
node c = c.self.inside.vertex_count + 1 + c.insert_reserved-key.result

changes : (c : goal.After-new) → Shrinks c.self.inside (after c) c.args.circuit.now (node c) c.insert_reserved-key.result
changes c =
    let a : Inside = c.self.inside in
    let ring : List Link = c.args.circuit.now in
    let first : c.node_at-first.result ≡ next_node ring 0 = c.node_at-first.ensures in
    record {
      adds = adds a _ ring c.self.invariant c.self.view_is c.requires c.join-run.new.followers.items c.join-run.result c.join-run.ensures.items c.join-run.ensures.head
          c.join-run.ensures.tail c.join-run.ensures.size c.join-run.ensures.core c.insert_reserved-key.new.self _ c.insert_reserved-key.result c.node_at-first.result
          c.insert_reserved-key.ensures.was_vacant c.insert_reserved-key.ensures.updates first refl;
      duals = c.put.ensures.values ∙ ap (λ (ys : List ℤ). slice_set ys (node c) (pos 0)) c.rest_each.ensures.values;
      motions = c.put.ensures.motions ∙ ap (λ (ms : List Label). slice_set ms (node c) Out) c.rest_each.ensures.motions;
      len = c.insert_reserved-key.ensures.len;
      capacity = c.insert_reserved-key.ensures.capacity;
      in_range = c.insert_reserved-key.ensures.key_in_range;
      nexts = c.thread.ensures.items ∙ ap (threaded a.nexts.items ring) first;
      edges = c.note.ensures.edges;
      parents = c.set_entry.ensures.items ∙ ap (λ (t : List ℕ). slice_set t (node c) 0) c.note.ensures.parents;
      partition = c.absorb.ensures.placement
          ∙ ap₂ (λ (fs : List ℕ) (k : ℕ). with_circuit a ring c.insert_reserved-key.new.self fs k (node c)) c.deref.ensures.value c.join-run.ensures.core;
      older = c.put_first.ensures.older;
      newer = c.put_first.ensures.newer;
    }

sound : (c : goal.After-new) → IsSound (after c)
sound c =
    sound_after c.self.inside _ _ _ _ _ _ _ _ _ c.args.circuit.now (node c) c.insert_reserved-key.result c.self.invariant
    (circuit c.self.inside _ c.args.circuit.now c.self.invariant c.self.view_is c.requires) (changes c)

pub invariant_of-self : goal.invariant_of-self
invariant_of-self c = sound c

pub returns : goal.returns
returns c =
    let a : Inside = c.self.inside in
    let ring : List Link = c.args.circuit.now in
    let changed = changes c in
    let seen = circuit a _ ring c.self.invariant c.self.view_is c.requires in
    let key = c.insert_reserved-key in
    let count = ap (λ (f : Family). f.vertex_count) c.self.view_is in
    record {
      fresh = ap₂ (λ (f : Family) (x : ℕ). is_node f.vertex_count f.blossoms x) (sym c.self.view_is) c.new.ensures
          ∙ fresh a _ _ _ _ _ _ _ _ _ ring (node c) key.result c.self.invariant seen changed;
      above = omega (arith, count, c.new.ensures);
      within = omega (arith, count, c.new.ensures, key.ensures.key_in_range, key.ensures.capacity, c.self.invariant.room);
      family = ap (λ (bs : List Blossom). record { vertex_count = a.vertex_count; duals = c.put.new.self.values; motions = c.put.new.self.motions; blossoms = bs })
          (blossoms_after a _ _ _ _ _ _ _ _ _ ring (node c) key.result c.self.invariant seen changed)
          ∙ ap₂ (λ (ys : List ℤ) (ms : List Label).
          record { vertex_count = a.vertex_count; duals = ys; motions = ms; blossoms = made_of (blossoms_of a) ring (node c) ∷ blossoms_of a }) changed.duals changed.motions
          ∙ ap₂ (λ (f : Family) (x : ℕ). shrunk f x ring) c.self.view_is (sym c.new.ensures);
      is_family = (sound c).family;
    }
