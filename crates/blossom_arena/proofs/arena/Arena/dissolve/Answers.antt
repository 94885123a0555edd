use Rattle.graph_theory.proofs.Common.{◌≡◌, ◌∙◌, ℕ, ◌<◌, ◌+◌, List, true, false, sym, ap, ap₂, subst, length, arith, ℤ, slice_set, vec_len, AllByRecursion}
use Rattle.graph_theory.proofs.Common.{most_blossoms}
use Rattle.slab.specs.Slab.{Slab}
use Rattle.blossom_arena.specs.declared.links.Link.{Link}
use Rattle.blossom_arena.specs.declared.runs.Kept.{Kept}
use Rattle.blossom_arena.specs.declared.arena.Arena.TheInside.{Inside}
use Rattle.blossom_arena.specs.Tables.{filled}
use Rattle.blossom_arena.specs.Family.{Blossom, Family, nodes_of, ring_of, is_child, is_outermost, dissolved, dual_at}
use Rattle.blossom_arena.specs.declared.label.Label.{Label}
use Rattle.blossom_arena.specs.Moving.{DualTable}
use Rattle.blossom_arena.specs.Fields.{blossoms_of, family_of, kept_or_none, order_of, run_of, vertices_of, IsSound}
use Rattle.blossom_arena.proofs.Nested.{outermost_parts}
use Rattle.blossom_arena.proofs.Stays.{each_some}
use Rattle.blossom_arena.proofs.Dissolved.{Dissolves, blossoms_after, sound_after, without_ring}
use Rattle.blossom_arena.proofs.Undone.{neighbours, walk_kept, ring_kept, children_within, core_low, runs_within, there, range}
use Rattle.blossom_arena.proofs.arena.Arena.dissolve.Goals as goal

-- the node is in no ring
is_free : (a : Inside) (f : Family) (b x : ℕ) → family_of a ≡ f → is_outermost f.vertex_count f.blossoms b ≡ true → x ≡ b → is_child (blossoms_of a) x ≡ false
is_free a f b x view outer same = ap₂ (λ (g : Family) (y : ℕ). is_child g.blossoms y) view same ∙ (outermost_parts f.vertex_count f.blossoms b outer).1

pub overflow_sub-node : goal.overflow_sub-node
overflow_sub-node c = omega (arith, (range c.self.inside _ c.args.b c.number-node.result c.self.invariant c.self.view_is c.requires.blossom c.number-node.ensures).0)

pub remove-kept-requires : goal.remove-kept-requires
remove-kept-requires c =
    each_some c.self.inside.vertex_count c.self.inside.kept (order_of c.self.inside) c.number-node.result c.self.invariant.kept
    (there c.self.inside _ c.args.b c.number-node.result c.self.invariant c.self.view_is c.requires.blossom c.number-node.ensures)

pub take_out-requires : goal.take_out-requires
take_out-requires c =
    let p = c.self.invariant.places in
    let low = (range c.self.inside _ c.args.b c.number-node.result c.self.invariant c.self.view_is c.requires.blossom c.number-node.ensures).1 in
    let beside = neighbours c.self.inside _ c.args.b c.number-node.result c.self.invariant c.self.view_is c.requires.blossom c.number-node.ensures in
    record { older = omega (arith, low, p.older); newer = omega (arith, low, p.newer); next = omega (arith, beside.0, p.newer); before = omega (arith, beside.1, p.older) }

pub of-requires : goal.of-requires
of-requires c =
    walk_kept c.self.inside _ c.args.b c.number-node.result c.self.invariant c.self.view_is c.requires.blossom c.number-node.ensures
    c.remove-kept.result (ap kept_or_none c.remove-kept.ensures.value) c.deref.result.now c.deref-2.result.now c.deref.ensures.value c.deref-2.ensures.value

-- the ring that is read
ring : (c : goal.After-release-arg-4-1) → c.of.result ≡ ring_of (blossoms_of c.self.inside) c.number-node.result
ring c =
    c.of.ensures ∙ ring_kept c.self.inside _ c.args.b c.number-node.result c.self.invariant c.self.view_is c.requires.blossom c.number-node.ensures
    c.remove-kept.result (ap kept_or_none c.remove-kept.ensures.value) c.deref.result.now c.deref-2.result.now c.deref.ensures.value c.deref-2.ensures.value

pub release-requires : goal.release-requires
release-requires c =
    let a : Inside = c.self.inside in
    let node : ℕ = c.number-node.result in
    let f = c.deref-3.result.now in
    let within = children_within a _ c.args.b node c.self.invariant c.self.view_is c.requires.blossom c.number-node.ensures in
    let enough : a.vertex_count + most_blossoms a.vertex_count < vec_len a.parents = omega (arith, c.self.invariant.places.parents) in
    let count : length f ≡ a.vertex_count + 1 = ap length c.deref-3.ensures.value ∙ c.self.invariant.places.followers in
    let core = ap (λ o. (kept_or_none o).run.core) c.remove-kept.ensures.value in
    record {
      within = subst (λ (ls : List Link). AllByRecursion (λ (l : Link). AllByRecursion (λ v. v < length f) (vertices_of f (run_of a.vertex_count c.remove-kept.new.self l.node))
          × ((run_of a.vertex_count c.remove-kept.new.self l.node).core < length f)) ls) (sym (ring c))
          (runs_within a _ c.args.b node c.self.invariant c.self.view_is c.requires.blossom c.number-node.ensures
          c.remove-kept.new.self f (is_free a _ c.args.b node c.self.view_is c.requires.outermost c.number-node.ensures) c.remove-kept.ensures.updates c.deref-3.ensures.value);
      nodes = subst (λ (ls : List Link). AllByRecursion (λ (l : Link). l.node < length a.duals.values) ls) (sym (ring c))
          (within (length a.duals.values) (omega (arith, c.self.invariant.family.duals.one_each)));
      parents = subst (λ (ls : List Link). AllByRecursion (λ (l : Link). l.node < vec_len a.parents) ls) (sym (ring c)) (within (vec_len a.parents) enough);
      places = omega (arith, c.self.invariant.places.partition, count);
      core = omega (arith, core_low a _ c.args.b node c.self.invariant c.self.view_is c.requires.blossom c.number-node.ensures, core, count);
      some = omega (arith, c.self.invariant.family.duals.one_each);
    }

pub set_entry-requires : goal.set_entry-requires
set_entry-requires c =
    let low = (range c.self.inside _ c.args.b c.number-node.result c.self.invariant c.self.view_is c.requires.blossom c.number-node.ensures).1 in
    omega (arith, low, c.release.ensures.parents_len, c.self.invariant.places.parents)

pub move_as-requires : goal.move_as-requires
move_as-requires c =
    omega (arith, (range c.self.inside _ c.args.b c.number-node.result c.self.invariant c.self.view_is c.requires.blossom c.number-node.ensures).1, c.self.invariant.family.duals.one_each)

abbrev after : goal.After-move_as → Inside
after c = record {
  vertex_count = c.self.inside.vertex_count;
  duals = c.move_as.new.self;
  partition = c.release.new.partition;
  parents = c.set_entry.new.table;
  nexts = c.self.inside.nexts;
  edges = c.self.inside.edges;
  followers = c.self.inside.followers;
  older = c.take_out.new.older;
  newer = c.take_out.new.newer;
  kept = c.remove-kept.new.self;
}

changes : (c : goal.After-move_as) → Dissolves c.self.inside (after c) c.number-node.result
changes c =
    let a : Inside = c.self.inside in
    let node : ℕ = c.number-node.result in
    let kept : Slab Kept = c.remove-kept.new.self in
    let is : c.of.result ≡ ring_of (blossoms_of a) node =
    c.of.ensures ∙ ring_kept a _ c.args.b node c.self.invariant c.self.view_is c.requires.blossom c.number-node.ensures
    c.remove-kept.result (ap kept_or_none c.remove-kept.ensures.value) c.deref.result.now c.deref-2.result.now c.deref.ensures.value c.deref-2.ensures.value in
    record {
      updates = c.remove-kept.ensures.updates;
      len = c.remove-kept.ensures.len;
      capacity = c.remove-kept.ensures.capacity;
      older = c.take_out.ensures.older;
      newer = c.take_out.ensures.newer;
      parents = c.set_entry.ensures.items ∙ ap (λ (t : List ℕ). slice_set t node 1) (c.release.ensures.parents ∙ ap (λ (ls : List Link). filled a.parents.items (nodes_of ls) 0) is);
      partition = c.release.ensures.placement
          ∙ ap₂ (λ (fs : List ℕ) (ls : List Link). without_ring a kept fs ls c.remove-kept.result.run.core) c.deref-3.ensures.value is
          ∙ ap (without_ring a kept a.followers.items (ring_of (blossoms_of a) node)) (sym (ap (λ o. (kept_or_none o).run.core) c.remove-kept.ensures.value));
      none = ap₂ (λ (f : Family) (x : ℕ). dual_at f.duals x) c.self.view_is c.number-node.ensures ∙ c.requires.dual;
      duals = ap₂ (λ (ys : List ℤ) (ms : List Label). record { values = ys; motions = ms }) c.move_as.ensures.values c.move_as.ensures.motions;
    }

sound : (c : goal.After-move_as) → IsSound (after c)
sound c =
    sound_after c.self.inside _ _ _ _ _ _ c.number-node.result c.self.invariant
    (there c.self.inside _ c.args.b c.number-node.result c.self.invariant c.self.view_is c.requires.blossom c.number-node.ensures)
    (is_free c.self.inside _ c.args.b c.number-node.result c.self.view_is c.requires.outermost c.number-node.ensures) (changes c)

pub invariant_of-self : goal.invariant_of-self
invariant_of-self c = sound c

pub returns : goal.returns
returns c =
    let a : Inside = c.self.inside in
    record {
      family = ap₂ (λ (t : DualTable) (bs : List Blossom). record { vertex_count = a.vertex_count; duals = t.values; motions = t.motions; blossoms = bs }) (changes c).duals
          (blossoms_after a _ _ _ _ _ _ c.number-node.result c.self.invariant
          (there a _ c.args.b c.number-node.result c.self.invariant c.self.view_is c.requires.blossom c.number-node.ensures)
          (is_free a _ c.args.b c.number-node.result c.self.view_is c.requires.outermost c.number-node.ensures) (changes c))
          ∙ ap₂ (λ (f : Family) (x : ℕ). dissolved f x) c.self.view_is c.number-node.ensures;
      is_family = (sound c).family;
    }
