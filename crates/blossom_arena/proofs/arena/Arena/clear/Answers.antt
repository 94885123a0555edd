use Rattle.graph_theory.proofs.Common.{◌≡◌, ◌∙◌, ℕ, ◌+◌, ap, arith, replicate, subst, vec_len, most_blossoms}
use Rattle.blossom_arena.specs.declared.arena.Arena.TheInside.{Inside}
use Rattle.blossom_arena.specs.Family.{Family, empty_family}
use Rattle.blossom_arena.specs.Moving.{empty_table}
use Rattle.blossom_arena.specs.Placement.{AreAlone, placement_of}
use Rattle.blossom_arena.proofs.Fresh.{IsFresh, fresh_sound, fresh_family}
use Rattle.blossom_arena.proofs.arena.Arena.clear.Goals as goal

abbrev after : goal.After-wipe-3 → Inside
after c = record {
  vertex_count = c.self.inside.vertex_count;
  duals = c.wipe.new.self;
  partition = c.reset.new.self;
  parents = c.bare.new.table;
  nexts = c.self.inside.nexts;
  edges = c.self.inside.edges;
  followers = c.self.inside.followers;
  older = c.wipe-2.new.table;
  newer = c.wipe-3.new.table;
  kept = c.clear.new.self;
}

is_fresh : (c : goal.After-wipe-3) → IsFresh (after c)
is_fresh c =
    let a : Inside = c.self.inside in
    let places : ℕ = a.vertex_count + most_blossoms a.vertex_count + 1 in
    let parents_len : vec_len a.parents ≡ places = omega (arith, c.self.invariant.places.parents) in
    let older_len : vec_len a.older ≡ places = omega (arith, c.self.invariant.places.older) in
    let newer_len : vec_len a.newer ≡ places = omega (arith, c.self.invariant.places.newer) in
    record {
      size_limit = c.self.invariant.family.size_limit;
      slots = c.clear.ensures.empty;
      room = c.clear.ensures.capacity ∙ c.self.invariant.room;
      duals = c.wipe.ensures ∙ ap empty_table c.self.invariant.family.duals.one_each;
      parents_len = omega (arith, c.bare.ensures.len, parents_len);
      parents = λ x high. c.bare.ensures.each x (omega (arith, high, parents_len));
      nexts = c.self.invariant.places.nexts;
      edges = c.self.invariant.places.edges;
      older = c.wipe-2.ensures ∙ ap (λ (k : ℕ). replicate k 0) older_len;
      newer = c.wipe-3.ensures ∙ ap (λ (k : ℕ). replicate k 0) newer_len;
      partition = subst (AreAlone (placement_of c.reset.new.self)) c.self.invariant.places.partition c.reset.ensures;
      followers = c.self.invariant.places.followers;
    }

pub invariant_of-self : goal.invariant_of-self
invariant_of-self c = fresh_sound (after c) (is_fresh c)

pub returns : goal.returns
returns c =
    let family = fresh_family (after c) (is_fresh c) ∙ ap (λ (f : Family). empty_family f.vertex_count) c.self.view_is in
    record { family = family; is_family = (fresh_sound (after c) (is_fresh c)).family }
