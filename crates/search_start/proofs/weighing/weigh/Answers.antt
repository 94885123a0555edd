use Rattle.alt_forest.proofs.Common.{◌≡◌, ◌∙◌, ℕ, ◌<◌, ℤ, pos, true, sym, ap, subst, arith, ints, rules, to_z, of_z, w64, IsEdgeNumber, IsGraph, edge_of, holds, is_vertex, names_of}
use Rattle.alt_forest.proofs.Common.{dual_at, doubled, name_is_node, name_range, nested_of, slack_of, state_of, vertex_is_node, HasShape, IsSound}
use Rattle.blossom_arena.specs.Family.{Family, IsFamily, is_node}
use Rattle.alt_forest.specs.declared.search.Search.{Search}
use Rattle.alt_forest.specs.declared.weights.Weights.TheVariants.{Given, Zero}
use Rattle.alt_forest.specs.Searches.{is_given}
use Rattle.search_start.specs.Weights.{AllWeigh}
use Rattle.search_start.proofs.Weighed.{IsLevel, level_slack, level_state}
use Rattle.search_start.proofs.weighing.weigh.Goals as goal

-- the blossoms' duals are as before
blossoms_still : (s : Search) (f : Family) → HasShape s → ((a : ℕ) → is_node s.graph.vertices s.arena.blossoms a ≡ true → dual_at s.arena.duals a ≡ pos 0)
    → ((a : ℕ) → s.arena.vertex_count < a → dual_at f.duals a ≡ dual_at s.arena.duals a) → (b : ℕ) → holds (names_of s.arena.blossoms) b ≡ true → dual_at f.duals b ≡ pos 0
blossoms_still s f h zero others b name =
    let above = name_range s.graph.vertices s.arena.blossoms b (nested_of s h) name in
    others b (omega (arith, h.arena, above.0)) ∙ zero b (name_is_node s.graph.vertices s.arena.blossoms b name)

-- the search with other duals, the weights of its graph, and a start
abbrev given_as : Search → Family → ℤ → Search
given_as s f x = record s { arena = f; weights = Given; start = x }

level_before : (s : Search) → s.weights ≡ Zero → ((a : ℕ) → is_node s.graph.vertices s.arena.blossoms a ≡ true → dual_at s.arena.duals a ≡ pos 0) → IsLevel (state_of s) (pos 0)
level_before s zero duals = record {
  counts = λ e is. ap (λ w. doubled s.graph (is_given w) e) zero;
  vertices = λ v is. duals v (vertex_is_node s.graph.vertices s.arena.blossoms v is);
  blossoms = λ b name. duals b (name_is_node s.graph.vertices s.arena.blossoms b name);
}

level_after : (s : Search) (f : Family) (w x : ℤ) → f ≡ record s.arena { duals = f.duals } → AllWeigh s.graph w → ((v : ℕ) → is_vertex s.graph.vertices v ≡ true → dual_at f.duals v ≡ w)
    → ((b : ℕ) → holds (names_of s.arena.blossoms) b ≡ true → dual_at f.duals b ≡ pos 0) → IsLevel (state_of (given_as s (record s.arena { duals = f.duals }) x)) w
level_after s f w x rest alike vertices blossoms = record {
  counts = λ e is. let each : (edge_of s.graph e).w ≡ w = alike e is in omega (arith, ints, each);
  vertices = vertices;
  blossoms = blossoms;
}

slacks_still : (s : Search) (f : Family) (w x : ℤ) → f ≡ record s.arena { duals = f.duals } → IsGraph s.graph → IsLevel (state_of s) (pos 0)
    → IsLevel (state_of (given_as s (record s.arena { duals = f.duals }) x)) w → (e : ℕ) → IsEdgeNumber s.graph e → slack_of (state_of (given_as s f x)) e ≡ slack_of (state_of s) e
slacks_still s f w x rest graph before after e is = subst (λ k. slack_of (state_of (given_as s k x)) e ≡ slack_of (state_of s) e) (sym rest)
    (level_slack (state_of (given_as s (record s.arena { duals = f.duals }) x)) w e graph after is ∙ sym (level_slack (state_of s) (pos 0) e graph before is))

sound_still : (s : Search) (f : Family) (w x : ℤ) → f ≡ record s.arena { duals = f.duals } → IsFamily f → IsLevel (state_of s) (pos 0)
    → IsLevel (state_of (given_as s (record s.arena { duals = f.duals }) x)) w → IsSound s → IsSound (given_as s f x)
sound_still s f w x rest good before after h = subst (λ k. IsSound (given_as s k x)) (sym rest) (record {
  shape = record {
    graph = h.shape.graph;
    family = subst IsFamily rest good;
    arena = h.shape.arena;
    labels = h.shape.labels;
    parents = h.shape.parents;
    mates = h.shape.mates;
    circuit = h.shape.circuit;
    room = h.shape.room;
  };
  depth = h.depth;
  state = level_state (state_of s) true (dual_at f.duals) w h.shape.graph.graph (λ e is. level_slack (state_of s) (pos 0) e h.shape.graph.graph before is) after h.depth h.state;
})

pub returns-clause-blossoms : goal.returns-clause-blossoms
returns-clause-blossoms c = blossoms_still c.args.search.now c.raise_vertices.new.arena c.requires.sound.shape c.requires.duals c.raise_vertices.ensures.others

pub returns-clause-slacks : goal.returns-clause-slacks
returns-clause-slacks c =
    let s : Search = c.args.search.now in let f : Family = c.raise_vertices.new.arena in let r = c.raise_vertices.ensures in let h = c.requires.sound.shape in
    let back : to_z w64 (of_z w64 c.args.weight) ≡ c.args.weight = search rules in
    let vertices : (v : ℕ) → is_vertex s.graph.vertices v ≡ true → dual_at f.duals v ≡ c.args.weight = λ v is. r.vertices v (ap (λ n. is_vertex n v) h.arena ∙ is) ∙ back in
    slacks_still s f c.args.weight (to_z w64 (of_z w64 c.args.weight)) r.frame h.graph.graph (level_before s c.requires.zero c.requires.duals)
    (level_after s f c.args.weight (to_z w64 (of_z w64 c.args.weight)) r.frame c.requires.alike vertices (blossoms_still s f h c.requires.duals r.others))

pub returns-clause-sound : goal.returns-clause-sound
returns-clause-sound c =
    let s : Search = c.args.search.now in let f : Family = c.raise_vertices.new.arena in let r = c.raise_vertices.ensures in let h = c.requires.sound.shape in
    let back : to_z w64 (of_z w64 c.args.weight) ≡ c.args.weight = search rules in
    let vertices : (v : ℕ) → is_vertex s.graph.vertices v ≡ true → dual_at f.duals v ≡ c.args.weight = λ v is. r.vertices v (ap (λ n. is_vertex n v) h.arena ∙ is) ∙ back in
    sound_still s f c.args.weight (to_z w64 (of_z w64 c.args.weight)) r.frame r.is_family (level_before s c.requires.zero c.requires.duals)
    (level_after s f c.args.weight (to_z w64 (of_z w64 c.args.weight)) r.frame c.requires.alike vertices (blossoms_still s f h c.requires.duals r.others)) c.requires.sound
