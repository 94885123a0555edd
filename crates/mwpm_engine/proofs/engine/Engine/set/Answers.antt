use Rattle.alt_forest.proofs.Common.{◌≡◌, ◌∙◌, ◌<◌, ℕ, ℤ, List, true, length, sym, ap, subst, arith, rules, to_z, of_z, w64, get_or, get_or_read, length-map}
use Rattle.alt_forest.proofs.Common.{All-from_recursion, DualSet, set_at, AllByRecursion, Blossom, is_node}
use Rattle.alt_forest.specs.declared.search.Search.{Search}
use Rattle.mwpm_engine.specs.Solutions.{Solution}
use Rattle.mwpm_engine.specs.Solving.{sets_at}
use Rattle.mwpm_engine.proofs.CertificateSets.{set_of, set_at_place}
use Rattle.mwpm_engine.proofs.engine.Engine.set.Goals as goal

-- as many nodes are listed as sets
place : (ys : List ℤ) (bs : List Blossom) (nodes : List ℕ) (sets : List DualSet) (i : ℕ) → sets_at ys bs nodes ≡ sets → i < length sets → i < length nodes
place ys bs nodes sets i same low = omega (arith, ap length same, length-map nodes (set_of ys bs), low)

-- a listed node is one of the search
listed : (s : Search) (nodes : List ℕ) (i node : ℕ) → s.arena.vertex_count ≡ s.graph.vertices → AllByRecursion (λ b. is_node s.graph.vertices s.arena.blossoms b ≡ true) nodes
    → i < length nodes → node ≡ get_or nodes i node → is_node s.arena.vertex_count s.arena.blossoms node ≡ true
listed s nodes i node size each low at =
    let is : ℕ → Type 0 = λ b. is_node s.graph.vertices s.arena.blossoms b ≡ true in
    subst (λ n. is_node n s.arena.blossoms node ≡ true) (sym size) (subst is (sym at) (All-from_recursion is nodes each i node low))

pub index-node-requires : goal.index-node-requires
index-node-requires c = omega (arith, place _ _ c.self.inside.sets.items _ c.args.i (ap (λ (t : Solution). t.sets) c.self.view_is) c.requires.i, c.self.inside.sets.ok.0)

pub dual-requires : goal.dual-requires
dual-requires c = listed c.self.inside.search _ c.args.i _ c.self.invariant.shape.arena c.self.invariant.nodes
    (place _ _ _ _ c.args.i (ap (λ (t : Solution). t.sets) c.self.view_is) c.requires.i) c.index-node.ensures

pub members-requires : goal.members-requires
members-requires c = listed c.self.inside.search _ c.args.i _ c.self.invariant.shape.arena c.self.invariant.nodes
    (place _ _ _ _ c.args.i (ap (λ (t : Solution). t.sets) c.self.view_is) c.requires.i) c.index-node.ensures

pub returns : goal.returns
returns c =
    let s = c.self.inside.search in let nodes = c.self.inside.sets.items in
    let low : c.args.i < length nodes = place s.arena.duals s.arena.blossoms nodes _ c.args.i (ap (λ (t : Solution). t.sets) c.self.view_is) c.requires.i in
    let at = get_or_read nodes c.args.i c.index-node.result.now low c.index-node.ensures 0 in
    let back : to_z w64 (of_z w64 c.dual.result) ≡ c.dual.result = search rules in
    let is = ap (set_of s.arena.duals s.arena.blossoms) at ∙ sym (set_at_place s.arena.duals s.arena.blossoms nodes c.args.i low) in
    record {
      dual = back ∙ c.dual.ensures.dual ∙ ap (λ (t : DualSet). t.dual) is ∙ ap (λ (t : Solution). (set_at t.sets c.args.i).dual) c.self.view_is;
      members = c.members.ensures.members ∙ ap (λ (t : DualSet). t.members) is ∙ ap (λ (t : Solution). (set_at t.sets c.args.i).members) c.self.view_is;
    }
