use Rattle.graph_theory.proofs.Common.{◌≡◌, ◌∙◌, ℕ, ◌≤◌, true, List, ◌∷◌, length, sym, ap, arith, holds}
use Rattle.blossom_arena.specs.Family.{members_of}
use Rattle.blossom_arena.proofs.Lists.{first_in}
use Rattle.blossom_arena.proofs.Sets.{member_vertex, members_some}
use Rattle.alt_forest.proofs.tree_lists.vertex_within.Goals as goal

-- the first of a list is one of it
first_of : (xs members : List ℕ) (v : ℕ) (rest : List ℕ) → xs ≡ members → xs ≡ v ∷ rest → holds members v ≡ true
first_of xs members v rest same is = ap (λ (l : List ℕ). holds l v) (sym same ∙ is) ∙ first_in v rest

pub unreachable-requires : goal.unreachable-requires
unreachable-requires c =
    let f = c.args.arena.now in
    let some : 1 ≤ length (members_of f.blossoms c.args.node) = members_some f.vertex_count f.blossoms c.args.node c.members.ensures.is_family.nested c.requires.node in
    let none : length (members_of f.blossoms c.args.node) ≡ 0 = ap length (sym c.members.ensures.members) ∙ ap length c.in-None.ensures.steps.0 in
    absurd (omega (arith, some, none))

pub returns-clause-vertex : goal.returns-clause-vertex
returns-clause-vertex c =
    let f = c.args.arena.now in
    member_vertex f.vertex_count f.blossoms c.args.node c.in-Some.v c.members.ensures.is_family.nested c.requires.node
    (first_of c.members.result (members_of f.blossoms c.args.node) c.in-Some.v c.next.new.self c.members.ensures.members c.in-Some.ensures.steps)
