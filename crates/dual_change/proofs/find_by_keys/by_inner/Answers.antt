use Rattle.alt_forest.proofs.Common.{◌∙◌, ◌+ℤ◌, sym, state_of}
use Rattle.alt_forest.specs.declared.search.Search.{Search}
use Rattle.dual_change.proofs.Due.{due}
use Rattle.dual_change.proofs.find_by_keys.by_inner.Goals as goal

pub returns-else-not-comes-clause-comes : goal.returns-else-not-comes-clause-comes
returns-else-not-comes-clause-comes c = λ m has.
    let s : Search = c.args.search.now in
    c.by_blossom-next.ensures.comes m (λ name is lab. due m (s.clock +ℤ (state_of s).dual c.args.node) (sym has ∙ c.requires.vertex_keys.blossoms c.args.node name is lab))
