use Rattle.alt_forest.proofs.Common.{◌≡◌, ◌∙◌, ℤ, pos, ◌+ℤ◌, ◌≤ℤ◌, sym, ap, ap₂, subst, rules, to_z, of_z, w64, NUMBER_LIMIT, state_of}
use Rattle.alt_forest.proofs.Common.{HasShape, IsPlanted, IsSound}
use Rattle.alt_forest.specs.declared.search.Search.{Search}
use Rattle.dual_change.specs.Changes.{applied, IsWithin, StaysInRange}
use Rattle.dual_change.proofs.Raised.{with_duals}
use Rattle.dual_change.proofs.Clock.{tree_nodes_later}
use Rattle.dual_change.proofs.raise.raise.Goals as goal

pub later-clock-requires : goal.later-clock-requires
later-clock-requires g c =
    let s : Search = c.args.search.now in
    let start : to_z w64 (of_z w64 s.clock) ≡ s.clock = search rules in
    let d : to_z w64 (of_z w64 c.narrowed-d.result) ≡ c.args.d = search (rules, c.narrowed-d.ensures) in
    let change = subst (λ (x : ℤ). pos 0 ≤ℤ x) (sym d) c.requires.low in
    let high = subst (λ (x : ℤ). x ≤ℤ NUMBER_LIMIT) (sym (ap₂ ◌+ℤ◌ start d)) c.requires.clock in
    record { low = subst (λ (x : ℤ). pos 0 ≤ℤ x) (sym start) c.requires.start; change = change; high = high }

pub raise_trees-requires : goal.raise_trees-requires
raise_trees-requires g c =
    let s = state_of c.args.search.now in
    let d : to_z w64 (of_z w64 c.narrowed-d.result) ≡ c.args.d = search (rules, c.narrowed-d.ensures) in
    let r = c.requires in let within = subst (IsWithin s) (sym d) r.within in
    let low = subst (λ (x : ℤ). pos 0 ≤ℤ x) (sym d) r.low in
    record { sound = r.sound; listed = r.listed; all_rooted = r.all_rooted; low = low; within = within; in_range = subst (StaysInRange s) (sym d) r.in_range }

pub returns : goal.returns
returns g c =
    let s : Search = c.args.search.now in let t : Search = c.raise_trees.new.search in
    let start : to_z w64 (of_z w64 s.clock) ≡ s.clock = search rules in
    let d : to_z w64 (of_z w64 c.narrowed-d.result) ≡ c.args.d = search (rules, c.narrowed-d.ensures) in
    let back : to_z w64 (of_z w64 c.later-clock.result) ≡ c.later-clock.result = search rules in
    let now : Search = record t { clock = to_z w64 (of_z w64 c.later-clock.result) } in
    let rest = ap (λ (y : Search). let z : Search = record y { clock = to_z w64 (of_z w64 c.later-clock.result) } in z) c.raise_trees.ensures.frame
    ∙ ap (λ (y : ℤ). let z : Search = record (with_duals s t.arena.duals) { clock = y } in z) (back ∙ c.later-clock.ensures ∙ ap₂ ◌+ℤ◌ start d) in
    let state : state_of t ≡ applied (state_of s) c.args.d = c.raise_trees.ensures.state ∙ ap (applied (state_of s)) d in
    let h = c.raise_trees.ensures.sound in let k = h.shape in
    let shape : HasShape now = record { graph = k.graph; family = k.family; arena = k.arena; labels = k.labels; parents = k.parents; mates = k.mates; circuit = k.circuit; room = k.room } in
    let sound : IsSound now = record { shape = shape; depth = h.depth; state = h.state } in
    let tree_nodes = tree_nodes_later s now c.args.d rest state c.requires.listed in
    record { state = state; frame = rest; sound = sound; listed = tree_nodes; all_rooted = subst IsPlanted (sym state) c.requires.all_rooted; step = c.tick.ensures }
