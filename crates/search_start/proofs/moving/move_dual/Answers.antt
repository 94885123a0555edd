use Rattle.alt_forest.proofs.Common.{◌≡◌, ◌∙◌, ◌+ℤ◌, sym, ap, subst, rules, to_z, of_z, w128, IsNumber, Family, dual_at, raised, exposed_count, state_of}
use Rattle.search_start.proofs.StartDuals.{raised_number}
use Rattle.search_start.proofs.StartSearch.{raised_sound, raised_begins, raised_duals}
use Rattle.search_start.proofs.moving.move_dual.Goals as goal

family : (c : goal.After-add_dual) → c.add_dual.new.self ≡ raised c.args.search.now.arena c.args.v c.args.d
family c =
    let back : to_z w128 (of_z w128 c.from.result) ≡ c.args.d = search rules in
    c.add_dual.ensures.family ∙ ap (λ x. raised c.args.search.now.arena x (to_z w128 (of_z w128 c.from.result))) (c.new.ensures ∙ c.number.ensures)
    ∙ ap (raised c.args.search.now.arena c.args.v) back

pub add_dual-requires-clause-in_range : goal.add_dual-requires-clause-in_range
add_dual-requires-clause-in_range c =
    let s = c.args.search.now in let back : to_z w128 (of_z w128 c.from.result) ≡ c.args.d = search rules in
    subst (λ a. IsNumber (dual_at s.arena.duals a +ℤ to_z w128 (of_z w128 c.from.result))) (sym (c.new.ensures ∙ c.number.ensures))
    (subst (λ x. IsNumber (dual_at s.arena.duals c.args.v +ℤ x)) (sym back) (raised_number (state_of s) s.start c.args.v c.args.d c.requires.vertex c.requires.possible c.requires.started))

pub returns-clause-sound : goal.returns-clause-sound
returns-clause-sound c = raised_sound c.args.search.now c.add_dual.new.self c.args.v c.args.d
    (family c) c.requires.sound c.requires.vertex c.requires.started c.requires.possible c.add_dual.ensures.is_family

pub returns-clause-started : goal.returns-clause-started
returns-clause-started c = raised_begins c.args.search.now c.add_dual.new.self c.args.v c.args.d (family c) c.requires.sound c.requires.vertex c.requires.started c.requires.possible

pub returns-clause-duals : goal.returns-clause-duals
returns-clause-duals c = raised_duals c.args.search.now c.add_dual.new.self c.args.v c.args.d (family c) c.requires.sound c.requires.vertex

pub returns-clause-exposed : goal.returns-clause-exposed
returns-clause-exposed c = ap (λ (f : Family). exposed_count (state_of (record c.args.search.now { arena = f }))) (family c)
