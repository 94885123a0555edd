use Rattle.graph_theory.proofs.Common.{◌≡◌, ◌++◌, pos, [], ◌∷◌, length, map, rules}
use Rattle.array_call.specs.Layout.{lists, set_list}
use Rattle.array_call.specs.Laid.{HasItemsOf}
use Rattle.array_call.proofs.Layouts.{laid-whole}
use Rattle.array_call.proofs.laying.items_of.Goals as goal

laid : (c : goal.In_ok-push) → HasItemsOf (lists c.args.sets.now c.args.paths.now) c.push_paths.new.items
laid c =
    let none : HasItemsOf [] (record { offsets = c.new.result; all = c.new-2.result }) = record { offsets = c.new.ensures.items; all = c.new-2.ensures.items } in
    c.in_ok-push_paths.ensures (map set_list c.args.sets.now) (c.in_ok-push_sets.ensures [] none)

pub returns-clause-offsets : goal.returns-clause-offsets
returns-clause-offsets c =
    let whole : c.push.new.self.items ≡ c.push_paths.new.items.offsets.items ++ pos (length c.push_paths.new.items.all.items) ∷ [] = search rules in
    laid-whole (lists c.args.sets.now c.args.paths.now) c.push_paths.new.items c.push.new.self.items (laid c) whole

pub returns-clause-all : goal.returns-clause-all
returns-clause-all c = (laid c).all
