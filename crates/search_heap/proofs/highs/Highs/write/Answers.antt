use Rattle.std.proofs.Common.{subst, rules, set, ◌≡◌, ◌∙◌, sym, ap, pos, List, length, to_z, ℤ, w64, arith, of_z}
use Rattle.std.proofs.lemmas.Int.{to_z-of_z}
use Rattle.std.proofs.lemmas.List.{length-set}
use Rattle.search_heap.proofs.Fillings.{filled_size}
use Rattle.search_heap.proofs.Zeros.{zero_written}
use Rattle.search_heap.proofs.highs.Highs.write.Goals as goal

pub returns-then-is_empty : goal.returns-then-is_empty
returns-then-is_empty c =
    let zero : c.args.high ≡ pos 0 = sym (to_z-of_z w64 c.args.high c.ranges.high) ∙ ap (to_z w64) c.if-high-eq0.true in
    subst (λ (xs : List ℤ). xs ≡ set xs c.args.slot c.args.high) c.self.view_is
    (zero_written c.self.inside.slots c.self.inside.table.items c.args.slot c.args.high (search rules) zero)

pub invariant_of-self : goal.invariant_of-self
invariant_of-self c =
    let size : length c.fill_up.new.table.items ≡ c.self.inside.slots =
    ap length c.fill_up.ensures ∙ filled_size c.self.inside.slots (pos 0) c.self.inside.table.items c.self.invariant.whole in
    let long : length (set c.fill_up.new.table.items c.args.slot (to_z w64 (of_z w64 c.args.high))) ≡ c.self.inside.slots = length-set _ _ _ ∙ size in
    record { whole = λ some. long; room = λ none. omega (arith, none, long) }
