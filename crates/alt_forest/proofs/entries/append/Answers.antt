use Rattle.graph_theory.proofs.Common.{length, ap, length-append, arith, List, ℕ, sym, append-nil, append_assoc, ◌++◌, ◌∷◌, [], ◌∙◌}
use Rattle.alt_forest.proofs.entries.append.Goals as goal

pub push_reserved-requires : goal.push_reserved-requires
push_reserved-requires c = omega (arith, simp length-append at (ap length c.loop-v.invariant.items), ap length c.in-Some.ensures.steps, c.requires, c.loop-v.invariant.capacity)

pub returns-clause-items : goal.returns-clause-items
returns-clause-items c =
    let list : List ℕ = c.loop-v.list.items in
    sym (append-nil list) ∙ ap (λ (xs : List ℕ). list ++ xs) (sym c.in-None.ensures.steps.0) ∙ c.loop-v.invariant.items

pub loop-v-preserved : goal.loop-v-preserved
loop-v-preserved c =
    let i = c.loop-v.invariant in let list : List ℕ = c.loop-v.list.items in
    let pushed = ap (λ (xs : List ℕ). xs ++ c.next.new.self) c.push_reserved.ensures.items ∙ append_assoc list (c.in-Some.v ∷ []) c.next.new.self in
    record { items = pushed ∙ ap (λ (xs : List ℕ). list ++ xs) (sym c.in-Some.ensures.steps) ∙ i.items; capacity = c.push_reserved.ensures.capacity ∙ i.capacity }
