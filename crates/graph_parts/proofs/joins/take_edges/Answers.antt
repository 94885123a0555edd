use Rattle.graph_theory.proofs.Common.{◌≡◌, ◌∙◌, ℕ, List, Bool, false, length, arith, ap, subst, sym, with_items_is}
use Rattle.graph_parts.specs.Marks.{is_marked}
use Rattle.graph_parts.specs.Flags.{IsBalanced}
use Rattle.graph_parts.proofs.FlagLemmas.{one_if, balanced-start}
use Rattle.graph_parts.proofs.joins.take_edges.Goals as goal

pub returns-clause-taken : goal.returns-clause-taken
returns-clause-taken c =
    let long : length c.carry_all.new.taken ≡ c.in_ok-taken.taken.len = omega arith in
    ap length (with_items_is c.in_ok-taken.taken c.carry_all.new.taken long) ∙ c.carry_all.ensures.taken

pub returns-clause-balanced : goal.returns-clause-balanced
returns-clause-balanced c =
    let odd : ℕ → ℕ = λ v. one_if (is_marked c.args.flags.now v) in
    let new = c.carry_all.new.taken in
    let none : (e : ℕ) → is_marked c.deref_mut.result.now e ≡ false = λ e. ap (λ (m : List Bool). is_marked m e) c.deref_mut.ensures.value ∙ c.in_ok-taken.ensures.none e in
    let long : length new ≡ c.in_ok-taken.taken.len = omega arith in
    let B : List Bool → Type 0 = λ m. IsBalanced c.args.graph.now odd m c.carry_all.new.flags in
    subst B (sym (with_items_is c.in_ok-taken.taken new long)) (c.carry_all.ensures.balanced odd (balanced-start c.args.graph.now c.deref_mut.result.now c.args.flags.now none))
