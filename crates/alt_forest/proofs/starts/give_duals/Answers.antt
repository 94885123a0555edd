use Rattle.graph_theory.proofs.Common.{◌≡◌, ◌∙◌, ℤ, pos, ◌+ℤ◌, refl, sym, ap, subst, arith, ints, rules, to_z, of_z, w128, IsNumber, IsWeight}
use Rattle.blossom_arena.specs.Family.{Family, dual_at}
use Rattle.alt_forest.proofs.Fresh.{same_entry}
use Rattle.alt_forest.proofs.starts.give_duals.Goals as goal

raised_number : (x d : ℤ) → x ≡ pos 0 → IsWeight d → IsNumber (x +ℤ d)
raised_number x d none is = (omega (arith, ints, none, is.0), omega (arith, ints, none, is.1))

pub add_dual-requires-clause-in_range : goal.add_dual-requires-clause-in_range
add_dual-requires-clause-in_range c =
    let back : to_z w128 (of_z w128 c.from.result) ≡ c.args.start = search rules in
    raised_number _ _ (c.loop-number.invariant.frame c.new.result (omega (arith, c.new.ensures))) (subst IsWeight (sym back) c.requires.start)

pub loop-number-init : goal.loop-number-init
loop-number-init c = record {
  count = refl;
  blossoms = ap (λ (f : Family). f.blossoms) c.requires.empty;
  is_family = c.vertex_count-number-end.ensures.is_family;
  done = λ v low high. absurd (omega (arith, low, high));
  frame = λ v after. ap (λ (f : Family). dual_at f.duals v) c.requires.empty ∙ same_entry _ v (pos 0);
}
