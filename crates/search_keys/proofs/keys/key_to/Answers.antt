use Rattle.alt_forest.proofs.Common.{◌≡◌, ◌∙◌, ℤ, pos, ◌*ℤ◌, ◌-ℤ◌, cond, sym, ap, ap₂, subst, rules, to_z, of_z, w64, is_given, state_of}
use Rattle.alt_forest.proofs.Common.{IsWeight}
use Rattle.search_keys.specs.Bounds.{IsKey}
use Rattle.search_keys.specs.Keys.{IsReach}
use Rattle.search_keys.proofs.keys.key_to.Goals as goal

pub returns-in-Outer : goal.returns-in-Outer
returns-in-Outer c =
    let s = c.args.search.now in let back : to_z w64 (of_z w64 c.key_at.result) ≡ c.key_at.result = search rules in
    let reached : to_z w64 (of_z w64 c.reach_of.result) ≡ c.reach_of.result = search rules in
    let weighs : to_z w64 (of_z w64 c.args.weight) ≡ c.args.weight = search rules in (
      record {
        other = λ p. c.if-number.false (c.number.ensures ∙ c.outermost-other.ensures.node ∙ p ∙ sym c.number-2.ensures);
        outer = ap (state_of s).label (sym c.outermost-other.ensures.node) ∙ sym c.label.ensures.label ∙ c.in-Outer.is;
      },
      back ∙ c.key_at.ensures.key ∙ ap₂ (λ (w r : ℤ). cond (is_given s.weights) (pos 2 *ℤ w) (pos 0) -ℤ r) weighs (reached ∙ c.reach_of.ensures.reach),
      subst IsKey (sym back) c.key_at.ensures.in_range,
    )

pub key_at-requires : goal.key_at-requires
key_at-requires c =
    let reached : to_z w64 (of_z w64 c.reach_of.result) ≡ c.reach_of.result = search rules in
    let weighs : to_z w64 (of_z w64 c.args.weight) ≡ c.args.weight = search rules in
    record { reach = subst IsReach (sym reached) c.reach_of.ensures.in_range; weight = subst IsWeight (sym weighs) c.requires.weight }
