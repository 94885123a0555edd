use Rattle.alt_forest.proofs.Common.{◌≡◌, ◌≢◌, ◌∙◌, ℤ, ◌≤ℤ◌, true, is_some, Option, Some, refl, sym, ap, ap₂, same_Some, rules, to_z, of_z, w64, arith, ints, lt_z}
use Rattle.alt_forest.proofs.Common.{nat_tests}
use Rattle.std.proofs.Common.{true≢false}
use Rattle.search_keys.specs.Bounds.{key_of}
use Rattle.search_keys.proofs.bounds.EventBounds.is_lower.Goals as goal

-- what the test of a key against the one that is kept says
lower_than : (k l h m : ℤ) → lt_z k l ≡ true → l ≡ h → h ≤ℤ m → k ≤ℤ m
lower_than k l h m less same low = grind (arith, ints, nat_tests)

not_lower : (k l : ℤ) → lt_z k l ≢ true → l ≤ℤ k
not_lower k l other = grind (arith, ints, nat_tests)

pub returns-in-Some : goal.returns-in-Some
returns-in-Some c =
    let own : to_z w64 (of_z w64 c.args.key) ≡ c.args.key = search rules in
    let kept : to_z w64 (of_z w64 c.in-Some.least) ≡ c.in-Some.least = search rules in
    let is : key_of c.args.self.now c.args.v ≡ Some c.in-Some.least = sym c.key.ensures ∙ c.in-Some.is in let test = ap₂ lt_z own kept in
    record {
      lower = λ less k h. lower_than c.args.key c.in-Some.least h.key k (sym test ∙ less) (same_Some c.in-Some.least h.key (sym is ∙ h.has)) h.low;
      keyed = λ other. record { key = c.in-Some.least; has = is; low = not_lower c.args.key c.in-Some.least (λ less. other (test ∙ less)) };
    }

pub returns-in-None : goal.returns-in-None
returns-in-None c = record {
  lower = λ _ k h. absurd (true≢false (ap (λ (o : Option ℤ). is_some o) (sym h.has ∙ sym c.key.ensures ∙ c.in-None.is)));
  keyed = λ other. absurd (other refl);
}
