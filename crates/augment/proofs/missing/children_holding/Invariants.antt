use Rattle.alt_forest.proofs.Common.{◌≡◌, ◌<◌, ℕ, slice_index, vec_len, AllByRecursion, chain_of}
use Rattle.augment.proofs.Noted.{noted}
use Rattle.augment.proofs.missing.children_holding.Given as goal

abbrev pub invariant-loop-holder : goal.invariant-loop-holder
invariant-loop-holder l = record {
  noted : (a : ℕ) → noted (λ x. slice_index l.table.items x) l.below l.holder-iterator a ≡ noted (λ x. 0) 0 (chain_of l.arena.blossoms l.fn.v) a;
  each : AllByRecursion (λ c. c < vec_len l.table) l.holder-iterator;
}
