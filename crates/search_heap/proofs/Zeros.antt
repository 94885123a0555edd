-- High halves that all are 0.
use Rattle.std.proofs.Common.{◌≡◌, ℕ, pos, List, [], ◌∷◌, length, set, sym, ap, ◌∙◌, arith, ℤ}
use Rattle.std.proofs.lemmas.List.{set-get_or}
use Rattle.graph_theory.proofs.Members.{everywhere as same_at}
use Rattle.search_heap.specs.Heaps.{filled, IsZeroAt}

pub zero_at : (slots : ℕ) (table : List ℤ) → length table ≡ 0 → IsZeroAt (filled slots (pos 0) table)
zero_at slots [] none s = same_at (pos 0) slots s
zero_at slots (z ∷ zs) none s = absurd (omega (arith, none))

-- 0 is written where all are 0
pub zero_written : (slots : ℕ) (table : List ℤ) (slot : ℕ) (high : ℤ) → length table ≡ 0 → high ≡ pos 0
    → filled slots (pos 0) table ≡ set (filled slots (pos 0) table) slot high
zero_written slots table slot high none is =
    let all = filled slots (pos 0) table in
    sym (ap (λ (z : ℤ). set all slot z) (is ∙ sym (zero_at slots table none slot)) ∙ set-get_or all slot (pos 0))
