-- Lines whose items are in order.
use Rattle.certificates.proofs.Common.{◌≡◌, ℕ, ◌<◌, true, List, length, get_or, sym, ap, ◌∙◌, get_or_read, SetLine, vertices_first}
use Rattle.cert_check.specs.Faults.{IsSorted}

-- the z line at a place is sorted
pub sorted-at : (zs : List SetLine) (k : ℕ) (z : SetLine) → k < length zs → z ≡ get_or zs k z → vertices_first z.items ≡ true → IsSorted zs k
sorted-at zs k z below is sorted y y_is =
    let same : y ≡ z = get_or_read zs k y below y_is z ∙ sym is in
    ap (λ (t : SetLine). vertices_first t.items) same ∙ sorted
