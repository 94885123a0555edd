-- Where blocks start whose sizes were read from a list.
use Rattle.graph_theory.proofs.Common.{◌≡◌, ℕ, ◌+◌, ◌<◌, ap, ◌∙◌, arith, List, length, slice_index, sum_to, sum_to-same}
use Rattle.gadget_base.specs.Blocks.{tabled}
use Rattle.gadget_base.specs.Starts.{AreStarts}
use Rattle.gadget_base.proofs.Blocks.{tabled-length, tabled-at}

pub starts_of : (f : ℕ → ℕ) (n : ℕ) (sizes read starts : List ℕ) → read ≡ sizes → length sizes ≡ n → ((k : ℕ) → k < n → slice_index sizes k ≡ f k) → AreStarts (λ k. slice_index read k)
    (length read) starts → AreStarts f n starts
starts_of f n sizes read starts same size each are =
    let one : length read ≡ n = ap (λ (xs : List ℕ). length xs) same ∙ size in
    record {
      one_more = are.one_more ∙ ap (λ m. m + 1) one;
      each = λ k b.
          are.each k (omega (arith, one, b))
          ∙ sum_to-same (λ j. slice_index read j) f k (λ j l. ap (λ (xs : List ℕ). slice_index xs j) same ∙ each j (omega arith));
    }

-- the sums of the first sizes in a list, where it has come to all of them
pub tabled-starts : (sizes starts : List ℕ) (n : ℕ) → starts ≡ tabled (sum_to (λ k. slice_index sizes k)) (n + 1) → n ≡ length sizes
    → AreStarts (λ k. slice_index sizes k) (length sizes) starts
tabled-starts sizes starts n is all =
    let f : ℕ → ℕ = sum_to (λ k. slice_index sizes k) in
    record { one_more = ap length is ∙ tabled-length f (n + 1) ∙ ap (λ m. m + 1) all; each = λ j b. ap (λ s. slice_index s j) is ∙ tabled-at f (n + 1) j 0 (omega (arith, b, all)) }
