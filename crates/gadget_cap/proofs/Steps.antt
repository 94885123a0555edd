-- One listed edge more: the counts of the edges that enter each first gate.
use Rattle.mb_problem.proofs.Common.{◌≡◌, ◌≢◌, ℕ, ◌+◌, ◌<◌, true, false, ap, sym, ◌∙◌, subst, inl, inr, arith, List, length, take, set, slice_index}
use Rattle.mb_problem.proofs.Common.{slice_index_or, count_by, None, Some, cases_eq, get_or-set_same, get_or-set_other, length-set, count_by_more_yes, count_by_more_no, Network}
use Rattle.gadget_base.proofs.Common.{tabled, tabled-length, tabled-at, tabled-same, is-tabled}
use Rattle.gadget_cap.specs.Places.{enters, entry_counts, IsEntry}
use Rattle.gadget_cap.proofs.EntryLemmas.{enters-low, enters-high, enters-other}

-- another element at one place
set-tabled : (f g : ℕ → ℕ) (n k : ℕ) → k < n → ((o : ℕ) → o < n → o ≢ k → g o ≡ f o) → set (tabled f n) k (g k) ≡ tabled g n
set-tabled f g n k b others =
    is-tabled (set (tabled f n) k (g k)) g n (length-set (tabled f n) k (g k) ∙ tabled-length f n)
    (λ o l.
    elim (cases_eq o k) [
      | inl h ↦ ap (slice_index (set (tabled f n) k (g k))) h ∙ get_or-set_same (tabled f n) k (g k) 0 (omega (arith, tabled-length f n)) ∙ ap g (sym h)
      | inr d ↦ get_or-set_other (tabled f n) k o (g k) 0 d ∙ tabled-at f n o 0 l ∙ sym (others o l d)
    ])

pub entry-none : (i : Network) (room : ℕ → ℕ) (es : List ℕ) (p e : ℕ) → p < length es → e ≡ slice_index_or es p e → IsEntry i room e None
    → entry_counts i room (take p es) ≡ entry_counts i room (take (p + 1) es)
entry-none i room es p e b read none =
    tabled-same (λ k. count_by (enters i room k) (take p es)) (λ k. count_by (enters i room k) (take (p + 1) es)) (length i.edges)
    (λ k l. let P : ℕ → Type 0 = λ x. enters i room k x ≡ false in sym (count_by_more_no (enters i room k) es p e b (subst P read (none k l))))

pub entry-some : (i : Network) (room : ℕ → ℕ) (es : List ℕ) (p e k : ℕ) → p < length es → e ≡ slice_index_or es p e → IsEntry i room e (Some k)
    → set (entry_counts i room (take p es)) k (count_by (enters i room k) (take p es) + 1) ≡ entry_counts i room (take (p + 1) es)
entry-some i room es p e k b read some =
    let below : k < length i.edges = some.0 in
    let high = enters-high i room k e some.1 in
    let f : ℕ → ℕ = λ o. count_by (enters i room o) (take p es) in
    let g : ℕ → ℕ = λ o. count_by (enters i room o) (take (p + 1) es) in
    let more : g k ≡ f k + 1 = count_by_more_yes (enters i room k) es p e b (subst (λ x. enters i room k x ≡ true) read some.1) in
    ap (set (tabled f (length i.edges)) k) (sym more)
    ∙ set-tabled f g (length i.edges) k below
    (λ o l d.
    let P : ℕ → Type 0 = λ x. enters i room o x ≡ false in
    count_by_more_no (enters i room o) es p e b (subst P read (enters-other i room k o e (enters-low i room k e some.1) (omega arith) d)))
