-- The edges of one answer more.
use Rattle.mb_problem.proofs.Common.{◌≡◌, ℕ, ◌+◌, ◌<◌, ℤ, pos, List, [], ◌∷◌, ◌++◌, length, take, get_or, sym, ap, ap₂, ◌∙◌, length-map, map-append, take_more, append-nil}
use Rattle.graph_theory.proofs.Common.{take-map}
use Rattle.std.proofs.lemmas.List.Concat.{flat_map-append}
use Rattle.gadget_base.proofs.Common.{tabled, tabled-more}
use Rattle.array_call.specs.Layout.{all_items, offset_at, offsets}
use Rattle.array_joins.specs.declared.outcome.SetOutcome.{SetOutcome}
use Rattle.array_joins.specs.Numbers.{edge_numbers, edge_lists}

-- the edges of the answers before an index
pub edges-more : (os : List SetOutcome) (k : ℕ) (o : SetOutcome) → k < length os → o ≡ get_or os k o
    → all_items (edge_lists (take k os)) ++ edge_numbers o ≡ all_items (edge_lists (take (k + 1) os))
edges-more os k o below is =
    let same : (List ℤ → List ℤ) = λ xs. xs in
    let one : all_items (edge_numbers o ∷ []) ≡ edge_numbers o = append-nil (edge_numbers o) in
    ap (λ (xs : List ℤ). all_items (edge_lists (take k os)) ++ xs) (sym one)
    ∙ sym (flat_map-append same (edge_lists (take k os)) (edge_numbers o ∷ []))
    ∙ ap all_items (sym (map-append edge_numbers (take k os) (o ∷ [])))
    ∙ ap (λ (ps : List SetOutcome). all_items (edge_lists ps)) (ap (λ (p : SetOutcome). take k os ++ p ∷ []) is ∙ sym (take_more os k o below))

-- where the edges of the answer at an index begin
pub begins : (os : List SetOutcome) (k : ℕ) (all : List ℤ) → all ≡ all_items (edge_lists (take k os)) → pos (length all) ≡ offset_at (edge_lists os) k
begins os k all is = ap (λ (xs : List ℤ). pos (length xs)) (is ∙ ap all_items (sym (take-map edge_numbers k os)))

-- one offset more
pub offsets-more : (os : List SetOutcome) (k : ℕ) (before all : List ℤ) → before ≡ tabled (offset_at (edge_lists os)) k → all ≡ all_items (edge_lists (take k os))
    → before ++ pos (length all) ∷ [] ≡ tabled (offset_at (edge_lists os)) (k + 1)
offsets-more os k before all front is =
    ap₂ (λ (xs : List ℤ) (z : ℤ). xs ++ z ∷ []) front (begins os k all is) ∙ sym (tabled-more (offset_at (edge_lists os)) k)

-- with the end of all
pub offsets-whole : (os : List SetOutcome) (k : ℕ) (ys : List ℤ) → length os ≡ k → ys ≡ tabled (offset_at (edge_lists os)) (k + 1) → ys ≡ offsets (edge_lists os)
offsets-whole os k ys size is = is ∙ ap (λ (n : ℕ). tabled (offset_at (edge_lists os)) (n + 1)) (sym size ∙ sym (length-map os edge_numbers))
