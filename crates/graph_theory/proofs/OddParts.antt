-- A set that no edge leaves and that holds an odd number of terminals excludes counts whose degrees are odd exactly at the terminals.
use Rattle.std.proofs.Common.{◌≡◌, ℕ, ◌+◌, ◌%◌, ◌≤◌, Bool, true, false, cond, ◌↔◌, refl, ap, ◌∙◌, arith, List, length, slice_index, count_by, All}
use Rattle.std.proofs.lemmas.Bool.{false≢true}
use Rattle.graph_theory.specs.Graph.{Multigraph, IsGraph, IsEdgeWithin, no_edge, edge_at, degree}
use Rattle.graph_theory.specs.Parts.{holds, crosses, LeavesNone, IsVertexSet, IsOddPart}
use Rattle.graph_theory.proofs.SumLemmas.{sum_to-same, sum_to-zero, sum_to-parity}
use Rattle.graph_theory.proofs.Members.{members_sum}
use Rattle.graph_theory.proofs.Crossings.{crossings, degree_sum, degrees_in_set}

-- no counted edge crosses a set that no edge leaves
pub leaves_none-crossings : (g : Multigraph) (counts set : List ℕ) → LeavesNone g set → crossings g counts set ≡ 0
leaves_none-crossings g counts set closed =
    sum_to-same (λ k. cond (crosses set (edge_at g k)) (slice_index counts k) 0) (λ _. 0) (length g.edges)
    (λ k b. let stays : crosses set (edge_at g k) ≡ false = closed k no_edge b in rw stays refl)
    ∙ sum_to-zero (length g.edges)

-- the degrees in such a set add up to an even number
pub leaves_none-even : (g : Multigraph) (counts set : List ℕ) → All (IsEdgeWithin g.vertices) g.edges → LeavesNone g set → degree_sum g counts set % 2 ≡ 0
leaves_none-even g counts set ends closed = omega (arith, degrees_in_set g counts set ends, leaves_none-crossings g counts set closed)

-- a number that is odd where a test passes has the parity of the test
pub parity_of_test : (d : ℕ) (t : Bool) → (d % 2 ≡ 1) ↔ (t ≡ true) → d % 2 ≡ cond t 1 0 % 2
parity_of_test d true h = h.1 refl
parity_of_test d false h =
    let even : (d % 2 ≡ 1) → ⊥ = λ odd. false≢true (h.0 odd) in
    omega (arith, even)

-- degrees that are odd exactly at the terminals
abbrev pub AreOddAt : Multigraph → (ℕ → Bool) → List ℕ → Type 0
AreOddAt g terminal counts = (v : ℕ) → 1 ≤ v → v ≤ g.vertices → (degree g counts v % 2 ≡ 1) ↔ (terminal v ≡ true)

held_parity : (t : Bool) (a b : ℕ) → a % 2 ≡ b % 2 → cond t a 0 % 2 ≡ cond t b 0 % 2
held_parity true a b h = h
held_parity false a b h = refl

-- the degrees in a set add up to the parity of its terminals
pub terminals-parity : (g : Multigraph) (terminal : ℕ → Bool) (set counts : List ℕ) → IsVertexSet g.vertices set → AreOddAt g terminal counts → degree_sum g counts set % 2
    ≡ count_by terminal set % 2
terminals-parity g terminal set counts is odd =
    let same = sum_to-parity (λ i. cond (holds set (i + 1)) (degree g counts (i + 1)) 0) (λ i. cond (holds set (i + 1)) (cond (terminal (i + 1)) 1 0) 0) g.vertices
    (λ i b. held_parity (holds set (i + 1)) (degree g counts (i + 1)) (cond (terminal (i + 1)) 1 0) (parity_of_test (degree g counts (i + 1)) (terminal (i + 1)) (odd (i + 1) (omega arith)
    (omega arith)))) in
    same ∙ ap (λ x. x % 2) (members_sum (λ v. cond (terminal v) 1 0) g.vertices set is.ascending is.in_range)

pub odd_part_excludes : (g : Multigraph) (terminal : ℕ → Bool) (set counts : List ℕ) → IsGraph g → IsOddPart g terminal set → AreOddAt g terminal counts → ⊥
odd_part_excludes g terminal set counts ok part odd =
    absurd (omega (arith, leaves_none-even g counts set ok.ends part.closed, terminals-parity g terminal set counts part.vertices odd, part.odd))
