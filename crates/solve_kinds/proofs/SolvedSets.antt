-- The sets of a solution: their members are vertices, and lines that give the sets prove what the solution does.
use Rattle.certificates.proofs.Common.{◌≡◌, ℕ, ◌≤◌, ℤ, pos, ◌*ℤ◌, ◌≤ℤ◌, List, [], ◌∷◌, length, map, All, ◌∙◌, subst, length-map, All-nil, All-cons}
use Rattle.certificates.proofs.Common.{All-head, All-tail, DualSet, IsSetWithin, AreDuals, dual_value, weight, AreSame, AreAscending, listed_sets, holds_all, all_holds, SetLine, set_of}
use Rattle.mwpm_engine.specs.Solutions.{Solution, IsSolved, matching_of}
use Rattle.document_lines.specs.Members.{AreWithin}
use Rattle.document_lines.specs.Sets.{AreOdd, ListsSets}
use Rattle.document_lines.proofs.SomeLines.{some-lines}
use Rattle.least_joins.proofs.Listing.{listing}
use Rattle.solve_kinds.proofs.ListedSets.{GivesTurned, listed-turned}
use Rattle.solve_kinds.proofs.TurnedSets.{AreTurned, duals-turned, value-turned}

within-from : (n : ℕ) (sets lines : List DualSet) → AreAscending sets lines → All (IsSetWithin n) lines → AreWithin n sets
within-from n [] lines listed within = All-nil (λ (t : DualSet). All (λ m. (1 ≤ m) × (m ≤ n)) t.members)
within-from n (s ∷ sets) lines listed within =
    let t : DualSet = listed.0 in
    let all : All (IsSetWithin n) (t ∷ listed.1) = subst (λ (zs : List DualSet). All (IsSetWithin n) zs) listed.2 within in
    let first : IsSetWithin n t = All-head (IsSetWithin n) t listed.1 all in
    let same : AreSame t.members s.members = listed.4 in
    All-cons (λ (z : DualSet). All (λ m. (1 ≤ m) × (m ≤ n)) z.members) s sets
    (all_holds (λ m. (1 ≤ m) × (m ≤ n)) s.members (λ v h. holds_all (λ m. (1 ≤ m) × (m ≤ n)) t.members v first.in_range (same v ∙ h)))
    (within-from n sets listed.1 listed.6 (All-tail (IsSetWithin n) t listed.1 all))

pub solved-within : (s : Solution) → IsSolved s → AreWithin s.graph.vertices s.sets
solved-within s is =
    let lines = listing s.sets in
    let duals = is.duals lines.0 lines.1 in
    within-from s.graph.vertices s.sets lines.0 lines.1 duals.sets_within

positive-from : (n : ℕ) (sets lines : List DualSet) → AreAscending sets lines → All (IsSetWithin n) lines → All (λ (t : DualSet). pos 1 ≤ℤ t.dual) sets
positive-from n [] lines listed within = All-nil (λ (t : DualSet). pos 1 ≤ℤ t.dual)
positive-from n (s ∷ sets) lines listed within =
    let t : DualSet = listed.0 in
    let all : All (IsSetWithin n) (t ∷ listed.1) = subst (λ (zs : List DualSet). All (IsSetWithin n) zs) listed.2 within in
    let first : IsSetWithin n t = All-head (IsSetWithin n) t listed.1 all in
    All-cons (λ (z : DualSet). pos 1 ≤ℤ z.dual) s sets (subst (λ (y : ℤ). pos 1 ≤ℤ y) listed.3 first.positive)
    (positive-from n sets listed.1 listed.6 (All-tail (IsSetWithin n) t listed.1 all))

pub solved-duals : (s : Solution) → IsSolved s → length s.duals ≡ s.graph.vertices
solved-duals s is = (let l = listing s.sets in (is.duals l.0 l.1).one_each)

pub solved-positive : (s : Solution) → IsSolved s → All (λ (t : DualSet). pos 1 ≤ℤ t.dual) s.sets
solved-positive s is =
    let lines = listing s.sets in
    let duals = is.duals lines.0 lines.1 in
    positive-from s.graph.vertices s.sets lines.0 lines.1 duals.sets_within

pub solved-odd : (s : Solution) → IsSolved s → AreOdd s.sets
solved-odd s is = λ lines listed. (is.duals lines listed).forms

-- lines of a solution, which there are
pub solved-lines : (s : Solution) → IsSolved s → (lines : List SetLine) × ListsSets s.graph.vertices s.sets lines
solved-lines s is = some-lines s.graph.vertices s.sets (solved-within s is) (solved-positive s is) is.sets_in_range is.nested (solved-odd s is)

-- .. give its sets, the last one first
module _ (s : Solution) (lines : List SetLine) (is : IsSolved s) (lists : ListsSets s.graph.vertices s.sets lines) where
  gives : GivesTurned s.graph.vertices s.sets (map set_of lines)
  gives = record { one_each = length-map lines set_of ∙ lists.one_each; duals = lists.duals; members = lists.members }

  turned : AreTurned (listed_sets s.graph.vertices (map set_of lines)) (listing s.sets).0
  turned =
      let l = listing s.sets in
      listed-turned s.graph.vertices s.sets l.0 (map set_of lines) l.1 (is.duals l.0 l.1).sets_within gives

  pub lines-duals : AreDuals s.graph s.duals (listed_sets s.graph.vertices (map set_of lines))
  lines-duals = (let l = listing s.sets in duals-turned s.graph s.duals (listed_sets s.graph.vertices (map set_of lines)) l.0 turned (is.duals l.0 l.1))

  pub lines-value : dual_value s.duals (listed_sets s.graph.vertices (map set_of lines)) ≡ pos 2 *ℤ weight s.graph (matching_of s.graph s.mates)
  lines-value = (let l = listing s.sets in value-turned s.duals (listed_sets s.graph.vertices (map set_of lines)) l.0 turned ∙ is.value l.0 l.1)
