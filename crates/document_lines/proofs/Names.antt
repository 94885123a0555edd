-- From what is gathered to a line.
use Rattle.certificates.proofs.Common.{◌≡◌, ℕ, zero, suc, ◌+◌, ◌≤◌, eqb, List, All, ap, sym, ◌∙◌, subst, arith, IsStrictlyIncreasing, and_parts, cond_both, DualSet}
use Rattle.certificates.proofs.Common.{holds, all_holds, holds_all, SetLine, references_in, vertices_in}
use Rattle.document_lines.specs.declared.tables.Tables.{Tables}
use Rattle.document_lines.specs.Gathering.{HaveNames, IsGathered}
use Rattle.document_lines.specs.LastLines.{IsLineOf, entry, items_of, last_line}
use Rattle.document_lines.specs.Sets.{set_from_last}
use Rattle.document_lines.proofs.LastHolders.{has}
use Rattle.document_lines.proofs.LineItems.{items-references, items-vertices}

pub last-low : (sets : List DualSet) (k v : ℕ) → last_line sets k v ≤ k
last-low sets zero v = omega arith
last-low sets (suc k) v = cond_both (has sets k v) (k + 1) (last_line sets k v) (λ x. x ≤ suc k) (λ _. omega arith) (λ _. omega (arith, last-low sets k v))

pub gathered-within : (n number : ℕ) (ms O N vs rs : List ℕ) → IsGathered number ms O N vs rs → All (λ m. (1 ≤ m) × (m ≤ n)) ms → All (λ v. (1 ≤ v) × (v ≤ n)) vs
gathered-within n number ms O N vs rs g within =
    all_holds (λ v. (1 ≤ v) × (v ≤ n)) vs (λ v h. holds_all (λ m. (1 ≤ m) × (m ≤ n)) ms v within (and_parts (holds ms v) (eqb (entry O v) 0) (sym (g.vertices v) ∙ h)).0)

-- the line that has the names of its set as items
pub line-is : (sets : List DualSet) (k : ℕ) (z : SetLine) (t : Tables) → HaveNames sets k t → z.line ≡ 1 → z.dual ≡ (set_from_last sets k).dual →
    z.items ≡ items_of t.vertices.items t.references.items → IsLineOf sets k z
line-is sets k z t names unread dual items =
    let vertices : vertices_in z.items ≡ t.vertices.items = ap vertices_in items ∙ items-vertices t.vertices.items t.references.items in
    let references : references_in z.items ≡ t.references.items = ap references_in items ∙ items-references t.vertices.items t.references.items in
    record {
      names = record {
        dual = dual;
        vertices = λ v. ap (λ (xs : List ℕ). holds xs v) vertices ∙ names.vertices v;
        references = λ r. ap (λ (xs : List ℕ). holds xs r) references ∙ names.references r;
        vertices_ascend = subst IsStrictlyIncreasing (sym vertices) names.vertices_ascend;
        references_ascend = subst IsStrictlyIncreasing (sym references) names.references_ascend;
      };
      items = items ∙ (ap (λ (xs : List ℕ). items_of xs t.references.items) (sym vertices) ∙ ap (λ (xs : List ℕ). items_of (vertices_in z.items) xs) (sym references));
      unread = unread;
    }
