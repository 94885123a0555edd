-- Lemmas on the visit of a vertex.
use Rattle.graph_theory.proofs.Common.{◌≡◌, ◌↔◌, ◌⊎◌, ℕ, ◌%◌, ◌≤◌, Bool, true, false, IsTrue, sym, subst, inl, inr, List, length, false≢true, Multigraph}
use Rattle.graph_theory.proofs.Common.{IsGraph, holds}
use Rattle.graph_parts.specs.declared.links.Link.{Link}
use Rattle.graph_parts.specs.Marks.{is_marked, MarksSet}
use Rattle.graph_parts.specs.Search.{Finds}
use Rattle.graph_parts.specs.Links.{LinksAll}
use Rattle.graph_parts.specs.Heads.{SeenBelow}
use Rattle.graph_parts.specs.Forests.{Visited}
use Rattle.graph_parts.proofs.HeadLemmas.{lesser_head, removed_head, seen-same, seen-more, seen-apart, visit-head}
use Rattle.graph_parts.proofs.ForestLemmas.{new-least, forest-more}

-- one that is marked or removed
pub visit-skipped : (g : Multigraph) (removed : List ℕ) (v : ℕ) (marks : List Bool) (reached : List ℕ) (links : List Link) → IsGraph g → SeenBelow g removed v marks
    → (is_marked marks v ≡ true) ⊎ (holds removed v ≡ true) → Visited g removed v false marks marks reached links links
visit-skipped g removed v marks reached links ok seen why = record {
  seen = seen-same g removed v marks ok seen why;
  head = (
    λ f. absurd (false≢true f),
    λ head. absurd (elim why [
      | inl marked ↦ let s = (seen v).0 marked in lesser_head g removed s.0 v ok s.2 s.3 head
      | inr gone ↦ removed_head g removed v gone head
    ]),
  );
  members = λ f. absurd (false≢true f);
  forest = λ forest. forest;
}

-- one that is neither
pub visit-found : (g : Multigraph) (out : List Bool) (removed reached : List ℕ) (v : ℕ) (old new : List Bool) (odd : Bool) (before links : List Link) → IsGraph g → 1 ≤ v
    → v ≤ g.vertices
    → MarksSet out removed → SeenBelow g removed v old → is_marked old v ≡ false → is_marked out v ≡ false → Finds g out v old new reached → LinksAll g v before reached links
    → (IsTrue odd ↔ (length reached % 2 ≡ 1)) → Visited g removed v odd old new reached before links
visit-found g out removed reached v old new odd before links ok low high is seen off free found all parity =
    let exact = found.exact removed is (seen-apart g removed v old ok seen off) in
    let head = visit-head g out removed reached v old new ok low high is seen off free found in
    record {
      seen = seen-more g removed reached v old new low seen exact found.marked;
      head = (λ t. head.0 (parity.0 t), λ h. parity.1 (head.1 h));
      members = λ _. exact;
      forest = forest-more g removed v old new reached before links (new-least g removed v old ok low high seen off) found.marked all;
    }

-- from marks in lists: of those removed, and before and after
pub visited : (g : Multigraph) (removed : List ℕ) (x v : ℕ) (odd : Bool) (out outs before old new items : List Bool) (reached : List ℕ) (some links : List Link)
    → ((set : List ℕ) → MarksSet outs set → SeenBelow g set x before → Visited g set x odd before new reached some links)
    → x ≡ v → outs ≡ out → before ≡ old → items ≡ new → MarksSet out removed → SeenBelow g removed v old → Visited g removed v odd old items reached some links
visited g removed x v odd out outs before old new items reached some links visit same gone was now is seen =
    let marked = subst (λ (m : List Bool). MarksSet m removed) (sym gone) is in
    let below = subst (λ (m : List Bool). SeenBelow g removed x m) (sym was) (subst (λ n. SeenBelow g removed n old) (sym same) seen) in
    subst (λ (m : List Bool). Visited g removed v odd old m reached some links) (sym now) (subst (λ (m : List Bool). Visited g removed v odd m new reached some links) was
    (subst (λ n. Visited g removed n odd before new reached some links) same (visit removed marked below)))
