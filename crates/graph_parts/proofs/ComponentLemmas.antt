-- Lemmas on components and what a search finds.
use Rattle.graph_theory.proofs.Common.{◌≡◌, ℕ, ◌≤◌, ◌↔◌, Bool, true, false, ◌||◌, refl, ap, sym, ◌∙◌, List, [], false≢true}
use Rattle.graph_theory.proofs.Common.{Multigraph, IsGraph, holds, IsVertexSet, AreTogether, IsComponent, all_holds, component_from, together-refl, together-within}
use Rattle.graph_parts.specs.Marks.{is_marked, MarksSet, ListsMarked}
use Rattle.graph_parts.specs.Search.{Finds}
use Rattle.graph_parts.proofs.Once.{members_to, to-is, kept-holds, kept-set}

-- the vertices together with a start, as an ascending list, are a component
component_of : (g : Multigraph) (removed component : List ℕ) (start : ℕ) → IsGraph g → 1 ≤ start → start ≤ g.vertices → holds removed start ≡ false → IsVertexSet g.vertices component
    → ((w : ℕ) → (holds component w ≡ true) ↔ AreTogether g removed start w) → IsComponent g removed component
component_of g removed component start ok low high free set exact = component_from g removed component start ok.ends set ((exact start).1 (together-refl g removed start free))
    (λ w h. (exact w).0 h) (λ w a. (exact w).1 a)

-- .. of what is reached
pub found_component : (g : Multigraph) (removed reached : List ℕ) (start : ℕ) → IsGraph g → 1 ≤ start → start ≤ g.vertices → holds removed start ≡ false → ((w : ℕ) → (holds reached w ≡ true)
    ↔ AreTogether g removed start w) → IsComponent g removed (members_to reached g.vertices)
found_component g removed reached start ok low high free exact =
    component_of g removed (members_to reached g.vertices) start ok low high free (kept-set (holds reached) g.vertices)
    (λ w. (
      λ h. (exact w).0 (to-is reached g.vertices w h).2,
      λ a. let within = together-within g removed start w ok.ends (low, high) a in kept-holds (holds reached) g.vertices w within.0 within.1 ∙ ((exact w).1 a),
    ))

-- what is marked, where nothing was and no vertex is removed
pub marked_exact : (g : Multigraph) (out : List Bool) (start : ℕ) (old new : List Bool) (reached : List ℕ) → ((w : ℕ) → is_marked out w ≡ false) → ((w : ℕ) → is_marked old w ≡ false)
    → Finds g out start old new reached → (w : ℕ) → (is_marked new w ≡ true) ↔ AreTogether g [] start w
marked_exact g out start old new reached none_out none_old found w =
    let exact = found.exact [] none_out (λ x h a. false≢true (sym (none_old x) ∙ h)) w in
    let now : is_marked new w ≡ holds reached w = found.marked w ∙ ap (λ t. t || holds reached w) (none_old w) in
    (λ h. exact.0 (sym now ∙ h), λ a. now ∙ exact.1 a)

-- .. is a component, as an ascending list
pub marks_component : (g : Multigraph) (start : ℕ) (marks : List Bool) (component : List ℕ) → IsGraph g → 1 ≤ start → start ≤ g.vertices → ((w : ℕ) → (is_marked marks w ≡ true)
    ↔ AreTogether g [] start w) → ListsMarked marks component → IsComponent g [] component × (holds component start ≡ true)
marks_component g start marks component ok low high marked lists =
    let exact : (w : ℕ) → (holds component w ≡ true) ↔ AreTogether g [] start w = λ w. (
      λ h. (marked w).0 ((lists.exact w).0 h).1,
      λ a. (lists.exact w).1 ((together-within g [] start w ok.ends (low, high) a).0, (marked w).1 a),
    ) in
    let set : IsVertexSet g.vertices component = record {
      ascending = lists.ascending;
      in_range = all_holds (λ v. (1 ≤ v) × (v ≤ g.vertices)) component (λ w h. together-within g [] start w ok.ends (low, high) ((exact w).0 h));
    } in
    (component_of g [] component start ok low high refl set exact, (exact start).1 (together-refl g [] start refl))

-- what is marked, where nothing was and a set is
pub set_marked : (old new : List Bool) (set : List ℕ) → ((w : ℕ) → is_marked old w ≡ false)
    → ((w : ℕ) → is_marked new w ≡ (is_marked old w || holds set w)) → MarksSet new set
set_marked old new set none now w = now w ∙ ap (λ t. t || holds set w) (none w)
