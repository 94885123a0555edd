-- Lemmas on spanning forests.
use Rattle.graph_theory.proofs.Common.{◌≡◌, ℕ, ◌+◌, ◌≤◌, Bool, false, ◌||◌, eqb, refl, sym, ◌∙◌, subst, inl, inr, arith, List, [], ◌∷◌, cases_lt, eqb-true}
use Rattle.graph_theory.proofs.Common.{eq-eqb, false≢true, or_cases, or_left, or_right, Multigraph, IsGraph, holds, together-refl, together-sym, together-within}
use Rattle.graph_parts.specs.declared.links.Link.{Link}
use Rattle.graph_parts.specs.Marks.{is_marked}
use Rattle.graph_parts.specs.Links.{LinksAll}
use Rattle.graph_parts.specs.Heads.{SeenBelow}
use Rattle.graph_parts.specs.Forests.{IsLeastTogether, IsForest, IsSpanningForest}
use Rattle.graph_parts.proofs.LinkLemmas.{tree-wider}

-- a vertex that isn't marked is the least of those that are together with it
pub new-least : (g : Multigraph) (removed : List ℕ) (v : ℕ) (marks : List Bool) → IsGraph g → 1 ≤ v → v ≤ g.vertices → SeenBelow g removed v marks → is_marked marks v ≡ false
    → IsLeastTogether g removed v
new-least g removed v marks ok low high seen off = (
  low,
  λ w a. elim (cases_lt w v) [
    | inl less ↦
        absurd (false≢true (sym off ∙ (seen v).1 (w, (together-within g removed v w ok.ends (low, high) a).0, less, together-sym g removed v w ok.ends a)))
    | inr more ↦ omega (arith, more)
  ],
)

pub forest-none : (g : Multigraph) (removed : List ℕ) (marks : List Bool) → ((w : ℕ) → is_marked marks w ≡ false) → IsForest g removed marks []
forest-none g removed marks off = record { roots = []; least = λ v h. absurd (false≢true h); tree = tt; covered = λ v h. absurd (false≢true (sym (off v) ∙ h)) }

-- a tree more, from a new vertex
pub forest-more : (g : Multigraph) (removed : List ℕ) (start : ℕ) (old new : List Bool) (reached : List ℕ) (before links : List Link) → IsLeastTogether g removed start
    → ((w : ℕ) → is_marked new w
    ≡ (is_marked old w || holds reached w)) → LinksAll g start before reached links → IsForest g removed old before → IsForest g removed new links
forest-more g removed start old new reached before links least marked all forest =
    let roots = forest.roots in record {
      roots = start ∷ roots;
      least = λ v h. elim (or_cases (eqb start v) (holds roots v) h) [
        | inl e ↦ let P : ℕ → Type 0 = IsLeastTogether g removed in subst P (eqb-true start v e) least
        | inr e ↦ forest.least v e
      ];
      tree = all.tree (start ∷ roots) (or_left (eqb start start) (holds roots start) (eq-eqb start start refl))
          (tree-wider g roots (start ∷ roots) before (λ w h. or_right (eqb start w) (holds roots w) h) forest.tree);
      covered = λ v h. elim (or_cases (is_marked old v) (holds reached v) (sym (marked v) ∙ h)) [
        | inl was ↦ elim (forest.covered v was) [
          | inl e ↦ inl (or_right (eqb start v) (holds roots v) e)
          | inr e ↦ inr (all.kept v e)
        ]
        | inr now ↦ elim (all.linked v now) [
          | inl e ↦ inl (or_left (eqb start v) (holds roots v) (eq-eqb start v (sym e)))
          | inr e ↦ inr e
        ]
      ];
    }

-- where all vertices are marked it spans the graph
pub forest-all : (g : Multigraph) (n : ℕ) (marks : List Bool) (links : List Link) → n ≡ g.vertices + 1 → SeenBelow g [] n marks → IsForest g [] marks links → IsSpanningForest g links
forest-all g n marks links all seen forest = record {
  roots = forest.roots;
  least = forest.least;
  tree = forest.tree;
  covered = λ v low high. forest.covered v ((seen v).1 (v, low, omega (arith, high, all), together-refl g [] v refl));
}
