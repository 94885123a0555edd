-- The first nodes of a circuit get their moments, one after another.
use Rattle.alt_forest.proofs.Common.{[], ◌∷◌, ◌++◌, ◌≡◌, ◌≢◌, ℕ, ℤ, true, false, List, sym, ap, ◌∙◌, subst, ⊎_elim, cases_eq, holds, Link, names_of}
use Rattle.alt_forest.proofs.Common.{Moments, moment_of, State, IsBlossomEntered}
use Rattle.search_heap.specs.declared.item.Item.TheVariants.{Blossom as OfBlossom}
use Rattle.tree_steps.specs.Moving.{AreEntered}
use Rattle.tree_steps.proofs.Among.{more_cases, off_parts}

-- the moments of nodes other than one are what they were, and so are those of nodes that are no blossoms
pub record IsEntered (s : State) (clock : ℤ) (node : ℕ) (q r : Moments) : Type 0 where
  pub entered : holds (names_of s.blossoms) node ≡ true → IsBlossomEntered s clock r node
  pub others : (a : ℕ) → a ≢ node → moment_of r (OfBlossom a) ≡ moment_of q (OfBlossom a)
  pub vertices : (a : ℕ) → holds (names_of s.blossoms) a ≡ false → moment_of r (OfBlossom a) ≡ moment_of q (OfBlossom a)

-- so it is where the node itself keeps its moment as well if it is no blossom
pub is_entered : (s : State) (clock : ℤ) (node : ℕ) (q r : Moments) → (holds (names_of s.blossoms) node ≡ true → IsBlossomEntered s clock r node)
    → (holds (names_of s.blossoms) node ≡ false → r ≡ q) → ((a : ℕ) → a ≢ node → moment_of r (OfBlossom a) ≡ moment_of q (OfBlossom a)) → IsEntered s clock node q r
is_entered s clock node q r entered none others = record {
  entered = entered;
  others = others;
  vertices = λ a is_none. ⊎_elim
      (λ at. ap (λ (m : Moments). moment_of m (OfBlossom a)) (none (ap (holds (names_of s.blossoms)) (sym at) ∙ is_none))) (λ ne. others a ne) (cases_eq a node);
}

-- one node more
pub entered_more : (s : State) (clock : ℤ) (ring : List Link) (q r t : Moments) (l : Link) → AreEntered s clock ring q r → IsEntered s clock l.node r t → AreEntered s clock
    (ring ++ (l ∷ [])) q t
entered_more s clock ring q r t l h e = record {
  entered = λ a among name. more_cases ring l a among
      (λ at. subst (IsBlossomEntered s clock t) (sym at) (e.entered (ap (holds (names_of s.blossoms)) (sym at) ∙ name)))
      (λ ne on outer inner. e.others a ne ∙ h.entered a on name outer inner);
  others = λ a off. let parts = off_parts ring l a off in e.others a parts.1 ∙ h.others a parts.0;
  vertices = λ a is_none. e.vertices a is_none ∙ h.vertices a is_none;
}
