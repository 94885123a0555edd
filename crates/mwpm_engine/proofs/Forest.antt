-- A forest of all exposed nodes: each of them is a root, and where no tree is left none is exposed.
use Rattle.alt_forest.proofs.Common.{◌≡◌, ◌∙◌, ℕ, refl, sym, IsNested, Label, Outer, Inner, Out, State, IsExposed, IsSearchState, IsRoot, tree_count, IsPlanted, IsMatched}
use Rattle.alt_forest.proofs.Common.{some_not_none}
use Rattle.augment.proofs.Fewer.{root_counted}

-- an inner node has a mate
pub exposed_root : (s : State) (depth : ℕ → ℕ) (a : ℕ) → IsSearchState s depth → IsPlanted s → IsExposed s a → IsRoot s a
exposed_root s depth a st planted x = by_label (s.label a) refl
  where
    by_label : (l : Label) → s.label a ≡ l → IsRoot s a
    by_label Outer lab = record { outermost = x.0; outer = lab; exposed = x.1 }
    by_label Inner lab = let i = (st.labels a x.0).inner lab in some_not_none i.child_edge (sym i.mate ∙ x.1)
    by_label Out lab = absurd (planted a x lab)

pub none_left : (s : State) (depth : ℕ → ℕ) → IsNested s.graph.vertices s.blossoms → IsSearchState s depth → IsPlanted s → tree_count s ≡ 0 → IsMatched s
none_left s depth nested st planted none a x = root_counted s a nested (exposed_root s depth a st planted x) none
