-- A grandparent link: from an outer node by its mate, and by that one's parent, to the next outer node above. Each outer node with a
-- mate has one, and what is read there is that grandparent link.
use Rattle.graph_theory.proofs.Common.{◌≡◌, ℕ, ◌<◌, pos, List, [], ◌∷◌, length, Some, sym, ap, ◌∙◌, arith, same_Some, IsEdgeNumber}
use Rattle.blossom_arena.specs.declared.links.Link.{Link}
use Rattle.blossom_arena.specs.Family.{IsNested}
use Rattle.blossom_arena.specs.declared.label.Label.TheVariants.{Outer, Inner}
use Rattle.alt_forest.specs.declared.grandparent.GrandparentLink.{GrandparentLink}
use Rattle.alt_forest.specs.State.{State, IsMate, IsOutermost, IsSearchState, Joins, slack_of}
use Rattle.alt_forest.specs.Trees.{other_node, far_end, up_edge_by, up_of, path_of, root_of}
use Rattle.alt_forest.specs.Ways.{HasGrandparentLink, IsRead}
use Rattle.alt_forest.proofs.Roots.{path_up, root_up}
use Rattle.alt_forest.proofs.Walk.{deeper_differs, other_node_joins}

-- from an outer node by its mate to an inner node, and by that one's parent to an outer node, by tight edges and ever
-- nearer to the root
pub record IsGrandparentLink (s : State) (depth : ℕ → ℕ) (a : ℕ) (h : GrandparentLink) : Type 0 where
  pub is : IsOutermost s a
  pub label : s.label a ≡ Outer
  pub mate : s.mate a ≡ Some h.mate
  pub is_mate : IsMate s a h.mate h.inner
  pub inner_label : s.label h.inner ≡ Inner
  pub parent : s.parent h.inner ≡ Some h.parent
  pub lower : depth h.inner < depth a
  pub edge : IsEdgeNumber s.graph h.parent
  pub joins : Joins s.graph s.blossoms h.parent h.inner h.outer
  pub tight : slack_of s h.parent ≡ pos 0
  pub up_is : IsOutermost s h.outer
  pub up_outer : s.label h.outer ≡ Outer
  pub lowest : depth h.outer < depth h.inner

-- grandparent links from one outer node up to another
abbrev pub AreHops : State → (ℕ → ℕ) → ℕ → List GrandparentLink → ℕ → Type 0
AreHops s depth a [] top = a ≡ top
AreHops s depth a (h ∷ hs) top = IsGrandparentLink s depth a h × AreHops s depth h.outer hs top

-- the links of these grandparent links, the last node left out
abbrev pub links_up : ℕ → List GrandparentLink → List Link
links_up a [] = []
links_up a (h ∷ hs) = record { node = a; edge = h.mate } ∷ (record { node = h.inner; edge = h.parent } ∷ links_up h.outer hs)

pub hop_above : (s : State) (depth : ℕ → ℕ) (a e : ℕ) → IsSearchState s depth → IsOutermost s a → s.label a ≡ Outer → s.mate a ≡ Some e → (h : GrandparentLink)
    × IsGrandparentLink s depth a h
hop_above s depth a e st is outer has =
    let w = st.mates a e is has in let says = (st.labels a is).outer outer e w.0 has w.1 in
    let i = (st.labels w.0 w.1.outermost).inner says.0 in (
      record { mate = e; inner = w.0; parent = i.edge; outer = i.up },
      record {
        is = is;
        label = outer;
        mate = has;
        is_mate = w.1;
        inner_label = says.0;
        parent = i.parent;
        lower = says.1;
        edge = i.is_edge;
        joins = i.joins;
        tight = i.tight;
        up_is = i.up_is;
        up_outer = i.up_outer;
        lowest = i.falls;
      },
    )

module _ (s : State) (depth : ℕ → ℕ) (a : ℕ) (h : GrandparentLink) (is : IsGrandparentLink s depth a h) where
  inner_is : other_node s.graph s.blossoms h.mate a ≡ h.inner
  inner_is = other_node_joins s.graph s.blossoms h.mate a h.inner is.is_mate.joins is.is_mate.different

  outer_is : other_node s.graph s.blossoms h.parent h.inner ≡ h.outer
  outer_is = other_node_joins s.graph s.blossoms h.parent h.inner h.outer is.joins (deeper_differs depth h.inner h.outer is.lowest)

  pub has_hop : HasGrandparentLink s a
  has_hop = record { mate = h.mate; mate_is = is.is_mate.edge; mate_kept = is.mate; parent = h.parent; parent_is = is.edge; parent_kept = ap s.parent inner_is ∙ is.parent }

  pub read_is : (k : GrandparentLink) → IsRead s a k → k ≡ h
  read_is k r =
      let mate : k.mate ≡ h.mate = same_Some k.mate h.mate (sym r.mate ∙ is.mate) in
      let inner : k.inner ≡ h.inner = r.inner ∙ ap (λ e. other_node s.graph s.blossoms e a) mate ∙ inner_is in
      let parent : k.parent ≡ h.parent = same_Some k.parent h.parent (sym r.parent ∙ ap s.parent inner ∙ is.parent) in
      let outer : k.outer ≡ h.outer = r.outer ∙ ap (λ e. other_node s.graph s.blossoms e k.inner) parent ∙ ap (other_node s.graph s.blossoms h.parent) inner ∙ outer_is in
      λ i. record { mate = mate i; inner = inner i; parent = parent i; outer = outer i }

  -- its two steps up
  pub up_to_inner : up_of s a ≡ h.inner
  up_to_inner = ap (λ l. far_end s (up_edge_by s l a) a) is.label ∙ ap (λ o. far_end s o a) is.mate ∙ inner_is

  pub up_to_outer : up_of s h.inner ≡ h.outer
  up_to_outer = ap (λ l. far_end s (up_edge_by s l h.inner) h.inner) is.inner_label ∙ ap (λ o. far_end s o h.inner) is.parent ∙ outer_is

  module _ (rank : ℕ → ℕ) (nested : IsNested s.graph.vertices s.blossoms) (st : IsSearchState s rank) where
    -- it leaves two nodes of the path behind
    pub hop_path : path_of s a ≡ a ∷ (h.inner ∷ path_of s h.outer)
    hop_path = path_up s rank nested st a h.inner is.is up_to_inner ∙ ap (λ xs. a ∷ xs) (path_up s rank nested st h.inner h.outer is.is_mate.outermost up_to_outer)

    pub hop_shorter : length (path_of s h.outer) < length (path_of s a)
    hop_shorter = omega (arith, ap length hop_path)

    pub hop_root : root_of s a ≡ root_of s h.outer
    hop_root = root_up s rank nested st a h.inner is.is is.is_mate.outermost up_to_inner ∙ root_up s rank nested st h.inner h.outer is.is_mate.outermost is.up_is up_to_outer
