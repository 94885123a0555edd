-- The first nodes of a circuit are listed, one after another.
use Rattle.alt_forest.proofs.Common.{List, [], ◌∷◌, ◌++◌, ◌≡◌, ◌≢◌, ℕ, Some, sym, ap, ◌∙◌, subst, Link, Out, IsSound, label_at, AreListed, tree_id_at}
use Rattle.alt_forest.specs.declared.search.Search.{Search}
use Rattle.tree_steps.specs.Moving.{IsMoving, AreInserted}
use Rattle.tree_steps.proofs.Among.{more_cases, off_parts}

-- what listing one node makes of a search
pub record IsInserted (k t : Search) (node tree_id : ℕ) : Type 0 where
  pub frame : t ≡ record k { arena = record k.arena { motions = t.arena.motions }; tree_nodes = t.tree_nodes }
  pub sound : IsSound t
  pub listed : AreListed k.graph.vertices t.tree_nodes.nodes t.tree_nodes.tree_ids
  pub in_tree : label_at k.labels.items node ≢ Out → tree_id_at t.tree_nodes.tree_ids node ≡ Some tree_id
  pub moves : label_at k.labels.items node ≢ Out → IsMoving t node
  pub keeps_moving : (a : ℕ) → IsMoving k a → IsMoving t a
  pub keeps : (a : ℕ) → a ≢ node → tree_id_at t.tree_nodes.tree_ids a ≡ tree_id_at k.tree_nodes.tree_ids a

-- one node more
pub inserted_more : (f k t : Search) (ring : List Link) (tree_id : ℕ) (l : Link) → AreInserted f k ring tree_id → IsInserted k t l.node tree_id → AreInserted f t (ring ++ (l ∷ [])) tree_id
inserted_more f k t ring tree_id l h e =
    -- the search that is read is the one before in all but the list
    let labelled_in : (a : ℕ) → a ≡ l.node → label_at f.labels.items a ≢ Out → label_at k.labels.items l.node ≢ Out =
    λ a at labelled out. labelled (ap (label_at f.labels.items) at ∙ ap (λ (x : Search). label_at x.labels.items l.node) (sym h.frame) ∙ out) in
    record {
      frame = e.frame ∙ ap (λ (x : Search). let y : Search = record x { arena = record x.arena { motions = t.arena.motions }; tree_nodes = t.tree_nodes } in y) h.frame;
      sound = e.sound;
      listed = subst (λ (x : Search). AreListed x.graph.vertices t.tree_nodes.nodes t.tree_nodes.tree_ids) h.frame e.listed;
      in_tree = λ a among labelled. more_cases ring l a among
          (λ at. ap (tree_id_at t.tree_nodes.tree_ids) at ∙ e.in_tree (labelled_in a at labelled)) (λ ne on. e.keeps a ne ∙ h.in_tree a on labelled);
      moves = λ a among labelled. more_cases ring l a among (λ at. subst (IsMoving t) (sym at) (e.moves (labelled_in a at labelled))) (λ ne on. e.keeps_moving a (h.moves a on labelled));
      keeps_moving = λ a was. e.keeps_moving a (h.keeps_moving a was);
      keeps = λ a off. let parts = off_parts ring l a off in e.keeps a parts.1 ∙ h.keeps a parts.0;
    }
