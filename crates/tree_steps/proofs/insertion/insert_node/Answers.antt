use Rattle.alt_forest.proofs.Common.{◌≡◌, ◌≢◌, refl, ◌∙◌, ℕ, Option, Some, ap, sym, subst, ⊎_elim, cases_eq, Label, label_at, put, tree_id_at}
use Rattle.alt_forest.proofs.Common.{IsSearchState, state_of, outer_range, put_here, put_other}
use Rattle.alt_forest.specs.declared.search.Search.{Search}
use Rattle.tree_steps.specs.Moving.{IsMoving}
use Rattle.tree_steps.proofs.insertion.insert_node.Goals as goal

pub stand-requires-clause-low : goal.stand-requires-clause-low
stand-requires-clause-low c = (outer_range c.args.search.now c.args.node c.requires.sound.shape c.requires.outermost).0

-- a write of what a table should have leaves right what was right
put_right : (m l : ℕ → Label) (node a : ℕ) → (a ≢ node → m a ≡ l a) → put m node (l node) a ≡ l a
put_right m l node a right = ⊎_elim (λ at. ap (put m node (l node)) at ∙ put_here m node (l node) ∙ sym (ap l at)) (λ ne. put_other m node (l node) a ne ∙ right ne)
    (cases_eq a node)

moving : (c : goal.After-stand) (a : ℕ) → (a ≢ c.args.node → IsMoving c.args.search.now a) → IsMoving c.stand.new.self a
moving c a was =
    let f : Search = c.args.search.now in
    ap (λ (motions : ℕ → Label). motions a) c.stand.ensures.motions ∙ put_right (label_at f.arena.motions) (label_at f.labels.items) c.args.node a was
    ∙ sym (ap (λ (x : Search). label_at x.labels.items a) c.stand.ensures.frame)

pub returns : goal.returns
returns c =
    let e = c.stand.ensures in let h = c.requires.sound in
    let tree_ids = tree_id_at c.args.search.now.tree_nodes.tree_ids in
    record {
      frame = e.frame;
      sound = record { shape = e.shape; depth = h.depth; state = subst (λ (x : Search). IsSearchState (state_of x) h.depth) (sym e.frame) h.state };
      listed = e.listed;
      in_tree = λ labelled. ap (λ (f : ℕ → Option ℕ). f c.args.node) e.tree_ids ∙ put_here tree_ids c.args.node (Some c.args.tree_id);
      moves = λ labelled. moving c c.args.node (λ ne. absurd (ne refl));
      keeps_moving = λ a was. moving c a (λ ne. was);
      keeps = λ a ne. ap (λ (f : ℕ → Option ℕ). f a) e.tree_ids ∙ put_other tree_ids c.args.node (Some c.args.tree_id) a ne;
    }
