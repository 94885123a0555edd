use Rattle.graph_theory.proofs.Common.{◌≡◌, ◌∙◌, refl, sym, subst, ℕ, ◌+◌, ◌⊎◌, ◌↔◌}
use Rattle.blossom_arena.specs.declared.label.Label.{Label}
use Rattle.alt_forest.specs.State.{IsSearchState}
use Rattle.alt_forest.specs.Trees.{IsRoot}
use Rattle.alt_forest.specs.Searches.{state_of}
use Rattle.alt_forest.proofs.Relabelled.{with_labels, planted, planted_roots}
use Rattle.alt_forest.specs.Counts.{tree_count}
use Rattle.alt_forest.proofs.Places.{label_place, nested_of}
use Rattle.alt_forest.proofs.Counted.{one_more}
use Rattle.alt_forest.proofs.search.label_root.Goals as goal

pub set_label-requires : goal.set_label-requires
set_label-requires c = record { place = label_place c.args.search.now c.args.v c.requires.sound.shape c.requires.exposed.0 }

pub returns : goal.returns
returns c =
    let s = state_of c.args.search.now in let v : ℕ = c.args.v in let h = c.requires.sound in
    let labels = sym c.set_label.ensures.labels in
    record {
      labels = c.set_label.ensures.labels;
      frame = refl;
      roots = λ a. subst (λ (l : ℕ → Label). IsRoot (with_labels s l) a ↔ (IsRoot s a ⊎ (a ≡ v))) labels
          (planted_roots s h.depth v c.requires.exposed.1 c.requires.out c.requires.exposed.0 a);
      trees = subst (λ (l : ℕ → Label). tree_count (with_labels s l) ≡ tree_count s + 1) labels
          (one_more s v (nested_of c.args.search.now h.shape) c.requires.exposed c.requires.out);
      exposed = refl;
      sound = record {
        shape = assumption (c.set_label.ensures.len ∙ h.shape.labels, h.shape);
        depth = h.depth;
        state = subst (λ (l : ℕ → Label). IsSearchState (with_labels s l) h.depth) labels (planted s h.depth v c.requires.exposed.1 c.requires.out h.state);
      };
    }
