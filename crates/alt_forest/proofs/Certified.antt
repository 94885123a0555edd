-- The slack of a search is the slack that certificates know.
use Rattle.graph_theory.proofs.Common.{◌≡◌, ℕ, ℤ, pos, ◌+ℤ◌, ◌-ℤ◌, ◌*ℤ◌, cond, List, [], ◌∷◌, refl, sym, ap, ◌∙◌, IsEdgeWithin, crosses, slack}
use Rattle.graph_theory.specs.declared.edge.Edge.{Edge}
use Rattle.blossom_arena.specs.Family.{Blossom, dual_at}
use Rattle.blossom_arena.specs.Slack.{duals_across, vertex_duals, sets_of}
use Rattle.blossom_arena.proofs.Slacks.{slack_across}
use Rattle.alt_forest.specs.declared.weights.Weights.{Weights}
use Rattle.alt_forest.specs.declared.weights.Weights.TheVariants.{Zero, Given}
use Rattle.alt_forest.specs.Searches.{is_given}
use Rattle.alt_forest.specs.Chains.{weighed}

-- duals don't feel weights
across_weighed : (y : ℕ → ℤ) (bs : List Blossom) (e : Edge) → duals_across y bs (weighed Zero e) ≡ duals_across y bs e
across_weighed y [] e = refl
across_weighed y (b ∷ older) e = ap (λ t. cond (crosses b.members e) (y b.node) (pos 0) +ℤ t) (across_weighed y older e)

pub certified : (n : ℕ) (ys : List ℤ) (bs : List Blossom) (w : Weights) (e : Edge) → IsEdgeWithin n e
    → cond (is_given w) (pos 2 *ℤ e.w) (pos 0) -ℤ duals_across (dual_at ys) bs e ≡ slack (vertex_duals n ys) (sets_of ys bs) (weighed w e)
certified n ys bs Zero e h =
    sym (slack_across n ys bs (weighed Zero e) (record { u_low = h.u_low; u_high = h.u_high; v_low = h.v_low; v_high = h.v_high })
    ∙ ap (λ t. pos 0 -ℤ t) (across_weighed (dual_at ys) bs e))
certified n ys bs Given e h = sym (slack_across n ys bs e h)

pub same_edge : (e f : Edge) → e.u ≡ f.u → e.v ≡ f.v → e.w ≡ f.w → e ≡ f
same_edge e f p q r = λ i. record { u = p i; v = q i; w = r i }
