use Rattle.graph_theory.proofs.Common.{◌≡◌, ℕ, ◌-◌, ◌∷◌, length, sym, ap, ap₂, ◌∙◌, subst, arith, ⊎_elim}
use Rattle.alt_forest.specs.State.{IsOutermost}
use Rattle.alt_forest.specs.Trees.{far_end, path_within, up_of}
use Rattle.alt_forest.specs.Searches.{state_of}
use Rattle.alt_forest.proofs.Walk.{up_falls, path_step}
use Rattle.alt_forest.proofs.path.RootPathIterator.next.Goals as goal

pub invariant_of-self : goal.invariant_of-self
invariant_of-self c =
    let h = c.self.invariant.sound in let s = state_of c.self.inside.search.now in
    let up = c.far_end-self-inside.ensures ∙ ap (λ e. far_end s e c.self.inside.at) c.up_edge.ensures in
    record {
      sound = h;
      outermost = λ ne. subst (IsOutermost s) (sym up)
          (⊎_elim (λ none. absurd (ne (up ∙ none))) (λ p. p.0) (up_falls s h.depth c.self.inside.at h.state (c.self.invariant.outermost c.if-self-eq0-2.false)));
    }

pub returns-clause-goes : goal.returns-clause-goes
returns-clause-goes c =
    let s = state_of c.self.inside.search.now in let a : ℕ = c.self.inside.at in
    let up = c.far_end-self-inside.ensures ∙ ap (λ e. far_end s e a) c.up_edge.ensures in
    let left : ℕ = c.self.inside.left in
    let step : length (path_within left s a) ≡ length (a ∷ path_within (left - 1) s (up_of s a)) = ap length (path_step left s a c.if-self-eq0.false c.if-self-eq0-2.false) in
    let next : length (path_within (left - 1) s (up_of s a)) ≡ length (path_within (left - 1) s c.far_end-self-inside.result) = ap (λ x. length (path_within (left - 1) s x))
    (sym up) in
    let old : length (path_within left s a) ≡ length c.args.self.now = ap length c.self.view_is in
    record { on = λ fin. (tt, tt, omega arith); keeps = tt; rests = λ fin. tt }

pub returns-clause-steps : goal.returns-clause-steps
returns-clause-steps c =
    let s = state_of c.self.inside.search.now in let a : ℕ = c.self.inside.at in
    let up = c.far_end-self-inside.ensures ∙ ap (λ e. far_end s e a) c.up_edge.ensures in
    let left : ℕ = c.self.inside.left in let view : c.args.self.now ≡ path_within left s a = sym c.self.view_is in
    view ∙ path_step left s a c.if-self-eq0.false c.if-self-eq0-2.false ∙ ap₂ (λ (x y : ℕ). x ∷ path_within (left - 1) s y) (sym c.new.ensures) (sym up)
