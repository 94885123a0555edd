-- With which change the event of an edge comes that has its moment.
use Rattle.alt_forest.proofs.Common.{◌≡◌, ◌≢◌, ℕ, ℤ, pos, ◌+ℤ◌, ◌≤ℤ◌, Some, subst, arith, ints, Outer, Out, State, slack_of, root_of, IsSound, state_of}
use Rattle.alt_forest.proofs.Common.{label_at, IsPlanted, NeedsMoment, nested_of}
use Rattle.alt_forest.specs.declared.search.Search.{Search}
use Rattle.dual_change.specs.declared.event.Event.{Event}
use Rattle.dual_change.specs.declared.event.Event.TheVariants.{Grow, Shrink, Augment}
use Rattle.dual_change.specs.Candidates.{IsEdgeBetween, Leads}
use Rattle.dual_change.proofs.Due.{due}
use Rattle.dual_change.proofs.Least.{outer_slack_even, leads_grow, leads_shrink, leads_augment}

-- the moment lies ahead of the clock, and with a change that comes just then an event is possible where another thing holds
pub record IsAhead (s : Search) (moment : ℤ) (If : Type 0) (event : Event) : Type 0 where
  pub later : (from to : ℤ) → from ≡ s.clock → to ≡ moment → from ≤ℤ to
  pub leads : (d : ℤ) → moment ≡ s.clock +ℤ d → If → Leads (state_of s) d event

ahead_by : (s : Search) (moment x : ℤ) (If : Type 0) (event : Event) → moment ≡ s.clock +ℤ x → (If → Leads (state_of s) x event) → pos 0 ≤ℤ x → IsAhead s moment If event
ahead_by s moment x If event at leads low = record {
  later = λ from to a b. omega (arith, ints);
  leads = λ d comes holds. subst (λ (y : ℤ). Leads (state_of s) y event) (let same : x ≡ d = omega (arith, ints) in same) (leads holds);
}

module _ (s : Search) (e one other : ℕ) (sound : IsSound s) (ends : IsEdgeBetween s e one other) (moment : ℤ) (entered : NeedsMoment (state_of s) s.clock e (Some moment)) where
  -- an edge between two outer nodes is due with half of its slack
  pub half_due : one ≢ other → label_at s.labels.items one ≡ Outer → label_at s.labels.items other ≡ Outer
      → IsAhead s moment (root_of (state_of s) one ≡ root_of (state_of s) other) (Shrink e) × IsAhead s moment (root_of (state_of s) one ≢ root_of (state_of s) other) (Augment e)
  half_due ne la lb =
      let x : State = state_of s in let graph = sound.shape.graph.graph in
      let nested = nested_of s sound.shape in
      let half = outer_slack_even x sound.depth e one other graph nested sound.state ends.number ends.joins la lb in
      let at : moment ≡ s.clock +ℤ half.0 = due _ _ (entered.between one other half.0 ends.joins ne la lb half.1) in
      let low : pos 0 ≤ℤ half.0 = omega (arith, ints, half.1, sound.state.slacks e ends.number) in (
        ahead_by s moment half.0 _ (Shrink e) at (leads_shrink x sound.depth graph nested sound.state e one other half.0 ends.number ends.joins ne la lb half.1) low,
        ahead_by s moment half.0 _ (Augment e) at (leads_augment x sound.depth graph nested sound.state e one other half.0 ends.number ends.joins ne la lb half.1) low,
      )

  -- an edge to a node labelled out is due with all of its slack
  pub outward_due : label_at s.labels.items one ≡ Outer → label_at s.labels.items other ≡ Out → IsAhead s moment (IsPlanted (state_of s)) (Grow e)
  outward_due la lb = ahead_by s moment (slack_of (state_of s) e) (IsPlanted (state_of s)) (Grow e) (due _ _ (entered.to_out one other ends.joins la lb))
      (λ planted. leads_grow (state_of s) sound.depth sound.shape.graph.graph (nested_of s sound.shape) sound.state planted e one other ends.number ends.joins la lb)
      (sound.state.slacks e ends.number)
