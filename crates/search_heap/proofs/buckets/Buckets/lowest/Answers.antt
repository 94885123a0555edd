use Rattle.graph_theory.proofs.Common.{◌≡◌, ◌≢◌, ◌∙◌, ◌<◌, ◌≤◌, ℕ, Option, Some, ap, arith, ⊎_elim, cases_eq, cases_lt}
use Rattle.search_heap.proofs.buckets.Buckets.lowest.Goals as goal

pub returns-in-Some-clause-some : goal.returns-in-Some-clause-some
returns-in-Some-clause-some c = λ home h.
    let on = c.in-Some.ensures.some home h in let list : ℕ = c.loop-list.list in
    record {
      low = c.loop-list.auto.list;
      high = omega (arith, c.loop-list-test.true);
      within = on.0;
      there = on.1;
      lowest = λ s l e two. ⊎_elim (λ (low : l < list). absurd (c.loop-list.invariant home h s l two low e)) (λ (past : list ≤ l). past) (cases_lt l list);
    }

pub loop-list-preserved : goal.loop-list-preserved
loop-list-preserved c = λ home h s k two low on.
    let list : ℕ = c.loop-list.list in
    ⊎_elim (λ (e : k ≡ list). c.in_default.ensures.none home h s (on ∙ ap (λ i. let o : Option ℕ = Some i in o) e))
    (λ (ne : k ≢ list). c.loop-list.invariant home h s k two (omega (arith, low, ne)) on)
    (cases_eq k list)

pub returns-clause-none : goal.returns-clause-none
returns-clause-none c = λ home h s l two high on. c.loop-list.invariant home h s l two (omega (arith, high, c.loop-list-test.false)) on
