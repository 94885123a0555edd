use Rattle.graph_theory.proofs.Common.{◌≡◌, ◌≢◌, ◌∙◌, ◌<◌, ℕ, ℤ, List, Option, None, replicate, ap, sym, refl, arith, get_or, set, get_or-set_same, get_or-set_other, ⊎_elim, cases_eq}
use Rattle.search_heap.specs.Rising.{moments_of}
use Rattle.search_heap.proofs.Homes.{count_of_slots, moment_of_slot, no_moment_of}
use Rattle.search_heap.proofs.Settings.{cleared}
use Rattle.search_heap.proofs.buckets.Buckets.clear.Goals as goal

pub loop-slot-preserved : goal.loop-slot-preserved
loop-slot-preserved c =
    let l = c.loop-slot in let ms = moments_of l.self in let x : ℕ = l.slot in
    let low : x < l.self.slots = omega (arith, l.invariant.slots, c.loop-slot-test.true) in
    record {
      filed = c.remove.ensures.filed;
      slots = c.remove.ensures.slots ∙ l.invariant.slots;
      none = λ s before. ap (λ (ys : List (Option ℤ)). get_or ys s None) c.remove.ensures.moments ∙ ⊎_elim
          (λ (e : s ≡ x). ap (λ i. get_or (set ms x None) i None) e ∙ get_or-set_same ms x None None (omega (arith, low, count_of_slots l.self)))
          (λ (ne : s ≢ x). get_or-set_other ms x s None None ne ∙ l.invariant.none s (omega (arith, before, ne)))
          (cases_eq s x);
    }

pub returns-clause-filed : goal.returns-clause-filed
returns-clause-filed c =
    let l = c.loop-slot in
    cleared l.self (record l.self { ends = c.spread.new.ends }) l.invariant.filed refl c.spread.ensures.ends
    (λ s low. sym (moment_of_slot l.self s low) ∙ l.invariant.none s (omega (arith, low, l.invariant.slots, c.loop-slot-test.false)))

pub returns-clause-moments : goal.returns-clause-moments
returns-clause-moments c =
    let l = c.loop-slot in
    no_moment_of l.self (λ s low. sym (moment_of_slot l.self s low) ∙ l.invariant.none s (omega (arith, low, l.invariant.slots, c.loop-slot-test.false)))
    ∙ ap (λ n. let ys : List (Option ℤ) = replicate n None in ys) l.invariant.slots
