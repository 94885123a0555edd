use Rattle.graph_theory.proofs.Common.{◌≡◌, ℕ, ◌-◌, ◌<◌, ◌≤◌, List, length, All, ap, sym, subst, arith, All-get_or, no_set}
use Rattle.document_lines.specs.LastLines.{entry}
use Rattle.document_lines.proofs.Names.{gathered-within, last-low}
use Rattle.document_lines.proofs.sets.find_names.Goals as goal

pub gather-requires-clause-last : goal.gather-requires-clause-last
gather-requires-clause-last c =
    λ v. (let same : entry c.deref_mut.result.now v ≡ entry c.args.tables.now.last.items v = ap (λ (xs : List ℕ). entry xs v) c.deref_mut.ensures.value in
    omega (arith, same, c.requires.well_formed.last v, last-low c.args.engine.now.sets c.args.done v))

pub arrange-requires-clause-within : goal.arrange-requires-clause-within
arrange-requires-clause-within c =
    let n = c.args.vertices in
    let sets = c.args.engine.now.sets in
    let place = c.set_count.result - 1 - c.args.done in
    let low : place < length sets = omega (arith, c.set_count.ensures, c.requires.done) in
    gathered-within n _ _ _ _ _ _ c.in_ok-gather.ensures.gathered
    (subst (λ (ms : List ℕ). All (λ m. (1 ≤ m) × (m ≤ n)) ms) (sym c.set-dual.ensures.members)
    (All-get_or (λ s. All (λ m. (1 ≤ m) × (m ≤ n)) s.members) sets place no_set low c.requires.within))

pub gather-requires-clause-seen : goal.gather-requires-clause-seen
gather-requires-clause-seen c = rw c.deref_mut-2.ensures.value c.requires.well_formed.seen

pub arrange-requires-clause-clear : goal.arrange-requires-clause-clear
arrange-requires-clause-clear c = rw c.deref_mut-3.ensures.value c.requires.well_formed.clear

pub arrange-requires-clause-size : goal.arrange-requires-clause-size
arrange-requires-clause-size c = rw c.deref_mut-3.ensures.value c.requires.well_formed.marks_size
