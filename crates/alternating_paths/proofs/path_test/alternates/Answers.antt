use Rattle.mb_problem.proofs.Common.{◌↔◌, ℕ, ◌-◌, [], List, slice_index, ap, sym, ◌∙◌, false≢true, subst, Alternates, eq-eqb, eqb-true}
use Rattle.graph_theory.proofs.Common.{arith}
use Rattle.std.proofs.lemmas.List.{drop_all, drop_more}
use Rattle.alternating_paths.proofs.PathLemmas.{AlternateFrom, alternate-from}
use Rattle.alternating_paths.proofs.path_test.alternates.Goals as goal

pub loop-edge-init : goal.loop-edge-init
loop-edge-init c = record { one_or_none = omega arith; rest = alternate-from c.args.counts.now c.args.edges.now }

pub bounds-counts-number : goal.bounds-counts-number
bounds-counts-number c =
    let range = c.requires c.loop-edge.edge-index c.edge-item.result c.loop-edge-test.true in
    omega (arith, c.number.ensures, c.edge-item.is, range.0, range.1)

pub loop-edge-preserved : goal.loop-edge-preserved
loop-edge-preserved c =
    let counts = c.args.counts.now in
    let rest = drop_more c.args.edges.now c.loop-edge.edge-index c.edge-item.result c.loop-edge-test.true in
    let now = subst (λ (xs : List ℕ). AlternateFrom counts c.loop-edge.wanted xs ↔ Alternates counts c.args.edges.now) rest c.loop-edge.invariant.rest in
    let here = ap (λ (n : ℕ). slice_index counts (n - 1)) (sym (c.number.ensures ∙ c.edge-item.is)) ∙ c.if-counts-number.false in
    record { one_or_none = omega arith; rest = ((λ rest. now.0 (here, rest)), (λ turns. (now.1 turns).1)) }

pub returns-then-counts-number : goal.returns-then-counts-number
returns-then-counts-number c =
    let counts = c.args.counts.now in
    let rest = drop_more c.args.edges.now c.loop-edge.edge-index c.edge-item.result c.loop-edge-test.true in
    let now = subst (λ (xs : List ℕ). AlternateFrom counts c.loop-edge.wanted xs ↔ Alternates counts c.args.edges.now) rest c.loop-edge.invariant.rest in (
      (λ t. absurd (false≢true t)),
      (λ turns.
          absurd (c.if-counts-number.true (ap (λ (n : ℕ). slice_index counts (n - 1)) (c.number.ensures ∙ c.edge-item.is) ∙ (now.1 turns).0))),
    )

pub returns : goal.returns
returns c =
    let counts = c.args.counts.now in
    let es = c.args.edges.now in
    let none = drop_all c.loop-edge.edge-index es c.loop-edge-test.false in
    let rest : AlternateFrom counts c.loop-edge.wanted [] ↔ Alternates counts es =
    subst (λ (xs : List ℕ). AlternateFrom counts c.loop-edge.wanted xs ↔ Alternates counts es) none c.loop-edge.invariant.rest in
    ((λ t. rest.0 (eqb-true _ _ t)), (λ turns. eq-eqb _ _ (rest.1 turns)))
