use Rattle.certificates.proofs.Common.{◌≡◌, ℕ, ◌+◌, ◌-◌, ◌*◌, ◌≤◌, ◌&&◌, Bool, true, false, not, refl, subst, arith, mul-le-mul, IfOk-weaker, Obstruction}
use Rattle.certificates.proofs.Common.{Barrier, OddPart, SplitPart, Never, obstruction_of, asks_conservative, searches_of, Optimal}
use Rattle.doc_format.specs.Parts.{is_barrier}
use Rattle.solve_answers.specs.Solved.{is_part}
use Rattle.mb_problem.proofs.Common.{size_of}
use Rattle.mwpm_engine.specs.Solutions.{most_steps}
use Rattle.solve_answers.specs.Settled.{SettlesOrIsFit, SettlesOrHasNoPart}
use Rattle.solve_kinds.proofs.Settling.{settles-for}
use Rattle.solve_kinds.proofs.duals.solve_by_duals.Goals as goal

-- what the first search counts is within what all may
by-first : (searches most old new : ℕ) → new ≤ old + (searches - 1) * most → new ≤ old + searches * most
by-first searches most old new h =
    let fewer : searches - 1 ≤ searches = omega arith in
    let same : most ≤ most = omega arith in
    let less : (searches - 1) * most ≤ searches * most = mul-le-mul fewer same in
    omega (arith, h, less)

no-barrier : (e : Obstruction) (t : Bool) → (is_part e && not t) ≡ true → is_barrier e ≡ false
no-barrier Barrier t h = absurd cc
no-barrier OddPart t h = refl
no-barrier SplitPart t h = refl
no-barrier Never t h = refl

never-asks : (p t : Bool) → (p && not t) ≡ true → t ≡ false
never-asks true true h = absurd cc
never-asks true false h = refl
never-asks false t h = absurd cc

pub returns-in-Some-clause-unsearched : goal.returns-in-Some-clause-unsearched
returns-in-Some-clause-unsearched g c first status = c.unfit.ensures.idle (never-asks (is_part (obstruction_of c.args.kind)) (asks_conservative c.args.kind) first)

pub returns-in-Some-2-clause-unsearched : goal.returns-in-Some-2-clause-unsearched
returns-in-Some-2-clause-unsearched g c first status = c.unfit.ensures.idle (never-asks (is_part (obstruction_of c.args.kind)) (asks_conservative c.args.kind) first)

pub returns-clause-unsearched : goal.returns-clause-unsearched
returns-clause-unsearched g c =
    let kind = c.args.kind in
    IfOk-weaker c.searched.result (λ d. is_barrier (obstruction_of kind) ≡ false → d.status ≡ Optimal) _
    (λ d best first status. (let found : d.status ≡ Optimal = best (no-barrier (obstruction_of kind) (asks_conservative kind) first) in absurd cc)) c.searched.ensures.best

pub returns-in_err-document-clause-steps : goal.returns-in_err-document-clause-steps
returns-in_err-document-clause-steps g c = by-first (searches_of c.args.kind) (most_steps (size_of c.args.kind c.args.instance.now)) c.args.steps.now c.unfit.new.steps c.unfit.ensures.steps

pub returns-in-Some-clause-settled : goal.returns-in-Some-clause-settled
returns-in-Some-clause-settled g c =
    settles-for c.args.detail c.args.kind c.args.instance.now c.in-Some.document (subst (SettlesOrIsFit c.args.kind c.args.instance.now) c.in-Some.is c.in_ok-document.ensures.settled)

pub returns-in-Some-clause-steps : goal.returns-in-Some-clause-steps
returns-in-Some-clause-steps g c = by-first (searches_of c.args.kind) (most_steps (size_of c.args.kind c.args.instance.now)) c.args.steps.now c.unfit.new.steps c.unfit.ensures.steps

pub returns-in_err-document-2-clause-steps : goal.returns-in_err-document-2-clause-steps
returns-in_err-document-2-clause-steps g c =
    by-first (searches_of c.args.kind) (most_steps (size_of c.args.kind c.args.instance.now)) c.args.steps.now c.unfit.new.steps c.unfit.ensures.steps

pub returns-in-Some-2-clause-settled : goal.returns-in-Some-2-clause-settled
returns-in-Some-2-clause-settled g c =
    settles-for c.args.detail c.args.kind c.args.instance.now c.in-Some-2.document (subst (SettlesOrHasNoPart c.args.kind c.args.instance.now) c.in-Some-2.is c.in_ok-document-2.ensures)

pub returns-in-Some-2-clause-steps : goal.returns-in-Some-2-clause-steps
returns-in-Some-2-clause-steps g c = by-first (searches_of c.args.kind) (most_steps (size_of c.args.kind c.args.instance.now)) c.args.steps.now c.unfit.new.steps c.unfit.ensures.steps

pub returns-in_err-document-clause-once : goal.returns-in_err-document-clause-once
returns-in_err-document-clause-once g c zero = let same = c.unfit.ensures.from_zero zero in omega (arith, same)

pub returns-in-Some-clause-once : goal.returns-in-Some-clause-once
returns-in-Some-clause-once g c zero = let same = c.unfit.ensures.from_zero zero in omega (arith, same)

pub returns-in_err-document-2-clause-once : goal.returns-in_err-document-2-clause-once
returns-in_err-document-2-clause-once g c zero = let same = c.unfit.ensures.from_zero zero in omega (arith, same)

pub returns-in-Some-2-clause-once : goal.returns-in-Some-2-clause-once
returns-in-Some-2-clause-once g c zero = let same = c.unfit.ensures.from_zero zero in omega (arith, same)

pub returns-clause-once : goal.returns-clause-once
returns-clause-once g c zero = let same = c.unfit.ensures.from_zero zero in let few = c.searched.ensures.steps in omega (arith, same, few)

pub excluded-requires : goal.excluded-requires
excluded-requires g c = record { network = c.edges.ensures.network; weights = (subst (SettlesOrIsFit c.args.kind c.args.instance.now) c.in_default.is c.in_ok-document.ensures.settled).0 }

pub searched-requires : goal.searched-requires
searched-requires g c =
    let i = c.args.instance.now in
    let fit = subst (SettlesOrIsFit c.args.kind i) c.in_default.is c.in_ok-document.ensures.settled in
    let ready = c.requires.well_formed in
    record {
      limits = c.requires.limits;
      weights = ready.weights;
      duals = c.requires.duals;
      well_formed = record { no_part = subst (SettlesOrHasNoPart c.args.kind i) c.in_default-2.is c.in_ok-document-2.ensures; ends = ready.ends; weights = ready.weights; even_sets = fit.1 };
      conservative = fit.0;
    }
