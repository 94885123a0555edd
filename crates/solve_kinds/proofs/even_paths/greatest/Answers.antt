use Rattle.certificates.proofs.Common.{◌≡◌, ℕ, ◌+◌, ◌*◌, ◌≤◌, subst, arith, IfOk-weaker, Kind, Network, OuterPaths, Gallai, proof_of, searches_of, only-gallai}
use Rattle.mb_problem.specs.Size.{size_of}
use Rattle.mwpm_engine.specs.Solutions.{most_steps}
use Rattle.solve_answers.specs.Settled.{SettlesBare}
use Rattle.solve_kinds.specs.Greatest.{StatesGreatest}
use Rattle.solve_kinds.proofs.Outer.{settles-greatest}
use Rattle.solve_kinds.proofs.even_paths.greatest.Goals as goal

paid : (kind : Kind) (i : Network) (old new : ℕ) → proof_of kind ≡ OuterPaths → new ≤ old + most_steps (size_of Gallai i) →
    new ≤ old + searches_of kind * most_steps (size_of kind i)
paid kind i old new is counted = subst (λ (k : Kind). new ≤ old + searches_of k * most_steps (size_of k i)) (only-gallai kind is) (omega (arith, counted))

pub returns-in_err-found-clause-steps : goal.returns-in_err-found-clause-steps
returns-in_err-found-clause-steps g c = paid c.args.kind c.args.instance.now c.args.steps.now c.decompose.new.steps c.requires.proof c.decompose.ensures.steps

pub returns : goal.returns
returns g c =
    let kind = c.args.kind in
    let i = c.args.instance.now in
    let found = c.in_ok-found.found in
    record {
      settled = IfOk-weaker c.stated-document.result (StatesGreatest i found) (SettlesBare kind i) (λ d p. subst (λ (k : Kind). SettlesBare k i d) (only-gallai kind c.requires.proof)
          (settles-greatest i found d c.edges.ensures.network p c.laws.ensures.paths c.laws.ensures.loops)) c.stated-document.ensures;
      steps = paid kind i c.args.steps.now c.decompose.new.steps c.requires.proof c.decompose.ensures.steps;
    }
