use Rattle.graph_theory.proofs.Common.{sym, ◌∙◌, eq-eqb, eqb-true}
use Rattle.cert_check.proofs.PathLemmas.{counted-paths}
use Rattle.cert_check.proofs.paths.have_paths.Goals as goal

pub returns-in-Some : goal.returns-in-Some
returns-in-Some c =
    let counted = counted-paths c.args.document.now c.in-Some.d c.in-Some.is (rw c.in-Some.is at c.requires.members) c.requires.starts c.requires.inside in (
      (λ t. counted.0 (sym c.len.ensures ∙ eqb-true _ _ t ∙ c.len-in-Some.ensures)),
      (λ all. eq-eqb _ _ (c.len.ensures ∙ counted.1 all ∙ sym c.len-in-Some.ensures)),
    )
