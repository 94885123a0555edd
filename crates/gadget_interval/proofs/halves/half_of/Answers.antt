use Rattle.mb_problem.proofs.Common.{sym, subst, ◌∙◌, ap, IfOk-weaker, Network, size_of, IsWithinLimits}
use Rattle.mb_problem.specs.declared.kind.Kind.TheVariants.{CapMatch}
use Rattle.gadget_base.specs.Certified.{gadget_graph}
use Rattle.gadget_interval.proofs.halves.half_of.Goals as goal

pub capped-half-requires : goal.capped-half-requires
capped-half-requires c = record { limits = subst (λ (i : Network). IsWithinLimits (size_of CapMatch i)) (sym c.in_ok-upper.ensures.instance) c.requires.limits }

pub returns : goal.returns
returns c = IfOk-weaker c.capped-half.result _ _ (λ h is. is ∙ ap (λ (i : Network). gadget_graph CapMatch i) c.in_ok-upper.ensures.instance) c.capped-half.ensures.graph
