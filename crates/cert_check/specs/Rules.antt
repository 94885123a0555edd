-- The names of the rules of documents.
use Rattle.std.specs.Prelude.{ℕ, List, codes}
use Rattle.cert_check.specs.declared.rule.DocRule.{DocRule}
use Rattle.cert_check.specs.declared.rule.DocRule.TheVariants.{DocForm, KindDiffers, DocRange}
use Rattle.cert_check.specs.declared.rule.DocRule.TheVariants.{NotFeasible, WeightDiffers}
use Rattle.cert_check.specs.declared.rule.DocRule.TheVariants.{DualMissing}
use Rattle.cert_check.specs.declared.rule.DocRule.TheVariants.{SetForm, Slack, ValueDiffers}
use Rattle.cert_check.specs.declared.rule.DocRule.TheVariants.{NotBarrier, NotClosed, NotCircuit}
use Rattle.cert_check.specs.declared.rule.DocRule.TheVariants.{PathForm, PathMissing}

abbrev pub rule_text : DocRule → List ℕ
rule_text DocForm = codes "DocForm"
rule_text KindDiffers = codes "KindDiffers"
rule_text DocRange = codes "DocRange"
rule_text NotFeasible = codes "NotFeasible"
rule_text WeightDiffers = codes "WeightDiffers"
rule_text DualMissing = codes "DualMissing"
rule_text SetForm = codes "SetForm"
rule_text Slack = codes "Slack"
rule_text ValueDiffers = codes "ValueDiffers"
rule_text NotBarrier = codes "NotBarrier"
rule_text NotClosed = codes "NotClosed"
rule_text NotCircuit = codes "NotCircuit"
rule_text PathForm = codes "PathForm"
rule_text PathMissing = codes "PathMissing"
