-- The numbers of rules, by which C names them.
use Rattle.std.specs.Prelude.{ℕ}
use Rattle.array_call.specs.declared.rule.ArrayRule.{ArrayRule}
use Rattle.array_call.specs.declared.rule.ArrayRule.TheVariants.{Lengths, Vertices, Edges, End}
use Rattle.array_call.specs.declared.rule.ArrayRule.TheVariants.{Weight, Capacity, Value, Negative}
use Rattle.array_call.specs.declared.rule.ArrayRule.TheVariants.{PathEnds, Starts}
use Rattle.cert_check.specs.declared.rule.DocRule.{DocRule}
use Rattle.cert_check.specs.declared.rule.DocRule.TheVariants.{DocForm, KindDiffers, DocRange}
use Rattle.cert_check.specs.declared.rule.DocRule.TheVariants.{NotFeasible, WeightDiffers}
use Rattle.cert_check.specs.declared.rule.DocRule.TheVariants.{DualMissing, SetForm, Slack}
use Rattle.cert_check.specs.declared.rule.DocRule.TheVariants.{ValueDiffers, NotBarrier, NotClosed}
use Rattle.cert_check.specs.declared.rule.DocRule.TheVariants.{NotCircuit, PathForm, PathMissing}

-- the rules of arrays; 7 was that of a rule which is gone, and stays free
abbrev pub number_of_rule : ArrayRule → ℕ
number_of_rule Lengths = 1
number_of_rule Vertices = 2
number_of_rule Edges = 3
number_of_rule End = 4
number_of_rule Weight = 5
number_of_rule Capacity = 6
number_of_rule Value = 8
number_of_rule Negative = 9
number_of_rule PathEnds = 10
number_of_rule Starts = 11

-- the rules of documents, which are tried in another order
abbrev pub number_of_document_rule : DocRule → ℕ
number_of_document_rule DocForm = 1
number_of_document_rule KindDiffers = 2
number_of_document_rule DocRange = 3
number_of_document_rule NotFeasible = 4
number_of_document_rule WeightDiffers = 5
number_of_document_rule DualMissing = 6
number_of_document_rule SetForm = 7
number_of_document_rule Slack = 8
number_of_document_rule ValueDiffers = 9
number_of_document_rule NotBarrier = 10
number_of_document_rule NotClosed = 11
number_of_document_rule NotCircuit = 12
number_of_document_rule PathForm = 13
number_of_document_rule PathMissing = 14
