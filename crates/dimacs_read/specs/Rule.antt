-- The names of rules.
use Rattle.std.specs.Prelude.{ℕ, List, codes}
use Rattle.dimacs_read.specs.declared.rule.Rule.{Rule}
use Rattle.dimacs_read.specs.declared.rule.Rule.TheVariants.{UnknownLine, HeaderMissing}
use Rattle.dimacs_read.specs.declared.rule.Rule.TheVariants.{HeaderTwice, HeaderForm, FieldCount}
use Rattle.dimacs_read.specs.declared.rule.Rule.TheVariants.{Number, Range, NodeTwice}
use Rattle.dimacs_read.specs.declared.rule.Rule.TheVariants.{EdgeCount, Negative, PathEnds}

abbrev pub rule_name : Rule → List ℕ
rule_name UnknownLine = codes "UnknownLine"
rule_name HeaderMissing = codes "HeaderMissing"
rule_name HeaderTwice = codes "HeaderTwice"
rule_name HeaderForm = codes "HeaderForm"
rule_name FieldCount = codes "FieldCount"
rule_name Number = codes "Number"
rule_name Range = codes "Range"
rule_name NodeTwice = codes "NodeTwice"
rule_name EdgeCount = codes "EdgeCount"
rule_name Negative = codes "Negative"
rule_name PathEnds = codes "PathEnds"
