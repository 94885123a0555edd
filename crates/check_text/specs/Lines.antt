-- The lines that the program writes.
use Rattle.std.specs.Prelude.{ℕ, List, ◌++◌, codes, decimal}
use Rattle.graph_theory.specs.Limits.{Size}
use Rattle.dimacs_read.specs.declared.rule.Rule.{Rule}
use Rattle.dimacs_read.specs.Rule.{rule_name}
use Rattle.cert_check.specs.declared.rule.DocRule.{DocRule}
use Rattle.cert_check.specs.declared.rule.Verdict.{Verdict}
use Rattle.cert_check.specs.declared.rule.Verdict.TheVariants as verdict
use Rattle.cert_check.specs.Rules.{rule_text}
use Rattle.doc_format.specs.declared.document.Document.{Document}
use Rattle.doc_format.specs.Spelling.{row_text, head_row}

-- words, a name and a number, with single spaces
abbrev pub fault_line : List ℕ → List ℕ → ℕ → List ℕ
fault_line words name number = words ++ name ++ codes " " ++ decimal number ++ codes "\n"

abbrev pub malformed_line : Rule → ℕ → List ℕ
malformed_line rule line = fault_line (codes "s MALFORMED ") (rule_name rule) line

abbrev pub rejected_line : DocRule → ℕ → List ℕ
rejected_line rule line = fault_line (codes "s REJECTED ") (rule_text rule) line

-- what is written of a verdict
abbrev pub verdict_line : Verdict → List ℕ
verdict_line verdict.Accepted = codes "s ACCEPTED\n"
verdict_line (verdict.Rejected rule line) = rejected_line rule line

-- words and the two numbers of a size
abbrev pub size_line : List ℕ → Size → List ℕ
size_line words size = fault_line words (decimal size.vertices) size.edges

abbrev pub too_large_line : Size → List ℕ
too_large_line size = size_line (codes "s TOOLARGE ") size

abbrev pub graph_line : Size → List ℕ
graph_line size = size_line (codes "g ") size

-- the first line of a document's text
abbrev pub statement_line : Document → List ℕ
statement_line d = row_text (head_row d.status d.kind d.weight)

-- what a trial writes: the size of the certificate graph, what the document states, and the verdict
-- on it
abbrev pub trial_text : Size → Document → Verdict → List ℕ
trial_text size d v = graph_line size ++ statement_line d ++ verdict_line v
