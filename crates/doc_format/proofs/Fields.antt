-- Rows that can be written: each field holds no byte that ends a field or a line.
use Rattle.mb_problem.proofs.Common.{AllByRecursion, Row, IsField}

abbrev pub HasFields : Row → Type 0
HasFields row = AllByRecursion IsField row
