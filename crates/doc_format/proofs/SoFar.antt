-- How far the lines of a document have been read.
use Rattle.graph_theory.proofs.Common.{◌≡◌, ℕ, ◌+◌, ◌≤◌, List, length, take, drop, Some}
use Rattle.mb_base.specs.Rows.{Row}
use Rattle.doc_format.specs.declared.document.Document.{Document}
use Rattle.doc_format.specs.Form.{parts_of}
use Rattle.doc_format.specs.Reading.{body_of, head_of, head_from, parts_from, NoneRefusedBelow}

-- the first lines are this document
pub record IsRead (n : ℕ) (rs : List Row) (number : ℕ) (left : List Row) (d : Document) : Type 0 where
  pub count : ℕ
  pub number_is : number ≡ n + count
  pub within : count ≤ length rs
  pub left_is : drop count rs ≡ left
  pub none_refused : NoneRefusedBelow n rs count
  pub head : head_from n (take count rs) ≡ Some (head_of d)
  pub parts : parts_of (body_of d) ≡ parts_from n (take count rs)
