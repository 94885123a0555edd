-- What holds of a document whose numbers are in range.
use Rattle.std.specs.Prelude.{◌≡◌, ℕ, ◌<◌, ℤ, pos, nat_abs, ◌≤ℤ◌, true, All, List, length}
use Rattle.std.specs.Prelude.{slice_index_or}
use Rattle.graph_theory.specs.declared.limits.TheConstants.{NUMBER_LIMIT}
use Rattle.graph_theory.specs.Duals.{IsNumber}
use Rattle.mb_problem.specs.declared.limits.TheConstants.{VALUE_LIMIT}
use Rattle.mb_problem.specs.declared.kind.Kind.{Kind}
use Rattle.mb_problem.specs.Network.{Network}
use Rattle.doc_format.specs.declared.part.CountLine.{CountLine}
use Rattle.doc_format.specs.declared.part.DualLine.{DualLine}
use Rattle.doc_format.specs.declared.part.PathLine.{PathLine}
use Rattle.doc_format.specs.declared.part.SetItem.{SetItem}
use Rattle.doc_format.specs.declared.part.SetItem.TheVariants.{Vertex, Reference}
use Rattle.doc_format.specs.declared.part.SetLine.{SetLine}
use Rattle.doc_format.specs.declared.part.WalkLine.{WalkLine}
use Rattle.doc_format.specs.declared.document.Document.{Document}
use Rattle.doc_format.specs.Parts.{parts_of}
use Rattle.doc_format.specs.Reading.{body_of}
use Rattle.certificates.specs.Ranges.{all_in_range_for}

-- from 1 to n
pub record IsUpTo (n : ℕ) (z : ℤ) : Type 0 where
  pub low : pos 1 ≤ℤ z
  pub high : z ≤ℤ pos n

-- the dual of a set: at least 1
abbrev pub IsSetDual : ℤ → Type 0
IsSetDual z = IsUpTo (nat_abs NUMBER_LIMIT) z

abbrev pub IsCountWithin : ℕ → CountLine → Type 0
IsCountWithin m x = IsUpTo m x.edge × IsUpTo VALUE_LIMIT x.count

abbrev pub IsDualWithin : ℕ → DualLine → Type 0
IsDualWithin n y = IsUpTo n y.vertex × IsNumber y.dual

-- a vertex of a graph of n vertices, or one of k earlier z lines
abbrev pub IsItemWithin : ℕ → ℕ → SetItem → Type 0
IsItemWithin n k (Vertex v) = IsUpTo n v
IsItemWithin n k (Reference j) = IsUpTo k j

-- a z line after k others
abbrev pub IsSetLineWithin : ℕ → ℕ → SetLine → Type 0
IsSetLineWithin n k z = IsSetDual z.dual × All (IsItemWithin n k) z.items

abbrev pub AreSetLinesWithin : ℕ → List SetLine → Type 0
AreSetLinesWithin n lines = (k : ℕ) (z : SetLine) → k < length lines → z ≡ slice_index_or lines k z
    → IsSetLineWithin n k z

abbrev pub IsWalkWithin : ℕ → ℕ → WalkLine → Type 0
IsWalkWithin n m w = IsUpTo n w.start × All (IsUpTo m) w.edges

abbrev pub IsPathWithin : ℕ → ℕ → PathLine → Type 0
IsPathWithin n m r = IsUpTo n r.vertex × All (IsUpTo m) r.edges

-- every number of the document is in its range
pub record AreWithin (kind : Kind) (i : Network) (d : Document) : Type 0 where
  pub weight : IsNumber d.weight
  pub parts : all_in_range_for kind i (parts_of (body_of d)) ≡ true
