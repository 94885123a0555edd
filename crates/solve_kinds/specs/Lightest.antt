-- What the document of a perfect matching with a lightest heaviest edge is made of.
use Rattle.std.specs.Prelude.{◌≡◌, ℕ, ◌≤◌, ◌==◌, ℤ, if◌then◌else◌, List, length, All}
use Rattle.std.specs.Prelude.{Option, None, Some}
use Rattle.graph_theory.specs.Graph.{IsPerfect}
use Rattle.graph_theory.specs.Duals.{IsNumber}
use Rattle.mb_problem.specs.declared.kind.Kind.TheVariants.{Bottleneck}
use Rattle.mb_problem.specs.Heaviest.{heaviest}
use Rattle.mb_problem.specs.Network.{Network, vertices, graph_of}
use Rattle.doc_format.specs.declared.document.Document.{Document}
use Rattle.doc_format.specs.declared.part.MemberLine.{MemberLine}
use Rattle.doc_format.specs.declared.status.DocStatus.TheVariants.{Optimal}
use Rattle.doc_format.specs.Parts.{blank}
use Rattle.doc_format.specs.Reading.{body_of}
use Rattle.certificates.specs.Claims.{counts_of}
use Rattle.certificates.specs.Within.{IsCountWithin}
use Rattle.document_lines.specs.Lines.{member_line}

-- the line of a set, if there is one of n vertices
abbrev pub line_beside : ℕ → List ℕ → Option MemberLine
line_beside n set = if n == 0 then None else Some (member_line set)

-- a perfect matching, as a document lists and weighs it, and the line of the set
pub record StatesLightest (i : Network) (weight : ℤ) (set : List ℕ) (d : Document) : Type 0 where
  pub status : d.status ≡ Optimal
  pub kind_is : d.kind ≡ Bottleneck
  pub counts : List ℕ
  pub perfect : IsPerfect (graph_of i) counts
  pub lists : counts_of d.counts (length counts) ≡ counts
  pub weighs : heaviest (graph_of i) counts ≡ d.weight
  pub weight_is : d.weight ≡ weight
  pub number : IsNumber d.weight
  pub counts_within : All (IsCountWithin (length i.edges)) d.counts
  pub few_counts : length d.counts ≤ length i.edges
  pub only : body_of d
      ≡ record blank { counts = d.counts; barrier = line_beside (vertices i) set }
