-- What the document of a greatest matching is made of, with the vertices that some such one misses.
use Rattle.std.specs.Prelude.{◌≡◌, ℕ, ◌≤◌, pos, List, length, map, All, Some}
use Rattle.graph_theory.specs.Duals.{IsNumber}
use Rattle.mb_problem.specs.declared.kind.Kind.TheVariants.{Gallai}
use Rattle.mb_problem.specs.Network.{Network, graph_of}
use Rattle.gadget_base.specs.Listed.{times_each}
use Rattle.doc_format.specs.declared.document.Document.{Document}
use Rattle.doc_format.specs.declared.part.PathLine.{PathLine}
use Rattle.doc_format.specs.declared.status.DocStatus.TheVariants.{Optimal}
use Rattle.doc_format.specs.Parts.{blank}
use Rattle.doc_format.specs.Reading.{body_of}
use Rattle.certificates.specs.Claims.{counts_of}
use Rattle.certificates.specs.Within.{IsCountWithin}
use Rattle.document_lines.specs.Lines.{member_line}
use Rattle.gallai.specs.declared.found.Decomposition.{Decomposition}
use Rattle.gallai.specs.Decompositions.{IsDecomposition}

-- the line of a path
abbrev pub path_line : ℕ × List ℕ → PathLine
path_line p = record { line = 1; vertex = pos p.0; edges = map pos p.1 }

-- the matching, as a document lists it, the lines of both sets and those of the paths
pub record StatesGreatest (i : Network) (found : Decomposition) (d : Document) : Type 0 where
  pub status : d.status ≡ Optimal
  pub kind_is : d.kind ≡ Gallai
  pub decomposes : IsDecomposition i found
  pub lists : counts_of d.counts (length i.edges) ≡ times_each (graph_of i) found.matching
  pub weight_is : d.weight ≡ pos (length found.matching)
  pub number : IsNumber d.weight
  pub counts_within : All (IsCountWithin (length i.edges)) d.counts
  pub few_counts : length d.counts ≤ length i.edges
  pub only : body_of d ≡ record blank {
    counts = d.counts;
    outer = Some (member_line found.d);
    barrier = Some (member_line found.a);
    paths = map path_line found.paths;
  }
