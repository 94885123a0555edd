-- What the judge of paths looks up of a document. Only clauses of private calls cite this module.
use Rattle.std.specs.Prelude.{◌≡◌}
use Rattle.mb_problem.specs.Degrees.{AreDegrees}
use Rattle.mb_problem.specs.Marks.{AreMarks}
use Rattle.mb_problem.specs.Network.{Network, vertices}
use Rattle.doc_format.specs.declared.document.Document.{Document}
use Rattle.certificates.specs.Claims.{stated_counts, members_of}
use Rattle.cert_check.specs.declared.paths.Stated.{Stated}

-- the stated matching, its degrees, and marks of the d line's members
pub record IsStated (i : Network) (d : Document) (s : Stated) : Type 0 where
  pub counts : s.counts.items ≡ stated_counts i d
  pub degrees : AreDegrees i (stated_counts i d) s.degrees.items
  pub outer : AreMarks (vertices i) s.outer.items (members_of d.outer)
