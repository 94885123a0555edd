-- What a line names: the vertices of its set that no line before holds, and for each other member
-- the last line that does.
use Rattle.std.specs.Prelude.{◌≡◌, ℕ, zero, suc, ◌+◌, ◌==◌, ◌&&◌, Bool, not, if◌then◌else◌, List}
use Rattle.std.specs.Prelude.{◌++◌, map, pos, slice_index_or}
use Rattle.std.specs.List.Sorted.{IsStrictlyIncreasing}
use Rattle.graph_theory.specs.declared.odd_set.OddSet.{OddSet}
use Rattle.graph_theory.specs.Duals.{DualSet}
use Rattle.graph_theory.specs.Parts.{holds}
use Rattle.doc_format.specs.declared.part.SetItem.{SetItem}
use Rattle.doc_format.specs.declared.part.SetItem.TheVariants.{Vertex, Reference}
use Rattle.doc_format.specs.declared.part.SetLine.{SetLine}
use Rattle.certificates.specs.Claims.{set_of}
use Rattle.document_lines.specs.Sets.{set_from_last}

-- the number of the last of the first k lines that holds v, and 0 if none does
abbrev pub last_line : List DualSet → ℕ → ℕ → ℕ
last_line sets zero v = 0
last_line sets (suc k) v = if holds (set_from_last sets k).members v then k
    + 1 else last_line sets k v

-- what a table has for a number, and 0 past its end
abbrev pub entry : List ℕ → ℕ → ℕ
entry table v = slice_index_or table v 0

-- v is a member that no line holds, where `last` gives the last line that holds a vertex
abbrev pub is_loose : (ℕ → ℕ) → List ℕ → ℕ → Bool
is_loose last members v = holds members v && last v == 0

-- r is the last line that holds some member
abbrev pub is_last_of : (ℕ → ℕ) → List ℕ → ℕ → Bool
is_last_of last members r = not (r == 0) && holds (map last members) r

-- the set at place k from the last one back, by its loose vertices and by lines before, both
-- strictly ascending
pub record NamesSet (sets : List DualSet) (k : ℕ) (s : OddSet) : Type 0 where
  pub dual : s.dual ≡ (set_from_last sets k).dual
  pub vertices : (v : ℕ)
      → holds s.vertices v ≡ is_loose (last_line sets k) (set_from_last sets k).members v
  pub references : (r : ℕ)
      → holds s.references r ≡ is_last_of (last_line sets k) (set_from_last sets k).members r
  pub vertices_ascend : IsStrictlyIncreasing s.vertices
  pub references_ascend : IsStrictlyIncreasing s.references

-- items: vertices, then references
abbrev pub items_of : List ℕ → List ℕ → List SetItem
items_of vertices references = map (λ v. Vertex (pos v)) vertices
    ++ map (λ r. Reference (pos r)) references

-- the line of the set at place k from the last one back
pub record IsLineOf (sets : List DualSet) (k : ℕ) (z : SetLine) : Type 0 where
  pub names : NamesSet sets k (set_of z)
  pub items : z.items ≡ items_of (set_of z).vertices (set_of z).references
  pub unread : z.line ≡ 1
