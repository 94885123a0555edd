-- What is gathered for a line, and the tables that tell it.
use Rattle.std.specs.Prelude.{◌≡◌, ℕ, ◌+◌, ◌<◌, nat_eq, if◌then◌else◌, List, [], length}
use Rattle.std.specs.List.{IsDistinct}
use Rattle.std.specs.List.Sorted.{IsStrictlyIncreasing}
use Rattle.graph_theory.specs.Duals.{DualSet}
use Rattle.graph_theory.specs.Parts.{holds}
use Rattle.graph_parts.specs.Marks.{MarksSet}
use Rattle.document_lines.specs.declared.tables.Tables.{Tables}
use Rattle.document_lines.specs.Sets.{set_from_last}
use Rattle.document_lines.specs.LastLines.{last_line, entry, is_loose, is_last_of}

-- all entries are below a number
abbrev pub AreBelow : ℕ → List ℕ → Type 0
AreBelow number table = (v : ℕ) → entry table v < number

-- The loose vertices and the last lines of members, each once, where a table tells which line holds
-- a vertex last; after that it tells that the line of this number holds the members.
pub record IsGathered (number : ℕ) (members before after vs rs : List ℕ) : Type 0 where
  pub last : (v : ℕ) → entry after v ≡ (if holds members v then number else entry before v)
  pub vertices : (v : ℕ) → holds vs v ≡ is_loose (entry before) members v
  pub references : (r : ℕ) → holds rs r ≡ is_last_of (entry before) members r
  pub vertices_differ : IsDistinct nat_eq vs
  pub references_differ : IsDistinct nat_eq rs

-- The tables are right before the line after the first k: they tell the last line that holds a
-- vertex, no line has seen more than these, and no vertex is marked.
pub record AreReady (n : ℕ) (sets : List DualSet) (k : ℕ) (t : Tables) : Type 0 where
  pub last_size : length t.last.items ≡ n + 1
  pub seen_size : length t.seen.items ≡ length sets + 1
  pub marks_size : length t.marks.items ≡ n + 1
  pub last : (v : ℕ) → entry t.last.items v ≡ last_line sets k v
  pub seen : AreBelow (k + 1) t.seen.items
  pub clear : MarksSet t.marks.items []

-- the tables have what the line of the set at place k names
pub record HaveNames (sets : List DualSet) (k : ℕ) (t : Tables) : Type 0 where
  pub vertices : (v : ℕ)
      → holds t.vertices.items v ≡ is_loose (last_line sets k) (set_from_last sets k).members v
  pub references : (r : ℕ)
      → holds t.references.items r ≡ is_last_of (last_line sets k) (set_from_last sets k).members r
  pub vertices_ascend : IsStrictlyIncreasing t.vertices.items
  pub references_ascend : IsStrictlyIncreasing t.references.items
