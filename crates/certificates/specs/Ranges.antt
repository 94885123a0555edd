-- Which numbers of a document are in range, and the first line with one that isn't.
use Rattle.std.specs.Prelude.{ℕ, ◌+◌, ℤ, pos, neg_ℤ, int_le, nat_abs, Bool, true, ◌&&◌, not, List}
use Rattle.std.specs.Prelude.{[], ◌∷◌, length, Option}
use Rattle.std.specs.List.{find}
use Rattle.std.specs.Option.{option_map}
use Rattle.graph_theory.specs.declared.limits.TheConstants.{NUMBER_LIMIT}
use Rattle.mb_problem.specs.declared.kind.Kind.{Kind}
use Rattle.mb_problem.specs.declared.limits.TheConstants.{VALUE_LIMIT}
use Rattle.mb_problem.specs.Network.{Network, vertices}
use Rattle.gadget_base.specs.Certified.{gadget_graph}
use Rattle.doc_format.specs.declared.document.Document.{Document}
use Rattle.doc_format.specs.declared.part.Part.{Part}
use Rattle.doc_format.specs.Parts.{parts_of, line_of, each_number, Role, edge_number, use_count}
use Rattle.doc_format.specs.Parts.{vertex_number, node_number, vertex_dual, set_dual, set_number}
use Rattle.doc_format.specs.Parts.{set_count}
use Rattle.doc_format.specs.Reading.{body_of}

-- low to high, both included
abbrev pub is_between : ℤ → ℤ → ℤ → Bool
is_between low high z = int_le low z && int_le z high

abbrev pub is_up_to : ℕ → ℤ → Bool
is_up_to high z = is_between (pos 1) (pos high) z

-- a dual of a vertex, or a weight
abbrev pub is_dual : ℤ → Bool
is_dual z = is_between (neg_ℤ NUMBER_LIMIT) NUMBER_LIMIT z

-- the dual of a set: at least 1
abbrev pub is_set_dual : ℤ → Bool
is_set_dual z = is_up_to (nat_abs NUMBER_LIMIT) z

-- a line, and whether its numbers are in range
pub record Checked : Type 0 where
  pub line : ℕ
  pub in_range : Bool

-- A number is in the range of what it is, after k z lines, for an instance of n vertices and m
-- edges whose certificate graph has p vertices.
abbrev pub is_within : ℕ → ℕ → ℕ → ℕ → Role → ℤ → Bool
is_within n m p k edge_number = is_up_to m
is_within n m p k use_count = is_up_to VALUE_LIMIT
is_within n m p k vertex_number = is_up_to n
is_within n m p k node_number = is_up_to p
is_within n m p k vertex_dual = is_dual
is_within n m p k set_dual = is_set_dual
is_within n m p k set_number = is_up_to k

-- all numbers of a part are, after k z lines
abbrev pub in_range : ℕ → ℕ → ℕ → ℕ → Part → Bool
in_range n m p k part = each_number (is_within n m p k) part

-- all numbers of these parts are, after k z lines
abbrev pub all_in_range : ℕ → ℕ → ℕ → ℕ → List Part → Bool
all_in_range n m p k [] = true
all_in_range n m p k (part ∷ others) = in_range n m p k part
    && all_in_range n m p (k + set_count part) others

-- the same of the parts of a document
abbrev pub all_in_range_for : Kind → Network → List Part → Bool
all_in_range_for kind i parts =
    all_in_range (vertices i) (length i.edges) (gadget_graph kind i).vertices 0 parts

-- the lines of these parts, after k z lines
abbrev pub checked : ℕ → ℕ → ℕ → ℕ → List Part → List Checked
checked n m p k [] = []
checked n m p k (part ∷ others) = record { line = line_of part; in_range = in_range n m p k part }
    ∷ checked n m p (k + set_count part) others

-- the first line that isn't in range
abbrev pub first_fault : List Checked → Option ℕ
first_fault lines = option_map (λ l. l.line) (find (λ l. not l.in_range) lines)

-- The first line of a document with a number out of range, the s line first, for an instance of n
-- vertices and m edges whose certificate graph has p vertices.
abbrev pub first_outside : ℕ → ℕ → ℕ → Document → Option ℕ
first_outside n m p d =
    first_fault
    (record { line = d.line; in_range = is_dual d.weight } ∷ checked n m p 0 (parts_of (body_of d)))

-- the same for an instance and a kind
abbrev pub first_out_of_range : Kind → Network → Document → Option ℕ
first_out_of_range kind i d =
    first_outside (vertices i) (length i.edges) (gadget_graph kind i).vertices d
