-- The lines of an instance, as lists of fields.
use Rattle.std.specs.Prelude.{List, [], ◌∷◌, Bool, codes, if◌then◌else◌}
use Rattle.mb_base.specs.Rows.{Row, begins_with}

-- a header, an edge, a value
abbrev pub is_header : Row → Bool
is_header row = begins_with (codes "p") row

abbrev pub is_edge : Row → Bool
is_edge row = begins_with (codes "e") row

abbrev pub is_node : Row → Bool
is_node row = begins_with (codes "n") row

-- the first line of a document
abbrev pub is_solution : Row → Bool
is_solution row = begins_with (codes "s") row

-- the lines before the first that begins a document, or all
abbrev pub instance_rows : List Row → List Row
instance_rows [] = []
instance_rows (row ∷ rs) = if is_solution row then [] else row ∷ instance_rows rs
