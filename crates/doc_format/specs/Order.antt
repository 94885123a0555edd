-- What the reader keeps of the parts that it has read: the place of the last one.
use Rattle.std.specs.Prelude.{◌≡◌, int_lt, nat_lt, ◌==◌, List, Bool, true, ◌&&◌, ◌||◌, Option, None}
use Rattle.std.specs.Prelude.{Some}
use Rattle.std.specs.List.{list_all}
use Rattle.doc_format.specs.declared.part.Part.{Part}
use Rattle.doc_format.specs.declared.order.Place.{Place}
use Rattle.doc_format.specs.Form.{letter_of, rank, key, repeats, may_follow}

-- a part may follow the last one, if there is one
abbrev pub follows : Option Place → Part → Bool
follows None part = true
follows (Some last) part =
    nat_lt last.rank (rank (letter_of part))
    || ((last.rank == rank (letter_of part))
    && (repeats (letter_of part) || int_lt last.key (key part)))

-- what may follow the last part may follow each
abbrev pub IsLast : Option Place → List Part → Type 0
IsLast last parts = (part : Part) → list_all (λ earlier. may_follow earlier part) parts
    ≡ follows last part
