-- Which lines a document may have, by its status and kind, and in which order they stand.
use Rattle.std.specs.Prelude.{◌≡◌, ℤ, pos, int_lt, nat_lt, ◌==◌, List, [], ◌∷◌, map, Bool, true}
use Rattle.std.specs.Prelude.{false, not, ◌&&◌, ◌||◌}
use Rattle.std.specs.List.{list_all}
use Rattle.mb_problem.specs.declared.kind.Kind.{Kind}
use Rattle.mb_problem.specs.declared.kind.Obstruction.{Obstruction}
use Rattle.mb_problem.specs.declared.kind.Obstruction.TheVariants as obstruction
use Rattle.mb_problem.specs.Kinds.{asks_conservative, form_of, proof_of, obstruction_of}
use Rattle.doc_format.specs.declared.status.DocStatus.{DocStatus}
use Rattle.doc_format.specs.declared.status.DocStatus.TheVariants.{Optimal, Infeasible}
use Rattle.doc_format.specs.declared.status.DocStatus.TheVariants.{NonConservative}
use Rattle.doc_format.specs.declared.part.Part.{Part}
use Rattle.doc_format.specs.declared.letter.Letter.{Letter}
pub use Rattle.doc_format.specs.Parts.{Body, parts_of, at_most_one, blank, with_part, letter_of}
pub use Rattle.doc_format.specs.Parts.{rank, repeats, key, is_formed, ascends, has_any, is_counts}
pub use Rattle.doc_format.specs.Parts.{is_walk, is_barrier, is_odd_part, is_split_part, answers}
pub use Rattle.doc_format.specs.Parts.{proves_best, excludes, is_circuit}

-- ---- which statuses a kind has, and which letters they take

abbrev pub is_never : Obstruction → Bool
is_never obstruction.Never = true
is_never other = false

-- Every kind can be optimal, and one that something excludes infeasible; those that ask for it have
-- weights that aren't conservative.
abbrev pub is_head : DocStatus → Kind → Bool
is_head Optimal kind = true
is_head Infeasible kind = not (is_never (obstruction_of kind))
is_head NonConservative kind = asks_conservative kind

abbrev pub is_best : DocStatus → Bool
is_best Optimal = true
is_best status = false

-- the letters of a document of this status and kind
abbrev pub takes : DocStatus → Kind → Letter → Bool
takes Optimal kind l = proves_best l (proof_of kind) || answers l (form_of kind)
takes Infeasible kind l = excludes l (obstruction_of kind)
takes NonConservative kind l = is_circuit l

-- the part may stand in a document of this status and kind
abbrev pub admits : DocStatus → Kind → Part → Bool
admits status kind part = takes status kind (letter_of part)

-- ---- order

abbrev pub Ascends : List ℤ → Type 0
Ascends zs = ascends zs ≡ true

abbrev pub AscendsBy : {A : Type 0} → (A → ℤ) → List A → Type 0
AscendsBy key xs = Ascends (map key xs)

-- A part may stand somewhere after another: its letter comes later, or is the same and its key
-- greater, or one that any number of lines may have. So a letter without a key that doesn't repeat
-- stands at most once.
abbrev pub may_follow : Part → Part → Bool
may_follow earlier part =
    nat_lt (rank (letter_of earlier)) (rank (letter_of part))
    || ((rank (letter_of earlier) == rank (letter_of part))
    && (repeats (letter_of part) || int_lt (key earlier) (key part)))

-- each part may be followed by all after it
abbrev pub in_order : List Part → Bool
in_order [] = true
in_order (part ∷ parts) = list_all (may_follow part) parts && in_order parts

-- ---- documents

-- the form that every document keeps: a head of the table, and parts of its letters, in order, each
-- with its form
pub record IsDocument (status : DocStatus) (kind : Kind) (weight : ℤ) (body : Body) : Type 0 where
  pub headed : is_head status kind ≡ true
  pub no_weight : is_best status ≡ false → weight ≡ pos 0
  pub letters : list_all (admits status kind) (parts_of body) ≡ true
  pub ordered : in_order (parts_of body) ≡ true
  pub formed : list_all is_formed (parts_of body) ≡ true
