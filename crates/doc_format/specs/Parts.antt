-- The letters of a document, a row in each table: what is on the lines of a letter, and where a
-- document has them.
use Rattle.std.specs.Prelude.{ℕ, ℤ, pos, int_lt, List, [], ◌∷◌, ◌++◌, length, map, codes, bytes_eq}
use Rattle.std.specs.Prelude.{Bool, true, false, ◌&&◌, if◌then◌else◌, Option, None, Some}
use Rattle.std.specs.List.{list_all}
use Rattle.mb_base.specs.Rows.{Row}
use Rattle.mb_problem.specs.declared.kind.AnswerForm.{AnswerForm}
use Rattle.mb_problem.specs.declared.kind.AnswerForm.TheVariants as form
use Rattle.mb_problem.specs.declared.kind.BestProof.{BestProof}
use Rattle.mb_problem.specs.declared.kind.BestProof.TheVariants.{Duals, LighterBarrier, OuterPaths}
use Rattle.mb_problem.specs.declared.kind.Obstruction.{Obstruction}
use Rattle.mb_problem.specs.declared.kind.Obstruction.TheVariants as obstruction
use Rattle.doc_format.specs.declared.part.CountLine.{CountLine}
use Rattle.doc_format.specs.declared.part.WalkLine.{WalkLine}
use Rattle.doc_format.specs.declared.part.DualLine.{DualLine}
use Rattle.doc_format.specs.declared.part.SetLine.{SetLine}
use Rattle.doc_format.specs.declared.part.MemberLine.{MemberLine}
use Rattle.doc_format.specs.declared.part.PathLine.{PathLine}
use Rattle.doc_format.specs.declared.part.Part.{Part}
use Rattle.doc_format.specs.declared.part.Part.TheVariants.{Count, Walk, Dual, Set, Outer, Barrier}
use Rattle.doc_format.specs.declared.part.Part.TheVariants.{Odd, Split, Even}
use Rattle.doc_format.specs.declared.letter.Letter.{Letter}
use Rattle.doc_format.specs.declared.letter.Letter.TheVariants as letter
use Rattle.doc_format.specs.Numbers.{◌>>=◌, only_if, two_numbers, counted, led, with_count}
use Rattle.doc_format.specs.declared.part.SetItem.{SetItem}
use Rattle.doc_format.specs.declared.part.SetItem.TheVariants.{Vertex, Reference}
use Rattle.doc_format.specs.Items.{led_items, is_item, item_number, item_text}
use Rattle.std.specs.Fmt.{signed_decimal}

-- ---- the rows of letters

abbrev pub letter_text : Letter → List ℕ
letter_text letter.Count = codes "x"
letter_text letter.Walk = codes "w"
letter_text letter.Dual = codes "y"
letter_text letter.Set = codes "z"
letter_text letter.Outer = codes "d"
letter_text letter.Barrier = codes "u"
letter_text letter.Odd = codes "t"
letter_text letter.Split = codes "q"
letter_text letter.Even = codes "r"

-- the letter of this text, if it is one's
abbrev pub letter_named : List ℕ → Option Letter
letter_named word =
    if bytes_eq word (letter_text letter.Count) then Some letter.Count else
    (if bytes_eq word (letter_text letter.Walk) then Some letter.Walk else
    (if bytes_eq word (letter_text letter.Dual) then Some letter.Dual else
    (if bytes_eq word (letter_text letter.Set) then Some letter.Set else
    (if bytes_eq word (letter_text letter.Outer) then Some letter.Outer else
    (if bytes_eq word (letter_text letter.Barrier) then Some letter.Barrier else
    (if bytes_eq word (letter_text letter.Odd) then Some letter.Odd else
    (if bytes_eq word (letter_text letter.Split) then Some letter.Split else
    (if bytes_eq word (letter_text letter.Even) then Some letter.Even else None))))))))

-- the place of the letter in the order of lines
abbrev pub rank : Letter → ℕ
rank letter.Count = 1
rank letter.Walk = 2
rank letter.Dual = 3
rank letter.Set = 4
rank letter.Outer = 5
rank letter.Barrier = 6
rank letter.Odd = 7
rank letter.Split = 8
rank letter.Even = 9

-- any number of its lines may follow one another
abbrev pub repeats : Letter → Bool
repeats letter.Count = false
repeats letter.Walk = false
repeats letter.Dual = false
repeats letter.Set = true
repeats letter.Outer = false
repeats letter.Barrier = false
repeats letter.Odd = false
repeats letter.Split = false
repeats letter.Even = false

-- ---- where letters may stand

abbrev pub is_counts : AnswerForm → Bool
is_counts form.Counts = true
is_counts form.Walk = false

abbrev pub is_walk : AnswerForm → Bool
is_walk form.Counts = false
is_walk form.Walk = true

abbrev pub is_barrier : Obstruction → Bool
is_barrier obstruction.Barrier = true
is_barrier obstruction.OddPart = false
is_barrier obstruction.SplitPart = false
is_barrier obstruction.Never = false

abbrev pub is_odd_part : Obstruction → Bool
is_odd_part obstruction.Barrier = false
is_odd_part obstruction.OddPart = true
is_odd_part obstruction.SplitPart = false
is_odd_part obstruction.Never = false

abbrev pub is_split_part : Obstruction → Bool
is_split_part obstruction.Barrier = false
is_split_part obstruction.OddPart = false
is_split_part obstruction.SplitPart = true
is_split_part obstruction.Never = false

-- the letters of an answer
abbrev pub answers : Letter → AnswerForm → Bool
answers letter.Count f = is_counts f
answers letter.Walk f = is_walk f
answers letter.Dual f = false
answers letter.Set f = false
answers letter.Outer f = false
answers letter.Barrier f = false
answers letter.Odd f = false
answers letter.Split f = false
answers letter.Even f = false

-- the letters of what proves an answer best
abbrev pub proves_best : Letter → BestProof → Bool
proves_best letter.Count proof = false
proves_best letter.Walk proof = false
proves_best letter.Dual (Duals value) = true
proves_best letter.Dual LighterBarrier = false
proves_best letter.Dual OuterPaths = false
proves_best letter.Set (Duals value) = true
proves_best letter.Set LighterBarrier = false
proves_best letter.Set OuterPaths = false
proves_best letter.Outer (Duals value) = false
proves_best letter.Outer LighterBarrier = false
proves_best letter.Outer OuterPaths = true
proves_best letter.Barrier (Duals value) = false
proves_best letter.Barrier LighterBarrier = true
proves_best letter.Barrier OuterPaths = true
proves_best letter.Odd proof = false
proves_best letter.Split proof = false
proves_best letter.Even (Duals value) = false
proves_best letter.Even LighterBarrier = false
proves_best letter.Even OuterPaths = true

-- the letters of what excludes all answers
abbrev pub excludes : Letter → Obstruction → Bool
excludes letter.Count e = false
excludes letter.Walk e = false
excludes letter.Dual e = false
excludes letter.Set e = false
excludes letter.Outer e = false
excludes letter.Barrier e = is_barrier e
excludes letter.Odd e = is_odd_part e
excludes letter.Split e = is_split_part e
excludes letter.Even e = false

-- the letter of a circuit that weighs less than 0
abbrev pub is_circuit : Letter → Bool
is_circuit letter.Count = false
is_circuit letter.Walk = true
is_circuit letter.Dual = false
is_circuit letter.Set = false
is_circuit letter.Outer = false
is_circuit letter.Barrier = false
is_circuit letter.Odd = false
is_circuit letter.Split = false
is_circuit letter.Even = false

-- ---- what is on a line

abbrev pub letter_of : Part → Letter
letter_of (Count x) = letter.Count
letter_of (Walk w) = letter.Walk
letter_of (Dual y) = letter.Dual
letter_of (Set z) = letter.Set
letter_of (Outer d) = letter.Outer
letter_of (Barrier u) = letter.Barrier
letter_of (Odd t) = letter.Odd
letter_of (Split q) = letter.Split
letter_of (Even r) = letter.Even

-- what ascends from line to line: edges of x lines and vertices of y and r lines
abbrev pub key : Part → ℤ
key (Count x) = x.edge
key (Walk w) = pos 0
key (Dual y) = y.vertex
key (Set z) = pos 0
key (Outer d) = pos 0
key (Barrier u) = pos 0
key (Odd t) = pos 0
key (Split q) = pos 0
key (Even r) = r.vertex

-- the numbers after the letter
abbrev pub numbers_of : Part → List ℤ
numbers_of (Count x) = x.edge ∷ x.count ∷ []
numbers_of (Walk w) = w.start ∷ with_count w.edges
numbers_of (Dual y) = y.vertex ∷ y.dual ∷ []
numbers_of (Set z) = z.dual ∷ with_count (map item_number z.items)
numbers_of (Outer d) = with_count d.members
numbers_of (Barrier u) = with_count u.members
numbers_of (Odd t) = with_count t.members
numbers_of (Split q) = with_count q.members
numbers_of (Even r) = r.vertex ∷ with_count r.edges

-- the fields after the letter, without leading zeros; a reference has its `@`
abbrev pub fields_of : Part → Row
fields_of (Count x) = map signed_decimal (numbers_of (Count x))
fields_of (Walk w) = map signed_decimal (numbers_of (Walk w))
fields_of (Dual y) = map signed_decimal (numbers_of (Dual y))
fields_of (Set z) = signed_decimal z.dual ∷ signed_decimal (pos (length z.items))
    ∷ map item_text z.items
fields_of (Outer d) = map signed_decimal (numbers_of (Outer d))
fields_of (Barrier u) = map signed_decimal (numbers_of (Barrier u))
fields_of (Odd t) = map signed_decimal (numbers_of (Odd t))
fields_of (Split q) = map signed_decimal (numbers_of (Split q))
fields_of (Even r) = map signed_decimal (numbers_of (Even r))

-- What a number of a line is: an edge, how often it is used, a vertex of the instance or of the
-- certificate graph, the dual of a vertex, or that of a set, or a z line that is referred to.
pub data Role : Type 0 where
  edge_number : Role
  use_count : Role
  vertex_number : Role
  node_number : Role
  vertex_dual : Role
  set_dual : Role
  set_number : Role

-- the number of an item passes a test, by what it is
abbrev pub item_passes : (Role → ℤ → Bool) → SetItem → Bool
item_passes ok (Vertex v) = ok node_number v
item_passes ok (Reference j) = ok set_number j

-- each number but the counts of members passes a test, by what it is
abbrev pub each_number : (Role → ℤ → Bool) → Part → Bool
each_number ok (Count x) = ok edge_number x.edge && ok use_count x.count
each_number ok (Walk w) = ok vertex_number w.start && list_all (ok edge_number) w.edges
each_number ok (Dual y) = ok node_number y.vertex && ok vertex_dual y.dual
each_number ok (Set z) = ok set_dual z.dual && list_all (item_passes ok) z.items
each_number ok (Outer d) = list_all (ok vertex_number) d.members
each_number ok (Barrier u) = list_all (ok node_number) u.members
each_number ok (Odd t) = list_all (ok vertex_number) t.members
each_number ok (Split q) = list_all (ok vertex_number) q.members
each_number ok (Even r) = ok vertex_number r.vertex && list_all (ok edge_number) r.edges

-- the number of its line
abbrev pub line_of : Part → ℕ
line_of (Count x) = x.line
line_of (Walk w) = w.line
line_of (Dual y) = y.line
line_of (Set z) = z.line
line_of (Outer d) = d.line
line_of (Barrier u) = u.line
line_of (Odd t) = t.line
line_of (Split q) = q.line
line_of (Even r) = r.line

-- each number is below the next
abbrev pub ascends : List ℤ → Bool
ascends [] = true
ascends (z ∷ []) = true
ascends (y ∷ z ∷ zs) = int_lt y z && ascends (z ∷ zs)

abbrev pub has_any : List ℤ → Bool
has_any [] = false
has_any (z ∷ zs) = true

-- a walk has an edge, no reference is negative, and the members of a set of vertices ascend
abbrev pub is_formed : Part → Bool
is_formed (Count x) = true
is_formed (Walk w) = has_any w.edges
is_formed (Dual y) = true
is_formed (Set z) = list_all is_item z.items
is_formed (Outer d) = ascends d.members
is_formed (Barrier u) = ascends u.members
is_formed (Odd t) = ascends t.members
is_formed (Split q) = ascends q.members
is_formed (Even r) = true

-- the part as if it stood on line n
abbrev pub on_line : ℕ → Part → Part
on_line n (Count x) = Count (record x { line = n })
on_line n (Walk w) = Walk (record w { line = n })
on_line n (Dual y) = Dual (record y { line = n })
on_line n (Set z) = Set (record z { line = n })
on_line n (Outer d) = Outer (record d { line = n })
on_line n (Barrier u) = Barrier (record u { line = n })
on_line n (Odd t) = Odd (record t { line = n })
on_line n (Split q) = Split (record q { line = n })
on_line n (Even r) = Even (record r { line = n })

-- how many z lines a part is
abbrev pub set_count : Part → ℕ
set_count (Count x) = 0
set_count (Walk w) = 0
set_count (Dual y) = 0
set_count (Set z) = 1
set_count (Outer d) = 0
set_count (Barrier u) = 0
set_count (Odd t) = 0
set_count (Split q) = 0
set_count (Even r) = 0

-- ---- what a line says

abbrev pub count_in : ℕ → Row → Option Part
count_in n fields =
    two_numbers fields >>= λ p. Some (Count (record { line = n; edge = p.0; count = p.1 }))

abbrev pub dual_in : ℕ → Row → Option Part
dual_in n fields =
    two_numbers fields >>= λ p. Some (Dual (record { line = n; vertex = p.0; dual = p.1 }))

abbrev pub walk_in : ℕ → Row → Option Part
walk_in n fields =
    led fields >>= λ p. only_if (has_any p.1) (Walk (record { line = n; start = p.0; edges = p.1 }))

-- a vertex, and a count with so many edges; there may be none
abbrev pub path_in : ℕ → Row → Option Part
path_in n fields = led fields >>= λ p. Some (Even (record { line = n; vertex = p.0; edges = p.1 }))

abbrev pub set_in : ℕ → Row → Option Part
set_in n fields =
    led_items fields >>= λ p. Some (Set (record { line = n; dual = p.0; items = p.1 }))

abbrev pub members_in : ℕ → Row → Option MemberLine
members_in n fields =
    counted fields >>= λ vs. only_if (ascends vs) (record { line = n; members = vs })

-- what the fields after this letter say on line number n
abbrev pub fields_say : ℕ → Row → Letter → Option Part
fields_say n fields letter.Count = count_in n fields
fields_say n fields letter.Walk = walk_in n fields
fields_say n fields letter.Dual = dual_in n fields
fields_say n fields letter.Set = set_in n fields
fields_say n fields letter.Outer = members_in n fields >>= λ d. Some (Outer d)
fields_say n fields letter.Barrier = members_in n fields >>= λ u. Some (Barrier u)
fields_say n fields letter.Odd = members_in n fields >>= λ t. Some (Odd t)
fields_say n fields letter.Split = members_in n fields >>= λ q. Some (Split q)
fields_say n fields letter.Even = path_in n fields

-- what line number n says after its letter, if that is one
abbrev pub part_in : ℕ → List ℕ → Row → Option Part
part_in n word fields = letter_named word >>= fields_say n fields

-- ---- where a document has its parts

-- what is on the lines of a document after its first
pub record Body : Type 0 where
  pub counts : List CountLine
  pub walk : Option WalkLine
  pub duals : List DualLine
  pub sets : List SetLine
  pub outer : Option MemberLine
  pub barrier : Option MemberLine
  pub odd : Option MemberLine
  pub split : Option MemberLine
  pub paths : List PathLine

abbrev pub at_most_one : {A : Type 0} → (A → Part) → Option A → List Part
at_most_one made None = []
at_most_one made (Some part) = made part ∷ []

-- the parts behind the answer, in the order of their lines
abbrev pub certificate : Body → List Part
certificate b =
    map Dual b.duals ++ (map Set b.sets
    ++ (at_most_one Outer b.outer ++ (at_most_one Barrier b.barrier
    ++ (at_most_one Odd b.odd ++ (at_most_one Split b.split ++ map Even b.paths)))))

-- the parts in the order of their lines
abbrev pub parts_of : Body → List Part
parts_of b = map Count b.counts ++ (at_most_one Walk b.walk ++ certificate b)

-- no part
abbrev pub blank : Body
blank = record {
  counts = [];
  walk = None;
  duals = [];
  sets = [];
  outer = None;
  barrier = None;
  odd = None;
  split = None;
  paths = [];
}

-- the body with one part more
abbrev pub with_part : Body → Part → Body
with_part b (Count x) = record b { counts = b.counts ++ x ∷ [] }
with_part b (Walk w) = record b { walk = Some w }
with_part b (Dual y) = record b { duals = b.duals ++ y ∷ [] }
with_part b (Set z) = record b { sets = b.sets ++ z ∷ [] }
with_part b (Outer d) = record b { outer = Some d }
with_part b (Barrier u) = record b { barrier = Some u }
with_part b (Odd t) = record b { odd = Some t }
with_part b (Split q) = record b { split = Some q }
with_part b (Even r) = record b { paths = b.paths ++ r ∷ [] }
