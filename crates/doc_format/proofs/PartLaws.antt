-- The laws of the rows of letters.
use Rattle.mb_problem.proofs.Common.{◌≡◌, ℕ, ◌≤◌, ◌++◌, ◌∷◌, [], List, length, map, Bool, true, false, eqb, Option, None, Some, ℤ, refl, sym, ap, ◌∙◌}
use Rattle.mb_problem.proofs.Common.{append_assoc, arith, nat_abs, ◌&&◌, int_lt, nat_lt, ◌||◌, option_map, list_all, AllByRecursion, and_parts, and_from, nat_tests, append-nil}
use Rattle.mb_problem.proofs.Common.{map_push, NUMBER_LIMIT, is_skipped, IsField}
use Rattle.doc_format.specs.declared.part.CountLine.{CountLine}
use Rattle.doc_format.specs.declared.part.WalkLine.{WalkLine}
use Rattle.doc_format.specs.declared.part.DualLine.{DualLine}
use Rattle.doc_format.specs.declared.part.SetLine.{SetLine}
use Rattle.doc_format.specs.declared.part.MemberLine.{MemberLine}
use Rattle.doc_format.specs.declared.part.PathLine.{PathLine}
use Rattle.doc_format.specs.declared.part.Part.{Part}
use Rattle.doc_format.specs.declared.part.Part.TheVariants.{Count, Walk, Dual, Set, Outer, Barrier, Odd, Split, Even}
use Rattle.doc_format.specs.declared.letter.Letter.{Letter}
use Rattle.doc_format.specs.Parts.{letter_text, letter_named, rank, repeats, letter_of, key, numbers_of, fields_of, is_formed, ascends, on_line, Role, edge_number, use_count, vertex_number}
use Rattle.doc_format.specs.Parts.{node_number, vertex_dual, set_dual, item_passes, each_number, set_count, Body, at_most_one, parts_of, blank, with_part}
use Rattle.doc_format.specs.declared.head.Head.{Head}
use Rattle.doc_format.specs.declared.document.Document.{Document}
use Rattle.doc_format.specs.Form.{AscendsBy, may_follow, in_order, IsDocument}
use Rattle.doc_format.specs.Rows.{part_at}
use Rattle.doc_format.specs.Law.{IsKept, unnumbered}
use Rattle.doc_format.specs.Spelling.{part_row}
use Rattle.doc_format.proofs.NumbersBack.{kept_back, counted_back, numbers_are_fields}
use Rattle.doc_format.proofs.ItemsBack.{led_items_back, led_items_are_fields, kept_items}
use Rattle.doc_format.proofs.Fields.{HasFields}
use Rattle.doc_format.proofs.Tests.{all_parts, joined, each_list}
use Rattle.doc_format.specs.declared.letter.Letter.TheVariants as letter

-- the body as if each line were line 0
abbrev pub bare : Body → Body
bare b = record {
  counts = map (λ (x : CountLine). record x { line = 0 }) b.counts;
  walk = option_map (λ (w : WalkLine). record w { line = 0 }) b.walk;
  duals = map (λ (y : DualLine). record y { line = 0 }) b.duals;
  sets = map (λ (z : SetLine). record z { line = 0 }) b.sets;
  outer = option_map (λ (d : MemberLine). record d { line = 0 }) b.outer;
  barrier = option_map (λ (u : MemberLine). record u { line = 0 }) b.barrier;
  odd = option_map (λ (t : MemberLine). record t { line = 0 }) b.odd;
  split = option_map (λ (q : MemberLine). record q { line = 0 }) b.split;
  paths = map (λ (r : PathLine). record r { line = 0 }) b.paths;
}

-- the document of a head and a body
abbrev pub document_of : (h : Head) (b : Body) → IsDocument h.status h.kind h.weight b → Document
document_of h b form = record {
  status = h.status;
  kind = h.kind;
  weight = h.weight;
  line = h.line;
  counts = b.counts;
  walk = b.walk;
  duals = b.duals;
  sets = b.sets;
  outer = b.outer;
  barrier = b.barrier;
  odd = b.odd;
  split = b.split;
  paths = b.paths;
  form = form;
}

-- ---- letters

-- The word is a field that begins no comment and names the letter; sets alone repeat.
pub record LetterLaws (l : Letter) : Type 0 where
  pub field : IsField (letter_text l)
  pub there : (fields : List (List ℕ)) → is_skipped (letter_text l ∷ fields) ≡ false
  pub back : letter_named (letter_text l) ≡ Some l
  pub one_repeats : repeats l ≡ eqb (rank l) 4

pub letter_laws : (l : Letter) → LetterLaws l
letter_laws letter.Count = record { field = (omega arith, refl); there = λ fields. refl; back = refl; one_repeats = refl }
letter_laws letter.Walk = record { field = (omega arith, refl); there = λ fields. refl; back = refl; one_repeats = refl }
letter_laws letter.Dual = record { field = (omega arith, refl); there = λ fields. refl; back = refl; one_repeats = refl }
letter_laws letter.Set = record { field = (omega arith, refl); there = λ fields. refl; back = refl; one_repeats = refl }
letter_laws letter.Outer = record { field = (omega arith, refl); there = λ fields. refl; back = refl; one_repeats = refl }
letter_laws letter.Barrier = record { field = (omega arith, refl); there = λ fields. refl; back = refl; one_repeats = refl }
letter_laws letter.Odd = record { field = (omega arith, refl); there = λ fields. refl; back = refl; one_repeats = refl }
letter_laws letter.Split = record { field = (omega arith, refl); there = λ fields. refl; back = refl; one_repeats = refl }
letter_laws letter.Even = record { field = (omega arith, refl); there = λ fields. refl; back = refl; one_repeats = refl }

-- ---- the line of a part doesn't matter

pub record LineLaws (n : ℕ) (part : Part) : Type 0 where
  pub same_letter : letter_of (on_line n part) ≡ letter_of part
  pub same_key : key (on_line n part) ≡ key part
  pub same_form : is_formed (on_line n part) ≡ is_formed part
  pub same_bare : unnumbered (on_line n part) ≡ unnumbered part
  pub same_numbers : (ok : Role → ℤ → Bool) → each_number ok (on_line n part) ≡ each_number ok part

pub line_laws : (n : ℕ) (part : Part) → LineLaws n part
line_laws n (Count x) = record { same_letter = refl; same_key = refl; same_form = refl; same_bare = refl; same_numbers = λ ok. refl }
line_laws n (Walk w) = record { same_letter = refl; same_key = refl; same_form = refl; same_bare = refl; same_numbers = λ ok. refl }
line_laws n (Dual y) = record { same_letter = refl; same_key = refl; same_form = refl; same_bare = refl; same_numbers = λ ok. refl }
line_laws n (Set z) = record { same_letter = refl; same_key = refl; same_form = refl; same_bare = refl; same_numbers = λ ok. refl }
line_laws n (Outer d) = record { same_letter = refl; same_key = refl; same_form = refl; same_bare = refl; same_numbers = λ ok. refl }
line_laws n (Barrier u) = record { same_letter = refl; same_key = refl; same_form = refl; same_bare = refl; same_numbers = λ ok. refl }
line_laws n (Odd t) = record { same_letter = refl; same_key = refl; same_form = refl; same_bare = refl; same_numbers = λ ok. refl }
line_laws n (Split q) = record { same_letter = refl; same_key = refl; same_form = refl; same_bare = refl; same_numbers = λ ok. refl }
line_laws n (Even r) = record { same_letter = refl; same_key = refl; same_form = refl; same_bare = refl; same_numbers = λ ok. refl }

-- ---- written and read

abbrev pub HasKept : Part → Type 0
HasKept part = AllByRecursion IsKept (numbers_of part)

pub part_back : (n : ℕ) (part : Part) → HasKept part → is_formed part ≡ true → part_at n (part_row part) ≡ Some (on_line n part)
part_back n (Count x) h f = rw (kept_back x.edge h.0, kept_back x.count h.1.0) refl
part_back n (Walk w) h f = rw (kept_back w.start h.0, counted_back w.edges h.1, f) refl
part_back n (Dual y) h f = rw (kept_back y.vertex h.0, kept_back y.dual h.1.0) refl
part_back n (Set z) h f = rw (led_items_back z.dual z.items f h) refl
part_back n (Outer d) h f = rw (counted_back d.members h, f) refl
part_back n (Barrier u) h f = rw (counted_back u.members h, f) refl
part_back n (Odd t) h f = rw (counted_back t.members h, f) refl
part_back n (Split q) h f = rw (counted_back q.members h, f) refl
part_back n (Even r) h f = rw (kept_back r.vertex h.0, counted_back r.edges h.1) refl

pub fields_are_fields : (part : Part) → HasKept part → HasFields (fields_of part)
fields_are_fields (Count x) h = numbers_are_fields (numbers_of (Count x)) h
fields_are_fields (Walk w) h = numbers_are_fields (numbers_of (Walk w)) h
fields_are_fields (Dual y) h = numbers_are_fields (numbers_of (Dual y)) h
fields_are_fields (Set z) h = led_items_are_fields z.dual z.items h
fields_are_fields (Outer d) h = numbers_are_fields (numbers_of (Outer d)) h
fields_are_fields (Barrier u) h = numbers_are_fields (numbers_of (Barrier u)) h
fields_are_fields (Odd t) h = numbers_are_fields (numbers_of (Odd t)) h
fields_are_fields (Split q) h = numbers_are_fields (numbers_of (Split q)) h
fields_are_fields (Even r) h = numbers_are_fields (numbers_of (Even r)) h

-- ---- numbers that pass a test of kept ones are kept

all_kept : (ok : ℤ → Bool) → ((z : ℤ) → ok z ≡ true → IsKept z) → (zs : List ℤ) → list_all ok zs ≡ true → AllByRecursion IsKept zs
all_kept ok keeps [] h = tt
all_kept ok keeps (z ∷ zs) h = let both = and_parts (ok z) (list_all ok zs) h in (keeps z both.0, all_kept ok keeps zs both.1)

module _ (ok : Role → ℤ → Bool) (keeps : (r : Role) (z : ℤ) → ok r z ≡ true → IsKept z) where
  -- and so are the counts of members on a line that isn't too long
  pub kept_where : (part : Part) → each_number ok part ≡ true → length (numbers_of part) ≤ nat_abs NUMBER_LIMIT → HasKept part
  kept_where (Count x) h short =
      let both = and_parts (ok edge_number x.edge) (ok use_count x.count) h in
      (keeps edge_number x.edge both.0, (keeps use_count x.count both.1, tt))
  kept_where (Walk w) h short =
      let both = and_parts (ok vertex_number w.start) (list_all (ok edge_number) w.edges) h in
      (keeps vertex_number w.start both.0, (omega arith, all_kept (ok edge_number) (keeps edge_number) w.edges both.1))
  kept_where (Dual y) h short =
      let both = and_parts (ok node_number y.vertex) (ok vertex_dual y.dual) h in
      (keeps node_number y.vertex both.0, (keeps vertex_dual y.dual both.1, tt))
  kept_where (Set z) h short =
      let both = and_parts (ok set_dual z.dual) (list_all (item_passes ok) z.items) h in
      (keeps set_dual z.dual both.0, (omega arith, kept_items ok keeps z.items both.1))
  kept_where (Outer d) h short = (omega arith, all_kept (ok vertex_number) (keeps vertex_number) d.members h)
  kept_where (Barrier u) h short = (omega arith, all_kept (ok node_number) (keeps node_number) u.members h)
  kept_where (Odd t) h short = (omega arith, all_kept (ok vertex_number) (keeps vertex_number) t.members h)
  kept_where (Split q) h short = (omega arith, all_kept (ok vertex_number) (keeps vertex_number) q.members h)
  kept_where (Even r) h short =
      let both = and_parts (ok vertex_number r.vertex) (list_all (ok edge_number) r.edges) h in
      (keeps vertex_number r.vertex both.0, (omega arith, all_kept (ok edge_number) (keeps edge_number) r.edges both.1))

-- ---- tests on lists

pub no_items : {A : Type 0} (p : Part → Bool) (f : A → Part) (xs : List A) → ((x : A) → p (f x) ≡ false) → list_all p (map f xs) ≡ true → xs ≡ []
no_items p f [] none h = refl
no_items p f (x ∷ xs) none h = let e = (and_parts (p (f x)) (list_all p (map f xs)) h).0 in let n = none x in absurd cc

no_item : {A : Type 0} (p : Part → Bool) (f : A → Part) (o : Option A) → ((x : A) → p (f x) ≡ false) → list_all p (at_most_one f o) ≡ true → o ≡ None
no_item p f None none h = refl
no_item p f (Some x) none h = let e = (and_parts (p (f x)) true h).0 in let n = none x in absurd cc

-- ---- the parts, a list for each letter

abbrev pub before_sets : Body → List (List Part)
before_sets b = map Count b.counts ∷ at_most_one Walk b.walk ∷ map Dual b.duals ∷ []

abbrev pub after_sets : Body → List (List Part)
after_sets b =
    at_most_one Outer b.outer ∷ at_most_one Barrier b.barrier ∷ at_most_one Odd b.odd ∷ at_most_one Split b.split ∷ map Even b.paths ∷ []

abbrev pub by_letter : Body → List (List Part)
by_letter b = before_sets b ++ map Set b.sets ∷ after_sets b

pub joined_parts : (b : Body) → joined (by_letter b) ≡ parts_of b
joined_parts b = rw (append-nil (map Even b.paths)) refl

-- a fact about the list of each letter
pub record ByLetter (P : List Part → Type 0) (b : Body) : Type 0 where
  pub counts : P (map Count b.counts)
  pub walk : P (at_most_one Walk b.walk)
  pub duals : P (map Dual b.duals)
  pub sets : P (map Set b.sets)
  pub outer : P (at_most_one Outer b.outer)
  pub barrier : P (at_most_one Barrier b.barrier)
  pub odd : P (at_most_one Odd b.odd)
  pub split : P (at_most_one Split b.split)
  pub paths : P (map Even b.paths)

pub letter_by_letter : (P : List Part → Type 0) (b : Body) → AllByRecursion P (by_letter b) → ByLetter P b
letter_by_letter P b (counts, (walk, (duals, (sets, (outer, (barrier, (odd, (split, (paths, none))))))))) =
    record { counts = counts; walk = walk; duals = duals; sets = sets; outer = outer; barrier = barrier; odd = odd; split = split; paths = paths }

-- a test of all parts
abbrev pub AllParts : (Part → Bool) → Body → Type 0
AllParts p b = ByLetter (λ parts. list_all p parts ≡ true) b

pub part_by_part : (p : Part → Bool) (b : Body) → list_all p (parts_of b) ≡ true → AllParts p b
part_by_part p b h = letter_by_letter (λ parts. list_all p parts ≡ true) b (each_list p (by_letter b) (ap (list_all p) (joined_parts b) ∙ h))

-- no part is a z line
abbrev pub HasNoSets : List Part → Type 0
HasNoSets parts = AllByRecursion (λ part. set_count part ≡ 0) parts

no_sets : {A : Type 0} (made : A → Part) (none : (x : A) → set_count (made x) ≡ 0) (xs : List A) → HasNoSets (map made xs)
no_sets made none [] = tt
no_sets made none (x ∷ xs) = (none x, no_sets made none xs)

no_set : {A : Type 0} (made : A → Part) (none : (x : A) → set_count (made x) ≡ 0) (o : Option A) → HasNoSets (at_most_one made o)
no_set made none None = tt
no_set made none (Some x) = (none x, tt)

pub none_before : (b : Body) → AllByRecursion HasNoSets (before_sets b)
none_before b = (no_sets Count (λ x. refl) b.counts, (no_set Walk (λ w. refl) b.walk, (no_sets Dual (λ y. refl) b.duals, tt)))

pub none_after : (b : Body) → AllByRecursion HasNoSets (after_sets b)
none_after b = (
  no_set Outer (λ d. refl) b.outer,
  (no_set Barrier (λ u. refl) b.barrier, (no_set Odd (λ t. refl) b.odd, (no_set Split (λ q. refl) b.split, (no_sets Even (λ r. refl) b.paths, tt)))),
)

-- ---- the body with one part more

-- the part may follow every earlier one
abbrev pub MayCome : Body → Part → Type 0
MayCome b part = list_all (λ earlier. may_follow earlier part) (parts_of b) ≡ true

beyond : (a b : ℕ) (c : Bool) → nat_lt a b ≡ true → (nat_lt b a || (eqb b a && c)) ≡ false
beyond a b c h = grind (arith, nat_tests)

later : (part q : Part) → nat_lt (rank (letter_of part)) (rank (letter_of q)) ≡ true → may_follow q part ≡ false
later part q h = beyond (rank (letter_of part)) (rank (letter_of q)) (repeats (letter_of part) || int_lt (key q) (key part)) h

-- no letter of a later rank has a part
record NoneBehind (r : ℕ) (b : Body) : Type 0 where
  pub walk : nat_lt r 2 ≡ true → b.walk ≡ None
  pub duals : nat_lt r 3 ≡ true → b.duals ≡ []
  pub sets : nat_lt r 4 ≡ true → b.sets ≡ []
  pub outer : nat_lt r 5 ≡ true → b.outer ≡ None
  pub barrier : nat_lt r 6 ≡ true → b.barrier ≡ None
  pub odd : nat_lt r 7 ≡ true → b.odd ≡ None
  pub split : nat_lt r 8 ≡ true → b.split ≡ None
  pub paths : nat_lt r 9 ≡ true → b.paths ≡ []

none_behind : (b : Body) (part : Part) → MayCome b part → NoneBehind (rank (letter_of part)) b
none_behind b part h =
    let p : Part → Bool = λ earlier. may_follow earlier part in
    let a = part_by_part p b h in
    record {
      walk = λ l. no_item p Walk b.walk (λ y. later part (Walk y) l) a.walk;
      duals = λ l. no_items p Dual b.duals (λ y. later part (Dual y) l) a.duals;
      sets = λ l. no_items p Set b.sets (λ y. later part (Set y) l) a.sets;
      outer = λ l. no_item p Outer b.outer (λ y. later part (Outer y) l) a.outer;
      barrier = λ l. no_item p Barrier b.barrier (λ y. later part (Barrier y) l) a.barrier;
      odd = λ l. no_item p Odd b.odd (λ y. later part (Odd y) l) a.odd;
      split = λ l. no_item p Split b.split (λ y. later part (Split y) l) a.split;
      paths = λ l. no_items p Even b.paths (λ y. later part (Even y) l) a.paths;
    }

-- what stands behind its place is empty, and the part comes last
pub added : (b : Body) (part : Part) → MayCome b part → parts_of (with_part b part) ≡ parts_of b ++ part ∷ []
added b (Count x) h =
    let n = none_behind b (Count x) h in
    rw (n.walk refl, n.duals refl, n.sets refl, n.outer refl, n.barrier refl, n.odd refl, n.split refl, n.paths refl) (simp (append_assoc, map_push, append-nil))
added b (Walk w) h =
    let n = none_behind b (Walk w) h in
    rw (no_item _ Walk b.walk (λ y. refl) (part_by_part _ b h).walk, n.duals refl, n.sets refl, n.outer refl, n.barrier refl, n.odd refl, n.split refl, n.paths refl) (simp append-nil)
added b (Dual y) h =
    let n = none_behind b (Dual y) h in
    rw (n.sets refl, n.outer refl, n.barrier refl, n.odd refl, n.split refl, n.paths refl) (simp (append_assoc, map_push, append-nil))
added b (Set z) h =
    let n = none_behind b (Set z) h in
    rw (n.outer refl, n.barrier refl, n.odd refl, n.split refl, n.paths refl) (simp (append_assoc, map_push, append-nil))
added b (Outer d) h =
    let n = none_behind b (Outer d) h in
    rw (no_item _ Outer b.outer (λ y. refl) (part_by_part _ b h).outer, n.barrier refl, n.odd refl, n.split refl, n.paths refl) (simp (append_assoc, append-nil))
added b (Barrier u) h =
    let n = none_behind b (Barrier u) h in
    rw (no_item _ Barrier b.barrier (λ y. refl) (part_by_part _ b h).barrier, n.odd refl, n.split refl, n.paths refl) (simp (append_assoc, append-nil))
added b (Odd t) h =
    let n = none_behind b (Odd t) h in
    rw (no_item _ Odd b.odd (λ y. refl) (part_by_part _ b h).odd, n.split refl, n.paths refl) (simp (append_assoc, append-nil))
added b (Split q) h =
    let n = none_behind b (Split q) h in
    rw (no_item _ Split b.split (λ y. refl) (part_by_part _ b h).split, n.paths refl) (simp (append_assoc, append-nil))
added b (Even r) h = simp (append_assoc, map_push)

-- ---- the body that parts build

-- the body with all these parts more
abbrev pub with_parts : Body → List Part → Body
with_parts b [] = b
with_parts b (part ∷ parts) = with_parts (with_part b part) parts

built_many : {A : Type 0} (made : A → Part) (plain : A → A) (put : List A → Body) →
    ((xs : List A) (x : A) → with_part (put xs) (unnumbered (made x)) ≡ put (xs ++ plain x ∷ [])) → (before xs : List A) (rest : List Part) →
    with_parts (put before) (map unnumbered (map made xs ++ rest)) ≡ with_parts (put (before ++ map plain xs)) (map unnumbered rest)
built_many {A} made plain put step before [] rest = ap (λ (l : List A). with_parts (put l) (map unnumbered rest)) (sym (append-nil before))
built_many {A} made plain put step before (x ∷ xs) rest =
    ap (λ (b : Body). with_parts b (map unnumbered (map made xs ++ rest))) (step before x)
    ∙ built_many made plain put step (before ++ plain x ∷ []) xs rest
    ∙ ap (λ (l : List A). with_parts (put l) (map unnumbered rest)) (append_assoc before (plain x ∷ []) (map plain xs))

built_one : {A : Type 0} (made : A → Part) (plain : A → A) (put : Option A → Body) → ((x : A) → with_part (put None) (unnumbered (made x)) ≡ put (Some (plain x))) →
    (o : Option A) (rest : List Part) → with_parts (put None) (map unnumbered (at_most_one made o ++ rest)) ≡ with_parts (put (option_map plain o)) (map unnumbered rest)
built_one made plain put step None rest = refl
built_one made plain put step (Some x) rest = ap (λ (b : Body). with_parts b (map unnumbered rest)) (step x)

-- the parts determine the body, the numbers of their lines aside
pub built_bare : (b : Body) → with_parts blank (map unnumbered (parts_of b)) ≡ bare b
built_bare b =
    let c = bare b in
    let to_counts : Body = record blank { counts = c.counts } in
    let to_walk : Body = record to_counts { walk = c.walk } in
    let to_duals : Body = record to_walk { duals = c.duals } in
    let to_sets : Body = record to_duals { sets = c.sets } in
    let to_outer : Body = record to_sets { outer = c.outer } in
    let to_barrier : Body = record to_outer { barrier = c.barrier } in
    let to_odd : Body = record to_barrier { odd = c.odd } in
    let to_split : Body = record to_odd { split = c.split } in
    built_many Count (λ (x : CountLine). record x { line = 0 }) (λ xs. record blank { counts = xs }) (λ xs x. refl) [] b.counts _
    ∙ built_one Walk (λ (w : WalkLine). record w { line = 0 }) (λ o. record to_counts { walk = o }) (λ w. refl) b.walk _
    ∙ built_many Dual (λ (y : DualLine). record y { line = 0 }) (λ ys. record to_walk { duals = ys }) (λ ys y. refl) [] b.duals _
    ∙ built_many Set (λ (z : SetLine). record z { line = 0 }) (λ zs. record to_duals { sets = zs }) (λ zs z. refl) [] b.sets _
    ∙ built_one Outer (λ (d : MemberLine). record d { line = 0 }) (λ o. record to_sets { outer = o }) (λ d. refl) b.outer _
    ∙ built_one Barrier (λ (u : MemberLine). record u { line = 0 }) (λ o. record to_outer { barrier = o }) (λ u. refl) b.barrier _
    ∙ built_one Odd (λ (t : MemberLine). record t { line = 0 }) (λ o. record to_barrier { odd = o }) (λ t. refl) b.odd _
    ∙ built_one Split (λ (q : MemberLine). record q { line = 0 }) (λ o. record to_odd { split = o }) (λ q. refl) b.split _
    ∙ ap (λ (parts : List Part). with_parts to_split (map unnumbered parts)) (sym (append-nil (map Even b.paths)))
    ∙ built_many Even (λ (r : PathLine). record r { line = 0 }) (λ rs. record to_split { paths = rs }) (λ rs r. refl) [] b.paths []

-- ---- what the form says of single letters

-- what stands before and behind other parts stands in order
order_front : (xs ys : List Part) → in_order (xs ++ ys) ≡ true → in_order xs ≡ true
order_front [] ys h = refl
order_front (x ∷ xs) ys h =
    let parts = and_parts (list_all (may_follow x) (xs ++ ys)) (in_order (xs ++ ys)) h in
    and_from (list_all (may_follow x) xs) (in_order xs) (all_parts (may_follow x) xs ys parts.0).0 (order_front xs ys parts.1)

order_back : (xs ys : List Part) → in_order (xs ++ ys) ≡ true → in_order ys ≡ true
order_back [] ys h = h
order_back (x ∷ xs) ys h = order_back xs ys (and_parts (list_all (may_follow x) (xs ++ ys)) (in_order (xs ++ ys)) h).1

keys_ascend : {A : Type 0} (made : A → Part) (by : A → ℤ) (xs : List A) → ((x y : A) → may_follow (made x) (made y) ≡ int_lt (by x) (by y)) →
    in_order (map made xs) ≡ true → AscendsBy by xs
keys_ascend made by [] same h = refl
keys_ascend made by (x ∷ []) same h = refl
keys_ascend made by (x ∷ y ∷ xs) same h =
    let parts = and_parts (list_all (may_follow (made x)) (map made (y ∷ xs))) (in_order (map made (y ∷ xs))) h in
    let first = and_parts (may_follow (made x) (made y)) (list_all (may_follow (made x)) (map made xs)) parts.0 in
    and_from (int_lt (by x) (by y)) (ascends (map by (y ∷ xs))) (sym (same x y) ∙ first.0) (keys_ascend made by (y ∷ xs) same parts.1)

-- parts in order are so letter by letter
each_in_order : (xss : List (List Part)) → in_order (joined xss) ≡ true → AllByRecursion (λ xs. in_order xs ≡ true) xss
each_in_order [] h = tt
each_in_order (xs ∷ xss) h = (order_front xs (joined xss) h, each_in_order xss (order_back xs (joined xss) h))

order_by_letter : (b : Body) → in_order (parts_of b) ≡ true → ByLetter (λ parts. in_order parts ≡ true) b
order_by_letter b h = letter_by_letter (λ parts. in_order parts ≡ true) b (each_in_order (by_letter b) (ap in_order (joined_parts b) ∙ h))

pub edges_ascend : (b : Body) → in_order (parts_of b) ≡ true → AscendsBy (λ x. x.edge) b.counts
edges_ascend b h = keys_ascend Count (λ (x : CountLine). x.edge) b.counts (λ x y. refl) (order_by_letter b h).counts

pub vertices_ascend : (b : Body) → in_order (parts_of b) ≡ true → AscendsBy (λ y. y.vertex) b.duals
vertices_ascend b h = keys_ascend Dual (λ (y : DualLine). y.vertex) b.duals (λ x y. refl) (order_by_letter b h).duals

pub paths_ascend : (b : Body) → in_order (parts_of b) ≡ true → AscendsBy (λ r. r.vertex) b.paths
paths_ascend b h = keys_ascend Even (λ (r : PathLine). r.vertex) b.paths (λ x y. refl) (order_by_letter b h).paths

-- a test of the one part that there is of a letter
pub the_one : {A : Type 0} (p : Part → Bool) (made : A → Part) (o : Option A) (x : A) → list_all p (at_most_one made o) ≡ true → o ≡ Some x → p (made x) ≡ true
the_one p made None x h is = absurd cc
the_one p made (Some y) x h is = let same : y ≡ x = cc in ap (λ (z : _). p (made z)) (sym same) ∙ (and_parts (p (made y)) true h).0

module _ (b : Body) (formed : list_all is_formed (parts_of b) ≡ true) where
  pub outer_ascends : (d : MemberLine) → b.outer ≡ Some d → ascends d.members ≡ true
  outer_ascends d is = the_one is_formed Outer b.outer d (part_by_part is_formed b formed).outer is

  pub barrier_ascends : (u : MemberLine) → b.barrier ≡ Some u → ascends u.members ≡ true
  barrier_ascends u is = the_one is_formed Barrier b.barrier u (part_by_part is_formed b formed).barrier is

  pub odd_ascends : (t : MemberLine) → b.odd ≡ Some t → ascends t.members ≡ true
  odd_ascends t is = the_one is_formed Odd b.odd t (part_by_part is_formed b formed).odd is

  pub split_ascends : (q : MemberLine) → b.split ≡ Some q → ascends q.members ≡ true
  split_ascends q is = the_one is_formed Split b.split q (part_by_part is_formed b formed).split is
