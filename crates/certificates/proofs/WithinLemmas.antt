-- Where no line is at fault every number is in its range.
use Rattle.mb_problem.proofs.Common.{◌≡◌, ℕ, zero, suc, ◌+◌, ◌<◌, ℤ, pos, neg_ℤ, nat_abs, ◌≤ℤ◌, Bool, true, false, not, cond, List, [], ◌∷◌}
use Rattle.mb_problem.proofs.Common.{length, map, get_or, All, Option, None, Some, IfSome, refl, sym, ◌∙◌, subst, arith, int_le, option_map, option_or, list_all, AllByRecursion, find}
use Rattle.mb_problem.proofs.Common.{and_parts, and_from}
use Rattle.mb_problem.proofs.Common.{All-nil, All-cons, All-weaker, NUMBER_LIMIT, IsNumber, Network, vertices, int_le-true, int_le-yes}
use Rattle.mb_problem.specs.declared.kind.Kind.{Kind}
use Rattle.mb_problem.specs.declared.limits.TheConstants.{VALUE_LIMIT}
use Rattle.gadget_base.specs.Certified.{gadget_graph}
use Rattle.doc_format.specs.declared.document.Document.{Document}
use Rattle.doc_format.specs.declared.part.CountLine.{CountLine}
use Rattle.doc_format.specs.declared.part.WalkLine.{WalkLine}
use Rattle.doc_format.specs.declared.part.DualLine.{DualLine}
use Rattle.doc_format.specs.declared.part.PathLine.{PathLine}
use Rattle.doc_format.specs.declared.part.SetItem.{SetItem}
use Rattle.doc_format.specs.declared.part.SetItem.TheVariants.{Vertex, Reference}
use Rattle.doc_format.specs.declared.part.SetLine.{SetLine}
use Rattle.doc_format.specs.declared.part.Part.{Part}
use Rattle.doc_format.specs.declared.part.Part.TheVariants.{Count, Walk, Dual, Set, Outer, Barrier, Odd, Split, Even}
use Rattle.doc_format.specs.Parts.{Body, at_most_one, parts_of, line_of, item_passes, set_count}
use Rattle.doc_format.specs.Reading.{body_of}
use Rattle.doc_format.proofs.PartLaws.{by_letter, letter_by_letter}
use Rattle.certificates.specs.Ranges.{Checked, first_fault, first_out_of_range, is_between, is_up_to, is_dual, is_set_dual, is_within, in_range, all_in_range, checked}
use Rattle.certificates.proofs.RangeLemmas.{first_of, first_of-cons, fault_in, first_of_all}
use Rattle.certificates.specs.Within.{IsUpTo, IsSetDual, IsCountWithin, IsWalkWithin, IsPathWithin, IsDualWithin, IsItemWithin, IsSetLineWithin, AreSetLinesWithin, AreWithin}

pub one_in_range : (b : Bool) (c : Checked) (rest : Option Checked) → option_map (λ (l : Checked). l.line) (cond (not b) (Some c) rest) ≡ None →
    (b ≡ true) × (option_map (λ (l : Checked). l.line) rest ≡ None)
one_in_range true c rest h = (refl, h)
one_in_range false c rest h = (absurd (cc), absurd (cc))

-- a line in range is no fault, and where there is none all lines are
none_faulty : (n m p k : ℕ) (parts : List Part) → all_in_range n m p k parts ≡ true → first_fault (checked n m p k parts) ≡ None
none_faulty n m p k [] h = refl
none_faulty n m p k (part ∷ parts) h =
    let both = and_parts (in_range n m p k part) (all_in_range n m p (k + set_count part) parts) h in
    rw (both.0) (none_faulty n m p (k + set_count part) parts both.1)

all-in_range : (n m p k : ℕ) (parts : List Part) → first_fault (checked n m p k parts) ≡ None → all_in_range n m p k parts ≡ true
all-in_range n m p k [] h = refl
all-in_range n m p k (part ∷ parts) h =
    let line : Checked = record { line = line_of part; in_range = in_range n m p k part } in
    let both = one_in_range (in_range n m p k part) line (find (λ (l : Checked). not l.in_range) (checked n m p (k + set_count part) parts)) h in
    and_from (in_range n m p k part) (all_in_range n m p (k + set_count part) parts) both.0 (all-in_range n m p (k + set_count part) parts both.1)

all-list_all : {A : Type 0} (p : A → Bool) (xs : List A) → list_all p xs ≡ true → All (λ x. p x ≡ true) xs
all-list_all p [] h = All-nil (λ x. p x ≡ true)
all-list_all p (x ∷ xs) h = (let parts = and_parts (p x) (list_all p xs) h in All-cons (λ x. p x ≡ true) x xs parts.0 (all-list_all p xs parts.1))

between : (low high z : ℤ) → is_between low high z ≡ true → (low ≤ℤ z) × (z ≤ℤ high)
between low high z h = (let parts = and_parts (int_le low z) (int_le z high) h in (int_le-true low z parts.0, int_le-true z high parts.1))

up_to : (n : ℕ) (z : ℤ) → is_up_to n z ≡ true → IsUpTo n z
up_to n z h = (let parts = between (pos 1) (pos n) z h in record { low = parts.0; high = parts.1 })

number : (z : ℤ) → is_dual z ≡ true → IsNumber z
number z h = between (neg_ℤ NUMBER_LIMIT) NUMBER_LIMIT z h

set_dual : (z : ℤ) → is_set_dual z ≡ true → IsSetDual z
set_dual z h = up_to (nat_abs NUMBER_LIMIT) z h

all_up_to : (n : ℕ) (zs : List ℤ) → list_all (is_up_to n) zs ≡ true → All (IsUpTo n) zs
all_up_to n zs h = All-weaker (λ z. is_up_to n z ≡ true) (IsUpTo n) (up_to n) zs (all-list_all (is_up_to n) zs h)

count_within : (n m p k : ℕ) (x : CountLine) → in_range n m p k (Count x) ≡ true → IsCountWithin m x
count_within n m p k x h = (let parts = and_parts (is_up_to m x.edge) (is_up_to VALUE_LIMIT x.count) h in (up_to m x.edge parts.0, up_to VALUE_LIMIT x.count parts.1))

dual_within : (n m p k : ℕ) (y : DualLine) → in_range n m p k (Dual y) ≡ true → IsDualWithin p y
dual_within n m p k y h = (let parts = and_parts (is_up_to p y.vertex) (is_dual y.dual) h in (up_to p y.vertex parts.0, number y.dual parts.1))

item_within : (n m p k : ℕ) (x : SetItem) → item_passes (is_within n m p k) x ≡ true → IsItemWithin p k x
item_within n m p k (Vertex v) h = up_to p v h
item_within n m p k (Reference j) h = up_to k j h

set_within : (n m p k : ℕ) (z : SetLine) → in_range n m p k (Set z) ≡ true → IsSetLineWithin p k z
set_within n m p k z h =
    let passes = item_passes (is_within n m p k) in
    let parts = and_parts (is_set_dual z.dual) (list_all passes z.items) h in
    (set_dual z.dual parts.0, All-weaker (λ x. passes x ≡ true) (IsItemWithin p k) (item_within n m p k) z.items (all-list_all passes z.items parts.1))

walk_within : (n m p k : ℕ) (w : WalkLine) → in_range n m p k (Walk w) ≡ true → IsWalkWithin n m w
walk_within n m p k w h = (let parts = and_parts (is_up_to n w.start) (list_all (is_up_to m) w.edges) h in (up_to n w.start parts.0, all_up_to m w.edges parts.1))

path_within : (n m p k : ℕ) (r : PathLine) → in_range n m p k (Even r) ≡ true → IsPathWithin n m r
path_within n m p k r h = (let parts = and_parts (is_up_to n r.vertex) (list_all (is_up_to m) r.edges) h in (up_to n r.vertex parts.0, all_up_to m r.edges parts.1))

-- the z line at a place, after k others
set_places : (p k : ℕ) (y : SetLine) (zs : List SetLine) → IsSetLineWithin p k y →
    ((j : ℕ) (z : SetLine) → j < length zs → z ≡ get_or zs j z → IsSetLineWithin p (k + 1 + j) z) →
    (j : ℕ) (z : SetLine) → j < suc (length zs) → z ≡ get_or (y ∷ zs) j z → IsSetLineWithin p (k + j) z
set_places p k y zs first others zero z below is =
    let place : k ≡ k + 0 = omega arith in
    subst (λ (q : ℕ). IsSetLineWithin p q z) place (subst (IsSetLineWithin p k) (sym is) first)
set_places p k y zs first others (suc j) z below is =
    let place : k + 1 + j ≡ k + suc j = omega arith in
    subst (λ (q : ℕ). IsSetLineWithin p q z) place (others j z (omega arith) is)

-- ---- letter by letter

both-none : (o q : Option ℕ) → option_or o q ≡ None → (o ≡ None) × (q ≡ None)
both-none None q h = (refl, h)
both-none (Some k) q h = absurd (cc)

module _ (n m p : ℕ) where
  -- where no list of several has a fault, none of each has
  each-in_range : (lists : List (List Part)) → first_of (map (fault_in n m p) lists) ≡ None → AllByRecursion (λ parts. all_in_range n m p 0 parts ≡ true) lists
  each-in_range [] h = tt
  each-in_range (parts ∷ lists) h =
      let faults = map (fault_in n m p) lists in
      let both = both-none (fault_in n m p parts) (first_of faults) (sym (first_of-cons (fault_in n m p parts) faults) ∙ h) in
      (all-in_range n m p 0 parts both.0, each-in_range lists both.1)

  -- the lines of a letter that is no z
  many : {A : Type 0} (made : A → Part) (P : A → Type 0) (each : (k : ℕ) (x : A) → in_range n m p k (made x) ≡ true → P x) →
      (k : ℕ) (xs : List A) → all_in_range n m p k (map made xs) ≡ true → All P xs
  many made P each k [] h = All-nil P
  many made P each k (x ∷ xs) h =
      let both = and_parts (in_range n m p k (made x)) (all_in_range n m p (k + set_count (made x)) (map made xs)) h in
      All-cons P x xs (each k x both.0) (many made P each (k + set_count (made x)) xs both.1)

  -- the one line of a letter, where there is one
  one : {A : Type 0} (made : A → Part) (P : A → Type 0) (each : (x : A) → in_range n m p 0 (made x) ≡ true → P x) →
      (o : Option A) → all_in_range n m p 0 (at_most_one made o) ≡ true → IfSome o P
  one made P each None h = tt
  one made P each (Some x) h = each x (and_parts (in_range n m p 0 (made x)) true h).0

  -- the z lines after k others
  sets : (k : ℕ) (zs : List SetLine) → all_in_range n m p k (map Set zs) ≡ true →
      (j : ℕ) (z : SetLine) → j < length zs → z ≡ get_or zs j z → IsSetLineWithin p (k + j) z
  sets k [] h = λ j z below is. absurd (omega arith)
  sets k (z ∷ zs) h =
      let both = and_parts (in_range n m p k (Set z)) (all_in_range n m p (k + 1) (map Set zs)) h in
      set_places p k z zs (set_within n m p k z both.0) (sets (k + 1) zs both.1)

-- the parts of a document whose numbers are in range
record LinesWithin (n m p : ℕ) (b : Body) : Type 0 where
  counts : All (IsCountWithin m) b.counts
  walk : IfSome b.walk (IsWalkWithin n m)
  duals : All (IsDualWithin p) b.duals
  sets : AreSetLinesWithin p b.sets
  outer : IfSome b.outer (λ d. All (IsUpTo n) d.members)
  barrier : IfSome b.barrier (λ u. All (IsUpTo p) u.members)
  odd : IfSome b.odd (λ t. All (IsUpTo n) t.members)
  split : IfSome b.split (λ q. All (IsUpTo n) q.members)
  paths : All (IsPathWithin n m) b.paths

lines_within : (n m p : ℕ) (b : Body) → all_in_range n m p 0 (parts_of b) ≡ true → LinesWithin n m p b
lines_within n m p b h =
    let none = sym (first_of_all n m p b) ∙ none_faulty n m p 0 (parts_of b) h in
    let each = letter_by_letter (λ parts. all_in_range n m p 0 parts ≡ true) b (each-in_range n m p (by_letter b) none) in
    let sets : AreSetLinesWithin p b.sets = λ j z below is.
    (let place : 0 + j ≡ j = omega arith in subst (λ (q : ℕ). IsSetLineWithin p q z) place (sets n m p 0 b.sets each.sets j z below is)) in
    record {
      counts = many n m p Count (IsCountWithin m) (count_within n m p) 0 b.counts each.counts;
      walk = one n m p Walk (IsWalkWithin n m) (walk_within n m p 0) b.walk each.walk;
      duals = many n m p Dual (IsDualWithin p) (dual_within n m p) 0 b.duals each.duals;
      sets = sets;
      outer = one n m p Outer (λ d. All (IsUpTo n) d.members) (λ d. all_up_to n d.members) b.outer each.outer;
      barrier = one n m p Barrier (λ u. All (IsUpTo p) u.members) (λ u. all_up_to p u.members) b.barrier each.barrier;
      odd = one n m p Odd (λ t. All (IsUpTo n) t.members) (λ t. all_up_to n t.members) b.odd each.odd;
      split = one n m p Split (λ q. All (IsUpTo n) q.members) (λ q. all_up_to n q.members) b.split each.split;
      paths = many n m p Even (IsPathWithin n m) (path_within n m p) 0 b.paths each.paths;
    }

module _ (kind : Kind) (i : Network) (d : Document) (within : AreWithin kind i d) where
  abbrev n : ℕ
  n = vertices i

  abbrev m : ℕ
  m = length i.edges

  abbrev p : ℕ
  p = (gadget_graph kind i).vertices

  parts : LinesWithin n m p (body_of d)
  parts = lines_within n m p (body_of d) within.parts

  pub counts-in : All (IsCountWithin m) d.counts
  counts-in = parts.counts

  pub walk-in : IfSome d.walk (IsWalkWithin n m)
  walk-in = parts.walk

  pub duals-in : All (IsDualWithin p) d.duals
  duals-in = parts.duals

  pub sets-in : AreSetLinesWithin p d.sets
  sets-in = parts.sets

  pub outer-in : IfSome d.outer (λ o. All (IsUpTo n) o.members)
  outer-in = parts.outer

  pub barrier-in : IfSome d.barrier (λ u. All (IsUpTo p) u.members)
  barrier-in = parts.barrier

  pub odd-in : IfSome d.odd (λ t. All (IsUpTo n) t.members)
  odd-in = parts.odd

  pub split-in : IfSome d.split (λ q. All (IsUpTo n) q.members)
  split-in = parts.split

  pub paths-in : All (IsPathWithin n m) d.paths
  paths-in = parts.paths

pub are-within : (kind : Kind) (i : Network) (d : Document) → first_out_of_range kind i d ≡ None → AreWithin kind i d
are-within kind i d h =
    let head = one_in_range (is_dual d.weight) (record { line = d.line; in_range = is_dual d.weight }) _ h in
    record {
      weight = number d.weight head.0;
      parts = all-in_range (vertices i) (length i.edges) (gadget_graph kind i).vertices 0 (parts_of (body_of d)) head.1;
    }

-- and only then
pub number-in : (z : ℤ) → IsNumber z → is_dual z ≡ true
number-in z h = and_from (int_le (neg_ℤ NUMBER_LIMIT) z) (int_le z NUMBER_LIMIT) (int_le-yes (neg_ℤ NUMBER_LIMIT) z h.0) (int_le-yes z NUMBER_LIMIT h.1)

pub in-range : (kind : Kind) (i : Network) (d : Document) → AreWithin kind i d → first_out_of_range kind i d ≡ None
in-range kind i d h = rw (number-in d.weight h.weight) (none_faulty (vertices i) (length i.edges) (gadget_graph kind i).vertices 0 (parts_of (body_of d)) h.parts)
