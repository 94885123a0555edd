-- Documents whose numbers have the same parts, by what the form of a document says of its lines.
use Rattle.certificates.proofs.Common.{◌≡◌, ◌||◌, ℕ, ℤ, pos, Bool, true, false, not, List, [], ◌∷◌, ◌++◌, length, map, Option, None, Some, IfSome, refl, sym, ap, ap₂, ◌∙◌, subst}
use Rattle.certificates.proofs.Common.{append-nil, arith, and_parts, list_all, length-map, has_any, ascends, at_most_one, admits, is_formed}
use Rattle.certificates.proofs.Common.{is_walk, is_barrier, is_odd_part, is_split_part, is_never, proves_best, body_of}
use Rattle.certificates.proofs.Common.{are_duals, asks_conservative, obstruction_of, form_of, proof_of, IsDocument, Kind, AnswerForm, BestProof, Duals, LighterBarrier, OuterPaths}
use Rattle.certificates.proofs.Common.{Obstruction}
use Rattle.certificates.proofs.Common.{Document, DocStatus, Optimal, Infeasible, NonConservative, Part, CountLine, WalkLine, MemberLine, PathLine, SetLine, DualLine, counts_of, paths_ascend}
use Rattle.doc_format.proofs.PartLaws.{AllParts, part_by_part, no_items}
use Rattle.array_call.specs.Layout.{status_number, start_number, walk_numbers, answer_numbers, listed_members, excluding, leads, lists, set_list, all_items, offsets, head}
use Rattle.array_call.specs.Sheets.{Sheet, HasEdges}
use Rattle.array_call.specs.Documents.{sheet_for}
use Rattle.mb_problem.specs.declared.kind.AnswerForm.TheVariants as form
use Rattle.mb_problem.specs.declared.kind.Obstruction.TheVariants as obstruction
use Rattle.mb_problem.specs.declared.kind.Kind.TheVariants as kinds
use Rattle.doc_format.specs.declared.part.Part.TheVariants as part
use Rattle.doc_format.specs.declared.letter.Letter.TheVariants as letter

-- ---- the same parts of numbers

abbrev sheet_by : DocStatus → ℤ → ℤ → List ℤ → ℕ → List ℤ → List ℤ → List (List ℤ) → List ℤ → Sheet
sheet_by status weight start answer count duals starts xss members = record {
  head = head status weight start (pos (length answer)) (pos count) (pos (length starts)) (pos (length (all_items xss))) (pos (length members));
  answer = answer;
  duals = duals;
  leads = starts;
  offsets = offsets xss;
  items = all_items xss;
  excluding = members;
}

-- what the numbers of two documents show of them is the same
pub record LooksLike (f : AnswerForm) (m : ℕ) (d b : Document) : Type 0 where
  pub status : d.status ≡ b.status
  pub weight : d.weight ≡ b.weight
  pub start : start_number d.walk ≡ start_number b.walk
  pub answer : answer_numbers f m d ≡ answer_numbers f m b
  pub duals : map (λ y. y.dual) d.duals ≡ map (λ y. y.dual) b.duals
  pub leads : leads d.sets d.paths ≡ leads b.sets b.paths
  pub lists : lists d.sets d.paths ≡ lists b.sets b.paths
  pub excluding : excluding d ≡ excluding b

same-pieces : (s t : DocStatus) (w v a b : ℤ) (xs ys : List ℤ) (n k : ℕ) (ds es ls ks : List ℤ) (xss yss : List (List ℤ)) (ms ns : List ℤ) → s ≡ t → w ≡ v → a ≡ b → xs ≡ ys → n ≡ k → ds ≡ es
    → ls ≡ ks → xss ≡ yss → ms ≡ ns → sheet_by s w a xs n ds ls xss ms ≡ sheet_by t v b ys k es ks yss ns
same-pieces s t w v a b xs ys n k ds es ls ks xss yss ms ns one two three four five six seven eight nine = rw (one, two, three, four, five, six, seven, eight, nine) refl

pub same-sheet : (f : AnswerForm) (m : ℕ) (d b : Document) → LooksLike f m d b → sheet_for f m d ≡ sheet_for f m b
same-sheet f m d b h =
    let count : length d.duals ≡ length b.duals = omega (arith, length-map d.duals (λ y. y.dual), length-map b.duals (λ y. y.dual), ap length h.duals) in
    same-pieces d.status b.status d.weight b.weight (start_number d.walk) (start_number b.walk) (answer_numbers f m d) (answer_numbers f m b) (length d.duals) (length b.duals)
    (map (λ y. y.dual) d.duals) (map (λ y. y.dual) b.duals) (leads d.sets d.paths) (leads b.sets b.paths) (lists d.sets d.paths) (lists b.sets b.paths) (excluding d) (excluding b)
    h.status h.weight h.start h.answer count h.duals h.leads h.lists h.excluding

-- ---- what a form leaves out

no-one : {A : Type 0} (p : Part → Bool) (made : A → Part) (o : Option A) → ((x : A) → p (made x) ≡ false) → list_all p (at_most_one made o) ≡ true → o ≡ None
no-one p made None none h = refl
no-one p made (Some x) none h = (let e = (and_parts (p (made x)) true h).0 in let n = none x in absurd cc)

as-formed : (s : DocStatus) (kind : Kind) (d : Document) → d.status ≡ s → d.kind ≡ kind → IsDocument s kind d.weight (body_of d)
as-formed s kind d status is =
    subst (λ (t : DocStatus). IsDocument t kind d.weight (body_of d)) status (subst (λ (k : Kind). IsDocument d.status k d.weight (body_of d)) is d.form)

letters : (s : DocStatus) (kind : Kind) (d : Document) → d.status ≡ s → d.kind ≡ kind → AllParts (admits s kind) (body_of d)
letters s kind d status is = part_by_part (admits s kind) (body_of d) (as-formed s kind d status is).letters

forms : (d : Document) → AllParts is_formed (body_of d)
forms d = part_by_part is_formed (body_of d) d.form.formed

edges-of : (w : Option WalkLine) → list_all is_formed (at_most_one part.Walk w) ≡ true → HasEdges w
edges-of None h = tt
edges-of (Some w) h = (and_parts (has_any w.edges) true h).0

pub walk-edges : (d : Document) → HasEdges d.walk
walk-edges d = edges-of d.walk (forms d).walk

members-ascend : (made : MemberLine → Part) (o : Option MemberLine) → ((u : MemberLine) → is_formed (made u) ≡ ascends u.members) → list_all is_formed (at_most_one made o) ≡ true
    → ascends (listed_members o) ≡ true
members-ascend made None same h = refl
members-ascend made (Some u) same h = sym (same u) ∙ (and_parts (is_formed (made u)) true h).0

-- only one of three sets of vertices is there

excluding-barrier : (d : Document) → d.odd ≡ None → d.split ≡ None → excluding d ≡ listed_members d.barrier
excluding-barrier d odd split =
    ap₂ (λ (t q : Option MemberLine). listed_members d.barrier ++ (listed_members t ++ listed_members q)) odd split ∙ append-nil (listed_members d.barrier)

excluding-odd : (d : Document) → d.barrier ≡ None → d.split ≡ None → excluding d ≡ listed_members d.odd
excluding-odd d barrier split = ap₂ (λ (u q : Option MemberLine). listed_members u ++ (listed_members d.odd ++ listed_members q)) barrier split ∙ append-nil (listed_members d.odd)

excluding-split : (d : Document) → d.barrier ≡ None → d.odd ≡ None → excluding d ≡ listed_members d.split
excluding-split d barrier odd = ap₂ (λ (u t : Option MemberLine). listed_members u ++ (listed_members t ++ listed_members d.split)) barrier odd

-- ---- where walks start

some-number : (xs : List ℤ) → has_any xs ≡ true → [] ≡ xs → ⊥
some-number [] some same = absurd cc
some-number (x ∷ xs) some same = absurd cc

starts-same : (u w : Option WalkLine) → HasEdges u → HasEdges w → walk_numbers u ≡ walk_numbers w → IfSome u (λ l. l.start ≡ start_number w) → start_number w ≡ start_number u
starts-same None None one other same starts = refl
starts-same None (Some w) one other same starts = absurd (some-number w.edges other same)
starts-same (Some u) None one other same starts = absurd (some-number u.edges one (sym same))
starts-same (Some u) (Some w) one other same starts = sym starts

abbrev HasWalkIn : AnswerForm → Option WalkLine → Type 0
HasWalkIn form.Counts w = w ≡ None
HasWalkIn form.Walk w = HasEdges w

walk-by : (f : AnswerForm) (w : Option WalkLine) (p : Part → Bool) → ((l : WalkLine) → p (part.Walk l) ≡ is_walk f) → list_all p (at_most_one part.Walk w) ≡ true → HasEdges w
    → HasWalkIn f w
walk-by form.Counts w p takes h edges = no-one p part.Walk w takes h
walk-by form.Walk w p takes h edges = edges

walk-in : (kind : Kind) (d : Document) → d.status ≡ Optimal → d.kind ≡ kind → HasWalkIn (form_of kind) d.walk
walk-in kind d status is = walk-by (form_of kind) d.walk (admits Optimal kind) (λ l. refl) (letters Optimal kind d status is).walk (walk-edges d)

start-in : (f : AnswerForm) (m : ℕ) (d b : Document) → HasWalkIn f d.walk → HasWalkIn f b.walk → answer_numbers f m b ≡ answer_numbers f m d
    → IfSome b.walk (λ w. w.start ≡ start_number d.walk) → start_number d.walk ≡ start_number b.walk
start-in form.Counts m d b one other same starts = ap start_number (one ∙ sym other)
start-in form.Walk m d b one other same starts = starts-same b.walk d.walk other one same starts

-- ---- optimal, proved by duals

not-even : (p : BestProof) → are_duals p ≡ true → (proves_best letter.Even p || false) ≡ false
not-even (Duals value) h = refl
not-even LighterBarrier h = absurd cc
not-even OuterPaths h = absurd cc

not-barrier : (p : BestProof) → are_duals p ≡ true → (proves_best letter.Barrier p || false) ≡ false
not-barrier (Duals value) h = refl
not-barrier LighterBarrier h = absurd cc
not-barrier OuterPaths h = absurd cc

record HasDualsAlone (d : Document) : Type 0 where
  paths : d.paths ≡ []
  excluding : excluding d ≡ []

duals-alone : (kind : Kind) (d : Document) → are_duals (proof_of kind) ≡ true → d.status ≡ Optimal → d.kind ≡ kind → HasDualsAlone d
duals-alone kind d duals status is =
    let p = admits Optimal kind in
    let l = letters Optimal kind d status is in
    let barrier = no-one p part.Barrier d.barrier (λ u. not-barrier (proof_of kind) duals) l.barrier in
    record {
      paths = no_items p part.Even d.paths (λ r. not-even (proof_of kind) duals) l.paths;
      excluding = excluding-barrier d (no-one p part.Odd d.odd (λ t. refl) l.odd) (no-one p part.Split d.split (λ q. refl) l.split) ∙ ap listed_members barrier;
    }

pub alike-by-duals : (kind : Kind) (m : ℕ) (d b : Document) → are_duals (proof_of kind) ≡ true → d.kind ≡ kind → b.kind ≡ kind → d.status ≡ Optimal → b.status ≡ Optimal
    → b.weight ≡ d.weight → answer_numbers (form_of kind) m b ≡ answer_numbers (form_of kind) m d → IfSome b.walk (λ w. w.start ≡ start_number d.walk)
    → map (λ y. y.dual) b.duals ≡ map (λ y. y.dual) d.duals → map (λ z. z.dual) b.sets ≡ leads d.sets d.paths
    → map set_list b.sets ≡ lists d.sets d.paths → sheet_for (form_of kind) m d ≡ sheet_for (form_of kind) m b
alike-by-duals kind m d b duals is is-b optimal optimal-b weight answer start vertices starts sets =
    let one = duals-alone kind d duals optimal is in
    let other = duals-alone kind b duals optimal-b is-b in
    same-sheet (form_of kind) m d b (record {
      status = optimal ∙ sym optimal-b;
      weight = sym weight;
      start = start-in (form_of kind) m d b (walk-in kind d optimal is) (walk-in kind b optimal-b is-b) answer start;
      answer = sym answer;
      duals = sym vertices;
      leads = sym (ap (λ (rs : List PathLine). leads b.sets rs) other.paths ∙ append-nil (map (λ z. z.dual) b.sets) ∙ starts);
      lists = sym (ap (λ (rs : List PathLine). lists b.sets rs) other.paths ∙ append-nil (map set_list b.sets) ∙ sets);
      excluding = one.excluding ∙ sym other.excluding;
    })

-- ---- optimal, proved by a barrier of lighter edges

pub record HasBarrierAlone (d : Document) : Type 0 where
  pub walk : d.walk ≡ None
  pub duals : d.duals ≡ []
  pub sets : d.sets ≡ []
  pub paths : d.paths ≡ []
  pub only : excluding d ≡ listed_members d.barrier
  pub ascending : ascends (excluding d) ≡ true

pub barrier-alone : (d : Document) → d.status ≡ Optimal → d.kind ≡ kinds.Bottleneck → HasBarrierAlone d
barrier-alone d status is =
    let p = admits Optimal kinds.Bottleneck in
    let l = letters Optimal kinds.Bottleneck d status is in
    let only = excluding-barrier d (no-one p part.Odd d.odd (λ t. refl) l.odd) (no-one p part.Split d.split (λ q. refl) l.split) in
    record {
      walk = no-one p part.Walk d.walk (λ w. refl) l.walk;
      duals = no_items p part.Dual d.duals (λ y. refl) l.duals;
      sets = no_items p part.Set d.sets (λ z. refl) l.sets;
      paths = no_items p part.Even d.paths (λ r. refl) l.paths;
      only = only;
      ascending = ap ascends only ∙ members-ascend part.Barrier d.barrier (λ u. refl) (forms d).barrier;
    }

pub alike-by-barrier : (m : ℕ) (d b : Document) → d.kind ≡ kinds.Bottleneck → b.kind ≡ kinds.Bottleneck → d.status ≡ Optimal → b.status ≡ Optimal → b.weight ≡ d.weight →
    answer_numbers form.Counts m b ≡ answer_numbers form.Counts m d → listed_members b.barrier ≡ excluding d → sheet_for form.Counts m d ≡ sheet_for form.Counts m b
alike-by-barrier m d b is is-b optimal optimal-b weight answer members =
    let one = barrier-alone d optimal is in
    let other = barrier-alone b optimal-b is-b in
    same-sheet form.Counts m d b (record {
      status = optimal ∙ sym optimal-b;
      weight = sym weight;
      start = ap start_number (one.walk ∙ sym other.walk);
      answer = sym answer;
      duals = ap (λ (ys : List DualLine). map (λ y. y.dual) ys) (one.duals ∙ sym other.duals);
      leads = ap₂ (λ (zs : List SetLine) (rs : List PathLine). leads zs rs) (one.sets ∙ sym other.sets) (one.paths ∙ sym other.paths);
      lists = ap₂ (λ (zs : List SetLine) (rs : List PathLine). lists zs rs) (one.sets ∙ sym other.sets) (one.paths ∙ sym other.paths);
      excluding = sym (other.only ∙ members);
    })

-- ---- optimal, proved by paths

pub record HasPathsAlone (d : Document) : Type 0 where
  pub walk : d.walk ≡ None
  pub duals : d.duals ≡ []
  pub starts : leads d.sets d.paths ≡ map (λ r. r.vertex) d.paths
  pub edges : lists d.sets d.paths ≡ map (λ r. r.edges) d.paths
  pub only : excluding d ≡ listed_members d.barrier
  pub ascending : ascends (excluding d) ≡ true
  pub ascending-leads : ascends (leads d.sets d.paths) ≡ true

pub paths-alone : (d : Document) → d.status ≡ Optimal → d.kind ≡ kinds.Gallai → HasPathsAlone d
paths-alone d status is =
    let p = admits Optimal kinds.Gallai in
    let l = letters Optimal kinds.Gallai d status is in
    let only = excluding-barrier d (no-one p part.Odd d.odd (λ t. refl) l.odd) (no-one p part.Split d.split (λ q. refl) l.split) in
    let sets : d.sets ≡ [] = no_items p part.Set d.sets (λ z. refl) l.sets in
    let starts : leads d.sets d.paths ≡ map (λ r. r.vertex) d.paths = ap (λ (zs : List SetLine). leads zs d.paths) sets in
    record {
      walk = no-one p part.Walk d.walk (λ w. refl) l.walk;
      duals = no_items p part.Dual d.duals (λ y. refl) l.duals;
      starts = starts;
      edges = ap (λ (zs : List SetLine). lists zs d.paths) sets;
      only = only;
      ascending = ap ascends only ∙ members-ascend part.Barrier d.barrier (λ u. refl) (forms d).barrier;
      ascending-leads = ap ascends starts ∙ paths_ascend (body_of d) d.form.ordered;
    }

pub alike-by-paths : (m : ℕ) (d b : Document) → d.kind ≡ kinds.Gallai → b.kind ≡ kinds.Gallai → d.status ≡ Optimal → b.status ≡ Optimal → b.weight ≡ d.weight →
    answer_numbers form.Counts m b ≡ answer_numbers form.Counts m d → map (λ r. r.vertex) b.paths ≡ leads d.sets d.paths → map (λ r. r.edges) b.paths ≡ lists d.sets d.paths →
    listed_members b.barrier ≡ excluding d → sheet_for form.Counts m d ≡ sheet_for form.Counts m b
alike-by-paths m d b is is-b optimal optimal-b weight answer starts edges members =
    let one = paths-alone d optimal is in
    let other = paths-alone b optimal-b is-b in
    same-sheet form.Counts m d b (record {
      status = optimal ∙ sym optimal-b;
      weight = sym weight;
      start = ap start_number (one.walk ∙ sym other.walk);
      answer = sym answer;
      duals = ap (λ (ys : List DualLine). map (λ y. y.dual) ys) (one.duals ∙ sym other.duals);
      leads = sym (other.starts ∙ starts);
      lists = sym (other.edges ∙ edges);
      excluding = sym (other.only ∙ members);
    })

-- ---- infeasible

record HasSetAlone (d : Document) : Type 0 where
  weight : d.weight ≡ pos 0
  counts : d.counts ≡ []
  walk : d.walk ≡ None
  duals : d.duals ≡ []
  sets : d.sets ≡ []
  paths : d.paths ≡ []

set-alone : (kind : Kind) (d : Document) → d.status ≡ Infeasible → d.kind ≡ kind → HasSetAlone d
set-alone kind d status is =
    let p = admits Infeasible kind in
    let l = letters Infeasible kind d status is in
    record {
      weight = (as-formed Infeasible kind d status is).no_weight refl;
      counts = no_items p part.Count d.counts (λ x. refl) l.counts;
      walk = no-one p part.Walk d.walk (λ w. refl) l.walk;
      duals = no_items p part.Dual d.duals (λ y. refl) l.duals;
      sets = no_items p part.Set d.sets (λ z. refl) l.sets;
      paths = no_items p part.Even d.paths (λ r. refl) l.paths;
    }

excluding-ascends : (e : Obstruction) (p : Part → Bool) (d : Document) → AllParts p (body_of d) → ((u : MemberLine) → p (part.Barrier u) ≡ is_barrier e) →
    ((u : MemberLine) → p (part.Odd u) ≡ is_odd_part e) → ((u : MemberLine) → p (part.Split u) ≡ is_split_part e) → ascends (excluding d) ≡ true
excluding-ascends obstruction.Barrier p d l barrier odd split =
    ap ascends (excluding-barrier d (no-one p part.Odd d.odd odd l.odd) (no-one p part.Split d.split split l.split))
    ∙ members-ascend part.Barrier d.barrier (λ u. refl) (forms d).barrier
excluding-ascends obstruction.OddPart p d l barrier odd split =
    ap ascends (excluding-odd d (no-one p part.Barrier d.barrier barrier l.barrier) (no-one p part.Split d.split split l.split))
    ∙ members-ascend part.Odd d.odd (λ u. refl) (forms d).odd
excluding-ascends obstruction.SplitPart p d l barrier odd split =
    ap ascends (excluding-split d (no-one p part.Barrier d.barrier barrier l.barrier) (no-one p part.Odd d.odd odd l.odd))
    ∙ members-ascend part.Split d.split (λ u. refl) (forms d).split
excluding-ascends obstruction.Never p d l barrier odd split =
    ap ascends (excluding-split d (no-one p part.Barrier d.barrier barrier l.barrier) (no-one p part.Odd d.odd odd l.odd))
    ∙ members-ascend part.Split d.split (λ u. refl) (forms d).split

pub set-ascends : (kind : Kind) (d : Document) → d.status ≡ Infeasible → d.kind ≡ kind → ascends (excluding d) ≡ true
set-ascends kind d status is =
    excluding-ascends (obstruction_of kind) (admits Infeasible kind) d (letters Infeasible kind d status is) (λ u. refl) (λ u. refl) (λ u. refl)

pub has-obstruction : (kind : Kind) (d : Document) → d.status ≡ Infeasible → d.kind ≡ kind → not (is_never (obstruction_of kind)) ≡ true
has-obstruction kind d status is = (as-formed Infeasible kind d status is).headed

answer-none : (f : AnswerForm) (m : ℕ) (d b : Document) → HasSetAlone d → HasSetAlone b → answer_numbers f m d ≡ answer_numbers f m b
answer-none form.Counts m d b one other = ap (λ (xs : List CountLine). map pos (counts_of xs m)) (one.counts ∙ sym other.counts)
answer-none form.Walk m d b one other = ap walk_numbers (one.walk ∙ sym other.walk)

pub alike-excluded : (kind : Kind) (m : ℕ) (d b : Document) → d.kind ≡ kind → b.kind ≡ kind → d.status ≡ Infeasible → b.status ≡ Infeasible → excluding b ≡ excluding d →
    sheet_for (form_of kind) m d ≡ sheet_for (form_of kind) m b
alike-excluded kind m d b is is-b status status-b members =
    let one = set-alone kind d status is in
    let other = set-alone kind b status-b is-b in
    same-sheet (form_of kind) m d b (record {
      status = status ∙ sym status-b;
      weight = one.weight ∙ sym other.weight;
      start = ap start_number (one.walk ∙ sym other.walk);
      answer = answer-none (form_of kind) m d b one other;
      duals = ap (λ (ys : List DualLine). map (λ y. y.dual) ys) (one.duals ∙ sym other.duals);
      leads = ap₂ (λ (zs : List SetLine) (rs : List PathLine). leads zs rs) (one.sets ∙ sym other.sets) (one.paths ∙ sym other.paths);
      lists = ap₂ (λ (zs : List SetLine) (rs : List PathLine). lists zs rs) (one.sets ∙ sym other.sets) (one.paths ∙ sym other.paths);
      excluding = sym members;
    })

-- ---- weights that aren't conservative

record HasWalkAlone (d : Document) : Type 0 where
  weight : d.weight ≡ pos 0
  duals : d.duals ≡ []
  sets : d.sets ≡ []
  paths : d.paths ≡ []
  excluding : excluding d ≡ []

walk-alone : (kind : Kind) (d : Document) → d.status ≡ NonConservative → d.kind ≡ kind → HasWalkAlone d
walk-alone kind d status is =
    let p = admits NonConservative kind in
    let l = letters NonConservative kind d status is in
    record {
      weight = (as-formed NonConservative kind d status is).no_weight refl;
      duals = no_items p part.Dual d.duals (λ y. refl) l.duals;
      sets = no_items p part.Set d.sets (λ z. refl) l.sets;
      paths = no_items p part.Even d.paths (λ r. refl) l.paths;
      excluding = excluding-barrier d (no-one p part.Odd d.odd (λ t. refl) l.odd) (no-one p part.Split d.split (λ q. refl) l.split)
          ∙ ap listed_members (no-one p part.Barrier d.barrier (λ u. refl) l.barrier);
    }

pub asks-for : (kind : Kind) (d : Document) → d.status ≡ NonConservative → d.kind ≡ kind → asks_conservative kind ≡ true
asks-for kind d status is = (as-formed NonConservative kind d status is).headed

walk-form : (kind : Kind) → asks_conservative kind ≡ true → form_of kind ≡ form.Walk
walk-form kinds.Perfect asks = absurd cc
walk-form kinds.Match asks = absurd cc
walk-form kinds.BMatch asks = absurd cc
walk-form kinds.CapMatch asks = absurd cc
walk-form kinds.FFactor asks = absurd cc
walk-form kinds.TJoin asks = absurd cc
walk-form kinds.Postman asks = absurd cc
walk-form kinds.Path asks = refl
walk-form kinds.Interval asks = absurd cc
walk-form kinds.OddPath asks = absurd cc
walk-form kinds.EvenPath asks = absurd cc
walk-form kinds.Bottleneck asks = absurd cc
walk-form kinds.Gallai asks = absurd cc

pub alike-walk : (kind : Kind) (m : ℕ) (d b : Document) → asks_conservative kind ≡ true → d.kind ≡ kind → b.kind ≡ kind → d.status ≡ NonConservative → b.status ≡ NonConservative →
    walk_numbers b.walk ≡ answer_numbers (form_of kind) m d → IfSome b.walk (λ w. w.start ≡ start_number d.walk) → sheet_for (form_of kind) m d ≡ sheet_for (form_of kind) m b
alike-walk kind m d b asks is is-b status status-b edges start =
    let f = walk-form kind asks in
    let numbers : answer_numbers (form_of kind) m d ≡ walk_numbers d.walk = ap (λ (g : AnswerForm). answer_numbers g m d) f in
    let numbers-b : answer_numbers (form_of kind) m b ≡ walk_numbers b.walk = ap (λ (g : AnswerForm). answer_numbers g m b) f in
    let one = walk-alone kind d status is in
    let other = walk-alone kind b status-b is-b in
    same-sheet (form_of kind) m d b (record {
      status = status ∙ sym status-b;
      weight = one.weight ∙ sym other.weight;
      start = starts-same b.walk d.walk (walk-edges b) (walk-edges d) (edges ∙ numbers) start;
      answer = sym (numbers-b ∙ edges);
      duals = ap (λ (ys : List DualLine). map (λ y. y.dual) ys) (one.duals ∙ sym other.duals);
      leads = ap₂ (λ (zs : List SetLine) (rs : List PathLine). leads zs rs) (one.sets ∙ sym other.sets) (one.paths ∙ sym other.paths);
      lists = ap₂ (λ (zs : List SetLine) (rs : List PathLine). lists zs rs) (one.sets ∙ sym other.sets) (one.paths ∙ sym other.paths);
      excluding = one.excluding ∙ sym other.excluding;
    })

-- ---- statuses

pub as-optimal : (s : DocStatus) → status_number s ≡ pos 1 → s ≡ Optimal
as-optimal Optimal h = refl
as-optimal Infeasible h = absurd cc
as-optimal NonConservative h = absurd cc

pub as-infeasible : (s : DocStatus) → status_number s ≡ pos 2 → s ≡ Infeasible
as-infeasible Optimal h = absurd cc
as-infeasible Infeasible h = refl
as-infeasible NonConservative h = absurd cc

pub as-nonconservative : (s : DocStatus) → status_number s ≡ pos 3 → s ≡ NonConservative
as-nonconservative Optimal h = absurd cc
as-nonconservative Infeasible h = absurd cc
as-nonconservative NonConservative h = refl

pub a-status : (s : DocStatus) → (status_number s ≡ pos 1 → ⊥) → (status_number s ≡ pos 2 → ⊥) → (status_number s ≡ pos 3 → ⊥) → ⊥
a-status Optimal one two three = one refl
a-status Infeasible one two three = two refl
a-status NonConservative one two three = three refl
