-- Barriers of documents, and what stands in documents that state no answer.
use Rattle.mb_problem.proofs.Common.{◌≡◌, ℕ, ◌+◌, ◌<◌, ◌≤◌, ℤ, pos, ◌<ℤ◌, ◌≤ℤ◌, true, false, ◌||◌, List, [], length, map, All, get_or, nat_abs}
use Rattle.mb_problem.proofs.Common.{Some, refl, ap, ◌∙◌, arith, int_lt, list_all, IsStrictlyIncreasing, ints, get_or-map, length-map, All-get_or, All-weaker, IsVertexSet, proof_of}
use Rattle.mb_problem.proofs.Common.{are_duals, Network}
use Rattle.mb_problem.specs.declared.kind.Kind.{Kind}
use Rattle.mb_problem.specs.declared.kind.BestProof.{BestProof}
use Rattle.mb_problem.specs.declared.kind.BestProof.TheVariants.{Duals, LighterBarrier, OuterPaths}
use Rattle.gadget_base.specs.Certified.{gadget_graph}
use Rattle.doc_format.specs.declared.status.DocStatus.{DocStatus}
use Rattle.doc_format.specs.declared.status.DocStatus.TheVariants.{Optimal, Infeasible, NonConservative}
use Rattle.doc_format.specs.declared.document.Document.{Document}
use Rattle.doc_format.specs.declared.part.SetItem.{SetItem}
use Rattle.doc_format.specs.declared.part.SetItem.TheVariants.{Vertex, Reference}
use Rattle.doc_format.specs.declared.part.SetLine.{SetLine}
use Rattle.doc_format.specs.declared.part.MemberLine.{MemberLine}
use Rattle.doc_format.specs.declared.part.Part.TheVariants.{Set}
use Rattle.doc_format.specs.Form.{ascends, admits, parts_of, proves_best}
use Rattle.doc_format.specs.Reading.{body_of}
use Rattle.doc_format.proofs.PartLaws.{no_items, part_by_part, barrier_ascends}
use Rattle.certificates.specs.Claims.{numbers}
use Rattle.certificates.specs.Certificates.{HaveForm}
use Rattle.certificates.specs.Within.{IsUpTo, IsItemWithin, IsSetLineWithin, AreSetLinesWithin, AreWithin}
use Rattle.certificates.proofs.AscentLemmas.{ascends-below}
use Rattle.certificates.proofs.DualLemmas.{members-within}
use Rattle.certificates.proofs.WithinLemmas.{barrier-in}
use Rattle.doc_format.specs.declared.letter.Letter.TheVariants as letter

pub numbers-ascend : (n : ℕ) (zs : List ℤ) → ascends zs ≡ true → All (IsUpTo n) zs → IsStrictlyIncreasing (numbers zs)
numbers-ascend n zs ascending within k below =
    let long : length (map nat_abs zs) ≡ length zs = length-map zs nat_abs in
    let here : k < length zs = omega arith in
    let next : k + 1 < length zs = omega arith in
    let one : get_or (map nat_abs zs) k 0 ≡ nat_abs (get_or zs k (pos 0)) = get_or-map nat_abs zs k (pos 0) 0 here in
    let other : get_or (map nat_abs zs) (k + 1) 0 ≡ nat_abs (get_or zs (k + 1) (pos 0)) = get_or-map nat_abs zs (k + 1) (pos 0) 0 next in
    let low : pos 1 ≤ℤ get_or zs k (pos 0) = (All-get_or (IsUpTo n) zs k (pos 0) here within).low in
    let order : get_or zs k (pos 0) <ℤ get_or zs (k + 1) (pos 0) = ascends-below zs ascending k (k + 1) (omega arith) next in
    omega (arith, ints)

pub int_lt-yes : (y z : ℤ) → y <ℤ z → int_lt y z ≡ true
int_lt-yes y z h = grind (arith, ints)

-- and only such numbers do
-- ascending numbers from 1 to n are a set of vertices
pub vertex_set : (n : ℕ) (zs : List ℤ) → ascends zs ≡ true → All (IsUpTo n) zs → IsVertexSet n (numbers zs)
vertex_set n zs ascending within = record { ascending = numbers-ascend n zs ascending within; in_range = members-within n zs within }

-- the set of a u line of a document in range is a set of vertices of the graph of certificates
pub barrier-set : (kind : Kind) (i : Network) (d : Document) (u : MemberLine) → AreWithin kind i d → d.barrier ≡ Some u
    → IsVertexSet (gadget_graph kind i).vertices (numbers u.members)
barrier-set kind i d u within is = vertex_set (gadget_graph kind i).vertices u.members (barrier_ascends (body_of d) d.form.formed u is) (rw is at (barrier-in kind i d within))

set_beside : (proof : BestProof) → (proves_best letter.Set proof || false) ≡ are_duals proof
set_beside (Duals value) = refl
set_beside LighterBarrier = refl
set_beside OuterPaths = refl

no_set : (status : DocStatus) (kind : Kind) (z : SetLine) → (status ≡ Optimal → are_duals (proof_of kind) ≡ false) → admits status kind (Set z) ≡ false
no_set Optimal kind z h = set_beside (proof_of kind) ∙ h refl
no_set Infeasible kind z h = refl
no_set NonConservative kind z h = refl

-- a document that states no answer, or one that no duals prove best, has no set without form, as it has none
pub forms-where_none : (d : Document) → list_all (admits d.status d.kind) (parts_of (body_of d)) ≡ true → (d.status ≡ Optimal → are_duals (proof_of d.kind) ≡ false)
    → HaveForm d
forms-where_none d letters other k below =
    let p = admits d.status d.kind in
    let none : d.sets ≡ [] = no_items p Set d.sets (λ z. no_set d.status d.kind z other) (part_by_part p (body_of d) letters).sets in
    let empty : length d.sets ≡ 0 = ap length none in
    absurd (omega arith)

-- numbers up to n are numbers up to a greater one
pub up_to-more : (n m : ℕ) (zs : List ℤ) → n ≤ m → All (IsUpTo n) zs → All (IsUpTo m) zs
up_to-more n m zs more within = All-weaker (IsUpTo n) (IsUpTo m)
    (λ z h. (let low : pos 1 ≤ℤ z = h.low in let high : z ≤ℤ pos n = h.high in record { low = low; high = omega (arith, ints) })) zs within

-- and so are those of z lines
item-more : (n m k : ℕ) → n ≤ m → (x : SetItem) → IsItemWithin n k x → IsItemWithin m k x
item-more n m k more (Vertex v) h = (let low : pos 1 ≤ℤ v = h.low in let high : v ≤ℤ pos n = h.high in record { low = low; high = omega (arith, ints) })
item-more n m k more (Reference j) h = h

pub set_lines-more : (n m : ℕ) (zs : List SetLine) → n ≤ m → AreSetLinesWithin n zs → AreSetLinesWithin m zs
set_lines-more n m zs more within k z below is =
    let here : IsSetLineWithin n k z = within k z below is in
    (here.0, All-weaker (IsItemWithin n k) (IsItemWithin m k) (item-more n m k more) z.items here.1)
