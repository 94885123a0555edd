-- A document of a set that excludes all answers proves that none is feasible.
use Rattle.certificates.proofs.Common.{◌≡◌, ℕ, ◌≤◌, pos, Bool, true, false, cond, List, [], map, All, Option, None, Some, IfSome, MatchOption, refl, sym, ap, ◌∙◌, subst}
use Rattle.certificates.proofs.Common.{arith, list_all, and_from, ints, All-map, All-weaker, GRAPH_VERTEX_LIMIT, IsBarrier, IsVertexSet, IsOddPart, IsSplitPart, Kind, Obstruction, Barrier}
use Rattle.certificates.proofs.Common.{OddPart, SplitPart, Never, Values, Network, IsNetwork, vertices, graph_of, obstruction_of, gadget_graph, Document, DocStatus, MemberLine, Body}
use Rattle.certificates.proofs.Common.{parts_of}
use Rattle.certificates.proofs.Common.{is_odd_part, is_split_part, is_never, is_up_to, all_in_range_for, numbers, sets_of, set_of, HasBarrierFor, HasPartFor, HasNoAnswer, IsExcludedFor}
use Rattle.certificates.proofs.Common.{IsProved}
use Rattle.certificates.proofs.Common.{ProvesByStatus, IsUpTo, AreWithin, excluded, in-range}
use Rattle.graph_parts.specs.OddParts.{IsFirstOddPart, is_terminal}
use Rattle.doc_format.specs.Parts.{is_barrier}
use Rattle.document_lines.specs.Lines.{member_line}
use Rattle.document_lines.proofs.Ascents.{numbers-pos}
use Rattle.document_lines.proofs.Listing.{none-named}
use Rattle.solve_answers.specs.Chosen.{IsFirstMetPart, IsChosen}
use Rattle.solve_answers.specs.Excluding.{set_body, StatesSet}
use Rattle.solve_answers.proofs.InRange.{all_up_to}

-- a barrier of the graph of certificates, or the first part that excludes all answers
abbrev pub ExcludesBy : Obstruction → Kind → Network → List ℕ → Type 0
ExcludesBy Barrier kind i set = IsVertexSet (gadget_graph kind i).vertices set
    × IsBarrier (gadget_graph kind i) set
ExcludesBy OddPart kind i set = IsFirstOddPart (graph_of i) (is_terminal Values i) set
ExcludesBy SplitPart kind i set = IsSplitPart (graph_of i) set × IsFirstMetPart (graph_of i) set
ExcludesBy Never kind i set = ⊥

-- the set excludes all answers of the kind
abbrev pub Excludes : Kind → Network → List ℕ → Type 0
Excludes kind i set = ExcludesBy (obstruction_of kind) kind i set

pub up_to-pos : (n : ℕ) (set : List ℕ) → IsVertexSet n set → All (IsUpTo n) (map pos set)
up_to-pos n set is = All-map (IsUpTo n) pos set
    (All-weaker (λ v. (1 ≤ v) × (v ≤ n)) (λ v. IsUpTo n (pos v))
    (λ v h. (let low : 1 ≤ v = h.0 in let high : v ≤ n = h.1 in record { low = omega (arith, ints); high = omega (arith, ints) })) set is.in_range)

-- the line, where it is wanted
abbrev pub line_if : Bool → List ℕ → Option MemberLine
line_if wanted set = cond wanted (Some (member_line set)) None

-- what holds of it there
pub line-holds : (P : MemberLine → Type 0) (t : Bool) (set : List ℕ) (line : Option MemberLine) → line ≡ line_if t set → (t ≡ true → P (member_line set)) → IfSome line P
line-holds P true set line is h = subst (λ (o : Option MemberLine). IfSome o P) (sym is) (h refl)
line-holds P false set line is h = subst (λ (o : Option MemberLine). IfSome o P) (sym is) tt

-- what excludes answers, by its letter

as-odd : (e : Obstruction) (kind : Kind) (i : Network) (set : List ℕ) → is_odd_part e ≡ true → ExcludesBy e kind i set → IsFirstOddPart (graph_of i) (is_terminal Values i) set
as-odd Barrier kind i set t x = absurd (cc)
as-odd OddPart kind i set t x = x
as-odd SplitPart kind i set t x = absurd (cc)
as-odd Never kind i set t x = absurd x

as-split : (e : Obstruction) (kind : Kind) (i : Network) (set : List ℕ) → is_split_part e ≡ true → ExcludesBy e kind i set → IsSplitPart (graph_of i) set × IsFirstMetPart (graph_of i) set
as-split Barrier kind i set t x = absurd (cc)
as-split OddPart kind i set t x = absurd (cc)
as-split SplitPart kind i set t x = x
as-split Never kind i set t x = absurd x

-- the lines of the body

set_barrier : (e : Obstruction) (set : List ℕ) → (set_body e (member_line set)).barrier ≡ line_if (is_barrier e) set
set_barrier Barrier set = refl
set_barrier OddPart set = refl
set_barrier SplitPart set = refl
set_barrier Never set = refl

set_odd : (e : Obstruction) (set : List ℕ) → (set_body e (member_line set)).odd ≡ line_if (is_odd_part e) set
set_odd Barrier set = refl
set_odd OddPart set = refl
set_odd SplitPart set = refl
set_odd Never set = refl

set_sets : (e : Obstruction) (set : List ℕ) → (set_body e (member_line set)).sets ≡ []
set_sets Barrier set = refl
set_sets OddPart set = refl
set_sets SplitPart set = refl
set_sets Never set = refl

set_split : (e : Obstruction) (set : List ℕ) → (set_body e (member_line set)).split ≡ line_if (is_split_part e) set
set_split Barrier set = refl
set_split OddPart set = refl
set_split SplitPart set = refl
set_split Never set = refl

module _ (kind : Kind) (set : List ℕ) (d : Document) (p : StatesSet kind set d) where
  barrier_is : d.barrier ≡ line_if (is_barrier (obstruction_of kind)) set
  barrier_is = ap (λ (b : Body). b.barrier) p.body ∙ set_barrier (obstruction_of kind) set

  odd_is : d.odd ≡ line_if (is_odd_part (obstruction_of kind)) set
  odd_is = ap (λ (b : Body). b.odd) p.body ∙ set_odd (obstruction_of kind) set

  split_is : d.split ≡ line_if (is_split_part (obstruction_of kind)) set
  split_is = ap (λ (b : Body). b.split) p.body ∙ set_split (obstruction_of kind) set

-- the numbers of the line are in their range
set_within : (e : Obstruction) (kind : Kind) (i : Network) (set : List ℕ) → ExcludesBy e kind i set → all_in_range_for kind i (parts_of (set_body e (member_line set))) ≡ true
set_within Barrier kind i set x = let n = (gadget_graph kind i).vertices in and_from (list_all (is_up_to n) (map pos set)) true (all_up_to n (map pos set) (up_to-pos n set x.0)) refl
set_within OddPart kind i set x = let n = vertices i in and_from (list_all (is_up_to n) (map pos set)) true (all_up_to n (map pos set) (up_to-pos n set x.part.vertices)) refl
set_within SplitPart kind i set x = let n = vertices i in and_from (list_all (is_up_to n) (map pos set)) true (all_up_to n (map pos set) (up_to-pos n set x.0.vertices)) refl
set_within Never kind i set x = absurd x

are-within : (kind : Kind) (i : Network) (set : List ℕ) (d : Document) → Excludes kind i set → StatesSet kind set d → AreWithin kind i d
are-within kind i set d x p =
    record {
      weight = rw p.weight (omega (arith, ints), omega (arith, ints));
      parts = ap (λ (b : Body). all_in_range_for kind i (parts_of b)) p.body ∙ set_within (obstruction_of kind) kind i set x;
    }

-- the line that an infeasible document wants

pub has-line : (P : List ℕ → Type 0) (set : List ℕ) (line : Option MemberLine) → line ≡ Some (member_line set) → P set → MatchOption line ⊥ (λ u. P (numbers u.members))
has-line P set line is h = subst (λ (o : Option MemberLine). MatchOption o ⊥ (λ u. P (numbers u.members))) (sym is) (subst P (sym (numbers-pos set)) h)

wanted-barrier : (e : Obstruction) (kind : Kind) (i : Network) (set : List ℕ) (d : Document) → ExcludesBy e kind i set → d.barrier ≡ line_if (is_barrier e) set → HasBarrierFor e kind i d
wanted-barrier Barrier kind i set d x is = has-line (IsBarrier (gadget_graph kind i)) set d.barrier is x.1
wanted-barrier OddPart kind i set d x is = tt
wanted-barrier SplitPart kind i set d x is = tt
wanted-barrier Never kind i set d x is = x

wanted-part : (e : Obstruction) (kind : Kind) (i : Network) (set : List ℕ) (d : Document) → ExcludesBy e kind i set → d.odd ≡ line_if (is_odd_part e) set →
    d.split ≡ line_if (is_split_part e) set → HasPartFor e i d
wanted-part Barrier kind i set d x odd split = tt
wanted-part OddPart kind i set d x odd split = has-line (IsOddPart (graph_of i) (is_terminal Values i)) set d.odd odd x.part
wanted-part SplitPart kind i set d x odd split = has-line (IsSplitPart (graph_of i)) set d.split split x.0
wanted-part Never kind i set d x odd split = tt

pub proved-infeasible : (kind : Kind) (i : Network) (set : List ℕ) (d : Document) → Excludes kind i set → StatesSet kind set d → IsProved kind i d
proved-infeasible kind i set d x p =
    let e = obstruction_of kind in
    record {
      same_kind = p.kind_is;
      in_range = in-range kind i d (are-within kind i set d x p);
      proves = subst (λ (t : DocStatus). ProvesByStatus t kind i d) (sym p.status)
          (wanted-barrier e kind i set d x (barrier_is kind set d p), wanted-part e kind i set d x (odd_is kind set d p) (split_is kind set d p));
    }

by-barrier : (e : Obstruction) (kind : Kind) (i : Network) → is_never e ≡ false → (is_barrier e ≡ true → HasNoAnswer kind i) → IsExcludedFor e kind i
by-barrier Barrier kind i never none = none refl
by-barrier OddPart kind i never none = tt
by-barrier SplitPart kind i never none = tt
by-barrier Never kind i never none = absurd (cc)

-- no answer is feasible, where a barrier leaves none
pub none-feasible : (kind : Kind) (i : Network) (set : List ℕ) (d : Document) → IsNetwork i → is_never (obstruction_of kind) ≡ false →
    (is_barrier (obstruction_of kind) ≡ true → HasNoAnswer kind i) → Excludes kind i set → StatesSet kind set d → HasNoAnswer kind i
none-feasible kind i set d network never none x p =
    let e = obstruction_of kind in
    excluded kind i d network (by-barrier e kind i never none) (wanted-part e kind i set d x (odd_is kind set d p) (split_is kind set d p))

pub chosen-infeasible : (kind : Kind) (i : Network) (set : List ℕ) (d : Document) → Excludes kind i set → StatesSet kind set d → IsChosen kind i d
chosen-infeasible kind i set d x p =
    let e = obstruction_of kind in
    record {
      walk = λ best. absurd (let same = sym p.status ∙ best in cc);
      odd = line-holds (λ u. IsFirstOddPart (graph_of i) (is_terminal Values i) (numbers u.members)) (is_odd_part e) set d.odd (odd_is kind set d p)
          (λ t. subst (IsFirstOddPart (graph_of i) (is_terminal Values i)) (sym (numbers-pos set)) (as-odd e kind i set t x));
      split = line-holds (λ u. IsFirstMetPart (graph_of i) (numbers u.members)) (is_split_part e) set d.split (split_is kind set d p)
          (λ t. subst (IsFirstMetPart (graph_of i)) (sym (numbers-pos set)) (as-split e kind i set t x).1);
      once = none-named (sets_of d) (ap (λ (b : Body). map set_of b.sets) p.body ∙ ap (map set_of) (set_sets e set));
      beside = λ k best. absurd (let same = sym p.status ∙ best in cc);
    }

-- the set has few members
pub record IsFewOf (set : List ℕ) : Type 0 where
  pub n : ℕ
  pub size_limit : n ≤ GRAPH_VERTEX_LIMIT
  pub is_set : IsVertexSet n set

pub few-vertices : (i : Network) → IsNetwork i → vertices i ≤ GRAPH_VERTEX_LIMIT
few-vertices i network = let few : vertices i ≤ 4096 = network.few_vertices in omega (arith, few)

pub few-excluding : (e : Obstruction) (kind : Kind) (i : Network) (set : List ℕ) → IsNetwork i → (is_barrier e ≡ true → (gadget_graph kind i).vertices ≤ GRAPH_VERTEX_LIMIT) →
    ExcludesBy e kind i set → IsFewOf set
few-excluding Barrier kind i set network few x = record { n = (gadget_graph kind i).vertices; size_limit = few refl; is_set = x.0 }
few-excluding OddPart kind i set network few x = record { n = vertices i; size_limit = few-vertices i network; is_set = x.part.vertices }
few-excluding SplitPart kind i set network few x = record { n = vertices i; size_limit = few-vertices i network; is_set = x.0.vertices }
few-excluding Never kind i set network few x = absurd x
