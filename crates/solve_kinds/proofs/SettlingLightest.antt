-- Documents of matchings with lightest heaviest edges settle an instance.
use Rattle.certificates.proofs.Common.{◌≡◌, ◌≢◌, ◌↔◌, ℕ, ◌*◌, ◌≤◌, ℤ, Bool, inl, inr, cases_eq, true, false, cond, eqb, List, [], ◌++◌, length, map, All, Option, None, Some, IfSome}
use Rattle.certificates.proofs.Common.{nat_abs, refl, sym, ap, ◌∙◌, subst, arith, codes, list_all, and_from, eqb-true, eq-eqb, false≢true, All-weaker, IsBarrier, IsVertexSet}
use Rattle.certificates.proofs.Common.{Perfect, Bottleneck, Counts, Values, IsFeasible, weight_of, Network, IsNetwork, vertices, graph_of, plain_graph, feasible-places, IsReached}
use Rattle.certificates.proofs.Common.{ReachesAll, lighter_than, plain-graph, perfect-reached, Document, MemberLine, DocStatus, Body, at_most_one, parts_of, body_of, row_text, part_row}
use Rattle.certificates.proofs.Common.{parts_text, document_text, HasLighterBarrier, answer_of, counts_of, numbers, set_of, sets_of, IsProved, ProvesOptimal, ProvesByStatus, is_up_to}
use Rattle.certificates.proofs.Common.{all_in_range}
use Rattle.certificates.proofs.Common.{all_in_range_for, IsUpTo, IsCountWithin, AreWithin, proved_true-pathless, in-range}
use Rattle.graph_parts.specs.OddParts.{IsFirstOddPart, is_terminal}
use Rattle.document_lines.specs.Lines.{member_line}
use Rattle.document_lines.proofs.Listing.{none-named}
use Rattle.solve_answers.specs.Chosen.{StartsFirst, IsFirstMetPart, IsChosen}
use Rattle.solve_answers.specs.Excluding.{StatesSet}
use Rattle.solve_answers.specs.Settled.{SettlesBare}
use Rattle.solve_answers.specs.Solved.{HasTrueStatus, HasFitWeights}
use Rattle.solve_answers.specs.declared.limits.TheConstants.{DOCUMENT_BYTE_LIMIT}
use Rattle.solve_answers.proofs.Excluding.{has-line, up_to-pos, few-vertices}
use Rattle.solve_answers.proofs.InRange.{all_up_to, counts_in}
use Rattle.solve_answers.proofs.LineSizes.{count-size, members-size, head-size}
use Rattle.solve_answers.proofs.PartDocuments.{settles-barred}
use Rattle.solve_answers.proofs.SettlingSets.{none_if, short-none}
use Rattle.solve_answers.proofs.SettlingSets.{no-weights}
use Rattle.solve_answers.proofs.SettlingSets.{bare-set}
use Rattle.solve_answers.proofs.Short.{lines-size, line-size, short-document}
use Rattle.solve_answers.proofs.Texts.{size-append}
use Rattle.solve_kinds.specs.Lightest.{line_beside, StatesLightest}
use Rattle.doc_format.specs.declared.part.Part.TheVariants as part

-- what holds of the line of a set holds of the one beside an answer, where there is a vertex
beside_by : (t : Bool) (n : ℕ) (set : List ℕ) (P : MemberLine → Type 0) → eqb n 0 ≡ t → (n ≢ 0 → P (member_line set)) → IfSome (cond t None (Some (member_line set))) P
beside_by true n set P is h = tt
beside_by false n set P is h = h (λ none. false≢true (sym is ∙ eq-eqb n 0 none))

pub beside : (n : ℕ) (set : List ℕ) (P : MemberLine → Type 0) → (n ≢ 0 → P (member_line set)) → IfSome (line_beside n set) P
beside n set P h = beside_by (eqb n 0) n set P refl h

-- and that line is there
there_by : (t : Bool) (n : ℕ) (line : MemberLine) → eqb n 0 ≡ t → n ≢ 0 → cond t None (Some line) ≡ Some line
there_by true n line is some = absurd (some (eqb-true n 0 is))
there_by false n line is some = refl

there : (n : ℕ) (set : List ℕ) → n ≢ 0 → line_beside n set ≡ Some (member_line set)
there n set some = there_by (eqb n 0) n (member_line set) refl some

-- a set of vertices, and a barrier of the graph of lighter edges, where there is a vertex
pub record IsLighterBarrier (i : Network) (set : List ℕ) (d : Document) : Type 0 where
  pub vertex_set : vertices i ≢ 0 → IsVertexSet (vertices i) set
  pub excludes : vertices i ≢ 0 → IsBarrier (lighter_than d.weight (plain_graph i)) set

line-within : (n m : ℕ) (line : Option MemberLine) → IfSome line (λ u. All (IsUpTo n) u.members) → all_in_range n m n 0 (at_most_one part.Barrier line ++ []) ≡ true
line-within n m None w = refl
line-within n m (Some u) w = and_from (list_all (is_up_to n) u.members) true (all_up_to n u.members w) refl

-- each perfect matching of the instance is one of the graph without loops
reached : (i : Network) → IsNetwork i → ReachesAll Bottleneck i
reached i network answer feasible = (let r : IsReached Perfect i answer = perfect-reached i network answer feasible in (r.counts, r.perfect))

fit : (i : Network) → HasFitWeights Bottleneck i
fit i = (no-weights Bottleneck i refl).0

-- there is no line where there is no vertex, and only there
beside-none : (n : ℕ) (set : List ℕ) (line : Option MemberLine) → line ≡ line_beside n set → (line ≡ None) ↔ (n ≡ 0)
beside-none n set line is = (
  λ none. elim (cases_eq n 0) [
    | inl zero ↦ zero
    | inr some ↦ absurd (let e : Some (member_line set) ≡ None = sym (there n set some) ∙ sym is ∙ none in cc)
  ],
  λ zero. is ∙ ap (λ (b : Bool). cond b None (Some (member_line set))) (eq-eqb n 0 zero),
)

module _ (i : Network) (set : List ℕ) (d : Document) (w : ℤ) (network : IsNetwork i) (is : IsLighterBarrier i set d) (p : StatesLightest i w set d) where
  abbrev line : Option MemberLine
  line = line_beside (vertices i) set

  -- the answer that its lines list
  stated : answer_of Bottleneck i d ≡ Counts p.counts
  stated = ap (λ (m : ℕ). Counts (counts_of d.counts m)) (sym (feasible-places Bottleneck i (Counts p.counts) p.perfect)) ∙ ap Counts p.lists

  lighter : HasLighterBarrier Bottleneck i d
  lighter some = has-line (IsBarrier (lighter_than d.weight (plain_graph i))) set d.barrier
      (ap (λ (b : Body). b.barrier) p.only ∙ there (vertices i) set some) (is.excludes some)

  proves-lightest : ProvesOptimal Bottleneck i d
  proves-lightest = record {
    feasible = subst (IsFeasible Bottleneck i) (sym stated) p.perfect;
    weighs = ap (weight_of Bottleneck i) stated ∙ p.weighs;
    best = lighter;
  }

  within : AreWithin Bottleneck i d
  within =
      let n = vertices i in
      let m = length i.edges in
      record {
        weight = p.number;
        parts = ap (λ (b : Body). all_in_range_for Bottleneck i (parts_of b)) p.only
            ∙ counts_in n m n 0 d.counts (at_most_one part.Barrier line ++ []) p.counts_within
            (line-within n m line (beside n set (λ u. All (IsUpTo n) u.members) (λ some. up_to-pos n set (is.vertex_set some))));
      }

  proved-lightest : IsProved Bottleneck i d
  proved-lightest = record {
    same_kind = p.kind_is;
    in_range = in-range Bottleneck i d within;
    proves = subst (λ (t : DocStatus). ProvesByStatus t Bottleneck i d) (sym p.status) proves-lightest;
  }

  chosen-lightest : IsChosen Bottleneck i d
  chosen-lightest = record {
    walk = λ best. none_if (λ w. StartsFirst Bottleneck i (nat_abs w.start)) d.walk (ap (λ (b : Body). b.walk) p.only);
    odd = none_if (λ t. IsFirstOddPart (graph_of i) (is_terminal Values i) (numbers t.members)) d.odd (ap (λ (b : Body). b.odd) p.only);
    split = none_if (λ q. IsFirstMetPart (graph_of i) (numbers q.members)) d.split (ap (λ (b : Body). b.split) p.only);
    once = none-named (sets_of d) (ap (λ (b : Body). map set_of b.sets) p.only);
    beside = λ k best. beside-none (vertices i) set d.barrier (ap (λ (b : Body). b.barrier) p.only);
  }

  short-lightest : length (document_text d false) ≤ DOCUMENT_BYTE_LIMIT
  short-lightest =
      let m = length i.edges in
      let few_edges : m ≤ 65536 = network.few_edges in
      let few_xs : length d.counts ≤ m = p.few_counts in
      let counts : length (parts_text (map part.Count d.counts)) ≤ 65536 * 44 = lines-size part.Count 65536 44 d.counts
      (record {
        size_limit = omega arith;
        short = All-weaker (IsCountWithin m) (λ x. length (row_text (part_row (part.Count x))) ≤ 44) (λ x w. count-size m x few_edges w) d.counts p.counts_within;
      }) in
      let barrier = line-size part.Barrier 100000 line (beside (vertices i) set (λ u. length (row_text (part_row (part.Barrier u))) ≤ 100000)
      (λ some. members-size part.Barrier (codes "u") set (vertices i) (λ u. refl) refl (few-vertices i network) (is.vertex_set some))) in
      let first = size-append (map part.Count d.counts) (at_most_one part.Barrier line ++ []) in
      let second = size-append (at_most_one part.Barrier line) [] in
      let none : length (parts_text []) ≡ 0 = refl in
      let same : length (parts_text (parts_of (body_of d))) ≡ length (parts_text (map part.Count d.counts ++ (at_most_one part.Barrier line ++ []))) =
      ap (λ (b : Body). length (parts_text (parts_of b))) p.only in
      short-document Bottleneck d (rw (p.status, p.kind_is) (head-size Bottleneck d.weight p.number)) (omega (arith, same, first, second, none, counts, barrier))

  pub settles-lightest : SettlesBare Bottleneck i d
  settles-lightest = (
    record {
      proved = proved-lightest;
      truth = proved_true-pathless Bottleneck i d (λ paths. absurd (cc)) network (plain-graph i network) (reached i network) proved-lightest;
      exact = subst (HasTrueStatus Bottleneck i) (sym p.status) ((Counts p.counts, p.perfect), fit i);
      chosen = chosen-lightest;
      short_walk = short-none i d (ap (λ (b : Body). b.walk) p.only);
      size_limit = short-lightest;
    },
    record { duals = ap (λ (b : Body). b.duals) p.only; sets = ap (λ (b : Body). b.sets) p.only },
  )

-- .. and those of barriers of the graph
pub settles-unmatched : (i : Network) (set : List ℕ) (d : Document) → IsNetwork i → IsVertexSet (vertices i) set → IsBarrier (plain_graph i) set → StatesSet Bottleneck set d →
    SettlesBare Bottleneck i d
settles-unmatched i set d network vertex_set barrier p = (
  settles-barred Bottleneck i (plain_graph i) set d refl (plain-graph i network) (few-vertices i network) (reached i network) refl network (fit i) vertex_set barrier p,
  bare-set Bottleneck set d p,
)
