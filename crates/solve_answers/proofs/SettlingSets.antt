-- The document of a set that excludes all answers settles an instance, without duals and sets.
use Rattle.certificates.proofs.Common.{◌≡◌, ℕ, ◌*◌, ◌≤◌, true, List, [], length, Option, None, IfSome, refl, sym, ap, ◌∙◌, subst, true≢false, false, GRAPH_VERTEX_LIMIT, Kind, Obstruction}
use Rattle.certificates.proofs.Common.{Barrier}
use Rattle.certificates.proofs.Common.{OddPart, SplitPart, Never, obstruction_of, asks_conservative, HasNoNegativeEvenSet, Network, IsNetwork, gadget_graph, Document, DocStatus}
use Rattle.certificates.proofs.Common.{MemberLine, is_barrier, is_never, Body, HasNoAnswer, StatesTruthBy}
use Rattle.document_lines.specs.Lines.{member_line}
use Rattle.solve_answers.specs.Excluding.{set_body, StatesSet}
use Rattle.solve_answers.specs.Settled.{Settles, IsBare, HasShortWalk}
use Rattle.solve_answers.specs.Solved.{HasTrueStatus, HasFitWeights}
use Rattle.solve_answers.proofs.Excluding.{Excludes, few-excluding, proved-infeasible, none-feasible, chosen-infeasible}
use Rattle.solve_answers.proofs.ShortSets.{short-infeasible}

pub none_if : {A : Type 0} (P : A → Type 0) (x : Option A) → x ≡ None → IfSome x P
none_if P x h = rw h tt

-- a kind that doesn't ask for conservative weights asks for nothing
pub no-weights : (kind : Kind) (i : Network) → asks_conservative kind ≡ false → HasFitWeights kind i × (asks_conservative kind ≡ true → HasNoNegativeEvenSet i)
no-weights kind i never = (λ asks. absurd (true≢false (sym asks ∙ never)), λ asks. absurd (true≢false (sym asks ∙ never)))

no-walk : (e : Obstruction) (u : MemberLine) → (set_body e u).walk ≡ None
no-walk Barrier u = refl
no-walk OddPart u = refl
no-walk SplitPart u = refl
no-walk Never u = refl

-- a document without a walk has no long one
pub short-none : (i : Network) (d : Document) → d.walk ≡ None → HasShortWalk i d
short-none i d none = none_if (λ w. length w.edges ≤ 2 * length i.edges) d.walk none

pub settles-infeasible : (kind : Kind) (i : Network) (set : List ℕ) (d : Document) → IsNetwork i → is_never (obstruction_of kind) ≡ false →
    (is_barrier (obstruction_of kind) ≡ true → (gadget_graph kind i).vertices ≤ GRAPH_VERTEX_LIMIT) → (is_barrier (obstruction_of kind) ≡ true → HasNoAnswer kind i)
    → HasFitWeights kind i →
    Excludes kind i set → StatesSet kind set d → Settles kind i d
settles-infeasible kind i set d network never few barred fit x p =
    let none : HasNoAnswer kind i = none-feasible kind i set d network never barred x p in
    record {
      proved = proved-infeasible kind i set d x p;
      truth = subst (λ (t : DocStatus). StatesTruthBy t kind i d) (sym p.status) none;
      exact = subst (HasTrueStatus kind i) (sym p.status) (none, fit);
      chosen = chosen-infeasible kind i set d x p;
      short_walk = short-none i d (ap (λ (b : Body). b.walk) p.body ∙ no-walk (obstruction_of kind) (member_line set));
      size_limit = short-infeasible kind set d (few-excluding (obstruction_of kind) kind i set network few x) p;
    }

no-duals : (e : Obstruction) (u : MemberLine) → (set_body e u).duals ≡ []
no-duals Barrier u = refl
no-duals OddPart u = refl
no-duals SplitPart u = refl
no-duals Never u = refl

no-sets : (e : Obstruction) (u : MemberLine) → (set_body e u).sets ≡ []
no-sets Barrier u = refl
no-sets OddPart u = refl
no-sets SplitPart u = refl
no-sets Never u = refl

-- a set that excludes all answers stands alone
pub bare-set : (kind : Kind) (set : List ℕ) (d : Document) → StatesSet kind set d → IsBare d
bare-set kind set d p = record {
  duals = ap (λ (b : Body). b.duals) p.body ∙ no-duals (obstruction_of kind) (member_line set);
  sets = ap (λ (b : Body). b.sets) p.body ∙ no-sets (obstruction_of kind) (member_line set);
}
