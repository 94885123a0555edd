-- What is chosen where more than one document would do.
use Rattle.std.specs.Prelude.{◌≡◌, ◌↔◌, ℕ, true, List, [], nat_abs, IfSome, None, ⊤}
use Rattle.graph_theory.specs.Graph.{Multigraph}
use Rattle.graph_theory.specs.Parts.{holds}
use Rattle.graph_theory.specs.Barrier.{IsComponent}
use Rattle.mb_problem.specs.declared.kind.Kind.{Kind}
use Rattle.mb_problem.specs.declared.kind.Kind.TheVariants.{Bottleneck}
use Rattle.mb_problem.specs.declared.kind.WalkStart.{WalkStart}
use Rattle.mb_problem.specs.declared.kind.WalkStart.TheVariants.{Free, LeastMet, LesserEnd}
use Rattle.mb_problem.specs.declared.answer.Answer.{Answer}
use Rattle.mb_problem.specs.declared.answer.Answer.TheVariants.{Counts, Walk, Nothing}
use Rattle.mb_problem.specs.declared.answer.Parity.TheVariants.{Values}
use Rattle.mb_problem.specs.Kinds.{start_of}
use Rattle.mb_problem.specs.Network.{Network, graph_of, vertices}
use Rattle.mb_problem.specs.Feasible.{AreEnds}
use Rattle.doc_format.specs.declared.document.Document.{Document}
use Rattle.doc_format.specs.declared.status.DocStatus.TheVariants.{Optimal}
use Rattle.graph_parts.specs.OddParts.{IsFirstOddPart, is_terminal}
use Rattle.postman_walk.specs.Tours.{IsLeastMet}
use Rattle.certificates.specs.Claims.{numbers, sets_of}
use Rattle.document_lines.specs.Sets.{AreNamedOnce}

-- the component of the least vertex that an edge meets
pub record IsFirstMetPart (g : Multigraph) (set : List ℕ) : Type 0 where
  pub component : IsComponent g [] set
  pub first : ℕ
  pub least : IsLeastMet g first
  pub held : holds set first ≡ true

-- the vertex that a best answer starts at: the least that an edge meets, or the lesser end
abbrev pub StartsBy : WalkStart → Network → ℕ → Type 0
StartsBy Free i start = ⊤
StartsBy LeastMet i start = IsLeastMet (graph_of i) start
StartsBy LesserEnd i start = (t : ℕ) × AreEnds i start t

abbrev pub StartsFirst : Kind → Network → ℕ → Type 0
StartsFirst kind i start = StartsBy (start_of kind) i start

abbrev pub IsChosenAnswer : Kind → Network → Answer → Type 0
IsChosenAnswer kind i (Counts counts) = ⊤
IsChosenAnswer kind i (Walk start edges) = StartsFirst kind i start
IsChosenAnswer kind i Nothing = ⊤

-- where a walk starts, which part excludes all answers, that a vertex or a set is named once at
-- most, and that a best answer of `bottleneck` has a barrier beside it if there is a vertex
pub record IsChosen (kind : Kind) (i : Network) (d : Document) : Type 0 where
  pub walk : d.status ≡ Optimal → IfSome d.walk (λ w. StartsFirst kind i (nat_abs w.start))
  pub odd : IfSome d.odd
      (λ t. IsFirstOddPart (graph_of i) (is_terminal Values i) (numbers t.members))
  pub split : IfSome d.split (λ q. IsFirstMetPart (graph_of i) (numbers q.members))
  pub once : AreNamedOnce (sets_of d)
  pub beside : kind ≡ Bottleneck → d.status ≡ Optimal → (d.barrier ≡ None) ↔ (vertices i ≡ 0)
