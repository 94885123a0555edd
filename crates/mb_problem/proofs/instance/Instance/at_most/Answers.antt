use Rattle.graph_theory.proofs.Common.{ℕ, ◌≤◌, All, ◌∙◌, refl, sym, subst}
use Rattle.mb_problem.specs.declared.limits.TheConstants.{VERTEX_LIMIT}
use Rattle.mb_problem.specs.Network.{Network, IsNetwork, IsInstanceEdge, at_most}
use Rattle.mb_problem.proofs.instance.Instance.at_most.Goals as goal

keeps : (i : Network) → IsNetwork i → IsNetwork (at_most i)
keeps i ok = record {
  few_vertices = subst (λ (n : ℕ). n ≤ VERTEX_LIMIT) (sym ok.high_each) ok.few_vertices;
  few_edges = ok.few_edges;
  edges = subst (λ (n : ℕ). All (IsInstanceEdge n) i.edges) (sym ok.high_each) ok.edges;
  values = ok.highs;
  low_each = ok.low_each ∙ sym ok.high_each;
  high_each = refl;
  ordered = ok.ordered;
  highs = ok.highs;
}

pub from_parts-requires : goal.from_parts-requires
from_parts-requires c =
    rw (c.in_ok-edges.ensures.items, c.in_ok-values.ensures.items, c.in_ok-lows.ensures.items, c.in_ok-highs.ensures.items)
    (rw (c.edge_list.ensures.list, c.high_list.ensures.list, c.low_list.ensures.list, c.high_list-2.ensures.list) (keeps c.args.self.now c.edge_list.ensures.network))

pub returns-clause-network : goal.returns-clause-network
returns-clause-network c = rw c.from_parts.ensures (from_parts-requires c.before)
