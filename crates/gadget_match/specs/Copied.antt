-- The edges between copies of the ends of an edge.
use Rattle.std.specs.Prelude.{List, if◌then◌else◌}
use Rattle.graph_theory.specs.declared.edge.Edge.{Edge}
use Rattle.graph_theory.specs.Graph.{is_loop}
use Rattle.mb_problem.specs.declared.instance.InstanceEdge.{InstanceEdge}
use Rattle.mb_problem.specs.Network.{Network, plain, value_of}
use Rattle.gadget_base.specs.Blocks.{rectangle, clique}
use Rattle.gadget_base.specs.Gadgets.{values_below}

-- each copy of the one end joined to each copy of the other; of a loop, any two copies of its end
abbrev pub pairs_between : Network → InstanceEdge → List Edge
pairs_between i e = if is_loop (plain e) then clique (values_below i e.u) (value_of i e.u) e.w
    else rectangle (values_below i e.u) (value_of i e.u) (values_below i e.v) (value_of i e.v) e.w
