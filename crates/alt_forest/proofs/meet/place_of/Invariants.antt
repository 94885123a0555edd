use Rattle.graph_theory.proofs.Common.{◌≡◌, ◌-◌, take, drop, holds}
use Rattle.alt_forest.proofs.meet.place_of.Given as goal

abbrev pub invariant-loop-place : goal.invariant-loop-place
invariant-loop-place l = record { left : l.rest ≡ drop l.place l.fn.path; same : holds (take (l.most - l.place) l.rest) l.node ≡ holds (take l.most l.fn.path) l.node }
