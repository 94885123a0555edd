-- The graph of a kind's certificates has a perfect matching, unless what excludes the kind's answers does.
use Rattle.certificates.proofs.Common.{◌≡◌, true, false, refl, inl, inr, sym, subst, Kind, Obstruction, Barrier, OddPart, SplitPart, Never, GadgetForm, Answer, Values, OddDegrees}
use Rattle.certificates.proofs.Common.{obstruction_of, proof_of, are_duals, Network, IsNetwork, IsFeasible, odd_at, odd-ports, split-ports, never-excluded, graph_by, gadget_graph, IsReached}
use Rattle.certificates.proofs.Common.{ReachesAll, ports_graph, reaches-joins, is_barrier, reached-weighs}
use Rattle.mwpm_engine.specs.Solutions.{HasPerfect}
use Rattle.solve_answers.specs.Open.{HasNoPartFor}
use Rattle.solve_kinds.proofs.Searches.{join-perfect, all-edges}

odd-perfect : (kind : Kind) (i : Network) → obstruction_of kind ≡ OddPart → HasPerfect (ports_graph i (odd_at Values i)) → HasPerfect (gadget_graph kind i)
odd-perfect kind i is perfect = elim (odd-ports kind is) [
  | inl e ↦ subst (λ (gadget : GadgetForm). HasPerfect (graph_by gadget i)) (sym e) perfect
  | inr e ↦ subst (λ (gadget : GadgetForm). HasPerfect (graph_by gadget i)) (sym e) perfect
]

split-perfect : (kind : Kind) (i : Network) → obstruction_of kind ≡ SplitPart → HasPerfect (ports_graph i (odd_at OddDegrees i)) → HasPerfect (gadget_graph kind i)
split-perfect kind i is perfect = subst (λ (gadget : GadgetForm). HasPerfect (graph_by gadget i)) (sym (split-ports kind is)) perfect

never-perfect : (kind : Kind) (i : Network) → obstruction_of kind ≡ Never → are_duals (proof_of kind) ≡ true → ReachesAll kind i → HasPerfect (gadget_graph kind i)
never-perfect kind i is duals reached =
    let some : (answer : Answer) × IsFeasible kind i answer = never-excluded kind i is in
    let r : IsReached kind i some.0 = reached-weighs (proof_of kind) kind i some.0 duals (reached some.0 some.1) in
    (r.counts, r.perfect)

perfect-by : (e : Obstruction) (kind : Kind) (i : Network) → obstruction_of kind ≡ e → are_duals (proof_of kind) ≡ true → IsNetwork i → ReachesAll kind i →
    HasNoPartFor e i → is_barrier e ≡ false → HasPerfect (gadget_graph kind i)
perfect-by Barrier kind i is duals network reached no_part none = absurd (cc)
perfect-by OddPart kind i is duals network reached no_part none = odd-perfect kind i is (join-perfect Values i (reaches-joins Values i network) no_part)
perfect-by SplitPart kind i is duals network reached no_part none = split-perfect kind i is (join-perfect OddDegrees i (reaches-joins OddDegrees i network) (all-edges i))
perfect-by Never kind i is duals network reached no_part none = never-perfect kind i is duals reached

pub searched-perfect : (kind : Kind) (i : Network) → are_duals (proof_of kind) ≡ true → IsNetwork i → ReachesAll kind i → HasNoPartFor (obstruction_of kind) i →
    is_barrier (obstruction_of kind) ≡ false → HasPerfect (gadget_graph kind i)
searched-perfect kind i duals network reached no_part none = perfect-by (obstruction_of kind) kind i refl duals network reached no_part none
