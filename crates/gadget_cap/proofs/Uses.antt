-- What an edge adds to the degree of a vertex.
use Rattle.mb_problem.proofs.Common.{◌≡◌, ℕ, ◌+◌, ◌*◌, ◌-◌, ◌≤◌, ◌<◌, cond, eqb, arith, List, length, slice_index, nat_tests, Network, IsNetwork}
use Rattle.mb_problem.proofs.Common.{instance_edge_at, edge-ends}
use Rattle.gadget_base.proofs.Used.{use_at}

pub eqb_before : (u t : ℕ) → 1 ≤ u → eqb u (t + 1) ≡ eqb (u - 1) t
eqb_before u t low = grind (arith, nat_tests)

at_ends : (u v t c : ℕ) → 1 ≤ u → 1 ≤ v → c * (cond (eqb u (t + 1)) 1 0 + cond (eqb v (t + 1)) 1 0) ≡ cond (eqb (u - 1) t) c 0 + cond (eqb (v - 1) t) c 0
at_ends u v t c low low' = grind (arith, nat_tests)

-- an edge adds its count for each of its ends that is the vertex
pub use-at : (i : Network) (counts : List ℕ) (t k : ℕ) → IsNetwork i → k < length i.edges → use_at i counts (t + 1) k ≡ cond (eqb ((instance_edge_at i k).u - 1) t) (slice_index counts k) 0
    + cond (eqb ((instance_edge_at i k).v - 1) t) (slice_index counts k) 0
use-at i counts t k net b = let is = edge-ends i k net b in at_ends _ _ t (slice_index counts k) is.u_low is.v_low
