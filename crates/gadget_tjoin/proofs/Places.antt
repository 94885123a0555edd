-- The ports of an instance: where they stand, and which vertices an edge between ports meets.
use Rattle.mb_problem.proofs.Common.{◌≡◌, ◌⊎◌, ℕ, suc, ◌+◌, ◌-◌, ◌*◌, ◌<◌, ◌≤◌, Bool, true, false, cond, eqb, refl, ap, sym, ◌∙◌, inl, inr, arith}
use Rattle.mb_problem.proofs.Common.{List, length, slice_index, replicate, All, ap₂, cases_eq, cases_order, eq-eqb, ne_eqb, false≢true, get_or-replicate, length-map, All-map, sum_to}
use Rattle.mb_problem.proofs.Common.{Edge, IsEdgeWithin, edge_at, ends_at, degree, sum_to-same, ends_at-some, touches-u, Network, IsNetwork, vertices, graph_of, plain, instance_edge_at}
use Rattle.mb_problem.proofs.Common.{no_instance_edge, edge_count_at, port_count, is_loop_at, edge_at-graph_of, sum_to-longer, one_if-other, nat_tests, find_block, block-once, sum_to-grows}
use Rattle.mb_problem.proofs.Common.{at-same, one_if}
use Rattle.gadget_base.proofs.Common.{ports_below, met_below, between_ports, taken, taken-total}
use Rattle.gadget_tjoin.proofs.Cliques.{meets_group}

-- the edge at a place, without its capacity
abbrev pub here : Network → ℕ → Edge
here i k = plain (instance_edge_at i k)

pub within : (i : Network) (k : ℕ) → IsNetwork i → k < length i.edges → IsEdgeWithin (vertices i) (here i k)
within i k ok b = let e = ok.edges k no_instance_edge b in e.ends

pub graph-within : (i : Network) → IsNetwork i → All (IsEdgeWithin (graph_of i).vertices) (graph_of i).edges
graph-within i ok = All-map (IsEdgeWithin (vertices i)) plain i.edges (λ k d b. let e = ok.edges k d b in e.ends)

-- the degree as a sum over the instance's edges
pub degree-here : (i : Network) (counts : List ℕ) (v : ℕ) → degree (graph_of i) counts v ≡ sum_to (λ k. slice_index counts k * ends_at (here i k) v) (length i.edges)
degree-here i counts v =
    let f : ℕ → ℕ = λ k. slice_index counts k * ends_at (edge_at (graph_of i) k) v in
    ap (sum_to f) (length-map i.edges plain)
    ∙ sum_to-same f (λ k. slice_index counts k * ends_at (here i k) v) (length i.edges) (λ k b. ap (λ (e : Edge). slice_index counts k * ends_at e v) (edge_at-graph_of i k))

-- all edges at a vertex
pub met-all : (i : Network) (v : ℕ) → met_below i v (length i.edges) ≡ edge_count_at i v
met-all i v =
    sum_to-same (λ k. ends_at (here i k) v) (λ k. slice_index (replicate (length i.edges) 1) k * ends_at (here i k) v) (length i.edges)
    (λ k b. let one : slice_index (replicate (length i.edges) 1) k ≡ 1 = get_or-replicate (length i.edges) k 1 0 b in rw one (omega arith))
    ∙ sym (degree-here i (replicate (length i.edges) 1) v)

-- an edge's ports are its vertex's: of a loop the next two
pub met-room : (i : Network) (odd : ℕ → ℕ) (k v : ℕ) → k < length i.edges → met_below i v k + ends_at (here i k) v ≤ port_count i odd v
met-room i odd k v b =
    let longer : met_below i v k + ends_at (here i k) v ≤ met_below i v (length i.edges) = sum_to-longer (λ j. ends_at (here i j) v) (suc k) (length i.edges) (omega arith) in
    omega (arith, longer, met-all i v)

pub met-room_u : (i : Network) (odd : ℕ → ℕ) (k : ℕ) → k < length i.edges → met_below i (here i k).u k < port_count i odd (here i k).u
met-room_u i odd k b =
    let e = here i k in
    omega (arith, met-room i odd k e.u b, ends_at-some e e.u (touches-u e))

-- 1 for a loop
abbrev pub beside : Network → ℕ → ℕ
beside i k = cond (is_loop_at i k) 1 0

beside_ends : (p q : Bool) → q ≡ true → cond {A = ℕ} p 1 0 + 1 ≤ cond p 1 0 + cond q 1 0
beside_ends p true h = omega arith
beside_ends p false h = absurd (false≢true h)

pub met-room_v : (i : Network) (odd : ℕ → ℕ) (k : ℕ) → k < length i.edges → met_below i (here i k).v k + beside i k < port_count i odd (here i k).v
met-room_v i odd k b =
    let e = here i k in
    omega (arith, met-room i odd k e.v b, beside_ends (eqb e.u e.v) (eqb e.v e.v) (eq-eqb e.v e.v refl))

-- how many ports and spares vertex t + 1 has
abbrev pub group_size : Network → (ℕ → ℕ) → ℕ → ℕ
group_size i odd t = port_count i odd (t + 1)

pub before-is : (i : Network) (odd : ℕ → ℕ) (t : ℕ) → ports_below i odd (t + 1) ≡ sum_to (group_size i odd) t
before-is i odd t = ap (sum_to (group_size i odd)) (let e : t + 1 - 1 ≡ t = omega arith in e)

-- the groups stand one after another
pub groups-apart : (i : Network) (odd : ℕ → ℕ) (s t : ℕ) → s < t → ports_below i odd (s + 1) + group_size i odd s ≤ ports_below i odd (t + 1)
groups-apart i odd s t b = omega (arith, sum_to-grows (group_size i odd) s t b, before-is i odd s, before-is i odd t)

pub groups-before_or_after : (i : Network) (odd : ℕ → ℕ) (s t : ℕ) → (s ≡ t → ⊥) → (ports_below i odd (t + 1) + group_size i odd t ≤ ports_below i odd (s + 1)) ⊎
    (ports_below i odd (s + 1) + group_size i odd s ≤ ports_below i odd (t + 1))
groups-before_or_after i odd s t d =
    elim (cases_order s t) [
      | inl e ↦ absurd (d e)
      | inr (inl l) ↦ inr (groups-apart i odd s t l)
      | inr (inr l) ↦ inl (groups-apart i odd t s l)
    ]

-- each vertex of the graph of ports is a place of a group
pub group-of : (i : Network) (odd : ℕ → ℕ) (n v : ℕ) → 1 ≤ v → v ≤ ports_below i odd (n + 1) → (t : ℕ) × (x : ℕ) × (t < n) × (x < group_size i odd t)
    × (v ≡ ports_below i odd (t + 1) + x + 1)
group-of i odd n v low high =
    let r = find_block (group_size i odd) n (v - 1) (let e = before-is i odd n in omega (arith, e, low, high)) in
    (r.block, r.place, r.block_low, r.place_low, let e = before-is i odd r.block in let p = r.is in omega (arith, e, p, low))

place_test : (b m x : ℕ) → eqb (b + m + 1) (b + x + 1) ≡ eqb m x
place_test b m x = grind (arith, nat_tests)

-- whether the place m of the group of w is the place x of the group of vertex t + 1
port-is : (i : Network) (odd : ℕ → ℕ) (w m t x : ℕ) → 1 ≤ w → m < port_count i odd w → x < group_size i odd t
    → one_if (eqb (ports_below i odd w + m + 1) (ports_below i odd (t + 1) + x + 1)) ≡ cond (eqb w (t + 1)) (one_if (eqb m x)) 0
port-is i odd w m t x low room in_group =
    let B = ports_below i odd (t + 1) in
    elim (cases_eq w (t + 1)) [
      | inl e ↦ rw (eq-eqb w (t + 1) e) (ap (λ z. one_if (eqb (ports_below i odd z + m + 1) (B + x + 1))) e ∙ ap one_if (place_test B m x))
      | inr d ↦
          let back : w - 1 + 1 ≡ w = omega arith in
          let base : ports_below i odd w ≡ sum_to (group_size i odd) (w - 1) = refl in
          let own : m < group_size i odd (w - 1) = rw back room in
          rw (ne_eqb w (t + 1) d)
          (one_if-other (ports_below i odd w + m + 1) (B + x + 1)
          (λ e. d (omega (arith, block-once (group_size i odd) (w - 1) t m x own in_group (omega (arith, e, base, before-is i odd t)), low))))
    ]

taken-one : (s x : ℕ) → taken s 1 x ≡ one_if (eqb s x)
taken-one s x = let here : one_if (eqb (s + 0) x) ≡ one_if (eqb s x) = ap (λ y. one_if (eqb y x)) (let e : s + 0 ≡ s = omega arith in e) in omega (arith, here)

taken-two : (s x : ℕ) → taken s 2 x ≡ one_if (eqb s x) + one_if (eqb (s + 1) x)
taken-two s x = omega (arith, taken-one s x)

-- the two ports of an edge from u to v at the place x of the group of w, where m counts those taken before

two-ports : (s x : ℕ) (p q : Bool) → cond p (one_if (eqb s x)) 0 + cond q (one_if (eqb (s + cond p 1 0) x)) 0 ≡ taken s (cond p 1 0 + cond q 1 0) x
two-ports s x true true = omega (arith, taken-two s x)
two-ports s x true false = omega (arith, taken-one s x)
two-ports s x false true = refl
two-ports s x false false = refl

ports-at : (u v w x : ℕ) (m : ℕ → ℕ) → cond (eqb u w) (one_if (eqb (m u) x)) 0 + cond (eqb v w) (one_if (eqb (m v + cond (eqb u v) 1 0) x)) 0
    ≡ taken (m w) (cond (eqb u w) 1 0 + cond (eqb v w) 1 0) x
ports-at u v w x m =
    ap₂ (λ (y z : ℕ). y + z) (at-same (λ y. one_if (eqb (m y) x)) u w) (at-same (λ y. one_if (eqb (m y + cond (eqb u y) 1 0) x)) v w) ∙ two-ports (m w) x (eqb u w) (eqb v w)

-- an edge between ports is at the place x where the edge is at the vertex and x others came before it; a loop is at two places
pub link-at : (i : Network) (odd : ℕ → ℕ) (k t x : ℕ) → IsNetwork i → k < length i.edges → x < group_size i odd t → ends_at (between_ports i odd k) (ports_below i odd (t + 1) + x + 1)
    ≡ taken (met_below i (t + 1) k) (ends_at (here i k) (t + 1)) x
link-at i odd k t x ok b in_group =
    let e = here i k in
    let ends = within i k ok b in
    let there = ports_below i odd (t + 1) + x + 1 in
    let m : ℕ → ℕ = λ w. met_below i w k in
    let one = port-is i odd e.u (m e.u) t x ends.u_low (met-room_u i odd k b) in_group in
    let other = port-is i odd e.v (m e.v + beside i k) t x ends.v_low (met-room_v i odd k b) in_group in
    let next : one_if (eqb (between_ports i odd k).v there) ≡ one_if (eqb (ports_below i odd e.v + (m e.v + beside i k) + 1) there) = ap (λ y. one_if (eqb y there))
    (let z : ports_below i odd e.v + m e.v + 1 + beside i k ≡ ports_below i odd e.v + (m e.v + beside i k) + 1 = omega arith in z) in
    omega (arith, one, next, other, ports-at e.u e.v (t + 1) x m)

-- it meets the group of a vertex as often as the edge meets the vertex
pub link-meets : (i : Network) (odd : ℕ → ℕ) (k t : ℕ) → IsNetwork i → k < length i.edges → meets_group (ports_below i odd (t + 1)) (group_size i odd t) (between_ports i odd k)
    ≡ ends_at (here i k) (t + 1)
link-meets i odd k t ok b =
    let m = met_below i (t + 1) k in
    let a = ends_at (here i k) (t + 1) in
    sum_to-same (λ x. ends_at (between_ports i odd k) (ports_below i odd (t + 1) + x + 1)) (taken m a) (group_size i odd t) (λ x l. link-at i odd k t x ok b l)
    ∙ taken-total m a (group_size i odd t) (met-room i odd k (t + 1) b)
