-- The edges of the graph of ports: their ends are vertices and differ, and how many there are.
use Rattle.mb_problem.proofs.Common.{◌≡◌, ℕ, ◌+◌, ◌-◌, ◌<◌, ◌≤◌, pos, Bool, cond, ap, ◌∙◌, inl, inr, arith, length, All, cases_Bool, eqb-true, All-append}
use Rattle.mb_problem.proofs.Common.{Edge, IsEdgeWithin, HasNoLoop, sum_to-same, Network, IsNetwork, vertices, port_count, ports_size, is_loop_at, HasSize, block-once, sum_to-grows}
use Rattle.gadget_base.proofs.Common.{ports_below, met_below, port_of, between_ports, ports_graph, clique-length, blocks-length, All-tabled, All-blocks, IsProper, proper, clique-proper}
use Rattle.gadget_base.proofs.Common.{apart_ends}
use Rattle.gadget_tjoin.proofs.Places.{here, within, beside, met-room_u, met-room_v, group_size, before-is, groups-apart}
use Rattle.gadget_tjoin.proofs.Reached.{links, cliques, edges-size}

-- a place of the group of a vertex w is a vertex
pub place-high : (i : Network) (odd : ℕ → ℕ) (w n a : ℕ) → 1 ≤ w → w ≤ n → a < port_count i odd w → ports_below i odd w + a + 1 ≤ ports_below i odd (n + 1)
place-high i odd w n a low high in_group =
    let back : w - 1 + 1 ≡ w = omega arith in
    let size : port_count i odd (w - 1 + 1) ≡ port_count i odd w = ap (port_count i odd) back in
    let next = sum_to-grows (group_size i odd) (w - 1) n (omega arith) in
    omega (arith, next, size, in_group, before-is i odd n)

-- the two ports of an edge differ: those of a loop stand side by side, and others in two groups
link-proper : (i : Network) (odd : ℕ → ℕ) (k : ℕ) → IsNetwork i → k < length i.edges → IsProper (ports_below i odd (vertices i + 1)) (between_ports i odd k)
link-proper i odd k ok b =
    let e = here i k in
    let n = vertices i in
    let ends = within i k ok b in
    let size = group_size i odd in
    let port = between_ports i odd k in
    let own_v = met-room_v i odd k b in
    proper _ port.u port.v port.w (omega arith) (place-high i odd e.u n (met_below i e.u k) ends.u_low ends.u_high (met-room_u i odd k b)) (omega arith)
    (omega (arith, place-high i odd e.v n (met_below i e.v k + beside i k) ends.v_low ends.v_high own_v))
    (λ h. elim (cases_Bool (is_loop_at i k)) [
      | inl loop ↦ omega (arith, h, ap (port_of i odd k) (eqb-true e.u e.v loop), ap (λ (t : Bool). cond {A = ℕ} t 1 0) loop)
      | inr link ↦
          let none : beside i k ≡ 0 = ap (λ (t : Bool). cond {A = ℕ} t 1 0) link in
          let back_u : e.u - 1 + 1 ≡ e.u = let low = ends.u_low in omega arith in
          let back_v : e.v - 1 + 1 ≡ e.v = let low = ends.v_low in omega arith in
          let same = block-once size (e.u - 1) (e.v - 1) (met_below i e.u k) (met_below i e.v k + beside i k) (rw back_u (met-room_u i odd k b)) (rw back_v own_v) (omega (arith, h)) in
          apart_ends e link (omega (arith, same, back_u, back_v))
    ])

pub link-within : (i : Network) (odd : ℕ → ℕ) (k : ℕ) → IsNetwork i → k < length i.edges → IsEdgeWithin (ports_below i odd (vertices i + 1)) (between_ports i odd k)
link-within i odd k ok b = (link-proper i odd k ok b).within

ports-proper : (i : Network) (odd : ℕ → ℕ) → IsNetwork i → All (IsProper (ports_graph i odd).vertices) (ports_graph i odd).edges
ports-proper i odd ok =
    let P : Edge → Type 0 = IsProper (ports_below i odd (vertices i + 1)) in
    All-append P (links i odd) (cliques i odd) (All-tabled P _ (length i.edges) (λ k b. link-proper i odd k ok b))
    (All-blocks P _ (vertices i) (λ t b. clique-proper _ (ports_below i odd (t + 1)) (port_count i odd (t + 1)) (pos 0) (groups-apart i odd t (vertices i) b)))

pub ports-within : (i : Network) (odd : ℕ → ℕ) → IsNetwork i → All (IsEdgeWithin (ports_graph i odd).vertices) (ports_graph i odd).edges
ports-within i odd ok = λ k d b. (ports-proper i odd ok k d b).within

pub ports-no_loop : (i : Network) (odd : ℕ → ℕ) → IsNetwork i → HasNoLoop (ports_graph i odd)
ports-no_loop i odd ok = λ k d b. (ports-proper i odd ok k d b).no_loop

pub ports_sized : (i : Network) (odd : ℕ → ℕ) → HasSize (ports_size i odd) (ports_graph i odd)
ports_sized i odd = record {
  vertices = before-is i odd (vertices i);
  edges =
      edges-size i odd
      ∙ ap (λ (n : ℕ). length i.edges + n)
      (blocks-length _ (vertices i) ∙ sum_to-same _ _ (vertices i) (λ k b. clique-length (ports_below i odd (k + 1)) (port_count i odd (k + 1)) (pos 0)));
}
