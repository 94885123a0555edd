-- The newest blossom is opened: then the mates of the nodes that are outermost without it are mutual.
use Rattle.alt_forest.proofs.Common.{nat_tests, ◌≡◌, ◌≢◌, ℕ, true, false, eqb, cond, List, [], ◌∷◌, ◌++◌, sym, ap, ◌∙◌, subst, ⊎_elim, ◌⊎◌, inl, inr}
use Rattle.alt_forest.proofs.Common.{Option, Some, arith, All, AllByRecursion, eqb-true, eqb-false, ne_eqb, both_ways, Multigraph, IsEdgeWithin, edge_of, Link, Blossom, nodes_of, in_ring}
use Rattle.alt_forest.proofs.Common.{is_outermost, outermost, IsNested, by_test, AllNew, new_from_distinct, circuit_outer, outermost_parts, outermost_before, new_is_node, new_no_child}
use Rattle.alt_forest.proofs.Common.{node_grows, Joins, IsChainTo, IsRing, ArePaired, joins_turned, some_not_none, each_parts, each_whole, GoesRound, goes_round, leads_round, same_Some}
use Rattle.augment.specs.Opening.{IsPair, AreMated, TakesMate, Opens}

pub paired_some : (P : ℕ → Type 0) (m : ℕ → Option ℕ) (ls : List Link) (c : ℕ) → ArePaired m ls → AllByRecursion (λ (l : Link). P l.edge) ls → in_ring ls c ≡ true
    → (f : ℕ) × (m c ≡ Some f) × P f
paired_some P m [] c h p r = absurd (grind (arith, nat_tests))
paired_some P m (l ∷ []) c h p r = absurd h
paired_some P m (l ∷ (k ∷ ls)) c h p r =
    by_test (eqb l.node c)
    (λ here. (l.edge, ap m (sym (eqb-true l.node c here)) ∙ h.0, p.0))
    (λ not_l. by_test (eqb k.node c) (λ here. (l.edge, ap m (sym (eqb-true k.node c here)) ∙ h.1, p.0)) (λ not_k. paired_some P m ls c h.2 p.1.1 (grind (arith, nat_tests))))

pub each_unit : (ls : List Link) → AllByRecursion (λ (l : Link). Unit {0}) ls
each_unit [] = tt
each_unit (l ∷ ls) = (tt, each_unit ls)

module _ (g : Multigraph) (b : Blossom) (older : List Blossom) (m m' : ℕ → Option ℕ) (nested : IsNested g.vertices (b ∷ older)) (ends : All (IsEdgeWithin g.vertices) g.edges)
    (ring : IsRing g older b.ring) (mated : AreMated g (b ∷ older) m) (inner : ℕ) (h : Opens g older b.node inner b.ring b.members m m') where
  abbrev n : ℕ
  n = g.vertices

  abbrev bs : List Blossom
  bs = b ∷ older

  abbrev round : List Link
  round = h.behind ++ h.before

  t : GoesRound b.ring h.base.node round
  t = goes_round b.ring h.before h.base h.behind h.split (new_from_distinct (nodes_of b.ring) nested.0.circuit.different)

  pub first_outer : is_outermost n bs b.node ≡ true
  first_outer = grind (arith, nat_tests, new_is_node n b older, new_no_child n b older nested)

  differs : (c : ℕ) → is_outermost n older c ≡ true → c ≢ b.node
  differs c is q = grind (arith, nat_tests, nested.0.fresh)

  -- a vertex outside of the blossom keeps its outermost node
  below : (v x : ℕ) → outermost bs v ≡ x → x ≢ b.node → outermost older v ≡ x
  below v x e ne = grind (arith, nat_tests)

  joins_below : (e c d : ℕ) → Joins g bs e c d → c ≢ b.node → d ≢ b.node → Joins g older e c d
  joins_below e c d j nc nd = grind (arith, below (edge_of g e).u, below (edge_of g e).v, j)

  -- the blossom's mate, where it has one, is the child's
  taken : (e : ℕ) → m b.node ≡ Some e → TakesMate g older b.node h.base.node b.members m m'
  taken e has = ⊎_elim (λ k. k) (λ k. some_not_none e (sym has ∙ k.free)) h.based

  -- and where the child has one, so has the blossom
  given : (e : ℕ) → m' h.base.node ≡ Some e → m b.node ≡ Some e
  given e has = ⊎_elim (λ k. k.mate ∙ sym k.new_base ∙ has) (λ k. some_not_none e (sym has ∙ k.base_free))
      h.based

  taken_is : (e : ℕ) → m b.node ≡ Some e → m' h.base.node ≡ Some e
  taken_is e has = let k = taken e has in k.new_base ∙ sym k.mate ∙ has

  -- the edge that joined a node to the blossom joins it to the child
  base_joins : (e c : ℕ) → m b.node ≡ Some e → Joins g bs e c b.node → c ≢ b.node → Joins g older e c h.base.node
  base_joins e c has j ne =
      let k = taken e has in let same : k.edge ≡ e = same_Some k.edge e (sym k.mate ∙ has) in
      let above : outermost bs k.end ≡ b.node = ap (λ q. cond q b.node (outermost older k.end)) k.end_in in
      grind (arith, below (edge_of g e).u c, below (edge_of g e).v c, k.end_of_edge, k.base_holds, j)

  -- an outermost node after it was so before, or lay in the ring
  pub cases_outer : (c : ℕ) → is_outermost n older c ≡ true → ((is_outermost n bs c ≡ true) × (in_ring b.ring c ≡ false)) ⊎ ((c ≡ h.base.node) ⊎ (in_ring round c ≡ true))
  cases_outer c is = by_test (in_ring b.ring c) (λ r. inr (t.all c r)) (λ r. inl (grind (arith, nat_tests, outermost_parts n older c is, node_grows n b older c), r))

  ring_outer : (c : ℕ) → in_ring b.ring c ≡ true → is_outermost n older c ≡ true
  ring_outer c r = circuit_outer n older b.ring c nested.0.circuit r

  -- nodes that are paired are mates
  in_pairs : (ls : List Link) (z : ℕ) → IsChainTo g older ls z → ((c : ℕ) → in_ring ls c ≡ true → in_ring b.ring c ≡ true) → AllNew (nodes_of ls) → ArePaired m' ls
      → (c f : ℕ) → in_ring ls c ≡ true → m' c ≡ Some f → (d : ℕ) × IsPair g older m' c f d
  in_pairs [] z chain inside new pairs c f r has = absurd (grind (arith, nat_tests))
  in_pairs (l ∷ []) z chain inside new pairs c f r has = absurd pairs
  in_pairs (l ∷ (k ∷ ls)) z chain inside new pairs c f r has =
      let l_outer = ring_outer l.node (inside l.node (grind (arith, nat_tests))) in
      let k_outer = ring_outer k.node (inside k.node (grind (arith, nat_tests))) in
      let differ : k.node ≢ l.node = let apart = new.0 in grind (arith, nat_tests) in
      by_test (eqb l.node c)
      (λ here. let same : l.node ≡ c = eqb-true l.node c here in
      let edge : l.edge ≡ f = same_Some l.edge f (sym pairs.0 ∙ ap m' same ∙ has) in
      (k.node, rw (sym same, sym edge) (record { edge = chain.0; joins = chain.1; different = λ q. differ (sym q); outermost = k_outer; back = pairs.1 })))
      (λ not_l. by_test (eqb k.node c)
      (λ here. let same : k.node ≡ c = eqb-true k.node c here in
      let edge : l.edge ≡ f = same_Some l.edge f (sym pairs.1 ∙ ap m' same ∙ has) in
      (l.node, rw (sym same, sym edge) (record { edge = chain.0; joins = joins_turned g older l.edge l.node k.node chain.1; different = differ; outermost = l_outer; back = pairs.0 })))
      (λ not_k. in_pairs ls z chain.2.2 (λ x e. inside x (grind (arith, nat_tests))) new.1.1 pairs.2 c f (grind (arith, nat_tests)) has))

  -- a node outside of the ring
  outside : (c e : ℕ) → is_outermost n older c ≡ true → is_outermost n bs c ≡ true → in_ring b.ring c ≡ false → m' c ≡ Some e → (d : ℕ) × IsPair g older m' c e d
  outside c e is was out has =
      let r = mated c e was (sym (h.others c out (outermost_parts n older c is).1) ∙ has) in let w = r.1 in
      let ne : c ≢ b.node = differs c is in
      by_test (eqb b.node r.0)
      (λ s.
      let same : r.0 ≡ b.node = sym (eqb-true b.node r.0 s) in
      let mate : m b.node ≡ Some e = ap m (sym same) ∙ w.back in (
        h.base.node,
        record {
          edge = w.edge;
          joins = base_joins e c mate (subst (λ x. Joins g bs e c x) same w.joins) ne;
          different = λ q. both_ways (in_ring b.ring c) out (ap (in_ring b.ring) q ∙ t.base_in);
          outermost = ring_outer h.base.node t.base_in;
          back = taken_is e mate;
        },
      ))
      (λ s.
      let p = outermost_before n b older r.0 s w.outermost in
      let joins = joins_below e c r.0 w.joins ne (λ q. eqb-false b.node r.0 s (sym q)) in
      let back = h.others r.0 p.1 (outermost_parts n older r.0 p.0).1 ∙ w.back in
      (r.0, record { edge = w.edge; joins = joins; different = w.different; outermost = p.0; back = back }))

  -- the child that took the blossom's mate
  at_base : (e : ℕ) → m' h.base.node ≡ Some e → (d : ℕ) × IsPair g older m' h.base.node e d
  at_base e has =
      let mate = given e has in let r = mated b.node e first_outer mate in let w = r.1 in
      let p = outermost_before n b older r.0 (ne_eqb b.node r.0 w.different) w.outermost in
      let joins = joins_turned g older e r.0 h.base.node (base_joins e r.0 mate (joins_turned g bs e b.node r.0 w.joins) (λ q. w.different (sym q))) in
      let differ = λ (q : h.base.node ≡ r.0). both_ways (in_ring b.ring r.0) p.1 (ap (in_ring b.ring) (sym q) ∙ t.base_in) in
      let back = h.others r.0 p.1 (outermost_parts n older r.0 p.0).1 ∙ w.back in
      (r.0, record { edge = w.edge; joins = joins; different = differ; outermost = p.0; back = back })

  pub all_mated : AreMated g older m'
  all_mated c e is has = ⊎_elim
      (λ was. outside c e is was.0 was.1 has)
      (λ in_it. ⊎_elim
      (λ same. subst (λ x. (d : ℕ) × IsPair g older m' x e d) (sym same) (at_base e (ap m' (sym same) ∙ has)))
      (λ r. in_pairs round h.base.node ((leads_round b.ring h.before h.base h.behind h.split g older ring).chain) t.inside t.different h.new_pairs c e r has)
      in_it)
      (cases_outer c is)

  -- where each outermost node had a mate, each has one after
  pub full_stays : ((c : ℕ) → is_outermost n bs c ≡ true → (e : ℕ) × (m c ≡ Some e)) → (c : ℕ) → is_outermost n older c ≡ true → (e : ℕ) × (m' c ≡ Some e)
  full_stays full c is = ⊎_elim
      (λ was. let r = full c was.0 in (r.0, h.others c was.1 (outermost_parts n older c is).1 ∙ r.1))
      (λ in_it. ⊎_elim
      (λ same. let r = full b.node first_outer in (r.0, ap m' same ∙ taken_is r.0 r.1))
      (λ r. let some = paired_some (λ _. Unit {0}) m' round c h.new_pairs (each_unit round) r in (some.0, some.1))
      in_it)
      (cases_outer c is)

  -- what holds of each edge of the ring, and of each mate, holds of each mate after
  pub used_stays : (P : ℕ → Type 0) → AllByRecursion (λ (l : Link). P l.edge) b.ring → ((c f : ℕ) → is_outermost n bs c ≡ true → m c ≡ Some f → P f) → (c f : ℕ)
      → is_outermost n older c ≡ true → m' c ≡ Some f → P f
  used_stays P each old c f is has = ⊎_elim
      (λ was. old c f was.0 (sym (h.others c was.1 (outermost_parts n older c is).1) ∙ has))
      (λ in_it. ⊎_elim
      (λ same. old b.node f first_outer (given f (ap m' (sym same) ∙ has)))
      (λ r. let p = paired_some P m' round c h.new_pairs each_round r in subst P (same_Some p.0 f (sym p.1 ∙ has)) p.2)
      in_it)
      (cases_outer c is)
    where
      parts : AllByRecursion (λ (l : Link). P l.edge) h.before × AllByRecursion (λ (l : Link). P l.edge) (h.base ∷ h.behind)
      parts = each_parts (λ (l : Link). P l.edge) h.before (h.base ∷ h.behind) (subst (λ (x : List Link). AllByRecursion (λ (l : Link). P l.edge) x) h.split each)

      each_round : AllByRecursion (λ (l : Link). P l.edge) round
      each_round = each_whole (λ (l : Link). P l.edge) h.behind h.before parts.1.1 parts.0

  -- an edge that was a mate is one after
  pub used_still : (c f : ℕ) → is_outermost n bs c ≡ true → m c ≡ Some f → (d : ℕ) × (is_outermost n older d ≡ true) × (m' d ≡ Some f)
  used_still c f is has = by_test (eqb b.node c)
      (λ s. (h.base.node, ring_outer h.base.node t.base_in, taken_is f (ap m (eqb-true b.node c s) ∙ has)))
      (λ s. let p = outermost_before n b older c s is in (c, p.0, h.others c p.1 (outermost_parts n older c p.0).1 ∙ has))
