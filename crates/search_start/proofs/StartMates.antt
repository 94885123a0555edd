-- The two ends of an edge are matched by it, or freed, before there is any blossom or tree.
use Rattle.alt_forest.proofs.Common.{◌≡◌, ◌≢◌, ◌⊎◌, ◌∙◌, ℕ, ◌+◌, ◌≤◌, ℤ, Bool, true, false, not, ◌&&◌, eqb, [], Option, Some, None, refl, sym, ap}
use Rattle.alt_forest.proofs.Common.{subst, ⊎_elim, inl, inr, arith, vec_len, is_some, eqb-true, eqb-false, same_Some, HasNoLoop, edge_of, sum_to-le, is_outermost, is_vertex, by_test}
use Rattle.alt_forest.proofs.Common.{State, IsOutermost, IsExposed, IsMate, IsTight, IsSearchState, is_exposed, exposed_count, HasShape, IsSound, edge_in, put, state_of, node_limit, one_if}
use Rattle.alt_forest.proofs.Common.{some_not_none, put_here, put_other}
use Rattle.alt_forest.specs.declared.search.Search.{Search}
use Rattle.search_start.specs.Starts.{IsBegun}
use Rattle.search_start.proofs.FarEnds.{ends_differ}
use Rattle.search_start.proofs.Flat.{ends_flat, joins_flat, outer_flat, flat_state}

-- where no node loses its mate no more are exposed
fewer : (t : Bool) (o p : Option ℕ) → (o ≡ None → p ≡ None) → one_if (t && not (is_some o)) ≤ one_if (t && not (is_some p))
fewer false o p h = omega arith
fewer true (Some x) p h = omega arith
fewer true None p h = rw (h refl) (omega arith)

pub exposed_fewer : (s : State) (m : ℕ → Option ℕ) → ((a : ℕ) → m a ≡ None → s.mate a ≡ None) → exposed_count (record s { mate = m }) ≤ exposed_count s
exposed_fewer s m less = sum_to-le (λ i. one_if (is_exposed (record s { mate = m }) (i + 1))) (λ i. one_if (is_exposed s (i + 1))) (node_limit s.graph.vertices)
    (λ i low. fewer (is_outermost s.graph.vertices s.blossoms (i + 1)) (m (i + 1)) (s.mate (i + 1)) (less (i + 1)))

-- the state in which the two ends of an edge have this mate, or none
abbrev pub mated_by : State → ℕ → Option ℕ → State
mated_by s e o = record s { mate = put (put s.mate (edge_of s.graph e).u o) (edge_of s.graph e).v o }

pub mated_begun : (s : State) (start : ℤ) (m : ℕ → Option ℕ) → IsBegun s start → IsBegun (record s { mate = m }) start
mated_begun s start m h = record { alone = h.alone; out = h.out; start_weight = h.start_weight; low = h.low; high = h.high; parity = h.parity; unweighted = h.unweighted }

module _ (s : State) (e : ℕ) where
  abbrev a : ℕ
  a = (edge_of s.graph e).u

  abbrev b : ℕ
  b = (edge_of s.graph e).v

  -- a node is one of the two ends, or keeps its mate
  mate_cases : (o : Option ℕ) (c : ℕ) → (((c ≡ a) ⊎ (c ≡ b)) × ((mated_by s e o).mate c ≡ o)) ⊎ ((c ≢ a) × (c ≢ b) × ((mated_by s e o).mate c ≡ s.mate c))
  mate_cases o c = by_test (eqb c b)
      (λ t. inl (inr (eqb-true c b t), ap (mated_by s e o).mate (eqb-true c b t) ∙ put_here (put s.mate a o) b o))
      (λ t. by_test (eqb c a)
      (λ u. inl (inl (eqb-true c a u), put_other (put s.mate a o) b o c (eqb-false c b t) ∙ ap (put s.mate a o) (eqb-true c a u) ∙ put_here s.mate a o))
      (λ u. inr (eqb-false c a u, eqb-false c b t, put_other (put s.mate a o) b o c (eqb-false c b t) ∙ put_other s.mate a o c (eqb-false c a u))))

  at_end : (o : Option ℕ) (c : ℕ) → (c ≡ a) ⊎ (c ≡ b) → (mated_by s e o).mate c ≡ o
  at_end o c is = ⊎_elim (λ q. q.1) (λ q. ⊎_elim (λ p. absurd (q.0 p)) (λ p. absurd (q.1 p)) is) (mate_cases o c)

  -- what was exposed is so once the ends are freed
  pub freed_exposed : (c : ℕ) → IsExposed s c → IsExposed (mated_by s e None) c
  freed_exposed c x = (x.0, ⊎_elim (λ q. q.1) (λ q. q.2 ∙ x.1) (mate_cases None c))

  -- what is exposed once they are matched was so before, and is no end of the edge
  pub paired_free : (c : ℕ) → IsExposed (mated_by s e (Some e)) c → IsExposed s c × (c ≢ a) × (c ≢ b)
  paired_free c x = ⊎_elim (λ q. some_not_none e (sym q.1 ∙ x.1)) (λ q. ((x.0, sym q.2 ∙ x.1), q.0, q.1)) (mate_cases (Some e) c)

  pub paired_exposed : exposed_count (mated_by s e (Some e)) ≤ exposed_count s
  paired_exposed = exposed_fewer s (mated_by s e (Some e)).mate (λ c none. ⊎_elim (λ q. some_not_none e (sym q.1 ∙ none)) (λ q. sym q.2 ∙ none) (mate_cases (Some e) c))

  module _ (alone : s.blossoms ≡ []) (start : ℤ) (depth : ℕ → ℕ) (h : IsBegun s start) (st : IsSearchState s depth) where
    module _ (plain : HasNoLoop s.graph) (tight : IsTight s e) (a_free : IsExposed s a) (b_free : IsExposed s b) where
      differ : a ≢ b
      differ = ends_differ s.graph e plain tight.edge

      mate_of_a : IsMate (mated_by s e (Some e)) a e b
      mate_of_a =
          let j = joins_flat s alone e a b (inl (refl, refl)) in
          record { edge = tight.edge; joins = j; different = differ; tight = tight.tight; outermost = b_free.0; back = at_end (Some e) b (inr refl) }

      mate_of_b : IsMate (mated_by s e (Some e)) b e a
      mate_of_b =
          let j = joins_flat s alone e b a (inr (refl, refl)) in
          record { edge = tight.edge; joins = j; different = λ q. differ (sym q); tight = tight.tight; outermost = a_free.0; back = at_end (Some e) a (inl refl) }

      -- an older mate is neither of the two ends
      kept : (c f : ℕ) → s.mate c ≡ Some f → (mated_by s e (Some e)).mate c ≡ Some f
      kept c f has = ⊎_elim
          (λ q. ⊎_elim (λ p. some_not_none f (sym has ∙ ap s.mate p ∙ a_free.1)) (λ p. some_not_none f (sym has ∙ ap s.mate p ∙ b_free.1)) q.0)
          (λ q. q.2 ∙ has)
          (mate_cases (Some e) c)

      paired_mates : (c f : ℕ) → IsOutermost s c → (mated_by s e (Some e)).mate c ≡ Some f → (x : ℕ) × IsMate (mated_by s e (Some e)) c f x
      paired_mates c f is has = ⊎_elim
          (λ q.
          let same : e ≡ f = same_Some e f (sym q.1 ∙ has) in
          subst (λ k. (x : ℕ) × IsMate (mated_by s e (Some e)) c k x) same (⊎_elim
          (λ p. subst (λ y. (x : ℕ) × IsMate (mated_by s e (Some e)) y e x) (sym p) (b, mate_of_a))
          (λ p. subst (λ y. (x : ℕ) × IsMate (mated_by s e (Some e)) y e x) (sym p) (a, mate_of_b))
          q.0))
          (λ q.
          let m = st.mates c f is (sym q.2 ∙ has) in
          (m.0, record { edge = m.1.edge; joins = m.1.joins; different = m.1.different; tight = m.1.tight; outermost = m.1.outermost; back = kept m.0 f m.1.back }))
          (mate_cases (Some e) c)

      pub paired_state : IsSearchState (mated_by s e (Some e)) depth
      paired_state = flat_state (mated_by s e (Some e)) alone start depth (mated_begun s start (mated_by s e (Some e)).mate h) st.slacks paired_mates

    module _ (v y : ℕ) (has : s.mate v ≡ Some e) (own : IsMate s v e y) where
      -- both ends were matched by the edge
      matched : (c : ℕ) → (c ≡ a) ⊎ (c ≡ b) → s.mate c ≡ Some e
      matched c is = ⊎_elim
          (λ p. ⊎_elim (λ q. ap s.mate (q ∙ p.0) ∙ has) (λ q. ap s.mate (q ∙ p.1) ∙ own.back) is)
          (λ p. ⊎_elim (λ q. ap s.mate (q ∙ p.0) ∙ own.back) (λ q. ap s.mate (q ∙ p.1) ∙ has) is)
          (ends_flat s alone e v y own.joins)

      -- so a node that was matched by it is freed
      pub freed_mate : (mated_by s e None).mate v ≡ None
      freed_mate = at_end None v (⊎_elim (λ p. inl (sym p.0)) (λ p. inr (sym p.1)) (ends_flat s alone e v y own.joins))

      -- and the mate of another node isn't either of them
      freed_mates : (c f : ℕ) → IsOutermost s c → (mated_by s e None).mate c ≡ Some f → (x : ℕ) × IsMate (mated_by s e None) c f x
      freed_mates c f is here = ⊎_elim
          (λ q. some_not_none f (sym here ∙ q.1))
          (λ q.
          let m = st.mates c f is (sym q.2 ∙ here) in
          let other : (x : ℕ) → s.mate x ≡ Some f → (x ≡ a) ⊎ (x ≡ b) → ⊥ = λ x back end.
          let same = same_Some f e (sym back ∙ matched x end) in
          ⊎_elim (λ p. q.0 (sym p.0)) (λ p. q.1 (sym p.1)) (ends_flat s alone e c m.0 (subst (λ k. IsMate s c k m.0) same m.1).joins) in (
            m.0,
            record {
              edge = m.1.edge;
              joins = m.1.joins;
              different = m.1.different;
              tight = m.1.tight;
              outermost = m.1.outermost;
              back = ⊎_elim (λ p. absurd (other m.0 m.1.back p.0)) (λ p. p.2 ∙ m.1.back) (mate_cases None m.0);
            },
          ))
          (mate_cases None c)

      pub freed_state : IsSearchState (mated_by s e None) depth
      freed_state = flat_state (mated_by s e None) alone start depth (mated_begun s start (mated_by s e None).mate h) st.slacks freed_mates

-- the mate of a vertex that has one
pub matched_at : (s : Search) (v e : ℕ) → IsSound s → IsBegun (state_of s) s.start → is_vertex s.graph.vertices v ≡ true → edge_in s.mates.items v ≡ Some e
    → (y : ℕ) × IsMate (state_of s) v e y
matched_at s v e h begun vertex has = h.state.mates v e (outer_flat (state_of s) begun.alone v vertex) has

-- the search in which the two ends have this mate
module _ (s t : Search) (e : ℕ) (o : Option ℕ) (rest : t ≡ record s { mates = t.mates }) (mates : edge_in t.mates.items ≡ (mated_by (state_of s) e o).mate) where
  pub mated_is : state_of t ≡ mated_by (state_of s) e o
  mated_is = ap state_of rest ∙ ap (λ (m : ℕ → Option ℕ). record (state_of s) { mate = m }) mates

  pub mated_sound : vec_len t.mates ≡ vec_len s.mates → (h : IsSound s) → IsSearchState (mated_by (state_of s) e o) h.depth → IsSound t
  mated_sound len h st =
      let p = h.shape in let m = len ∙ p.mates in
      let q = subst HasShape (sym rest)
      (record { graph = p.graph; family = p.family; arena = p.arena; labels = p.labels; parents = p.parents; mates = m; circuit = p.circuit; room = p.room }) in
      record { shape = q; depth = h.depth; state = subst (λ (x : State). IsSearchState x h.depth) (sym mated_is) st }
