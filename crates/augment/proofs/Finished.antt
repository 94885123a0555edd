-- What an unpacked search is.
use Rattle.alt_forest.proofs.Common.{◌≡◌, ℕ, true, false, List, [], ◌∷◌, sym, ◌∙◌, subst, inl, Option, Some, None, vec_len, rules, AllByRecursion, IsPerfect, holds}
use Rattle.alt_forest.proofs.Common.{Blossom, IsNested, is_vertex, is_child, outermost, outermost_parts, outermost_has, State, IsOutermost, IsTight, IsMate, IsSearchState, IsSound, state_of}
use Rattle.alt_forest.proofs.Common.{edge_in, nested_of, some_not_none, IsMatched, tight_rings}
use Rattle.alt_forest.specs.declared.search.Search.{Search}
use Rattle.gallai_theory.specs.Matchings.{IsMatched as IsMatchedBy}
use Rattle.augment.specs.Matching.{IsVertexMate, AreVertexMates, MissesOneEach, mate_counts, leaving}
use Rattle.augment.specs.Opening.{IsBare, IsSpread, AreInner, Unpacks, CanMark, CanUnpack}
use Rattle.augment.specs.Turns.{HasMates, with_mates}
use Rattle.augment.proofs.Unpacked.{HasTightEdges, AreOpened, mated_by, none_opened, all_opened}
use Rattle.augment.proofs.LeftOut.{LeavesOut, leaves_out, misses_one_each}
use Rattle.augment.proofs.Left.{IsLeftOnce}
use Rattle.augment.proofs.Counts.{vertex_outer, vertex_mates, matching, perfect, left_once}

-- mates of nodes that aren't outermost mean nothing
module _ (s : State) (depth : ℕ → ℕ) (m : ℕ → Option ℕ) (same : (a : ℕ) → IsOutermost s a → m a ≡ s.mate a) (st : IsSearchState s depth) where
  forth : (a e b : ℕ) → IsMate s a e b → IsMate (with_mates s m) a e b
  forth a e b w = record { edge = w.edge; joins = w.joins; different = w.different; tight = w.tight; outermost = w.outermost; back = same b w.outermost ∙ w.back }

  back : (a e b : ℕ) → IsMate (with_mates s m) a e b → IsMate s a e b
  back a e b w = record { edge = w.edge; joins = w.joins; different = w.different; tight = w.tight; outermost = w.outermost; back = sym (same b w.outermost) ∙ w.back }

  pub still_tight : (e : ℕ) → IsTight s e → IsTight (with_mates s m) e
  still_tight e t = record { edge = t.edge; tight = t.tight }

  pub still_state : IsNested s.graph.vertices s.blossoms → IsSearchState (with_mates s m) depth
  still_state nested = record {
    rings = st.rings;
    tight_rings = tight_rings s (with_mates s m) still_tight s.blossoms st.tight_rings;
    slacks = st.slacks;
    duals = st.duals;
    mates = λ a e is has. let r = st.mates a e is (sym (same a is) ∙ has) in (r.0, forth a e r.0 r.1);
    parity = λ v w iv iw ev ew. st.parity v w iv iw (free v iv ev) (free w iw ew);
    labels = λ a is. record {
      outer = λ l e b has w. (st.labels a is).outer l e b (sym (same a is) ∙ has) (back a e b w);
      inner = λ l.
          let i = (st.labels a is).inner l in let mate = same a is ∙ i.mate in
          let is_mate = forth a i.child_edge i.child i.is_mate in
          search (rules, i, mate, is_mate);
      out = λ l e b has w. (st.labels a is).out l e b (sym (same a is) ∙ has) (back a e b w);
    };
  }
    where
      free : (v : ℕ) → is_vertex s.graph.vertices v ≡ true → m (outermost s.blossoms v) ≡ None → s.mate (outermost s.blossoms v) ≡ None
      free v iv none = sym (same (outermost s.blossoms v) (outermost_has s.graph.vertices s.blossoms v nested iv).0) ∙ none

-- other mates of outermost nodes, which are mutual too
module _ (s : Search) (h : IsSound s) (old : ℕ → Option ℕ) (mates : HasMates (with_mates (state_of s) old)) where
  abbrev t : State
  t = with_mates (state_of s) old

  pub tight_edges : HasTightEdges t
  tight_edges = record {
    rings = h.state.rings;
    tight_rings = tight_rings (state_of s) t (λ e k. record { edge = k.edge; tight = k.tight }) s.arena.blossoms h.state.tight_rings;
    mates = mates;
  }

  -- mates that are those of the outermost nodes, and of no other node yet
  module _ (m : ℕ → Option ℕ) (same : (a : ℕ) → is_child s.arena.blossoms a ≡ false → m a ≡ old a) where
    pub same_outer : (a : ℕ) → IsOutermost (state_of s) a → m a ≡ old a
    same_outer a is = same a (outermost_parts s.graph.vertices s.arena.blossoms a is).1

    pub can_mark : ((a : ℕ) → is_child s.arena.blossoms a ≡ true → m a ≡ None) → CanMark s.graph s.arena m
    can_mark none =
        let mated = mated_by t m same_outer mates in
        let bare : IsBare s.graph s.arena.blossoms m = λ c f child has. some_not_none f (sym has ∙ none c child) in
        search (rules, h.shape, h.shape.graph.graph, mated, bare)

    pub can_unpack : IsBare s.graph s.arena.blossoms m → ((a : ℕ) → IsSpread s.graph s.arena.blossoms m a) → CanUnpack s.graph s.arena m
    can_unpack bare all = let mated = mated_by t m same_outer mates in search (rules, h.shape, h.shape.graph.graph, h.state, mated, bare, all)

    module _ (inner : ℕ → ℕ) (final : ℕ → Option ℕ) (u : Unpacks s.graph s.arena.blossoms inner m final) where
      pub v : AreOpened t s.arena.blossoms [] final
      v = all_opened t inner (nested_of s h.shape) h.shape.graph.graph.ends tight_edges [] s.arena.blossoms m final (none_opened t m same_outer tight_edges) u

      pub are_vertex_mates : AreVertexMates s.graph final
      are_vertex_mates = vertex_mates s.graph final h.shape.graph.graph.ends v.mated

      pub is_matching : IsMatchedBy s.graph (mate_counts s.graph final)
      is_matching = matching s.graph final h.shape.graph.graph.ends are_vertex_mates h.shape.graph.loopless

      pub leaves_one : AreInner s.arena.blossoms inner → LeavesOut t inner final
      leaves_one are = leaves_out t inner m final (nested_of s h.shape) are same_outer u

-- the mates of the search itself
module _ (s : Search) (h : IsSound s) (m final : ℕ → Option ℕ) (same : (a : ℕ) → is_child s.arena.blossoms a ≡ false → m a ≡ edge_in s.mates.items a) (inner : ℕ → ℕ)
    (u : Unpacks s.graph s.arena.blossoms inner m final) where
  pub own_mates : HasMates (state_of s)
  own_mates = h.state.mates

  own : AreOpened (state_of s) s.arena.blossoms [] final
  own = v s h (edge_in s.mates.items) own_mates m same inner final u

  pub outer_kept : (a : ℕ) → IsOutermost (state_of s) a → final a ≡ edge_in s.mates.items a
  outer_kept = own.kept

  pub each_vertex : IsMatched (state_of s) → (x : ℕ) → is_vertex s.graph.vertices x ≡ true → IsVertexMate s.graph final x
  each_vertex matched x iv =
      let r = own.full matched x (vertex_outer s.graph.vertices x iv) in
      vertex_mates s.graph final h.shape.graph.graph.ends own.mated x r.0 iv r.1

  pub is_perfect : IsMatched (state_of s) → IsPerfect s.graph (mate_counts s.graph final)
  is_perfect matched = perfect s.graph final h.shape.graph.graph.ends (vertex_mates s.graph final h.shape.graph.graph.ends own.mated) h.shape.graph.loopless (each_vertex matched)

  pub each_tight : (x e : ℕ) → is_vertex s.graph.vertices x ≡ true → final x ≡ Some e → IsTight (with_mates (state_of s) final) e
  each_tight x e is has = still_tight (state_of s) h.depth final own.kept h.state e (own.tight x e (vertex_outer s.graph.vertices x is) has)

  pub each_left : IsMatched (state_of s) → AllByRecursion (λ (b : Blossom). leaving s.graph (mate_counts s.graph final) b.members ≡ 1) s.arena.blossoms
  each_left matched = all s.arena.blossoms (own.once matched)
    where
      all : (bs : List Blossom) → AllByRecursion (λ (b : Blossom). IsLeftOnce s.graph [] final (λ x. holds b.members x)) bs
          → AllByRecursion (λ (b : Blossom). leaving s.graph (mate_counts s.graph final) b.members ≡ 1) bs
      all [] each = tt
      all (b ∷ bs) each = (left_once s.graph final h.shape.graph.graph.ends own.mated b.members each.0, all bs each.1)

  -- exactly one vertex of each exposed node is missed
  pub misses_each : ((b : ℕ) → inner b ≡ 0) → MissesOneEach (with_mates (state_of s) final) final
  misses_each none = misses_one_each (with_mates (state_of s) final) inner final (nested_of s h.shape) none
      (leaves_out (with_mates (state_of s) final) inner m final (nested_of s h.shape) (λ b k. inl (none b))
      (λ a is. same_outer s h (edge_in s.mates.items) own_mates m same a is ∙ sym (outer_kept a is)) u)

  pub still_sound : (t : Search) → t ≡ record s { mates = t.mates } → vec_len t.mates ≡ vec_len s.mates → edge_in t.mates.items ≡ final → IsSound t
  still_sound t is len now =
      let sh = h.shape in
      subst IsSound (sym is) (record {
        shape = record { graph = sh.graph; family = sh.family; arena = sh.arena; labels = sh.labels; parents = sh.parents; mates = len ∙ sh.mates; circuit = sh.circuit; room = sh.room };
        depth = h.depth;
        state = subst (λ (m : ℕ → Option ℕ). IsSearchState (with_mates (state_of s) m) h.depth) (sym now)
            (still_state (state_of s) h.depth final own.kept h.state (nested_of s h.shape));
      })
