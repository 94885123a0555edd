-- Mates change along a way up to a root, one pair after the other.
use Rattle.alt_forest.proofs.Common.{eq-eqb, ◌||◌, nested_of, nat_tests, ◌≡◌, ◌≢◌, ◌⊎◌, ℕ, zero, suc, ◌+◌, ◌<◌, ◌≤◌, true, false, not, eqb, cond}
use Rattle.alt_forest.proofs.Common.{both_ways, joins_unique, ◌∷◌, [], length, vec_len, HasShape, IsEdgeNumber, mate_place, other_outer}
use Rattle.alt_forest.proofs.Common.{Option, Some, None, refl, sym, ap, ◌∙◌, subst, arith, ⊎_elim, inl, inr, is_some, cases_eq, same_Some, holds, IsNested, Out, State}
use Rattle.alt_forest.proofs.Common.{IsOutermost, Joins, IsMate, IsSearchState, node_limit, far_end, up_edge_by, up_of, path_within, path_of, root_of, IsRoot, put, IsSound, state_of}
use Rattle.alt_forest.proofs.Common.{HasGrandparentLink}
use Rattle.alt_forest.proofs.Common.{IsRead, no_entry, IsGrandparentLink, hop_above, has_hop, read_is, hop_path, hop_root, hop_shorter, up_to_inner, joins_turned, outer_not_out}
use Rattle.alt_forest.proofs.Common.{some_not_none, put_here}
use Rattle.alt_forest.proofs.Common.{put_other, up_or_root, path_root, root_self, root_up, path_none, deeper_differs}
use Rattle.alt_forest.specs.declared.search.Search.{Search}
use Rattle.alt_forest.specs.declared.grandparent.GrandparentLink.{GrandparentLink}
use Rattle.augment.specs.Turns.{HasMates, with_mates, IsLoose, CanClimb, IsClimbed}
use Rattle.search_heap.proofs.Homes.{some_home}

-- other mates, as many as before, leave the shape
pub shape_mated : (f t : Search) → HasShape f → t ≡ record f { mates = t.mates } → vec_len t.mates ≡ vec_len f.mates → HasShape t
shape_mated f t h rest len = subst HasShape (sym rest)
    (record { graph = h.graph; family = h.family; arena = h.arena; labels = h.labels; parents = h.parents; mates = len ∙ h.mates; circuit = h.circuit; room = h.room })

-- mates have a place for the inner node of a grandparent link
pub inner_place : (s : Search) (a : ℕ) (k : GrandparentLink) → HasShape s → HasGrandparentLink (state_of s) a → IsRead (state_of s) a k → k.inner < vec_len s.mates
inner_place s a k h has read =
    let edge = subst (IsEdgeNumber s.graph) (same_Some has.mate k.mate (sym has.mate_kept ∙ read.mate)) has.mate_is in
    mate_place s k.inner h (subst (IsOutermost (state_of s)) (sym read.inner) (other_outer s k.mate a h edge))

-- a mate stays one where the node's own mate stays
pub moved : (s : State) (m n : ℕ → Option ℕ) (a f b : ℕ) → IsMate (with_mates s m) a f b → n b ≡ m b → IsMate (with_mates s n) a f b
moved s m n a f b w same = record { edge = w.edge; joins = w.joins; different = w.different; tight = w.tight; outermost = w.outermost; back = same ∙ w.back }

pub moved_first : (s : State) (n : ℕ → Option ℕ) (a f b : ℕ) → IsMate s a f b → n b ≡ s.mate b → IsMate (with_mates s n) a f b
moved_first s n a f b w same = record { edge = w.edge; joins = w.joins; different = w.different; tight = w.tight; outermost = w.outermost; back = same ∙ w.back }

-- who has a mate stays the same where one that has takes another
pub seen_put : (m : ℕ → Option ℕ) (a x c : ℕ) → is_some (m a) ≡ true → is_some (put m a (Some x) c) ≡ is_some (m c)
seen_put m a x c has = ⊎_elim
    (λ at. ap (λ b. is_some (put m a (Some x) b)) at ∙ ap (λ (o : Option ℕ). is_some o) (put_here m a (Some x)) ∙ sym (ap (λ b. is_some (m b)) at ∙ has))
    (λ ne. ap (λ (o : Option ℕ). is_some o) (put_other m a (Some x) c ne)) (cases_eq c a)

module _ (s : State) (depth : ℕ → ℕ) (nested : IsNested s.graph.vertices s.blossoms) (st : IsSearchState s depth) (base m : ℕ → Option ℕ) (low e high : ℕ)
    (h : IsLoose s depth base m low e high) where
  pub as_before : m high ≡ s.mate high
  as_before = h.untouched high h.high_is refl (omega arith)

  -- two nodes that have each other
  low_mate : (n : ℕ → Option ℕ) → n high ≡ Some e → (f : ℕ) → n low ≡ Some f → n low ≡ Some e → IsMate (with_mates s n) low f high
  low_mate n high_has f has low_has =
      subst (λ k. IsMate (with_mates s n) low k high) (same_Some e f (sym low_has ∙ has))
      (record { edge = h.edge; joins = h.joins; different = h.different; tight = h.tight; outermost = h.high_is; back = high_has })

  high_mate : (n : ℕ → Option ℕ) → n low ≡ Some e → (f : ℕ) → n high ≡ Some f → n high ≡ Some e → IsMate (with_mates s n) high f low
  high_mate n low_has f has high_has =
      subst (λ k. IsMate (with_mates s n) high k low) (same_Some e f (sym high_has ∙ has))
      (record { edge = h.edge; joins = joins_turned s.graph s.blossoms e low high h.joins; different = λ q. h.different (sym q); tight = h.tight; outermost = h.low_is; back = low_has })

  -- mates where the two have each other and the rest is as it was
  tied : (n : ℕ → Option ℕ) → n low ≡ Some e → n high ≡ Some e → (a f : ℕ) → n a ≡ Some f → (a ≢ low → a ≢ high → (b : ℕ) × IsMate (with_mates s n) a f b)
      → (b : ℕ) × IsMate (with_mates s n) a f b
  tied n low_has high_has a f has rest = ⊎_elim
      (λ q. (high, rw q (low_mate n high_has f (ap n (sym q) ∙ has) low_has)))
      (λ not_low. ⊎_elim (λ q. (low, rw q (high_mate n low_has f (ap n (sym q) ∙ has) high_has))) (rest not_low) (cases_eq a high)) (cases_eq a low)

  -- at the root all mates are mutual
  pub ends : s.mate high ≡ None → HasMates (with_mates s (put m high (Some e)))
  ends root a f is has =
      let n : ℕ → Option ℕ = put m high (Some e) in
      tied n (put_other m high (Some e) low h.different ∙ h.taken) (put_here m high (Some e)) a f has
      (λ not_low not_high.
      let was = h.mates a f is not_low (sym (put_other m high (Some e) a not_high) ∙ has) in
      let other : was.0 ≢ high = λ q. some_not_none f (sym was.1.back ∙ ap m q ∙ as_before ∙ root) in
      (was.0, moved s m n a f was.0 was.1 (put_other m high (Some e) was.0 other)))

  -- from an outer node with a mate it goes on from the outer node of its grandparent link
  pub goes_on : (k : GrandparentLink) → IsGrandparentLink s depth high k → IsLoose s depth base (put (put m high (Some e)) k.inner (Some k.parent)) k.inner k.parent k.outer
  goes_on k hop =
      let f : ℕ = k.mate in let q : ℕ = k.inner in let w = hop.is_mate in
      let n : ℕ → Option ℕ = put (put m high (Some e)) q (Some k.parent) in
      let q_low : depth q < depth high = hop.lower in let up_low : depth k.outer < depth q = hop.lowest in
      let q_root : root_of s q ≡ root_of s high = sym (root_up s depth nested st high q h.high_is w.outermost (up_to_inner s depth high k hop)) in
      let low_not_q : low ≢ q = λ p. ⊎_elim (λ o. o (ap s.label p ∙ hop.inner_label)) (λ d. let same : depth low ≡ depth q = ap depth p in absurd (omega (arith, d, same, q_low))) h.below in
      let n_high : n high ≡ Some e = put_other (put m high (Some e)) q (Some k.parent) high w.different ∙ put_here m high (Some e) in
      let n_low : n low ≡ Some e = put_other (put m high (Some e)) q (Some k.parent) low low_not_q ∙ put_other m high (Some e) low h.different ∙ h.taken in
      let m_high : m high ≡ Some f = as_before ∙ hop.mate in
      let m_q : m q ≡ Some f = h.untouched q w.outermost q_root (omega (arith, q_low)) ∙ w.back in
      let others : (c : ℕ) → c ≢ q → c ≢ high → n c ≡ m c = λ c not_q not_high. put_other (put m high (Some e)) q (Some k.parent) c not_q ∙ put_other m high (Some e) c not_high in
      record {
        edge = hop.edge;
        joins = hop.joins;
        different = deeper_differs depth q k.outer up_low;
        tight = hop.tight;
        low_is = w.outermost;
        high_is = hop.up_is;
        high_outer = hop.up_outer;
        taken = put_here (put m high (Some e)) q (Some k.parent);
        untouched = λ c is root under.
            others c (λ p. let same : depth c ≡ depth q = ap depth p in absurd (omega (arith, under, up_low)))
            (λ p. let same : depth c ≡ depth high = ap depth p in absurd (omega (arith, under, up_low, q_low)))
            ∙ h.untouched c is (root ∙ sym (hop_root s depth high k hop depth nested st)) (omega (arith, under, up_low, q_low));
        below = inr up_low;
        mates = λ a j is not_q has. tied n n_low n_high a j has
            (λ not_low not_high.
            let was = h.mates a j is not_low (sym (others a not_q not_high) ∙ has) in
            let b_not_high : was.0 ≢ high = λ p. not_q (partner_by a j high q (subst (IsMate (with_mates s m) a j) p was.1) f (ap m (sym p) ∙ was.1.back) m_high
            (joins_turned s.graph s.blossoms f high q w.joins) (λ r. w.different (sym r))) in
            let b_not_q : was.0 ≢ q = λ p. not_high (partner_by a j q high (subst (IsMate (with_mates s m) a j) p was.1) f (ap m (sym p) ∙ was.1.back) m_q w.joins w.different) in
            (was.0, moved s m n a j was.0 was.1 (others was.0 b_not_q b_not_high)));
        seen = λ c. seen_put (put m high (Some e)) q k.parent c (seen_put m high e q (ap (λ o. is_some o) m_high) ∙ ap (λ o. is_some o) m_q)
            ∙ seen_put m high e c (ap (λ o. is_some o) m_high) ∙ h.seen c;
      }
    where
      -- who has b as its mate, by the edge f that is b's, is the one that f joins to b
      partner_by : (a k b c : ℕ) → IsMate (with_mates s m) a k b → (f : ℕ) → m b ≡ Some k → m b ≡ Some f → Joins s.graph s.blossoms f c b → c ≢ b → a ≡ c
      partner_by a k b c v f hk hf j ne =
          sym (joins_unique s.graph s.blossoms f b c a (joins_turned s.graph s.blossoms f c b j)
          (joins_turned s.graph s.blossoms f a b (subst (λ x. Joins s.graph s.blossoms x a b) (same_Some k f (sym hk ∙ hf)) v.joins)) (λ q. ne (sym q)))

-- The way that began at `start`, by the edge e, has come to `node`, which takes the edge `by`: start has e once the flip has
-- left it, and what is off the way is as it was.
pub record IsChanged (s : State) (depth : ℕ → ℕ) (before : ℕ → Option ℕ) (e start : ℕ) (m : ℕ → Option ℕ) (by node : ℕ) : Type 0 where
  pub has : ((start ≡ node) × (e ≡ by)) ⊎ ((m start ≡ Some e) × (depth node < depth start))
  pub keeps : (a : ℕ) → holds (path_of s start) a ≡ false → m a ≡ before a
  pub on_path : (a : ℕ) → holds (path_of s node) a ≡ true → holds (path_of s start) a ≡ true
  pub one_root : root_of s start ≡ root_of s node

pub changed_first : (s : State) (depth : ℕ → ℕ) (m : ℕ → Option ℕ) (e start : ℕ) → IsChanged s depth m e start m e start
changed_first s depth m e start = record { has = inl (refl, refl); keeps = λ a off. refl; on_path = λ a on. on; one_root = refl }

pub no_deeper : (s : State) (depth : ℕ → ℕ) (before : ℕ → Option ℕ) (e start : ℕ) (m : ℕ → Option ℕ) (by node : ℕ) → IsChanged s depth before e start m by node → depth node ≤ depth start
no_deeper s depth before e start m by node h = ⊎_elim (λ p. let same = ap depth p.0 in omega arith) (λ p. omega (arith, p.1)) h.has

module _ (s : State) (depth : ℕ → ℕ) (nested : IsNested s.graph.vertices s.blossoms) (st : IsSearchState s depth) (before : ℕ → Option ℕ) (e start : ℕ) (m : ℕ → Option ℕ)
    (by node : ℕ) (h : IsChanged s depth before e start m by node) where
  -- it goes on from the outer node of the grandparent link
  pub changed_on : (k : GrandparentLink) → IsGrandparentLink s depth node k → IsChanged s depth before e start (put (put m node (Some by)) k.inner (Some k.parent)) k.parent k.outer
  changed_on k hop =
      let n : ℕ → Option ℕ = put (put m node (Some by)) k.inner (Some k.parent) in
      let up : ℕ = k.outer in
      let there : (a : ℕ) → holds (node ∷ (k.inner ∷ path_of s up)) a ≡ true → holds (path_of s start) a ≡ true = λ a r. h.on_path a
      (ap (λ xs. holds xs a) (hop_path s depth node k hop depth nested st) ∙ r) in
      let same : (a : ℕ) → a ≢ node → a ≢ k.inner → n a ≡ m a = λ a p q. put_other (put m node (Some by)) k.inner (Some k.parent) a q ∙ put_other m node (Some by) a p in
      let here : n node ≡ Some by = put_other (put m node (Some by)) k.inner (Some k.parent) node hop.is_mate.different ∙ put_here m node (Some by) in
      record {
        has = inr
            (⊎_elim
            (λ p. (grind arith, let same_depth = ap depth p.0 in omega (arith, hop.lower, hop.lowest)))
            (λ p. (same start (deeper_differs depth start node p.1) (deeper_differs depth start k.inner (omega (arith, p.1, hop.lower))) ∙ p.0, omega (arith, hop.lower, hop.lowest, p.1)))
            h.has);
        keeps = λ a off. grind (arith, nat_tests, same a, there a, h.keeps a off);
        on_path = λ a r. there a (grind (arith, nat_tests));
        one_root = h.one_root ∙ hop_root s depth node k hop depth nested st;
      }

  -- the root takes the last edge
  pub climbed : (base : ℕ → Option ℕ) (low : ℕ) → IsLoose s depth base m low by node → m node ≡ None → IsClimbed s base before (put m node (Some by)) e start
  climbed base low loose none =
      let free : s.mate node ≡ None = sym (as_before s depth nested st base m low by node loose) ∙ none in
      let root : IsRoot s node = record { outermost = loose.high_is; outer = loose.high_outer; exposed = free } in
      let top : root_of s start ≡ node = h.one_root ∙ root_self s depth nested st node root in
      let node_there : holds (path_of s start) node ≡ true =
      h.on_path node (ap (λ xs. holds xs node) (path_root s depth nested st node root) ∙ ap (λ t. t || false) (eq-eqb node node refl)) in
      record {
        mates = ends s depth nested st base m low by node loose free;
        has = ⊎_elim (λ p. ap (put m node (Some by)) p.0 ∙ put_here m node (Some by) ∙ ap (λ x. Some x) (sym p.1))
            (λ p. put_other m node (Some by) start (deeper_differs depth start node p.1) ∙ p.0) h.has;
        root_has = ap (λ x. is_some (put m node (Some by) x)) top ∙ ap (λ (o : Option ℕ). is_some o) (put_here m node (Some by));
        keeps = λ a off. put_other m node (Some by) a (λ q. both_ways (holds (path_of s start) a) off (ap (holds (path_of s start)) q ∙ node_there)) ∙ h.keeps a off;
        seen = λ a ne. ap (λ (o : Option ℕ). is_some o) (put_other m node (Some by) a (λ q. ne (q ∙ sym top))) ∙ loose.seen a;
      }

-- The way up is the same by other mates that are as before so far down in this tree.
module _ (s : State) (depth : ℕ → ℕ) (nested : IsNested s.graph.vertices s.blossoms) (st : IsSearchState s depth) (m : ℕ → Option ℕ) (top : ℕ)
    (untouched : (c : ℕ) → IsOutermost s c → root_of s c ≡ root_of s top → depth c ≤ depth top → m c ≡ s.mate c) where
  same_up : (c : ℕ) → m c ≡ s.mate c → up_of (with_mates s m) c ≡ up_of s c
  same_up c same = grind arith

  same_within : (k c : ℕ) → IsOutermost s c → s.label c ≢ Out → root_of s c ≡ root_of s top → depth c ≤ depth top → path_within k (with_mates s m) c ≡ path_within k s c
  same_within zero c is in_it root low = refl
  same_within (suc k) c is in_it root low =
      ap (λ xs. cond (eqb c 0) [] (c ∷ xs))
      (ap (path_within k (with_mates s m)) (same_up c (untouched c is root low))
      ∙ ⊎_elim
      (λ r.
      let none : up_of s c ≡ 0 = ap (λ l. far_end s (up_edge_by s l c) c) r.outer ∙ ap (λ o. far_end s o c) r.exposed in
      ap (path_within k (with_mates s m)) none ∙ path_none k (with_mates s m) ∙ sym (path_none k s) ∙ ap (path_within k s) (sym none))
      (λ p.
      let u = p.1 in
      ap (path_within k (with_mates s m)) u.up
      ∙ same_within k p.0 u.outermost u.in_tree (sym (root_up s depth nested st c p.0 is u.outermost u.up) ∙ root) (omega (arith, u.falls, low))
      ∙ ap (path_within k s) (sym u.up))
      (up_or_root s depth nested st c is in_it))

  pub same_path : (c : ℕ) → IsOutermost s c → s.label c ≢ Out → root_of s c ≡ root_of s top → depth c ≤ depth top → path_of (with_mates s m) c ≡ path_of s c
  same_path c = same_within (node_limit s.graph.vertices + 1) c

-- a flip can go on where one node has taken another as its mate
abbrev pub can_climb : (s : Search) (t : State) → IsSound s → (e start low : ℕ) (base : ℕ → Option ℕ) → t ≡ with_mates (state_of s) t.mate
    → ((nested : IsNested s.graph.vertices s.arena.blossoms) (depth : ℕ → ℕ) → IsSearchState (state_of s) depth → IsLoose (state_of s) depth base t.mate low e start)
    → CanClimb t e start
can_climb s t sound e start low base is loose =
    let nested = nested_of s sound.shape in
    record { was = state_of s; depth = sound.depth; nested = nested; state = sound.state; base = base; low = low; is = is; loose = loose nested sound.depth sound.state }

-- What a loop over the grandparent links keeps of each way to see the mates that it began with.
pub record IsClimbing (t : State) (e start : ℕ) (h : CanClimb t e start) (m : ℕ → Option ℕ) (by node : ℕ) : Type 0 where
  pub low : ℕ
  pub loose : IsLoose h.was h.depth h.base m low by node
  pub changed : IsChanged h.was h.depth t.mate e start m by node

module _ (t : State) (e start : ℕ) (h : CanClimb t e start) where
  module _ (m : ℕ → Option ℕ) (by node : ℕ) (v : IsClimbing t e start h m by node) where
    same : m node ≡ h.was.mate node
    same = as_before h.was h.depth h.nested h.state h.base m v.low by node v.loose

    state_is : with_mates t m ≡ with_mates h.was m
    state_is = ap (λ (x : State). with_mates x m) h.is

    above : is_some (m node) ≡ true → (k : GrandparentLink) × IsGrandparentLink h.was h.depth node k
    above has =
        let some = some_home (m node) has in
        hop_above h.was h.depth node some.0 h.state v.loose.high_is v.loose.high_outer (sym same ∙ some.1)

    pub can_hop : is_some (m node) ≡ true → HasGrandparentLink (with_mates t m) node
    can_hop has =
        let k = above has in let r = has_hop h.was h.depth node k.0 k.1 in
        subst (λ (x : State). HasGrandparentLink x node) (sym state_is)
        (record { mate = r.mate; mate_is = r.mate_is; mate_kept = same ∙ r.mate_kept; parent = r.parent; parent_is = r.parent_is; parent_kept = r.parent_kept })

    pub is_hop : is_some (m node) ≡ true → (k : GrandparentLink) → IsRead (with_mates t m) node k → IsGrandparentLink h.was h.depth node k
    is_hop has k read =
        let r : IsRead (with_mates h.was m) node k = subst (λ (x : State). IsRead x node k) state_is read in
        let a = above has in
        subst (IsGrandparentLink h.was h.depth node)
        (sym (read_is h.was h.depth node a.0 a.1 k (record { mate = sym same ∙ r.mate; inner = r.inner; parent = r.parent; outer = r.outer }))) a.1

    pub climbing_on : is_some (m node) ≡ true → (k : GrandparentLink) → IsRead (with_mates t m) node k
        → IsClimbing t e start h (put (put m node (Some by)) k.inner (Some k.parent)) k.parent k.outer
    climbing_on has k read =
        let hop = is_hop has k read in
        record {
          low = k.inner;
          loose = goes_on h.was h.depth h.nested h.state h.base m v.low by node v.loose k hop;
          changed = changed_on h.was h.depth h.nested h.state t.mate e start m by node v.changed k hop;
        }

    pub climbing_shorter : is_some (m node) ≡ true → (k : GrandparentLink) → IsRead (with_mates t m) node k → length (path_of t k.outer) < length (path_of t node)
    climbing_shorter has k read =
        let hop = is_hop has k read in let on = climbing_on has k read in
        let here : path_of t node ≡ path_of h.was node = ap (λ (x : State). path_of x node) h.is
        ∙ same_path h.was h.depth h.nested h.state t.mate start h.loose.untouched node v.loose.high_is (λ q. outer_not_out (sym v.loose.high_outer ∙ q)) (sym v.changed.one_root)
        (no_deeper h.was h.depth t.mate e start m by node v.changed) in
        let there : path_of t k.outer ≡ path_of h.was k.outer = ap (λ (x : State). path_of x k.outer) h.is
        ∙ same_path h.was h.depth h.nested h.state t.mate start h.loose.untouched k.outer hop.up_is (λ q. outer_not_out (sym hop.up_outer ∙ q)) (sym on.changed.one_root)
        (no_deeper h.was h.depth t.mate e start (put (put m node (Some by)) k.inner (Some k.parent)) k.parent k.outer on.changed) in
        let shorter = hop_shorter h.was h.depth node k hop h.depth h.nested h.state in
        omega (arith, shorter, ap length here, ap length there)

    pub climbing_done : is_some (m node) ≡ false → IsClimbed h.was h.base t.mate (put m node (Some by)) e start
    climbing_done none = climbed h.was h.depth h.nested h.state t.mate e start m by node v.changed h.base v.low v.loose (no_entry (m node) (ap not none))
