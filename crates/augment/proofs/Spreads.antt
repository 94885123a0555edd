-- An edge is kept at each node that holds an end of it.
use Rattle.alt_forest.proofs.Common.{nat_tests, ◌≡◌, ◌≢◌, ℕ, ◌%◌, true, false, eqb, cond, List, [], ◌∷◌, length, refl, sym, ap, ◌∙◌, subst, arith, ⊎_elim}
use Rattle.alt_forest.proofs.Common.{◌⊎◌, inl, inr, Option, Some, None, All, eqb-false, or_left, or_right, or_parts, both_ways, Multigraph, IsEdgeWithin, IsEdgeNumber, edge_of, holds}
use Rattle.alt_forest.proofs.Common.{Link, Blossom, nodes_of, in_ring, is_child, outermost, chain_of, IsNested, by_test, AllNew, new_free, outermost_free, member_by_ring, Joins, IsChainTo}
use Rattle.alt_forest.proofs.Common.{put, put_here, put_other, some_not_none, ArePaired, same_Some, u_vertex, v_vertex}
use Rattle.augment.specs.Opening.{marked, spread, paired, IsEnd, IsSpread, IsBare}
use Rattle.augment.proofs.Chains.{chain_grows, chain_before, chain_has_top, chain_top, same_top, chain_ring}

marked_in : (m : ℕ → Option ℕ) (cs : List ℕ) (e c : ℕ) → (m c ≡ Some e) ⊎ (holds cs c ≡ true) → marked m cs e c ≡ Some e
marked_in m [] e c h = grind (arith, nat_tests)
marked_in m (x ∷ cs) e c h = marked_in (put m x (Some e)) cs e c (grind (arith, nat_tests, put_here m x (Some e), put_other m x (Some e) c))

marked_out : (m : ℕ → Option ℕ) (cs : List ℕ) (e c : ℕ) → holds cs c ≡ false → marked m cs e c ≡ m c
marked_out m [] e c h = refl
marked_out m (x ∷ cs) e c h = grind (arith, nat_tests, marked_out (put m x (Some e)) cs e c, put_other m x (Some e) c)

pub spread_has : (g : Multigraph) (bs : List Blossom) (m : ℕ → Option ℕ) (e v c : ℕ) → IsEnd g e v → holds (chain_of bs v) c ≡ true → spread g bs m e c ≡ Some e
spread_has g bs m e v c end on = marked_in (marked m (chain_of bs (edge_of g e).u) e) (chain_of bs (edge_of g e).v) e c
    (grind (arith, end.end, marked_in m (chain_of bs (edge_of g e).u) e c))

-- a node holds an end of the edge, or none
pub spread_cases : (g : Multigraph) (bs : List Blossom) (m : ℕ → Option ℕ) (e c : ℕ) → All (IsEdgeWithin g.vertices) g.edges → IsEdgeNumber g e
    → ((v : ℕ) × IsEnd g e v × (holds (chain_of bs v) c ≡ true)) ⊎ (spread g bs m e c ≡ m c)
spread_cases g bs m e c ends is =
    let u : ℕ = (edge_of g e).u in let v : ℕ = (edge_of g e).v in
    by_test (holds (chain_of bs u) c)
    (λ t. inl (u, record { vertex = u_vertex g e ends is; end = inl refl }, t))
    (λ t. by_test (holds (chain_of bs v) c)
    (λ s. inl (v, record { vertex = v_vertex g e ends is; end = inr refl }, s))
    (λ s. inr (marked_out (marked m (chain_of bs u) e) (chain_of bs v) e c s ∙ marked_out m (chain_of bs u) e c t)))

-- an edge between two outermost nodes that have no other mate
module _ (g : Multigraph) (bs : List Blossom) (nested : IsNested g.vertices bs) (ends : All (IsEdgeWithin g.vertices) g.edges) (m : ℕ → Option ℕ) (e x y : ℕ)
    (is : IsEdgeNumber g e) (j : Joins g bs e x y) (at_x : (f : ℕ) → m x ≡ Some f → f ≡ e) (at_y : (f : ℕ) → m y ≡ Some f → f ≡ e) where
  abbrev m' : ℕ → Option ℕ
  m' = spread g bs m e

  iu : IsEnd g e (edge_of g e).u
  iu = record { vertex = u_vertex g e ends is; end = inl refl }

  iv : IsEnd g e (edge_of g e).v
  iv = record { vertex = v_vertex g e ends is; end = inr refl }

  top_of : (v : ℕ) → IsEnd g e v → (outermost bs v ≡ x) ⊎ (outermost bs v ≡ y)
  top_of v end = grind (arith, end.end, j)

  top_has : (v a : ℕ) → IsEnd g e v → outermost bs v ≡ a → m' a ≡ Some e
  top_has v a end o = spread_has g bs m e v a end (ap (holds (chain_of bs v)) (sym o) ∙ chain_has_top bs v)

  pub x_has : m' x ≡ Some e
  x_has = ⊎_elim (λ p. top_has (edge_of g e).u x iu p.0) (λ p. top_has (edge_of g e).v x iv p.1) j

  pub y_has : m' y ≡ Some e
  y_has = ⊎_elim (λ p. top_has (edge_of g e).v y iv p.1) (λ p. top_has (edge_of g e).u y iu p.0) j

  -- other outermost nodes keep theirs
  pub others_keep : (c : ℕ) → is_child bs c ≡ false → c ≢ x → c ≢ y → m' c ≡ m c
  others_keep c free not_x not_y = ⊎_elim
      (λ r. absurd (grind (arith, chain_top g.vertices bs r.0 c nested r.1.vertex r.2 free, top_of r.0 r.1))) (λ r. r) (spread_cases g bs m e c ends is)

  pub mates_keep : (a f : ℕ) → is_child bs a ≡ false → m a ≡ Some f → m' a ≡ Some f
  mates_keep a f free has = grind (arith, nat_tests, x_has, y_has, at_x f, at_y f, others_keep a free)

  pub still_bare : IsBare g bs m → IsBare g bs m'
  still_bare bare c f child has = ⊎_elim
      (λ r. let same : e ≡ f = same_Some e f (sym (spread_has g bs m e r.0 c r.1 r.2) ∙ has) in
      record { vertex = r.0; end = subst (λ k. IsEnd g k r.0) same r.1; holder = r.2; mate = top_has r.0 (outermost bs r.0) r.1 refl ∙ ap (λ z. Some z) same })
      (λ r. let s = bare c f child (sym r ∙ has) in
      record { vertex = s.vertex; end = s.end; holder = s.holder; mate = mates_keep (outermost bs s.vertex) f (outermost_free g.vertices bs s.vertex nested s.end.vertex) s.mate })
      (spread_cases g bs m e c ends is)

  joined_spread : (a : ℕ) → m' a ≡ Some e → IsSpread g bs m' a
  joined_spread a has f v c there end o on =
      let same : e ≡ f = same_Some e f (sym has ∙ there) in
      spread_has g bs m e v c (subst (λ k. IsEnd g k v) (sym same) end) on ∙ ap (λ z. Some z) same

  pub x_spread : IsSpread g bs m' x
  x_spread = joined_spread x x_has

  pub still_spread : (a : ℕ) → IsSpread g bs m a → IsSpread g bs m' a
  still_spread a old f v c there end o on = by_test (eqb a x)
      (λ s. joined_spread a (grind (arith, nat_tests, x_has)) f v c there end o on)
      (λ s. by_test (eqb a y)
      (λ t. joined_spread a (grind (arith, nat_tests, y_has)) f v c there end o on)
      (λ t. let keeps = others_keep a (ap (is_child bs) (sym o) ∙ outermost_free g.vertices bs v nested end.vertex) (eqb-false a x s) (eqb-false a y t) in
      let was = old f v c (sym keeps ∙ there) end o on in
      ⊎_elim
      (λ r. absurd (grind (arith, nat_tests, same_top g.vertices bs r.0 v c nested r.1.vertex end.vertex r.2 on, top_of r.0 r.1)))
      (λ r. r ∙ was)
      (spread_cases g bs m e c ends is)))

-- links of nodes without mates are paired
pub record PairsUp (g : Multigraph) (bs : List Blossom) (m n : ℕ → Option ℕ) (ls : List Link) : Type 0 where
  pub pairs : ArePaired n ls
  pub others : (c : ℕ) → in_ring ls c ≡ false → is_child bs c ≡ false → n c ≡ m c
  pub bare : IsBare g bs n
  pub spread : (a : ℕ) → IsSpread g bs n a

pub pairs_up : (g : Multigraph) (bs : List Blossom) (m : ℕ → Option ℕ) (ls : List Link) (z : ℕ) → IsNested g.vertices bs → All (IsEdgeWithin g.vertices) g.edges
    → IsChainTo g bs ls z → AllNew (nodes_of ls) → length ls % 2 ≡ 0
    → ((c : ℕ) → in_ring ls c ≡ true → is_child bs c ≡ false) → ((c : ℕ) → in_ring ls c ≡ true → m c ≡ None) → IsBare g bs m → ((a : ℕ) → IsSpread g bs m a)
    → PairsUp g bs m (paired (spread g bs) m None ls) ls
pairs_up g bs m [] z nested ends chain new even free none bare all = record { pairs = tt; others = λ c out f. refl; bare = bare; spread = all }
pairs_up g bs m (l ∷ []) z nested ends chain new even free none bare all = absurd (omega (arith, even))
pairs_up g bs m (l ∷ (k ∷ ls)) z nested ends chain new even free none bare all =
    let e : ℕ = l.edge in
    let here : in_ring (l ∷ (k ∷ ls)) l.node ≡ true = grind (arith, nat_tests) in
    let next : in_ring (l ∷ (k ∷ ls)) k.node ≡ true = grind (arith, nat_tests) in
    let later : (c : ℕ) → in_ring ls c ≡ true → in_ring (l ∷ (k ∷ ls)) c ≡ true = λ c r. grind (arith, nat_tests) in
    let p = or_parts (eqb k.node l.node) (in_ring ls l.node) new.0 in
    let at_l : (f : ℕ) → m l.node ≡ Some f → f ≡ e = λ f h. some_not_none f (sym h ∙ none l.node here) in
    let at_k : (f : ℕ) → m k.node ≡ Some f → f ≡ e = λ f h. some_not_none f (sym h ∙ none k.node next) in
    let keep = others_keep g bs nested ends m e l.node k.node chain.0 chain.1 at_l at_k in
    let apart = new.1.0 in
    let r = pairs_up g bs (spread g bs m e) ls z nested ends chain.2.2 new.1.1 (omega (arith, even)) (λ c i. free c (later c i))
    (λ c i. keep c (free c (later c i)) (grind (arith, p.1)) (grind arith) ∙ none c (later c i))
    (still_bare g bs nested ends m e l.node k.node chain.0 chain.1 at_l at_k bare) (λ a. still_spread g bs nested ends m e l.node k.node chain.0 chain.1 at_l at_k a (all a)) in
    record {
      pairs = (
        r.others l.node p.1 (free l.node here) ∙ x_has g bs nested ends m e l.node k.node chain.0 chain.1 at_l at_k,
        r.others k.node new.1.0 (free k.node next) ∙ y_has g bs nested ends m e l.node k.node chain.0 chain.1 at_l at_k,
        r.pairs,
      );
      others = λ c out f. grind (arith, nat_tests, r.others c, keep c f);
      bare = r.bare;
      spread = r.spread;
    }

-- without the newest blossom its child has the mate, and what is within has the child's
module _ (g : Multigraph) (b : Blossom) (older : List Blossom) (nested : IsNested g.vertices (b ∷ older)) (m : ℕ → Option ℕ) (bare : IsBare g (b ∷ older) m)
    (all : (a : ℕ) → IsSpread g (b ∷ older) m a) where
  pub older_bare : IsBare g older m
  older_bare c f child has =
      let s = bare c f (or_right (in_ring b.ring c) (is_child older c) child) has in
      let ne = λ (q : b.node ≡ c). both_ways (is_child older b.node) (new_free g.vertices b older nested).1 (ap (is_child older) q ∙ child) in
      record {
        vertex = s.vertex;
        end = s.end;
        holder = chain_before b older s.vertex c ne s.holder;
        mate = all (outermost (b ∷ older) s.vertex) f s.vertex (outermost older s.vertex) s.mate s.end refl
            (chain_grows b older s.vertex (outermost older s.vertex) (chain_has_top older s.vertex));
      }

  pub older_spread : (a : ℕ) → IsSpread g older m a
  older_spread a f v c has end o on = by_test (holds b.members v)
      (λ held.
      let r : in_ring b.ring a ≡ true = grind (arith, member_by_ring g.vertices older b v nested end.vertex) in
      let s = bare a f (or_left (in_ring b.ring a) (is_child older a) r) has in
      let above = chain_ring g.vertices b older s.vertex a nested s.end.vertex r s.holder in
      all b.node f v c (ap m (sym above.0) ∙ s.mate) end (ap (λ q. cond q b.node (outermost older v)) held) (chain_grows b older v c on))
      (λ out. all a f v c has end (ap (λ q. cond q b.node (outermost older v)) out ∙ o) (chain_grows b older v c on))
