-- An inner blossom of dual 0 is opened at the node that holds the end of its mate, and the way of even length between that
-- one and the node that holds the end of its parent comes into the tree: the state of a search is kept.
use Rattle.alt_forest.proofs.Common.{◌≡◌, ◌≢◌, ◌⊎◌, ℕ, suc, ◌+◌, ◌*◌, ◌<◌, ◌≤◌, ◌%◌, pos, ◌≤ℤ◌, true, false, eqb, List, [], ◌∷◌}
use Rattle.alt_forest.proofs.Common.{◌++◌, length, take, drop, Option, Some, None, refl, sym, ap, ap₂, ◌∙◌, subst, arith, append_assoc, length-append, ⊎_elim, inl, inr}
use Rattle.alt_forest.proofs.Common.{AllByRecursion, take_at, drop_at, drop_all, take-append-drop, length-take-le, eq-eqb, eqb-true, eqb-false, or_parts, or_left, or_right, or_cases}
use Rattle.alt_forest.proofs.Common.{both_ways, false_from_ne_true, same_Some, mul-le-mul_right, suc-mul, IsEdgeNumber, Link, Blossom, is_vertex, in_ring, outermost, nodes_of, without}
use Rattle.alt_forest.proofs.Common.{ring_of, older_than, AllNew, by_test, new_from_distinct, in_ring-append, nodes_of-append, each_link, new_parts, has_ring, outermost_has, each_without}
use Rattle.alt_forest.proofs.Common.{Label, Outer, Inner, Out, State, IsOutermost, Joins, IsTight, IsMate, FitsLabel, IsSearchState, dual_sum, next_node, IsChainTo, node_limit, up_edge}
use Rattle.alt_forest.proofs.Common.{up_edge_by, put, ArePaired, put_here, put_other, outer_not_inner, outer_not_out, inner_not_out, some_not_none, parity_refl, GoesRound, next_node-append}
use Rattle.alt_forest.proofs.Common.{joins_unique, mate_turned, mate_unique, partner_unique, tight_rings}
use Rattle.std.specs.Cmp.{both_ways as same_tests}
use Rattle.tree_steps.specs.Circuits.{before, mirror, last_edge}
use Rattle.tree_steps.specs.Expanded.{child_at, opened, mated, labelled_out, labels_up, parents_up, hung_up, IsRound, IsExpanded, AreRootsOpened}
use Rattle.tree_steps.proofs.Carried.{Hangs, Carries, carried_mate, carried_fits, known_by, rehung, mate_rehung}
use Rattle.tree_steps.proofs.Climbed.{IsOpenAt}
use Rattle.tree_steps.proofs.Expanded.{CanOpen, IsOpen, above, free, says, mate_of, hangs_by, base_found, entry_found, ring_limit, child_outermost, off, not_gone, stays_outer, opened_end}
use Rattle.tree_steps.proofs.Expanded.{slack_open, sum_open, roots_opened}
use Rattle.tree_steps.proofs.Elsewhere.{even_pairs, mated_other, mated_paired, paired_else, out_other, out_there, labels_up_other, parents_up_other, HangAlong, hang_along, end_of}
use Rattle.tree_steps.proofs.Elsewhere.{end_of_last, end_mirrored}
use Rattle.tree_steps.proofs.Ladders.{IsLadder, rung_at, ladder_parts, ladder_turned, climb, way_leads}
use Rattle.tree_steps.proofs.Mirror.{mirror_length, mirror_has, mirror_new}
use Rattle.tree_steps.proofs.Opened.{outermost_elsewhere, joins_opened, joins_elsewhere, joins_child, outer_opened, rings_without, ring_chain, ring_each_link}
use Rattle.tree_steps.proofs.DualSums.{WasExposed, agree_after}
use Rattle.tree_steps.proofs.Rounds.{parted_at, place_within, place_none, goes_round, leads_round, each_round}

-- The state after an expand is the state of a search.
pub record Expands (s t : State) (a : ℕ) : Type 0 where
  pub after : ℕ → ℕ
  pub state : IsSearchState t after
  pub is : IsExpanded s t a
  pub roots : AreRootsOpened s t a

-- the base of its circuit, and the links from behind that one round to it
pub record Opens (s : State) (depth : ℕ → ℕ) (a mate base edge : ℕ) (round : List Link) : Type 0 where
  pub possible : CanOpen s depth a
  pub mate_is : s.mate a ≡ Some mate
  pub base_is : base ≡ child_at s.graph s.blossoms a mate
  pub round_is : IsRound (ring_of s.blossoms a) base edge round

-- ranks multiplied leave room between them
room_between : (m n k : ℕ) → m < n → m * k + k ≤ n * k
room_between m n k h =
    let le : suc m * k ≤ n * k = mul-le-mul_right k h in let e : suc m * k ≡ m * k + k = suc-mul m k in
    omega (arith, le, e)

module _ {s : State} {depth : ℕ → ℕ} {a mate base edge : ℕ} {round : List Link} (k : Opens s depth a mate base edge round) where
  abbrev bs : List Blossom
  bs = s.blossoms

  abbrev ring : List Link
  ring = ring_of bs a

  abbrev t : State
  t = opened s a base round mate

  abbrev h : CanOpen s depth a
  h = k.possible

  pub goes : GoesRound ring base round
  goes =
      let here = has_ring s.graph.vertices bs a h.nested h.possible.blossom in
      goes_round ring base edge round k.round_is (new_from_distinct (nodes_of ring) here.circuit.different)

  -- behind it the base's link has the whole circuit
  pub round_whole : (c : ℕ) → in_ring (round ++ (record { node = base; edge = edge } ∷ [])) c ≡ in_ring ring c
  round_whole c =
      let link : Link = record { node = base; edge = edge } in
      let parts = in_ring-append round (link ∷ []) c in
      same_tests (in_ring (round ++ (link ∷ [])) c) (in_ring ring c)
      (λ r. ⊎_elim (goes.inside c) (λ q. ⊎_elim (λ e. ap (in_ring ring) (sym (eqb-true base c e)) ∙ goes.base_in) (λ e. absurd (both_ways false refl e))
      (or_cases (eqb base c) false q))
      (or_cases (in_ring round c) (in_ring (link ∷ []) c) (sym parts ∙ r)))
      (λ r. parts ∙ ⊎_elim (λ q. or_right (in_ring round c) (in_ring (link ∷ []) c) (or_left (eqb base c) false (eq-eqb base c (sym q)))) (or_left (in_ring round c)
      (in_ring (link ∷ []) c))
      (goes.all c r))

  pub round_even : length round % 2 ≡ 0
  round_even = let here = has_ring s.graph.vertices bs a h.nested h.possible.blossom in omega (arith, goes.size, here.circuit.odd)

  pub round_low : AllByRecursion (λ (l : Link). l.node ≤ node_limit s.graph.vertices) round
  round_low = each_link (λ c. c ≤ node_limit s.graph.vertices) round (λ c i. ring_limit h c (goes.inside c i))

  links_inside : AllByRecursion (λ (l : Link). in_ring ring l.node ≡ true) round
  links_inside = each_link (λ c. in_ring ring c ≡ true) round goes.inside

  base_in : in_ring ring base ≡ true
  base_in = ap (in_ring ring) k.base_is ∙ base_found h mate k.mate_is

  is_mate : IsMate s a mate (says h).child
  is_mate = mate_of h mate k.mate_is

  tight_now : (f : ℕ) → IsTight s f → IsTight t f
  tight_now f q = record { edge = q.edge; tight = slack_open h f ∙ q.tight }

  -- what is not on the circuit keeps its mate and label
  not_base : (c : ℕ) → in_ring ring c ≡ false → c ≢ base
  not_base c out q = both_ways (in_ring ring c) out (ap (in_ring ring) q ∙ base_in)

  not_round : (c : ℕ) → in_ring ring c ≡ false → in_ring round c ≡ false
  not_round c out = false_from_ne_true (in_ring round c) (λ i. both_ways (in_ring ring c) out (goes.inside c i))

  mate_kept : (c : ℕ) → in_ring ring c ≡ false → t.mate c ≡ s.mate c
  mate_kept c out = put_other (mated s.mate round) base (Some mate) c (not_base c out) ∙ mated_other s.mate round c (not_round c out)

  label_kept : (c : ℕ) → in_ring ring c ≡ false → t.label c ≡ s.label c
  label_kept c out = put_other (labelled_out s.label round) base Inner c (not_base c out) ∙ out_other s.label round c (not_round c out)

  base_mate_is : t.mate base ≡ Some mate
  base_mate_is = put_here (mated s.mate round) base (Some mate)

  base_inner : t.label base ≡ Inner
  base_inner = put_here (labelled_out s.label round) base Inner

  round_out : (c : ℕ) → in_ring round c ≡ true → t.label c ≡ Out
  round_out c r = put_other (labelled_out s.label round) base Inner c (λ q. both_ways (in_ring round base) goes.base_apart (ap (in_ring round) (sym q) ∙ r))
      ∙ out_there s.label round c r

  -- the rest of the circuit is a ladder
  next_inside : (ls : List Link) → AllByRecursion (λ (l : Link). in_ring ring l.node ≡ true) ls → in_ring ring (next_node ls base) ≡ true
  next_inside [] each = base_in
  next_inside (l ∷ ls) each = each.0

  joins_now : (f x y : ℕ) → IsEdgeNumber s.graph f → in_ring ring x ≡ true → in_ring ring y ≡ true → Joins s.graph (older_than bs a) f x y → Joins s.graph
      (without bs a) f x y
  joins_now f x y is rx ry j = joins_opened s.graph bs a f x y h.graph h.nested (above h) (free h) is rx ry j

  ladder_from : (ls : List Link) → IsChainTo s.graph (older_than bs a) ls base → AllByRecursion (λ (l : Link). IsTight s l.edge) ls
      → AllByRecursion (λ (l : Link). in_ring ring l.node ≡ true) ls → AllNew (nodes_of ls) → ArePaired t.mate ls → IsLadder t ls base
  ladder_from [] chain tight inside new paired = tt
  ladder_from (x ∷ []) chain tight inside new paired = absurd paired
  ladder_from (x ∷ (y ∷ ls)) chain tight inside new paired = (
    record {
      is = child_outermost h x.node inside.0;
      mate = paired.0;
      is_mate = record {
        edge = chain.0;
        joins = joins_now x.edge x.node y.node chain.0 inside.0 inside.1.0 chain.1;
        different = λ q. eqb-false y.node x.node (or_parts (eqb y.node x.node) (in_ring ls x.node) new.0).0 (sym q);
        tight = slack_open h x.edge ∙ tight.0.tight;
        outermost = child_outermost h y.node inside.1.0;
        back = paired.1;
      };
    },
    tight_now y.edge tight.1.0,
    joins_now y.edge y.node (next_node ls base) chain.2.0 inside.1.0 (next_inside ls inside.1.1) chain.2.1,
    ladder_from ls chain.2.2 tight.1.1 inside.1.1 new.1.1 paired.2,
  )

  leads : IsChainTo s.graph (older_than bs a) round base × Joins s.graph (older_than bs a) edge base (next_node round base)
  leads = let r = leads_round ring base edge round k.round_is s.graph (older_than bs a) (ring_chain s.graph bs a h.state.rings) in (r.chain, r.next)

  tight_links : IsTight s edge × AllByRecursion (λ (l : Link). IsTight s l.edge) round
  tight_links = each_round ring base edge round k.round_is (λ (l : Link). IsTight s l.edge) (ring_each_link (λ (l : Link). IsTight s l.edge) bs a h.state.tight_rings)

  ladder : IsLadder t round base
  ladder = ladder_from round leads.0 tight_links.1 links_inside goes.different
      (paired_else (mated s.mate round) base (Some mate) round goes.base_apart (mated_paired s.mate round (even_pairs round round_even) goes.different))

  -- where a node comes: the blossom gives way to its base
  abbrev lift : ℕ → ℕ
  lift = put (λ c. c) a base

  lift_other : (c : ℕ) → c ≢ a → lift c ≡ c
  lift_other c ne = put_other (λ x. x) a base c ne

  abbrev times : ℕ
  times = length round + 1

  abbrev ranks : ℕ → ℕ
  ranks = put (λ c. depth c * times) base (depth a * times)

  rank_old : (c : ℕ) → IsOutermost s c → ranks c ≡ depth c * times
  rank_old c is = put_other (λ x. depth x * times) base (depth a * times) c (not_base c (off h c is))

  rank_base : ranks base ≡ depth a * times
  rank_base = put_here (λ x. depth x * times) base (depth a * times)

  -- by lifting neither rank nor label changes
  lifted : (P : ℕ → ℕ → Type 0) → P a base → ((c : ℕ) → c ≢ a → IsOutermost s c → P c c) → (c : ℕ) → IsOutermost s c → P c (lift c)
  lifted P at_blossom else c is = by_test (eqb c a)
      (λ q. let same : c ≡ a = eqb-true c a q in subst (λ x. P x (lift x)) (sym same) (subst (P a) (sym (put_here (λ x. x) a base)) at_blossom))
      (λ q. let other : c ≢ a = eqb-false c a q in subst (P c) (sym (lift_other c other)) (else c other is))

  lift_rank : (c : ℕ) → IsOutermost s c → ranks (lift c) ≡ depth c * times
  lift_rank = lifted (λ c x. ranks x ≡ depth c * times) rank_base (λ c ne is. rank_old c is)

  lift_label : (c : ℕ) → IsOutermost s c → t.label (lift c) ≡ s.label c
  lift_label = lifted (λ c x. t.label x ≡ s.label c) (base_inner ∙ sym h.possible.inner) (λ c ne is. label_kept c (off h c is))

  abbrev w : ℕ
  w = (says h).child

  base_mate : IsMate t base mate w
  base_mate = record {
    edge = is_mate.edge;
    joins = subst (λ x. Joins s.graph (without bs a) mate x w) (sym k.base_is) (joins_child s.graph bs a mate w h.graph (above h) is_mate.edge is_mate.different is_mate.joins);
    different = λ q. not_base w (off h w is_mate.outermost) (sym q);
    tight = slack_open h mate ∙ is_mate.tight;
    outermost = stays_outer h w is_mate.outermost (λ q. is_mate.different (sym q));
    back = mate_kept w (off h w is_mate.outermost) ∙ is_mate.back;
  }

  mate_after : (c f d : ℕ) → IsOutermost s c → c ≢ a → s.mate c ≡ Some f → IsMate s c f d → IsMate t c f (lift d)
  mate_after c f d is nc has v = lifted (λ d x. IsMate s c f d → IsMate t c f x)
      (λ v.
      let it : mate ≡ f = same_Some mate f (sym k.mate_is ∙ v.back) in
      let from : w ≡ c = partner_unique s w mate c f a (mate_turned s a mate w h.possible.outermost k.mate_is is_mate) v in
      subst (λ g. IsMate t c g base) it (subst (λ x. IsMate t x mate base) from (mate_turned t base mate w (child_outermost h base base_in) base_mate_is base_mate)))
      (λ d other d_is v. record {
        edge = v.edge;
        joins = joins_elsewhere s.graph bs a f c d nc other v.joins;
        different = v.different;
        tight = slack_open h f ∙ v.tight;
        outermost = stays_outer h d d_is other;
        back = mate_kept d (off h d d_is) ∙ v.back;
      })
      d v.outermost v

  -- what is outermost now was so before, or is the base, or lies on the rest of the circuit
  sorted : {P : Type 0} (c : ℕ) → IsOutermost t c → (IsOutermost s c → c ≢ a → P) → (c ≡ base → P) → (in_ring round c ≡ true → P) → P
  sorted c is old at_base later = ⊎_elim (λ was. old was (not_gone h c is)) (λ r. ⊎_elim at_base later (goes.all c r)) (outer_opened s.graph.vertices bs a c is (not_gone h c is))

  carries : (p : ℕ → Option ℕ) (c : ℕ) → IsOutermost s c → c ≢ a → Carries s (rehung t t.label p) depth ranks lift c
  carries p c is nc = record {
    label = label_kept c (off h c is);
    mate = mate_kept c (off h c is);
    mates = λ f d has v. record {
      is_mate = mate_rehung t t.label p c f (lift d) (mate_after c f d is nc has v);
      label = lift_label d v.outermost;
      falls = λ low. omega (arith, lift_rank d v.outermost, rank_old c is, room_between (depth d) (depth c) times low);
      rises = λ low. omega (arith, lift_rank d v.outermost, rank_old c is, room_between (depth c) (depth d) times low);
    };
    hangs = λ f d lab u.
        let other : d ≢ a = λ q. outer_not_inner (sym u.outer ∙ ap s.label q ∙ h.possible.inner) in
        subst (Hangs (rehung t t.label p) ranks c f) (sym (lift_other d other)) (record {
          is_edge = u.is_edge;
          joins = joins_elsewhere s.graph bs a f c d nc other u.joins;
          tight = slack_open h f ∙ u.tight;
          up_is = stays_outer h d u.up_is other;
          outer = label_kept d (off h d u.up_is) ∙ u.outer;
          falls = omega (arith, rank_old d u.up_is, rank_old c is, room_between (depth d) (depth c) times u.falls);
        });
  }

  mates_now : (c f : ℕ) → IsOutermost t c → t.mate c ≡ Some f → (d : ℕ) × IsMate t c f d
  mates_now c f is has = sorted c is
      (λ was nc. carried_mate s t depth ranks lift c (carries t.parent c was nc) (λ e. h.state.mates c e was) f has)
      (λ q. let it : mate ≡ f = same_Some mate f (sym base_mate_is ∙ ap t.mate (sym q) ∙ has) in
      (w, subst (λ g. IsMate t c g w) it (subst (λ x. IsMate t x mate w) (sym q) base_mate))) (λ r. let g = rung_at t round base c ladder r in
      (g.other, subst (λ e. IsMate t c e g.other) (same_Some g.edge f (sym g.rung.mate ∙ has)) g.rung.is_mate))

  -- once the blossom is open all fit but the base, whatever the parents on the circuit are
  opened_at : (p : ℕ → Option ℕ) → ((c : ℕ) → in_ring ring c ≡ false → p c ≡ s.parent c) → IsOpenAt (rehung t t.label p) ranks base
  opened_at p parents = record {
    fits = λ c is nb. sorted c is
        (λ was nc. carried_fits s (rehung t t.label p) depth ranks lift c (carries p c was nc) (parents c (off h c was))
        (known_by s (rehung t t.label p) depth ranks lift c (carries p c was nc) (λ e. h.state.mates c e was)) (h.state.labels c was))
        (λ q. absurd (nb q))
        (λ r. record {
          outer = λ lab. outer_not_out (sym lab ∙ round_out c r);
          inner = λ lab. inner_not_out (sym lab ∙ round_out c r);
          out = λ lab f b has v.
              let g = rung_at t round base c ladder r in
              let it : g.other ≡ b = mate_unique t c g.edge g.other f b g.rung.mate has g.rung.is_mate (mate_rehung (rehung t t.label p) t.label t.parent c f b v) in
              ap t.label (sym it) ∙ round_out g.other g.inside;
        });
    inner = base_inner;
    is_outer = child_outermost h base base_in;
    child = record {
      edge = mate;
      child = w;
      mate = base_mate_is;
      is_mate = mate_rehung t t.label p base mate w base_mate;
      outer = label_kept w (off h w is_mate.outermost) ∙ (says h).child_outer;
      rises = omega (arith, rank_base, rank_old w is_mate.outermost, room_between (depth a) (depth w) times (says h).rises);
    };
  }

  -- the dual sum of a vertex stays, and so does what is exposed, since all nodes of the circuit have mates
  child_mated : (c : ℕ) → in_ring ring c ≡ true → (e : ℕ) × (t.mate c ≡ Some e)
  child_mated c r = ⊎_elim (λ q. (mate, ap t.mate q ∙ base_mate_is)) (λ i. let g = rung_at t round base c ladder i in (g.edge, g.rung.mate)) (goes.all c r)

  was_exposed : (v : ℕ) → is_vertex s.graph.vertices v ≡ true → t.mate (outermost (without bs a) v) ≡ None → WasExposed s v
  was_exposed v iv none = by_test (eqb (outermost bs v) a)
      (λ q. let m = child_mated (outermost (without bs a) v) (opened_end h v iv (eqb-true (outermost bs v) a q)) in some_not_none m.0 (sym m.1 ∙ none))
      (λ q.
      let stays : outermost (without bs a) v ≡ outermost bs v = outermost_elsewhere bs a v (eqb-false (outermost bs v) a q) in
      record {
        at = v;
        vertex = iv;
        exposed = sym (mate_kept (outermost bs v) (off h (outermost bs v) (outermost_has s.graph.vertices bs v h.nested iv).0)) ∙ ap t.mate (sym stays) ∙ none;
        agree = parity_refl (dual_sum s v);
      })

  -- the whole of it, where all labels fit
  whole : (l : ℕ → Label) (p : ℕ → Option ℕ) (after : ℕ → ℕ) → ((c : ℕ) → IsOutermost t c → FitsLabel (rehung t l p) after c) → IsSearchState (rehung t l p) after
  whole l p after fits = record {
    rings = rings_without s.graph bs a (omega (arith, above h)) (free h) h.state.rings;
    tight_rings = tight_rings s (rehung t l p) (λ e x. record { edge = x.edge; tight = slack_open h e ∙ x.tight }) (without bs a) (each_without _ bs a h.state.tight_rings);
    slacks = λ f is. subst (λ z. pos 0 ≤ℤ z) (sym (slack_open h f)) (h.state.slacks f is);
    duals = each_without _ bs a h.state.duals;
    mates = λ c f is has. let m = mates_now c f is has in (m.0, mate_rehung t l p c f m.0 m.1);
    parity = agree_after s (rehung t l p) refl h.state.parity (λ v iv. sum_open h v) was_exposed;
    labels = fits;
  }

  -- A way of even length from the base up to where the blossom hung.
  pub record IsWay (parent first z : ℕ) (ls : List Link) : Type 0 where
    pub inside : (c : ℕ) → in_ring ls c ≡ true → in_ring round c ≡ true
    pub different : AllNew (nodes_of ls)
    pub even : length ls % 2 ≡ 0
    pub short : length ls ≤ length round
    pub ladder : IsLadder t ls z
    pub first_tight : IsTight t first
    pub first_joins : Joins s.graph (without bs a) first base (next_node ls z)
    pub end_joins : Joins s.graph (without bs a) parent (end_of base ls) (says h).up

  module _ {parent first z : ℕ} {ls : List Link} (parent_is : s.parent a ≡ Some parent) (v : IsWay parent first z ls) where
    abbrev l : ℕ → Label
    l = labels_up t.label ls

    abbrev p : ℕ → Option ℕ
    p = parents_up s.parent base first parent ls

    apart : (c : ℕ) → in_ring round c ≡ false → in_ring ls c ≡ false
    apart c out = false_from_ne_true (in_ring ls c) (λ i. both_ways (in_ring round c) out (v.inside c i))

    label_kept_on : (c : ℕ) → in_ring ring c ≡ false → l c ≡ s.label c
    label_kept_on c out = labels_up_other t.label ls c (apart c (not_round c out)) ∙ label_kept c out

    parent_kept : (c : ℕ) → in_ring ring c ≡ false → p c ≡ s.parent c
    parent_kept c out = parents_up_other s.parent base first parent ls c (not_base c out) (apart c (not_round c out))

    along : HangAlong p base first parent ls
    along = hang_along s.parent base first parent ls (apart base goes.base_apart) v.different

    climbed : (after : ℕ → ℕ) × ((c : ℕ) → IsOutermost t c → FitsLabel (rehung t l p) after c)
    climbed =
        let up : ℕ = (says h).up in let hangs = hangs_by h parent parent_is in
        climb t p z ls t.label ranks base first parent up (opened_at p parent_kept) v.ladder along v.first_tight v.first_joins
        (λ c i. round_out c (v.inside c i)) v.different (tight_now parent (record { edge = hangs.is_edge; tight = hangs.tight })) v.end_joins
        (stays_outer h up hangs.up_is (λ q. outer_not_inner (sym hangs.outer ∙ ap s.label q ∙ h.possible.inner))) (label_kept up (off h up hangs.up_is) ∙ hangs.outer)
        (omega (arith, v.short, rank_old up hangs.up_is, rank_base, room_between (depth up) (depth a) times hangs.falls))

    -- the edge up from a node of the circuit stays on it, or is the one by which the blossom hung
    leads_out : (c f d : ℕ) → in_ring ring c ≡ true → up_edge (rehung t l p) c ≡ Some f → IsEdgeNumber s.graph f → Joins s.graph (without bs a) f c d
        → (in_ring ring d ≡ true) ⊎ (s.parent a ≡ Some f)
    leads_out c f d r way is j = by_label (l c) refl
      where
        by_label : (x : Label) → l c ≡ x → (in_ring ring d ≡ true) ⊎ (s.parent a ≡ Some f)
        by_label Outer lab = ⊎_elim
            (λ q. outer_not_inner (sym lab ∙ ap l q ∙ labels_up_other t.label ls base (apart base goes.base_apart) ∙ base_inner))
            (λ i.
            let g = rung_at t round base c ladder i in
            let has : t.mate c ≡ Some f = sym (ap (λ x. up_edge_by (rehung t l p) x c) lab) ∙ way in
            let joins : Joins s.graph (without bs a) f c g.other = subst (λ x. Joins s.graph (without bs a) x c g.other)
            (same_Some g.edge f (sym g.rung.mate ∙ has)) g.rung.is_mate.joins in
            inl (ap (in_ring ring) (sym (joins_unique s.graph (without bs a) f c g.other d joins j g.rung.is_mate.different)) ∙ goes.inside g.other g.inside))
            (goes.all c r)
        by_label Inner lab =
            let on : (c ≡ base) ⊎ (in_ring ls c ≡ true) = ⊎_elim (λ q. inl q)
            (λ i. by_test (in_ring ls c) (λ y. inr y) (λ out. inner_not_out (sym lab ∙ labels_up_other t.label ls c out ∙ round_out c i))) (goes.all c r) in
            ⊎_elim (λ i. inl (goes.inside d (v.inside d i))) (λ e. inr (parent_is ∙ ap (λ x. Some x) e))
            (way_leads t p z ls t.label base first parent c f d v.ladder along v.first_joins (apart base goes.base_apart) v.different on lab
            (sym (ap (λ x. up_edge_by (rehung t l p) x c) lab) ∙ way) j)
        by_label Out lab = some_not_none f (sym way ∙ ap (λ x. up_edge_by (rehung t l p) x c) lab)

    goes_way : Expands s (hung_up t base first parent ls) a
    goes_way =
        let state : IsSearchState (rehung t l p) climbed.0 = whole l p climbed.0 climbed.1 in
        let is : IsExpanded s (rehung t l p) a = record {
          graph = refl;
          weighted = refl;
          blossoms = refl;
          dual = refl;
          labels = label_kept_on;
          parents = parent_kept;
          mates = mate_kept;
          mated = child_mated;
          outer = λ c is lab. label_kept_on c (off h c is) ∙ lab;
        } in
        let o : IsOpen s depth a l p t.mate = record { possible = h; is = is } in
        record { after = climbed.0; state = state; is = is; roots = roots_opened o climbed.0 state leads_out }

  module _ (parent entry place : ℕ) (parent_is : s.parent a ≡ Some parent) (entry_is : entry ≡ child_at s.graph bs a parent) (place_is : place ≡ length
      (before (nodes_of round) entry)) where
    entry_joins : Joins s.graph (without bs a) parent entry (says h).up
    entry_joins =
        let hangs = hangs_by h parent parent_is in
        let apart : a ≢ (says h).up = λ e. outer_not_inner (sym hangs.outer ∙ ap s.label (sym e) ∙ h.possible.inner) in
        subst (λ x. Joins s.graph (without bs a) parent x (says h).up) (sym entry_is) (joins_child s.graph bs a parent (says h).up h.graph (above h) hangs.is_edge apart hangs.joins)

    -- behind all links where the entry is the base
    at_end : in_ring round entry ≡ false → (place ≡ length round) × (entry ≡ base)
    at_end out = (
      place_is ∙ place_none round entry out,
      ⊎_elim (λ q. q) (λ i. absurd (both_ways (in_ring round entry) out i)) (goes.all entry (ap (in_ring ring) entry_is ∙ entry_found h parent parent_is)),
    )

    place_low : place ≤ length round
    place_low = by_test (in_ring round entry) (λ i. omega (arith, place_within round entry place i place_is)) (λ o. omega (arith, (at_end o).0))

    module _ (xs ys : List Link) (split : round ≡ xs ++ ys) (even : length xs % 2 ≡ 0) where
      ladders : IsLadder t xs (next_node ys base) × IsLadder t ys base
      ladders = ladder_parts t xs ys base (even_pairs xs even) (subst (λ ls. IsLadder t ls base) split ladder)

      part_in : (c : ℕ) → (in_ring xs c ≡ true) ⊎ (in_ring ys c ≡ true) → in_ring round c ≡ true
      part_in c i = ap (λ ls. in_ring ls c) split ∙ in_ring-append xs ys c ∙ ⊎_elim (or_left (in_ring xs c) (in_ring ys c)) (or_right (in_ring xs c) (in_ring ys c)) i

      sizes : length round ≡ length xs + length ys
      sizes = ap length split ∙ length-append xs ys

      -- up by the first links of the circuit
      way_up : end_of base xs ≡ entry → IsWay parent edge (next_node ys base) xs
      way_up ends = record {
        inside = λ c i. part_in c (inl i);
        different = (new_parts (nodes_of xs) (nodes_of ys) (subst AllNew (ap nodes_of split ∙ nodes_of-append xs ys) goes.different)).left;
        even = even;
        short = omega (arith, sizes);
        ladder = ladders.0;
        first_tight = tight_now edge tight_links.0;
        first_joins = subst (Joins s.graph (without bs a) edge base) (ap (λ ls. next_node ls base) split ∙ next_node-append xs ys base)
            (joins_now edge base (next_node round base) tight_links.0.edge base_in (next_inside round links_inside) leads.1);
        end_joins = subst (λ x. Joins s.graph (without bs a) parent x (says h).up) (sym ends) entry_joins;
      }

      -- up by the last ones, the other way round
      way_down : next_node ys base ≡ entry → IsWay parent (last_edge parent ys) (says h).up (mirror parent ys [])
      way_down first =
          let hangs = hangs_by h parent parent_is in
          let start : Joins s.graph (without bs a) parent (next_node ys base) (says h).up = subst (λ x. Joins s.graph (without bs a) parent x (says h).up) (sym first) entry_joins in
          let turned = ladder_turned t parent ys [] base (says h).up ladders.1 (tight_now parent (record { edge = hangs.is_edge; tight = hangs.tight })) start tt in
          let news = new_parts (nodes_of xs) (nodes_of ys) (subst AllNew (ap nodes_of split ∙ nodes_of-append xs ys) goes.different) in
          let evens : length ys % 2 ≡ 0 = omega (arith, sizes, even, round_even) in
          record {
            inside = λ c i. part_in c (inr (⊎_elim (λ q. q) (λ none. absurd (both_ways false refl none)) (or_cases (in_ring ys c) false (sym (mirror_has parent ys [] c) ∙ i))));
            different = mirror_new parent ys [] news.right tt (λ c r. refl);
            even = omega (arith, mirror_length parent ys [], evens);
            short = omega (arith, mirror_length parent ys [], sizes);
            ladder = turned.0;
            first_tight = turned.1;
            first_joins = turned.2;
            end_joins = subst (λ x. Joins s.graph (without bs a) parent x (says h).up) (sym (end_mirrored base parent ys evens)) start;
          }

    first_is : next_node (drop place round) base ≡ entry
    first_is = by_test (in_ring round entry)
        (λ i. let p = parted_at round entry place i place_is in
        ap (λ ls. next_node ls base) (ap₂ (λ (n : ℕ) (ls : List Link). drop n ls) (sym p.place) p.split ∙ drop_at p.front (p.link ∷ p.behind) (length p.front) refl) ∙ p.node)
        (λ o. ap (λ (ls : List Link). next_node ls base) (drop_all place round (omega (arith, (at_end o).0))) ∙ sym (at_end o).1)

    last_is : place % 2 ≡ 1 → end_of base (take (place + 1) round) ≡ entry
    last_is odd = by_test (in_ring round entry)
        (λ i. let p = parted_at round entry place i place_is in
        let one : List Link = p.link ∷ [] in
        let whole : round ≡ (p.front ++ one) ++ p.behind = p.split ∙ sym (append_assoc p.front one p.behind) in
        let count : length (p.front ++ one) ≡ place + 1 = length-append p.front one ∙ ap (λ m. m + 1) p.place in
        ap (λ (ls : List Link). end_of base (take (place + 1) ls)) whole ∙ ap (end_of base) (take_at (p.front ++ one) p.behind (place + 1) count)
        ∙ end_of_last base p.front p.link (ap (λ m. m % 2) p.place ∙ odd) ∙ p.node)
        (λ o. absurd (omega (arith, (at_end o).0, odd, round_even)))

    -- the way of even length
    pub goes_even_way : (u : State) → (place % 2 ≡ 0 → u ≡ hung_up t base (last_edge parent (drop place round)) parent (mirror parent (drop place round) []))
        → (place % 2 ≡ 1 → u ≡ hung_up t base edge parent (take (place + 1) round)) → Expands s u a
    goes_even_way u down up = by_test (eqb (place % 2) 0)
        (λ q.
        let even = eqb-true (place % 2) 0 q in let xs : List Link = take place round in
        let ys : List Link = drop place round in
        let size : length xs ≡ place = length-take-le place round place_low in
        subst (λ x. Expands s x a) (sym (down even)) (goes_way parent_is
        (way_down xs ys (sym (take-append-drop place round)) (omega (arith, size, even)) first_is)))
        (λ q.
        let ne = eqb-false (place % 2) 0 q in let odd : place % 2 ≡ 1 = omega (arith, ne) in
        let xs : List Link = take (place + 1) round in let ys : List Link = drop (place + 1) round in
        let size : length xs ≡ place + 1 = length-take-le (place + 1) round (omega (arith, place_low, odd, round_even)) in
        subst (λ x. Expands s x a) (sym (up odd)) (goes_way parent_is
        (way_up xs ys (sym (take-append-drop (place + 1) round)) (omega (arith, size, odd)) (last_is odd))))
