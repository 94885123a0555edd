-- What the plain check finds makes up the state of a search.
use Rattle.alt_forest.proofs.Common.{◌≡◌, ◌≢◌, ℕ, suc, ◌+◌, ◌-◌, ◌<◌, ◌≤◌, pos, true, false, eqb, List, [], ◌∷◌, length, refl, sym, ap, ◌∙◌}
use Rattle.alt_forest.proofs.Common.{subst, arith, ⊎_elim, inl, inr, Option, Some, None, ◌≤ℤ◌, AllByRecursion, both_ways, eqb-true, eqb-false, eq-eqb, ne_eqb, IsEdgeNumber, holds}
use Rattle.alt_forest.proofs.Common.{Link, Blossom, IsNested, names_of, ring_of, older_than, AllNew, by_test, first_in, later_in, names_new, older_name, here, past, Label, Outer, Inner, Out}
use Rattle.alt_forest.proofs.Common.{State, IsOutermost, IsTight, Joins, slack_of, HasRings, IsRing, IsMate, FitsLabel, ExposedAgree, IsSearchState, other_node, node_limit, far_end}
use Rattle.alt_forest.proofs.Common.{up_edge_by, up_edge, up_of, path_within, path_of, some_not_none, other_node_joins, path_step, path_none, path_enough, path_short, same_Some}
use Rattle.state_check.specs.Checks.{RingHolds, MateHolds, FitsHere}

-- all rings
-- the rings of these, each over those older than it
record AreRings (s : State) (bs : List Blossom) (x : ℕ) : Type 0 where
  ring : IsRing s.graph (older_than bs x) (ring_of bs x)
  tight : AllByRecursion (λ (l : Link). IsTight s l.edge) (ring_of bs x)

pub record AllRings (s : State) (bs : List Blossom) : Type 0 where
  pub rings : HasRings s.graph bs
  pub tight : AllByRecursion (λ (b : Blossom). AllByRecursion (λ (l : Link). IsTight s l.edge) b.ring) bs

all_rings : (s : State) (bs : List Blossom) → AllNew (names_of bs) → ((x : ℕ) → holds (names_of bs) x ≡ true → AreRings s bs x) → AllRings s bs
all_rings s [] new each = record { rings = tt; tight = tt }
all_rings s (b ∷ older) new each =
    let newest = each b.node (first_in b.node (names_of older)) in
    let at = here b older b.node (eq-eqb b.node b.node refl) in
    let rest = all_rings s older new.1 (λ x e.
    let r = each x (later_in b.node (names_of older) x e) in
    let later = past b older x (ne_eqb b.node x (λ same. both_ways (holds (names_of older) b.node) new.0 (ap (holds (names_of older)) same ∙ e))) in
    record {
      ring = subst (λ (k : List Link). IsRing s.graph (older_than older x) k) later.ring_is (subst (λ (bs : List Blossom). IsRing s.graph bs (ring_of (b ∷ older) x)) later.older_is r.ring);
      tight = subst (AllByRecursion (λ (l : Link). IsTight s l.edge)) later.ring_is r.tight;
    }) in
    record {
      rings = (
        subst (λ (k : List Link). IsRing s.graph older k) at.ring_is (subst (λ (bs : List Blossom). IsRing s.graph bs (ring_of (b ∷ older) b.node)) at.older_is newest.ring),
        rest.rings,
      );
      tight = (subst (AllByRecursion (λ (l : Link). IsTight s l.edge)) at.ring_is newest.tight, rest.tight);
    }

pub rings_from : (s : State) → IsNested s.graph.vertices s.blossoms → ((x : ℕ) → holds (names_of s.blossoms) x ≡ true → RingHolds s x) → AllRings s s.blossoms
rings_from s nested each = all_rings s s.blossoms (names_new s.graph.vertices s.blossoms nested) (λ x e. let r = each x e in record { ring = r.ring; tight = r.tight })

-- the number of nodes to the root ranks the nodes
abbrev pub way_length : State → ℕ → ℕ
way_length s a = length (path_of s a)

way_falls : (s : State) (a b : ℕ) → a ≢ 0 → up_of s a ≡ b → way_length s a ≤ node_limit s.graph.vertices → way_length s b < way_length s a
way_falls s a b ne up short =
    let n : ℕ = node_limit s.graph.vertices in
    let steps : n + 1 ≢ 0 = λ e. absurd (omega (arith, e)) in
    let one : (n + 1) - 1 ≡ n = omega arith in
    let step : path_of s a ≡ a ∷ path_within n s b = path_step (n + 1) s a steps ne ∙ ap (λ k. a ∷ path_within k s (up_of s a)) one ∙ ap (λ x. a ∷ path_within n s x) up in
    let size : way_length s a ≡ suc (length (path_within n s b)) = ap length step in
    let rest : length (path_within n s b) < n = omega (arith, size, short) in
    let same : way_length s b ≡ length (path_within n s b) = ap length (path_enough n s b rest) in
    omega (arith, size, same)

-- what the check finds
pub record IsChecked (s : State) : Type 0 where
  pub nested : IsNested s.graph.vertices s.blossoms
  pub some : (a : ℕ) → IsOutermost s a → a ≢ 0
  pub far : (e a : ℕ) → IsEdgeNumber s.graph e → IsOutermost s (other_node s.graph s.blossoms e a)
  pub rings : (x : ℕ) → holds (names_of s.blossoms) x ≡ true → RingHolds s x
  pub slacks : (e : ℕ) → IsEdgeNumber s.graph e → pos 0 ≤ℤ slack_of s e
  pub duals : AllByRecursion (λ (b : Blossom). pos 0 ≤ℤ s.dual b.node) s.blossoms
  pub mates : (a : ℕ) → IsOutermost s a → MateHolds s a
  pub parity : ExposedAgree s
  pub labels : (a : ℕ) → IsOutermost s a → FitsHere s a
  pub ends : (a : ℕ) → IsOutermost s a → way_length s a ≤ node_limit s.graph.vertices

-- an edge that joins a node to another and to itself
pub far_unique : (s : State) (a e b : ℕ) → IsMate s a e b → other_node s.graph s.blossoms e a ≡ b
far_unique s a e b m = other_node_joins s.graph s.blossoms e a b m.joins m.different

fits_label : (s : State) → IsChecked s → (a : ℕ) → IsOutermost s a → FitsLabel s (way_length s) a
fits_label s h a is = record {
  outer = λ l e b has m.
      let far = far_unique s a e b m in (
        sym (ap s.label far) ∙ (h.labels a is).outer l e has,
        way_falls s a b (h.some a is) (ap (λ l. far_end s (up_edge_by s l a) a) l ∙ ap (λ o. far_end s o a) has ∙ far) (h.ends a is),
      );
  inner = λ l.
      let i = (h.labels a is).inner l in
      let f : ℕ = i.mated.0 in
      let m = h.mates a is f i.mated.1 in
      let c : ℕ = other_node s.graph s.blossoms f a in
      let up : ℕ = other_node s.graph s.blossoms i.hangs.edge a in
      let child_outer : s.label c ≡ Outer = i.child_outer f i.mated.1 in
      let back : IsMate s c f (other_node s.graph s.blossoms f c) = h.mates c m.outermost f m.back in
      let turned : Joins s.graph s.blossoms f c a = ⊎_elim (λ p. inr p) (λ p. inl p) m.joins in
      record {
        edge = i.hangs.edge;
        up = up;
        parent = i.hangs.parent;
        is_edge = i.hangs.leads.is_edge;
        joins = i.hangs.leads.joins;
        tight = i.hangs.leads.tight;
        up_is = h.far i.hangs.edge a i.hangs.leads.is_edge;
        up_outer = i.hangs.leads.up_outer;
        falls = way_falls s a up (h.some a is) (ap (λ l. far_end s (up_edge_by s l a) a) l ∙ ap (λ o. far_end s o a) i.hangs.parent) (h.ends a is);
        child_edge = f;
        child = c;
        mate = i.mated.1;
        is_mate = m;
        child_outer = child_outer;
        rises = way_falls s c a (h.some c m.outermost) (ap (λ l. far_end s (up_edge_by s l c) c) child_outer ∙ ap (λ o. far_end s o c) m.back
            ∙ other_node_joins s.graph s.blossoms f c a turned (λ e. m.different (sym e))) (h.ends c m.outermost);
      };
  out = λ l e b has m. sym (ap s.label (far_unique s a e b m)) ∙ (h.labels a is).out l e has;
}

pub checked : (s : State) → IsChecked s → IsSearchState s (way_length s)
checked s h =
    let r = rings_from s h.nested h.rings in
    record {
      rings = r.rings;
      tight_rings = r.tight;
      slacks = h.slacks;
      duals = h.duals;
      mates = λ a e is has. (other_node s.graph s.blossoms e a, h.mates a is e has);
      parity = h.parity;
      labels = fits_label s h;
    }

-- the edge up is one of the graph
pub up_edge_is : (s : State) (a e : ℕ) → MateHolds s a → FitsHere s a → up_edge s a ≡ Some e → IsEdgeNumber s.graph e
up_edge_is s a e mate fits has = by_label (s.label a) refl has
  where
    by_label : (l : Label) → s.label a ≡ l → up_edge_by s l a ≡ Some e → IsEdgeNumber s.graph e
    by_label Outer l has = (mate e has).edge
    by_label Inner l has = let i = (fits.inner l).hangs in subst (IsEdgeNumber s.graph) (same_Some i.edge e (sym i.parent ∙ has)) i.leads.is_edge
    by_label Out l has = some_not_none e (sym has)

-- where the climb stands: after c steps it has come to this node
abbrev pub HasClimbed : State → ℕ → ℕ → ℕ → Type 0
HasClimbed s a c node = (k : ℕ) → length (path_within (c + k) s a) ≡ c + length (path_within k s node)

-- a step of the climb
pub climb_step : (s : State) (a node next c : ℕ) → node ≢ 0 → next ≡ up_of s node → HasClimbed s a c node → HasClimbed s a (c + 1) next
climb_step s a node next c ne up far k =
    let more : c + (k + 1) ≡ c + 1 + k = omega arith in
    let one : (k + 1) - 1 ≡ k = omega arith in
    let step : path_within (k + 1) s node ≡ node ∷ path_within k s (up_of s node) = path_step (k + 1) s node (λ e. absurd (omega (arith, e))) ne
    ∙ ap (λ j. node ∷ path_within j s (up_of s node)) one in
    let size : length (path_within (k + 1) s node) ≡ suc (length (path_within k s next)) = ap length step ∙ ap (λ x. suc (length (path_within k s x))) (sym up) in
    let whole : length (path_within (c + (k + 1)) s a) ≡ c + length (path_within (k + 1) s node) = far (k + 1) in
    let same : length (path_within (c + (k + 1)) s a) ≡ length (path_within (c + 1 + k) s a) = ap (λ j. length (path_within j s a)) more in
    omega (arith, size, whole, same)

-- the climb ends above a root
pub climb_end : (s : State) (a node c n : ℕ) → node ≡ 0 → c ≤ n → HasClimbed s a c node → length (path_within (n + 1) s a) ≤ n
climb_end s a node c n none low far =
    let more : c + (n + 1 - c) ≡ n + 1 = omega arith in
    let there : length (path_within (c + (n + 1 - c)) s a) ≡ c + length (path_within (n + 1 - c) s node) = far (n + 1 - c) in
    let empty : length (path_within (n + 1 - c) s node) ≡ 0 = ap (λ x. length (path_within (n + 1 - c) s x)) none ∙ ap length (path_none (n + 1 - c) s) in
    let same : length (path_within (c + (n + 1 - c)) s a) ≡ length (path_within (n + 1) s a) = ap (λ j. length (path_within j s a)) more in
    omega (arith, there, empty, same, low)

-- or it has come to more nodes than there are
pub climb_on : (s : State) (a node n : ℕ) → node ≢ 0 → HasClimbed s a n node → n < length (path_within (n + 1) s a)
climb_on s a node n ne far =
    let there : length (path_within (n + 1) s a) ≡ n + length (path_within 1 s node) = far 1 in
    let one : length (path_within 1 s node) ≡ 1 = ap length (path_step 1 s node (λ e. absurd (omega (arith, e))) ne) in
    omega (arith, there, one)

-- a search over all nodes up to the limit, one further
pub one_further : (P : ℕ → Type 0) (k : ℕ) → P k → ((a : ℕ) → a < k → P a) → (a : ℕ) → a < k + 1 → P a
one_further P k here before a low = by_test (eqb a k) (λ t. subst P (sym (eqb-true a k t)) here) (λ t. before a (omega (arith, low, eqb-false a k t)))

-- the next node up, if there is one, is outermost
pub up_outer : (s : State) (a next : ℕ) → ((e b : ℕ) → IsEdgeNumber s.graph e → IsOutermost s (other_node s.graph s.blossoms e b)) → MateHolds s a → FitsHere s a → next ≡ up_of s a
    → next ≢ 0 → IsOutermost s next
up_outer s a next far mate fits up ne = by_edge (up_edge s a) refl
  where
    by_edge : (o : Option ℕ) → up_edge s a ≡ o → IsOutermost s next
    by_edge None none = absurd (ne (up ∙ ap (λ o. far_end s o a) none))
    by_edge (Some e) has = subst (IsOutermost s) (sym (up ∙ ap (λ o. far_end s o a) has)) (far e a (up_edge_is s a e mate fits has))

-- the other way round: the check passes the state of a search
rings_at : (s : State) (bs : List Blossom) (x : ℕ) → holds (names_of bs) x ≡ true → AllRings s bs → AreRings s bs x
rings_at s [] x name r = absurd (both_ways false refl name)
rings_at s (b ∷ older) x name r = by_test (eqb b.node x)
    (λ e. let at = here b older x e in
    record {
      ring = subst (λ (k : List Link). IsRing s.graph (older_than (b ∷ older) x) k) (sym at.ring_is) (subst (λ (bs : List Blossom). IsRing s.graph bs b.ring) (sym at.older_is) r.rings.0);
      tight = subst (AllByRecursion (λ (l : Link). IsTight s l.edge)) (sym at.ring_is) r.tight.0;
    })
    (λ e. let later = past b older x e in
    let more : holds (names_of older) x ≡ true = older_name b older x e name in
    let rest = rings_at s older x more (record { rings = r.rings.1; tight = r.tight.1 }) in
    record {
      ring = subst (λ (k : List Link). IsRing s.graph (older_than (b ∷ older) x) k) (sym later.ring_is)
          (subst (λ (bs : List Blossom). IsRing s.graph bs (ring_of older x)) (sym later.older_is) rest.ring);
      tight = subst (AllByRecursion (λ (l : Link). IsTight s l.edge)) (sym later.ring_is) rest.tight;
    })

module _ (s : State) (depth : ℕ → ℕ) (st : IsSearchState s depth) where
  pub rings_pass : (x : ℕ) → holds (names_of s.blossoms) x ≡ true → RingHolds s x
  rings_pass x name = let r = rings_at s s.blossoms x name (record { rings = st.rings; tight = st.tight_rings }) in record { ring = r.ring; tight = r.tight }

  pub mates_pass : (a : ℕ) → IsOutermost s a → MateHolds s a
  mates_pass a is e has = let m = st.mates a e is has in subst (IsMate s a e) (sym (far_unique s a e m.0 m.1)) m.1

  pub labels_pass : (a : ℕ) → IsOutermost s a → FitsHere s a
  labels_pass a is =
      let fits = st.labels a is in
      record {
        outer = λ l e has. let m = st.mates a e is has in ap s.label (far_unique s a e m.0 m.1) ∙ (fits.outer l e m.0 has m.1).0;
        inner = λ l.
            let i = fits.inner l in
            let apart : a ≢ i.up = λ same. (let one : depth a ≡ depth i.up = ap depth same in absurd (omega (arith, one, i.falls))) in
            let far : other_node s.graph s.blossoms i.edge a ≡ i.up = other_node_joins s.graph s.blossoms i.edge a i.up i.joins apart in
            record {
              hangs = record {
                edge = i.edge;
                parent = i.parent;
                leads = record { is_edge = i.is_edge; joins = subst (Joins s.graph s.blossoms i.edge a) (sym far) i.joins; tight = i.tight; up_outer = ap s.label far ∙ i.up_outer };
              };
              mated = (i.child_edge, i.mate);
              child_outer = λ e has.
                  let same : e ≡ i.child_edge = same_Some e i.child_edge (sym has ∙ i.mate) in
                  ap (λ f. s.label (other_node s.graph s.blossoms f a)) same ∙ ap s.label (far_unique s a i.child_edge i.child i.is_mate) ∙ i.child_outer;
            };
        out = λ l e has. let m = st.mates a e is has in ap s.label (far_unique s a e m.0 m.1) ∙ fits.out l e m.0 has m.1;
      }

  pub ways_pass : IsNested s.graph.vertices s.blossoms → (a : ℕ) → IsOutermost s a → way_length s a ≤ node_limit s.graph.vertices
  ways_pass nested a is = path_short (node_limit s.graph.vertices + 1) s depth a nested st is
