-- The circuit of the two ways up from the ends of an edge, to where these meet first, can be shrunk.
use Rattle.alt_forest.proofs.Common.{◌≡◌, ◌≢◌, ◌⊎◌, ◌||◌, ◌+◌, ◌<◌, ◌≤◌, ℕ, zero, suc, true, false, eqb, cond, List, [], ◌∷◌, ◌++◌, length}
use Rattle.alt_forest.proofs.Common.{Option, Some, None, refl, sym, ap, ap₂, ◌∙◌, subst, ⊎_elim, inl, inr, arith, cases_eq, eq-eqb, eqb-true, or_cases, or_left, or_right}
use Rattle.alt_forest.proofs.Common.{both_ways, false_from_ne_true, same_Some, edge_of, holds, Link, Outer, Inner, IsNested, in_ring, outermost, by_test, room_for_circuit, State}
use Rattle.alt_forest.proofs.Common.{IsOutermost, IsTight, Joins, node_u, node_v, IsMate, IsSearchState, CanShrink, IsSound, state_of, up_of, up_edge_by, path_of, root_of, first_common}
use Rattle.alt_forest.proofs.Common.{AreHops, links_up, hop_above, hop_path, partner_unique, path_of-step, nested_of, outer_not_inner, outer_not_out, some_not_none, some_node, path_root}
use Rattle.alt_forest.specs.declared.grandparent.GrandparentLink.{GrandparentLink}
use Rattle.alt_forest.specs.declared.search.Search.{Search}
use Rattle.tree_steps.specs.Circuits.{before, circuit_of, or_zero, links_above, base_of, closed_by}
use Rattle.tree_steps.specs.Shrinkable.{AreInOneTree, Closes, IsShrinkable}
use Rattle.tree_steps.proofs.Ends.{ends_of}
use Rattle.tree_steps.proofs.Mirror.{mirror_length}
use Rattle.tree_steps.proofs.OneTree.{way_root}
use Rattle.tree_steps.proofs.Ways.{circuit_shrinks}
use Rattle.tree_steps.proofs.WaysUp.{before_past, before_here, before_sub, links_have, links_length, circuit_parts, on_circuit}

-- what the first common number is
pub record IsFirst (xs ys : List ℕ) (base : ℕ) : Type 0 where
  pub on_first : holds xs base ≡ true
  pub on_second : holds ys base ≡ true
  pub first : (c : ℕ) → holds (before xs base) c ≡ true → holds ys c ≡ false

pub common_first : (xs ys : List ℕ) (base : ℕ) → first_common xs ys ≡ Some base → IsFirst xs ys base
common_first [] ys base e = some_not_none base (sym e)
common_first (x ∷ xs) ys base e = by_test (holds ys x)
    (λ here.
    let same : x ≡ base = same_Some x base (sym (ap (λ q. cond q (Some x) (first_common xs ys)) here) ∙ e) in
    record {
      on_first = or_left (eqb x base) (holds xs base) (eq-eqb x base same);
      on_second = ap (holds ys) (sym same) ∙ here;
      first = λ c r. absurd (both_ways false refl (sym (ap (λ ys. holds ys c) (before_here x base xs same)) ∙ r));
    })
    (λ out.
    let rest = common_first xs ys base (sym (ap (λ q. cond q (Some x) (first_common xs ys)) out) ∙ e) in
    let ne : x ≢ base = λ q. both_ways (holds ys base) (ap (holds ys) (sym q) ∙ out) rest.on_second in
    record {
      on_first = or_right (eqb x base) (holds xs base) rest.on_first;
      on_second = rest.on_second;
      first = λ c r. ⊎_elim (λ at. ap (holds ys) (sym (eqb-true x c at)) ∙ out) (λ more. rest.first c more)
          (or_cases (eqb x c) (holds (before xs base) c) (sym (ap (λ ys. holds ys c) (before_past x base xs ne)) ∙ r));
    })

-- a node of the path that is outer: grandparent links lead to it, and leave the nodes before it behind
pub record FoundOuter (s : State) (depth : ℕ → ℕ) (x base : ℕ) : Type 0 where
  pub hops : List GrandparentLink
  pub way : AreHops s depth x hops base
  pub links : links_up x hops ≡ links_above s (before (path_of s x) base)
  pub outer : s.label base ≡ Outer
  pub is : IsOutermost s base

-- one that is inner: its mate comes before it
pub record FoundInner (s : State) (x base : ℕ) : Type 0 where
  pub under : ℕ
  pub edge : ℕ
  pub is_mate : IsMate s under edge base
  pub inner : s.label base ≡ Inner
  pub passed : holds (before (path_of s x) base) under ≡ true

module _ (s : State) (depth : ℕ → ℕ) (nested : IsNested s.graph.vertices s.blossoms) (st : IsSearchState s depth) where
  path : (x : ℕ) → IsOutermost s x → path_of s x ≡ x ∷ path_of s (up_of s x)
  path x is = path_of-step s depth x nested st is (some_node s depth nested st x is)

  -- the first node of a path is the base or comes before it
  start_on : (x base : ℕ) → IsOutermost s x → (base ≡ x) ⊎ (holds (before (path_of s x) base) x ≡ true)
  start_on x base is = ⊎_elim
      (λ at. inl at)
      (λ ne. inr (ap (λ xs. holds (before xs base) x) (path x is) ∙ ap (λ xs. holds xs x) (before_past x base (path_of s (up_of s x)) (λ e. ne (sym e)))
      ∙ or_left (eqb x x) (holds (before (path_of s (up_of s x)) base) x) (eq-eqb x x refl)))
      (cases_eq base x)

  found : (k x base : ℕ) → depth x < k → IsOutermost s x → s.label x ≡ Outer → holds (path_of s x) base ≡ true → FoundOuter s depth x base ⊎ FoundInner s x base
  found zero x base low is outer there = absurd (omega (arith, low))
  found (suc k) x base low is outer there = ⊎_elim
      (λ at. inl (record {
        hops = [];
        way = at;
        links = sym (ap (λ xs. links_above s (before xs base)) (path x is) ∙ ap (links_above s) (before_here x base (path_of s (up_of s x)) at));
        outer = ap s.label (sym at) ∙ outer;
        is = subst (IsOutermost s) at is;
      }))
      (λ ne. by_mate ne (λ y. found k y base) (s.mate x) refl) (cases_eq x base)
    where
      by_mate : x ≢ base → ((y : ℕ) → depth y < k → IsOutermost s y → s.label y ≡ Outer → holds (path_of s y) base ≡ true
          → FoundOuter s depth y base ⊎ FoundInner s y base) → (o : Option ℕ) → s.mate x ≡ o → FoundOuter s depth x base ⊎ FoundInner s x base
      by_mate ne again None none = absurd (⊎_elim (λ here. ne (eqb-true x base here)) (λ more. both_ways false refl more)
          (or_cases (eqb x base) false (sym (ap (λ xs. holds xs base) (path_root s depth nested st x (record { outermost = is; outer = outer; exposed = none }))) ∙ there)))
      by_mate ne again (Some f) has =
          let hop : GrandparentLink = (hop_above s depth x f st is outer has).0 in
          let h = (hop_above s depth x f st is outer has).1 in let rest : List ℕ = path_of s hop.outer in
          let whole : path_of s x ≡ x ∷ (hop.inner ∷ rest) = hop_path s depth x hop h depth nested st in
          let first : before (path_of s x) base ≡ x ∷ before (hop.inner ∷ rest) base = ap (λ xs. before xs base) whole ∙ before_past x base (hop.inner ∷ rest) ne in
          ⊎_elim
          (λ at. inr (record {
            under = x;
            edge = hop.mate;
            is_mate = subst (IsMate s x hop.mate) at h.is_mate;
            inner = ap s.label (sym at) ∙ h.inner_label;
            passed = ap (λ xs. holds xs x) first ∙ or_left (eqb x x) (holds (before (hop.inner ∷ rest) base) x) (eq-eqb x x refl);
          }))
          (λ not_it.
          let both : before (path_of s x) base ≡ x ∷ (hop.inner ∷ before rest base) = first ∙ ap (λ xs. x ∷ xs) (before_past hop.inner base rest not_it) in
          let later : holds rest base ≡ true = ⊎_elim (λ here. absurd (ne (eqb-true x base here)))
          (λ more. ⊎_elim (λ here. absurd (not_it (eqb-true hop.inner base here))) (λ r. r) (or_cases (eqb hop.inner base) (holds rest base) more))
          (or_cases (eqb x base) (eqb hop.inner base || holds rest base) (sym (ap (λ xs. holds xs base) whole) ∙ there)) in
          ⊎_elim
          (λ (r : FoundOuter s depth hop.outer base). inl (record {
            hops = hop ∷ r.hops;
            way = (h, r.way);
            links = ap₂ (λ m p. record { node = x; edge = or_zero m } ∷ (record { node = hop.inner; edge = or_zero p } ∷ links_up hop.outer r.hops))
                (sym (ap (λ l. up_edge_by s l x) h.label ∙ h.mate)) (sym (ap (λ l. up_edge_by s l hop.inner) h.inner_label ∙ h.parent))
                ∙ ap (λ ls. links_above s (x ∷ (hop.inner ∷ [])) ++ ls) r.links ∙ sym (ap (links_above s) both);
            outer = r.outer;
            is = r.is;
          }))
          (λ (r : FoundInner s hop.outer base). inr (record {
            under = r.under;
            edge = r.edge;
            is_mate = r.is_mate;
            inner = r.inner;
            passed = ap (λ xs. holds xs r.under) both
                ∙ or_right (eqb x r.under) (eqb hop.inner r.under || holds (before rest base) r.under) (or_right (eqb hop.inner r.under) (holds (before rest base) r.under) r.passed);
          }))
          (again hop.outer (omega (arith, low, h.lower, h.lowest)) h.up_is h.up_outer later))
          (cases_eq hop.inner base)

  -- a tight edge between two outer nodes whose paths meet closes a circuit that can be shrunk
  meeting : (a b e base : ℕ) → AreInOneTree s a b → IsTight s e → Joins s.graph s.blossoms e a b → IsFirst (path_of s a) (path_of s b) base
      → IsShrinkable s depth (circuit_of base e (links_above s (before (path_of s a) base)) (links_above s (before (path_of s b) base))) base
  meeting a b e base ends tight joins f =
      let xs : List ℕ = before (path_of s a) base in let ys : List ℕ = before (path_of s b) base in
      ⊎_elim
      (λ (p : FoundOuter s depth a base). ⊎_elim
      (λ (q : FoundOuter s depth b base). subst (λ (ls : List Link). IsShrinkable s depth ls base) (ap₂ (λ (ls ks : List Link). circuit_of base e ls ks) p.links q.links)
      (circuit_shrinks s depth a b e base p.hops q.hops st p.way q.way tight joins ends.different p.is p.outer
      (λ c r. ap (λ (ls : List Link). in_ring ls c) q.links ∙ links_have s ys c ∙ false_from_ne_true (holds ys c) (λ t.
      both_ways (holds (path_of s b) c) (f.first c (sym (ap (λ (ls : List Link). in_ring ls c) p.links ∙ links_have s xs c) ∙ r)) (before_sub (path_of s b) base c t)))))
      (λ (q : FoundInner s b base). outer_not_inner (sym p.outer ∙ q.inner))
      (found (depth b + 1) b base (omega arith) ends.b_is ends.b_outer f.on_second))
      (λ (p : FoundInner s a base). ⊎_elim
      (λ (q : FoundOuter s depth b base). outer_not_inner (sym q.outer ∙ p.inner))
      (λ (q : FoundInner s b base). absurd (both_ways (holds (path_of s b) p.under) (f.first p.under p.passed)
      (ap (holds (path_of s b)) (partner_unique s p.under p.edge q.under q.edge base p.is_mate q.is_mate) ∙ before_sub (path_of s b) base q.under q.passed)))
      (found (depth b + 1) b base (omega arith) ends.b_is ends.b_outer f.on_second))
      (found (depth a + 1) a base (omega arith) ends.a_is ends.a_outer f.on_first)

-- The circuit that a tight edge between two outer nodes closes, whose ways up meet first in the base, can be shrunk.
pub record ClosesAt (s : State) (e a b base : ℕ) : Type 0 where
  pub a_is : IsOutermost s a
  pub b_is : IsOutermost s b
  pub a_there : holds (path_of s a) base ≡ true
  pub b_there : holds (path_of s b) base ≡ true
  pub room : length (before (path_of s a) base) + length (before (path_of s b) base) + 1 ≤ s.graph.vertices
  pub is : circuit_of base e (links_above s (before (path_of s a) base)) (links_above s (before (path_of s b) base)) ≡ closed_by s e
  pub base_is : base ≡ base_of s e
  pub closes : Closes s e

pub closes : (f : Search) (e u v a b base : ℕ) → IsSound f → CanShrink (state_of f) e → u ≡ (edge_of f.graph e).u → v ≡ (edge_of f.graph e).v
    → a ≡ outermost f.arena.blossoms u → b ≡ outermost f.arena.blossoms v
    → first_common (path_of (state_of f) a) (path_of (state_of f) b) ≡ Some base → ClosesAt (state_of f) e a b base
closes f e u v a b base h can from to from_is to_is meets =
    let s : State = state_of f in let nested = nested_of f h.shape in
    let at_u : a ≡ node_u s.graph s.blossoms e = from_is ∙ ap (outermost f.arena.blossoms) from in
    let at_v : b ≡ node_v s.graph s.blossoms e = to_is ∙ ap (outermost f.arena.blossoms) to in
    let pair = ends_of s e a b can at_u at_v in let ends = pair.0 in
    let first = common_first (path_of s a) (path_of s b) base meets in
    let xs : List ℕ = before (path_of s a) base in let ys : List ℕ = before (path_of s b) base in
    let links : List Link = circuit_of base e (links_above s xs) (links_above s ys) in
    let shrinks = meeting s h.depth nested h.state a b e base ends can.tight pair.1 first in
    let found : base ≡ base_of s e = sym (ap or_zero (sym (ap₂ (λ x y. first_common (path_of s x) (path_of s y)) at_u at_v) ∙ meets)) in
    let is : links ≡ closed_by s e =
    ap₂ (λ x y. circuit_of base e (links_above s (before (path_of s x) base)) (links_above s (before (path_of s y) base))) at_u at_v
    ∙ ap (λ x. circuit_of x e (links_above s (before (path_of s (node_u s.graph s.blossoms e)) x)) (links_above s (before (path_of s (node_v s.graph s.blossoms e)) x))) found in
    let shrinks_is = subst (λ (ls : List Link). IsShrinkable s h.depth ls base) is shrinks in
    let fits = (room_for_circuit s.graph.vertices s.blossoms links nested shrinks.circuit).1 in
    let root_a = way_root s h.depth nested h.state a ends.a_is (λ out. outer_not_out (sym ends.a_outer ∙ out)) in
    let root_b = way_root s h.depth nested h.state b ends.b_is (λ out. outer_not_out (sym ends.b_outer ∙ out)) in
    record {
      a_is = ends.a_is;
      b_is = ends.b_is;
      a_there = first.on_first;
      b_there = first.on_second;
      room = omega (arith, fits, mirror_length e (links_above s xs) (links_above s ys), links_length s xs, links_length s ys);
      is = is;
      base_is = found;
      closes = record {
        possible = record { depth = h.depth; state = h.state; shrinkable = subst (IsShrinkable s h.depth (closed_by s e)) found shrinks_is };
        u_on = ap₂ (λ (ls : List Link) x. in_ring ls x) (sym is) (sym at_u) ∙ on_circuit base e (links_above s xs) (links_above s ys) a
            (⊎_elim (λ at. inl at) (λ r. inr (inl (links_have s xs a ∙ r))) (start_on s h.depth nested h.state a base ends.a_is));
        v_on = ap₂ (λ (ls : List Link) x. in_ring ls x) (sym is) (sym at_v) ∙ on_circuit base e (links_above s xs) (links_above s ys) b
            (⊎_elim (λ at. inl at) (λ r. inr (inr (links_have s ys b ∙ r))) (start_on s h.depth nested h.state b base ends.b_is));
        one_tree = λ x r. ⊎_elim
            (λ at. root_a x (ap (holds (path_of s a)) (sym at) ∙ first.on_first))
            (λ way. ⊎_elim
            (λ left. root_a x (before_sub (path_of s a) base x (sym (links_have s xs x) ∙ left)))
            (λ right. root_b x (before_sub (path_of s b) base x (sym (links_have s ys x) ∙ right)) ∙ sym ends.one_tree)
            way)
            (circuit_parts base e (links_above s xs) (links_above s ys) x (ap (λ (ls : List Link). in_ring ls x) is ∙ r)) ∙ ap (root_of s) at_u;
      };
    }
