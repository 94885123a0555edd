-- The vertices of the nodes of a circuit that are not outer.
use Rattle.alt_forest.proofs.Common.{◌≡◌, ℕ, ◌+◌, ◌<◌, ◌≤◌, true, false, eqb, cond, List, [], ◌∷◌, ◌++◌, length, length-append, get_or, drop, drop-cons, refl}
use Rattle.alt_forest.proofs.Common.{sym, ap, ap₂, add-one, ◌∙◌, arith, ⊎_elim, eqb-true, or_cases, or_left, or_right, both_ways, false_from_ne_true, holds, holds-append, Link}
use Rattle.alt_forest.proofs.Common.{IsNested, IsCircuit, is_vertex, is_outermost, in_ring, nodes_of, members_of, outermost, AllNew, new-append, new_from_distinct, first_in, later_in}
use Rattle.alt_forest.proofs.Common.{length-within, vertices, holds-vertices, length-vertices, circuit_outer, outermost_parts, member_vertex, members_new, outermost_by_member, Outer, State}
use Rattle.alt_forest.proofs.Common.{is_label}
use Rattle.tree_steps.specs.Scanned.{unless_outer, newly_outer}

unless_here : (s : State) (a : ℕ) → is_label (s.label a) Outer ≡ false → unless_outer s a ≡ members_of s.blossoms a
unless_here s a e = ap (λ t. cond t [] (members_of s.blossoms a)) e

unless_has : (s : State) (a v : ℕ) → holds (unless_outer s a) v ≡ true → (is_label (s.label a) Outer ≡ false) × (holds (members_of s.blossoms a) v ≡ true)
unless_has s a v m =
    elim (is_label (s.label a) Outer) as (λ t. holds (cond t [] (members_of s.blossoms a)) v ≡ true → (t ≡ false) × (holds (members_of s.blossoms a) v ≡ true)) [
      | true ↦ λ q. absurd (both_ways false refl q)
      | false ↦ λ q. (refl, q)
    ] m

-- a node of the circuit that has the vertex and is not outer
pub record HasHolder (s : State) (ring : List Link) (v : ℕ) : Type 0 where
  pub node : ℕ
  pub within : in_ring ring node ≡ true
  pub low : is_label (s.label node) Outer ≡ false
  pub has : holds (members_of s.blossoms node) v ≡ true

pub of_newly : (s : State) (ring : List Link) (v : ℕ) → holds (newly_outer s ring) v ≡ true → HasHolder s ring v
of_newly s [] v m = absurd (both_ways false refl m)
of_newly s (l ∷ ring) v m = ⊎_elim
    (λ here. let p = unless_has s l.node v here in record { node = l.node; within = first_in l.node (nodes_of ring); low = p.0; has = p.1 })
    (λ more. let r = of_newly s ring v more in record { node = r.node; within = later_in l.node (nodes_of ring) r.node r.within; low = r.low; has = r.has })
    (or_cases (holds (unless_outer s l.node) v) (holds (newly_outer s ring) v) (sym (holds-append (unless_outer s l.node) (newly_outer s ring) v) ∙ m))

pub in_newly : (s : State) (ring : List Link) (a v : ℕ) → in_ring ring a ≡ true → is_label (s.label a) Outer ≡ false → holds (members_of s.blossoms a) v ≡ true
    → holds (newly_outer s ring) v ≡ true
in_newly s [] a v r low m = absurd (both_ways false refl r)
in_newly s (l ∷ ring) a v r low m = holds-append (unless_outer s l.node) (newly_outer s ring) v ∙ ⊎_elim
    (λ e. or_left (holds (unless_outer s l.node) v) (holds (newly_outer s ring) v) (ap (λ x. holds (unless_outer s x) v) (eqb-true l.node a e)
    ∙ ap (λ ms. holds ms v) (unless_here s a low) ∙ m))
    (λ t. or_right (holds (unless_outer s l.node) v) (holds (newly_outer s ring) v) (in_newly s ring a v t low m)) (or_cases (eqb l.node a) (in_ring ring a) r)

unless_new : (s : State) (a : ℕ) → IsNested s.graph.vertices s.blossoms → is_outermost s.graph.vertices s.blossoms a ≡ true → AllNew (unless_outer s a)
unless_new s a h is = elim (is_label (s.label a) Outer) as (λ t. AllNew (cond t [] (members_of s.blossoms a))) [
  | true ↦ tt
  | false ↦ members_new s.graph.vertices s.blossoms a h (outermost_parts s.graph.vertices s.blossoms a is).0
]

-- they are different
newly_new_of : (s : State) (ring : List Link) → IsNested s.graph.vertices s.blossoms → AllNew (nodes_of ring)
    → ((a : ℕ) → in_ring ring a ≡ true → is_outermost s.graph.vertices s.blossoms a ≡ true) → AllNew (newly_outer s ring)
newly_new_of s [] h d each = tt
newly_new_of s (l ∷ ring) h d each =
    let here : is_outermost s.graph.vertices s.blossoms l.node ≡ true = each l.node (first_in l.node (nodes_of ring)) in
    new-append (unless_outer s l.node) (newly_outer s ring) (unless_new s l.node h here)
    (newly_new_of s ring h d.1 (λ a r. each a (later_in l.node (nodes_of ring) a r)))
    (λ v m. false_from_ne_true (holds (newly_outer s ring) v) (λ u.
    let r = of_newly s ring v u in let p = unless_has s l.node v m in
    let other : is_outermost s.graph.vertices s.blossoms r.node ≡ true = each r.node (later_in l.node (nodes_of ring) r.node r.within) in
    let same : r.node ≡ l.node = sym (outermost_by_member s.graph.vertices s.blossoms r.node v h other r.has) ∙ outermost_by_member s.graph.vertices s.blossoms l.node v h here p.1 in
    both_ways (holds (nodes_of ring) l.node) d.0 (ap (in_ring ring) (sym same) ∙ r.within)))

module _ (s : State) (ring : List Link) (h : IsNested s.graph.vertices s.blossoms) (circuit : IsCircuit s.graph.vertices s.blossoms ring) where
  outer_in : (a : ℕ) → in_ring ring a ≡ true → is_outermost s.graph.vertices s.blossoms a ≡ true
  outer_in a r = circuit_outer s.graph.vertices s.blossoms ring a circuit r

  pub newly_new : AllNew (newly_outer s ring)
  newly_new = newly_new_of s ring h (new_from_distinct (nodes_of ring) circuit.different) outer_in

  -- a vertex of an outer node is none of them
  pub newly_misses : (v : ℕ) → s.label (outermost s.blossoms v) ≡ Outer → holds (newly_outer s ring) v ≡ false
  newly_misses v outer = false_from_ne_true (holds (newly_outer s ring) v) (λ m.
      let r = of_newly s ring v m in
      let at : outermost s.blossoms v ≡ r.node = outermost_by_member s.graph.vertices s.blossoms r.node v h (outer_in r.node r.within) r.has in
      both_ways (is_label (s.label r.node) Outer) r.low (ap (λ a. is_label (s.label a) Outer) (sym at) ∙ ap (λ l. is_label l Outer) outer))

  pub newly_vertex : (v : ℕ) → holds (newly_outer s ring) v ≡ true → is_vertex s.graph.vertices v ≡ true
  newly_vertex v m = let r = of_newly s ring v m in member_vertex s.graph.vertices s.blossoms r.node v h
      (outermost_parts s.graph.vertices s.blossoms r.node (outer_in r.node r.within)).0 r.has

  -- so there are no more of them than vertices
  pub newly_few : length (newly_outer s ring) ≤ s.graph.vertices
  newly_few =
      let within = length-within (newly_outer s ring) (vertices s.graph.vertices) newly_new (λ v m. holds-vertices s.graph.vertices v ∙ newly_vertex v m) in
      omega (arith, within, length-vertices s.graph.vertices)

-- what is left begins with those of the next node
pub newly_next : (s : State) (ring : List Link) (place : ℕ) (l : Link) → place < length ring → get_or ring place l ≡ l
    → newly_outer s (drop place ring) ≡ unless_outer s l.node ++ newly_outer s (drop (place + 1) ring)
newly_next s ring place l b is = ap (newly_outer s) (drop-cons ring place l b ∙ ap₂ (λ (k : Link) (n : ℕ). k ∷ drop n ring) is (sym (add-one place)))

-- the first nodes have room besides what came before them
pub newly_at : (s : State) (ring : List Link) (place : ℕ) (l : Link) → place < length ring → get_or ring place l ≡ l
    → length (unless_outer s l.node) ≤ length (newly_outer s (drop place ring))
newly_at s ring place l b is =
    omega (arith, ap length (newly_next s ring place l b is), length-append (unless_outer s l.node) (newly_outer s (drop (place + 1) ring)))
