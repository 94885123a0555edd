-- A change of d raises the sum of all duals by d for each tree.
use Rattle.alt_forest.proofs.Common.{◌≡◌, ℕ, zero, suc, ◌+◌, ◌≤◌, ℤ, pos, ◌+ℤ◌, ◌-ℤ◌, ◌*ℤ◌, Bool, true, false, not, ◌&&◌, cond, List, [], ◌∷◌}
use Rattle.alt_forest.proofs.Common.{length, map, Option, Some, None, refl, sym, ap, ◌∙◌, subst, arith, add-one, is_some, filter, ints, nat_tests, and_parts, or_right, length-map}
use Rattle.alt_forest.proofs.Common.{length-filter_both, sum_to, int_sum_to, times-suc, plus-times, holds, Blossom, IsNested, is_vertex, is_child, in_ring, names_of, vertices}
use Rattle.alt_forest.proofs.Common.{holds-vertices, new-vertices, holds-filter, new-filter, length-within, first_in, later_in, outer_nodes, holds-outer_nodes, outermost_parts, node_range}
use Rattle.alt_forest.proofs.Common.{range_vertex, Label, Outer, Inner, Out, State, IsMate, IsSearchState, is_label, node_limit, is_root, tree_count, new-map, is_outer, nodes_labelled}
use Rattle.alt_forest.proofs.Common.{in_labelled, of_labelled, new_labelled, mate_node, mates_differ, child_is, mate_inner, one_if, member-mapped as holds-map}
use Rattle.dual_change.specs.Changes.{share, change, applied}
use Rattle.dual_change.specs.Laws.{ChangeRaisesTotal}
use Rattle.alt_forest.specs.Totals.{duals_over, dual_total}
use Rattle.dual_change.proofs.Applied.{change_outer, change_child}

-- sums
sum_add : (y z : ℕ → ℤ) (xs : List ℕ) → duals_over (λ a. y a +ℤ z a) xs ≡ duals_over y xs +ℤ duals_over z xs
sum_add y z [] = omega (arith, ints)
sum_add y z (x ∷ xs) = let r : duals_over (λ a. y a +ℤ z a) xs ≡ duals_over y xs +ℤ duals_over z xs = sum_add y z xs in omega (arith, ints)

-- where nothing stands outside the test
sum_filter : (z : ℕ → ℤ) (p : ℕ → Bool) (xs : List ℕ) → ((a : ℕ) → p a ≡ false → z a ≡ pos 0) → duals_over z (filter p xs) ≡ duals_over z xs
sum_filter z p [] h = refl
sum_filter z p (x ∷ xs) h = grind (arith, nat_tests, ints, sum_filter z p xs h, h x)

sum_same : (f g : ℕ → ℤ) (xs : List ℕ) → ((a : ℕ) → holds xs a ≡ true → f a ≡ g a) → duals_over f xs ≡ duals_over g xs
sum_same f g [] h = refl
sum_same f g (x ∷ xs) h = ap (λ t. t +ℤ duals_over f xs) (h x (first_in x xs)) ∙ ap (λ t. g x +ℤ t) (sum_same f g xs (λ a e. h a (later_in x xs a e)))

sum_vertices : (z : ℕ → ℤ) (n : ℕ) → int_sum_to (λ i. z (i + 1)) n ≡ duals_over z (vertices n)
sum_vertices z zero = refl
sum_vertices z (suc n) = let last : z (n + 1) ≡ z (suc n) = ap z (add-one n) in omega (arith, ints, sum_vertices z n, last)

-- as many numbers of 1 to n pass a test as the sum over them counts
pub length-picked : (p : ℕ → Bool) (n : ℕ) → length (filter p (vertices n)) ≡ sum_to (λ i. one_if (p (i + 1))) n
length-picked p zero = refl
length-picked p (suc n) = grind (arith, nat_tests, add-one, length-picked p n)

holds-roots : (n : ℕ) (p : ℕ → Bool) (v : ℕ) → holds (filter p (vertices n)) v ≡ (is_vertex n v && p v)
holds-roots n p v = holds-filter p (vertices n) v ∙ ap (λ t. t && p v) (holds-vertices n v)

-- numbers that stand at outermost nodes alone
sum_outer : (n : ℕ) (z : ℕ → ℤ) (bs : List Blossom) → ((a : ℕ) → is_child bs a ≡ true → z a ≡ pos 0)
    → duals_over z (vertices n) +ℤ duals_over z (names_of bs) ≡ duals_over z (outer_nodes n bs)
sum_outer n z [] none = omega (arith, ints)
sum_outer n z (b ∷ older) none =
    let r = sum_outer n z older (λ a c. none a (or_right (in_ring b.ring a) (is_child older a) c)) in
    let f : duals_over z (filter (λ a. not (in_ring b.ring a)) (outer_nodes n older)) ≡ duals_over z (outer_nodes n older) =
    sum_filter z (λ a. not (in_ring b.ring a)) (outer_nodes n older) (λ a c. none a (grind (arith, nat_tests))) in
    omega (arith, ints, r, f)

-- d for each outer node, less d for each inner node
shares : (d : ℤ) (label : ℕ → Label) (xs : List ℕ) → duals_over (λ a. share d (label a)) xs ≡ (pos (length (filter (λ a. is_label (label a) Outer) xs)) *ℤ d) -ℤ
    (pos (length (filter (λ a. is_label (label a) Inner) xs)) *ℤ d)
shares d label [] = omega (arith, ints)
shares d label (x ∷ xs) =
    let outs : List ℕ = filter (λ a. is_label (label a) Outer) xs in
    let inns : List ℕ = filter (λ a. is_label (label a) Inner) xs in
    let r : duals_over (λ a. share d (label a)) xs ≡ (pos (length outs) *ℤ d) -ℤ (pos (length inns) *ℤ d) = shares d label xs in
    elim (label x) as (λ l. share d l +ℤ duals_over (λ a. share d (label a)) xs
    ≡ (pos (length (cond (is_label l Outer) (x ∷ outs) outs)) *ℤ d) -ℤ (pos (length (cond (is_label l Inner) (x ∷ inns) inns)) *ℤ d)) [
      | Outer ↦ omega (arith, ints, r, times-suc (length outs) d)
      | Inner ↦ omega (arith, ints, r, times-suc (length inns) d)
      | Out ↦ omega (arith, ints, r)
    ]

module _ (s : State) (depth : ℕ → ℕ) (nested : IsNested s.graph.vertices s.blossoms) (st : IsSearchState s depth) where
  abbrev has_mate : ℕ → Bool
  has_mate a = is_some (s.mate a)

  abbrev free : ℕ → Bool
  free a = not (is_some (s.mate a))

  mated : (o : Option ℕ) → is_some o ≡ true → (e : ℕ) × (o ≡ Some e)
  mated None e = absurd (cc)
  mated (Some x) e = (x, refl)

  pairs : length (filter has_mate (nodes_labelled s Outer)) ≡ length (nodes_labelled s Inner)
  pairs =
      let outs : List ℕ = filter has_mate (nodes_labelled s Outer) in
      let inns : List ℕ = nodes_labelled s Inner in
      let most : length (map (mate_node s) outs) ≤ length inns = length-within (map (mate_node s) outs) inns
      (new-map (mate_node s) outs (new-filter has_mate (nodes_labelled s Outer) (new_labelled s nested Outer)) (λ a b ha hb same.
      let pa = mated_outer a ha in let pb = mated_outer b hb in
      mates_differ s a b pa.0 pb.0 pa.1 pb.1 same))
      (λ x m.
      let p = holds-map (mate_node s) outs x m in let q = mated_outer p.0 p.1 in
      subst (λ y. holds inns y ≡ true) p.2 (of_labelled s nested Inner (mate_node s p.0) q.1.outermost (ap (λ l. is_label l Inner) q.2))) in
      let fewest : length (map (mate_node s) inns) ≤ length outs = length-within (map (mate_node s) inns) outs
      (new-map (mate_node s) inns (new_labelled s nested Inner) (λ a b ha hb same.
      let pa = child_is s nested depth st a ha in let pb = child_is s nested depth st b hb in
      mates_differ s a b pa.edge pb.edge pa.mate pb.mate same))
      (λ x m.
      let p = holds-map (mate_node s) inns x m in let c = child_is s nested depth st p.0 p.1 in
      subst (λ y. holds outs y ≡ true) p.2
      (let own = of_labelled s nested Outer (mate_node s p.0) c.mate.outermost (ap (λ l. is_label l Outer) c.outer) in
      grind (arith, nat_tests, holds-filter has_mate (nodes_labelled s Outer) (mate_node s p.0), c.mate.back))) in
      omega (arith, most, fewest, length-map outs (mate_node s), length-map inns (mate_node s))
    where
      mated_outer : (a : ℕ) → holds (filter has_mate (nodes_labelled s Outer)) a ≡ true → (e : ℕ) × IsMate s a e (mate_node s a) × (s.label (mate_node s a) ≡ Inner)
      mated_outer a h =
          let p = and_parts (holds (nodes_labelled s Outer) a) (has_mate a) (sym (holds-filter has_mate (nodes_labelled s Outer) a) ∙ h) in
          let q = in_labelled s nested Outer a p.0 in let e = mated (s.mate a) p.1 in
          let m = mate_inner s nested depth st a e.0 q.0 (is_outer (s.label a) q.1) e.1 in
          (e.0, m.0, m.1)

  abbrev roots : List ℕ
  roots = filter (is_root s) (vertices (node_limit s.graph.vertices))

  roots_free : length roots ≡ length (filter free (nodes_labelled s Outer))
  roots_free =
      let frees : List ℕ = filter free (nodes_labelled s Outer) in
      let limit : ℕ = node_limit s.graph.vertices in
      let most : length roots ≤ length frees = length-within roots frees (new-filter (is_root s) (vertices limit) (new-vertices limit))
      (λ a h. grind (arith, nat_tests, holds-roots limit (is_root s) a, holds-filter free (nodes_labelled s Outer) a, of_labelled s nested Outer a)) in
      let fewest : length frees ≤ length roots = length-within frees roots (new-filter free (nodes_labelled s Outer) (new_labelled s nested Outer))
      (λ a h.
      let p = sym (holds-filter free (nodes_labelled s Outer) a) ∙ h in
      let q = in_labelled s nested Outer a (grind (arith, nat_tests)) in
      let range = node_range s.graph.vertices s.blossoms a nested (outermost_parts s.graph.vertices s.blossoms a q.0).0 in
      grind (arith, nat_tests, holds-roots limit (is_root s) a, range_vertex limit a range.0 range.1, q)) in
      omega (arith, most, fewest)

  -- as many outer nodes as inner ones and roots
  pub balance : length (nodes_labelled s Outer) ≡ length (nodes_labelled s Inner) + tree_count s
  balance =
      let both : length (filter has_mate (nodes_labelled s Outer)) + length (filter free (nodes_labelled s Outer)) ≡ length
      (nodes_labelled s Outer) = length-filter_both has_mate free (λ a. refl) (nodes_labelled s Outer) in
      omega (arith, both, pairs, roots_free, length-picked (is_root s) (node_limit s.graph.vertices))

  raised : (d : ℤ) → dual_total (applied s d) ≡ dual_total s +ℤ (pos (tree_count s) *ℤ d)
  raised d =
      let n : ℕ = s.graph.vertices in let names : List ℕ = names_of s.blossoms in
      let outer : List ℕ = outer_nodes n s.blossoms in
      let new : int_sum_to (λ i. s.dual (i + 1) +ℤ change s d (i + 1)) n ≡ duals_over (λ a. s.dual a +ℤ change s d a) (vertices n) =
      sum_vertices (λ a. s.dual a +ℤ change s d a) n in
      let old : int_sum_to (λ i. s.dual (i + 1)) n ≡ duals_over s.dual (vertices n) = sum_vertices s.dual n in
      let one : duals_over (λ a. s.dual a +ℤ change s d a) (vertices n) ≡ duals_over s.dual (vertices n) +ℤ duals_over (change s d) (vertices n) =
      sum_add s.dual (change s d) (vertices n) in
      let two : duals_over (λ a. s.dual a +ℤ change s d a) names ≡ duals_over s.dual names +ℤ duals_over (change s d) names = sum_add s.dual (change s d) names in
      let all : duals_over (change s d) (vertices n) +ℤ duals_over (change s d) names ≡ duals_over (change s d) outer = sum_outer n (change s d) s.blossoms (change_child s d) in
      let given : duals_over (change s d) outer ≡ duals_over (λ a. share d (s.label a)) outer = sum_same (change s d) (λ a. share d (s.label a)) outer
      (λ a h. change_outer s d a (sym (holds-outer_nodes n s.blossoms a nested) ∙ h)) in
      let split : duals_over (λ a. share d (s.label a)) outer ≡ (pos (length (nodes_labelled s Outer)) *ℤ d) -ℤ (pos (length (nodes_labelled s Inner)) *ℤ d) =
      shares d s.label outer in
      let more : pos (length (nodes_labelled s Outer)) *ℤ d ≡ (pos (length (nodes_labelled s Inner)) *ℤ d) +ℤ (pos (tree_count s) *ℤ d) =
      ap (λ k. pos k *ℤ d) balance ∙ plus-times (length (nodes_labelled s Inner)) (tree_count s) d in
      omega (arith, ints, new, old, one, two, all, given, split, more)

pub change_raises : ChangeRaisesTotal
change_raises s depth d nested st = raised s depth nested st d
