-- A path along two matchings in turn, from a vertex that the second misses (chapter 24). The first pairs the vertices that it leaves, the
-- second all that it comes to but its start, so where the first goes on both next vertices are new.
use Rattle.alt_forest.proofs.Common.{◌≡◌, ◌≢◌, ◌∙◌, ℕ, ◌+◌, ◌-◌, ◌≤◌, true, false, eqb, List, [], ◌∷◌, ◌++◌, length, refl, sym, ap, ap₂, subst}
use Rattle.alt_forest.proofs.Common.{arith, ⊎_elim, Option, Some, None, All, slice_index, length_push, cases_eq, eqb-true, eq-eqb, or_cases, or_from, both_ways, false_from_ne_true}
use Rattle.alt_forest.proofs.Common.{same_Some, Multigraph, IsEdgeNumber, degree, edge_of, touches, other_end, holds, AllDiffer, IsWalk, walk_end, walk_left, walk_vertices, differ-cons}
use Rattle.alt_forest.proofs.Common.{holds_all, holds-push, edge_back, edge_of_within, end-push, left-append, left-length, start_held, vertices-left, vertices-within, walk-push, is_vertex}
use Rattle.alt_forest.proofs.Common.{AllNew, length-vertices, length-within, new-append, vertices, holds-vertices, range_vertex, vertex_range, some_not_none}
use Rattle.augment.specs.Matching.{mate_counts}
use Rattle.gallai_theory.specs.Decomposition.{Alternates, IsEvenPath}
use Rattle.augment.proofs.Counts.{degree-free}
use Rattle.mwpm_engine.specs.Alternating.{CanAlternate}
use Rattle.search_start.proofs.FarEnds.{far_differs, far_vertex}
use Rattle.mwpm_engine.proofs.MateCounts.{IsKeptTwice, kept_twice, mate_counted, not_counted}

-- a new number at the end
new_push : (xs : List ℕ) (x : ℕ) → AllNew xs → holds xs x ≡ false → AllNew (xs ++ x ∷ [])
new_push xs x new off = new-append xs (x ∷ []) new (refl, tt) (λ w h.
    false_from_ne_true (holds (x ∷ []) w) (λ there. both_ways (holds xs x) off (subst (λ (y : ℕ). holds xs y ≡ true) (sym (same x w there)) h)))
  where
    same : (x w : ℕ) → holds (x ∷ []) w ≡ true → x ≡ w
    same x w h = ⊎_elim (λ q. eqb-true x w q) (λ q. absurd (both_ways false refl q)) (or_cases (eqb x w) false h)

pub new_differ : (xs : List ℕ) → AllNew xs → AllDiffer xs
new_differ [] new = λ i j a b. absurd (omega arith)
new_differ (x ∷ xs) new = differ-cons x xs new.0 (new_differ xs new.1)

-- in a list with one more at its end
in_more : (xs : List ℕ) (x w : ℕ) → holds xs w ≡ true → holds (xs ++ x ∷ []) w ≡ true
in_more xs x w h = holds-push xs x w ∙ grind (arith, h)

last_in : (xs : List ℕ) (x : ℕ) → holds (xs ++ x ∷ []) x ≡ true
last_in xs x = holds-push xs x x ∙ grind (arith, eq-eqb x x refl)

in_more_cases : (P : ℕ → Type 0) (xs : List ℕ) (x w : ℕ) → ((holds xs w ≡ true) → P w) → P x → holds (xs ++ x ∷ []) w ≡ true → P w
in_more_cases P xs x w before last h = ⊎_elim before (λ q. subst P (eqb-true x w q) last) (or_cases (holds xs w) (eqb x w) (sym (holds-push xs x w) ∙ h))

-- the vertices that a walk with one edge more leaves
left_push : (g : Multigraph) (v e : ℕ) (es : List ℕ) → walk_left g v (es ++ e ∷ []) ≡ walk_left g v es ++ walk_end g v es ∷ []
left_push g v e es = left-append g v es (e ∷ [])

alternates_push : (counts es : List ℕ) (e f : ℕ) → Alternates counts es → slice_index counts (e - 1) ≡ 1 → slice_index counts (f - 1) ≡ 0
    → Alternates counts ((es ++ e ∷ []) ++ f ∷ [])
alternates_push counts [] e f h one none = (one, none, tt)
alternates_push counts (x ∷ []) e f h one none = absurd h
alternates_push counts (x ∷ y ∷ es) e f h one none = (h.0, h.1, alternates_push counts es e f h.2 one none)

-- the edge of a vertex leads to one of these
abbrev pub StaysIn : Multigraph → (ℕ → Option ℕ) → List ℕ → ℕ → Type 0
StaysIn g m vs w = (e : ℕ) → m w ≡ Some e → holds vs (other_end (edge_of g e) w) ≡ true

stays_by : (g : Multigraph) (m : ℕ → Option ℕ) (vs : List ℕ) (w e : ℕ) → m w ≡ Some e → holds vs (other_end (edge_of g e) w) ≡ true → StaysIn g m vs w
stays_by g m vs w e has inside d is = subst (λ k. holds vs (other_end (edge_of g k) w) ≡ true) (same_Some e d (sym has ∙ is)) inside

-- a path from v to a vertex along the two in turn
pub record IsEvenSoFar (g : Multigraph) (m other : ℕ → Option ℕ) (v : ℕ) (es : List ℕ) (at : ℕ) : Type 0 where
  pub walk : IsWalk g v es
  pub end : walk_end g v es ≡ at
  pub new : AllNew (walk_left g v es ++ at ∷ [])
  pub alternates : Alternates (mate_counts g m) es
  pub paired : (w : ℕ) → holds (walk_left g v es) w ≡ true → StaysIn g m (walk_left g v es) w
  pub other_paired : (w : ℕ) → holds (walk_left g v es ++ at ∷ []) w ≡ true → w ≢ v → StaysIn g other (walk_left g v es ++ at ∷ []) w

module _ {g : Multigraph} {m other : ℕ → Option ℕ} {v : ℕ} (two : CanAlternate g m other v) {es : List ℕ} {at : ℕ} (h : IsEvenSoFar g m other v es at) where
  abbrev left : List ℕ
  left = walk_left g v es

  abbrev met : List ℕ
  met = left ++ at ∷ []

  met_all : walk_vertices g v es ≡ met
  met_all = vertices-left g v es ∙ ap (λ (x : ℕ). left ++ x ∷ []) h.end

  met_vertex : (w : ℕ) → holds met w ≡ true → is_vertex g.vertices w ≡ true
  met_vertex w is =
      let each = subst (All (λ x. (1 ≤ x) × (x ≤ g.vertices))) met_all (vertices-within g v es two.ends (vertex_range g.vertices v two.start) h.walk) in
      let range = holds_all (λ x. (1 ≤ x) × (x ≤ g.vertices)) met w each is in
      range_vertex g.vertices w range.0 range.1

  pub at_vertex : is_vertex g.vertices at ≡ true
  at_vertex = met_vertex at (last_in left at)

  -- no more edges than vertices
  pub short : length es + 1 ≤ g.vertices
  short =
      let few : length met ≤ length (vertices g.vertices) = length-within met (vertices g.vertices) h.new (λ w is. holds-vertices g.vertices w ∙ met_vertex w is) in
      omega (arith, few, length-vertices g.vertices, length_push left at, left-length g v es)

  at_new : holds left at ≡ false
  at_new = false_from_ne_true (holds left at) (last_once left at h.new)
    where
      last_once : (xs : List ℕ) (x : ℕ) → AllNew (xs ++ x ∷ []) → holds xs x ≡ true → ⊥
      last_once [] x new is = both_ways false refl is
      last_once (y ∷ xs) x new is = ⊎_elim
          (λ q. both_ways (holds (xs ++ x ∷ []) y) new.0 (subst (λ (z : ℕ). holds (xs ++ x ∷ []) z ≡ true) (sym (eqb-true y x q)) (last_in xs x)))
          (λ q. last_once xs x new.1 q)
          (or_cases (eqb y x) (holds xs x) is)

  module _ (e : ℕ) (goes : m at ≡ Some e) where
    abbrev across : ℕ
    across = other_end (edge_of g e) at

    first : IsKeptTwice g m at e
    first = kept_twice g m two.ends two.first at e at_vertex goes

    pub first_is : IsEdgeNumber g e
    first_is = first.is_edge

    across_vertex : is_vertex g.vertices across ≡ true
    across_vertex = far_vertex g e at two.ends first.is_edge

    -- the first edge leads back to where it comes from
    back_at : other_end (edge_of g e) across ≡ at
    back_at = (edge_back g.vertices (edge_of g e) at (edge_of_within g e two.ends first.is_edge) first.at_v).1

    across_new : holds met across ≡ false
    across_new = false_from_ne_true (holds met across) (λ is. ⊎_elim
        (λ inside. both_ways (holds left at) at_new (subst (λ (x : ℕ). holds left x ≡ true) back_at (h.paired across inside e first.back)))
        (λ last. far_differs g e at two.ends first.is_edge two.loopless (sym (eqb-true at across last)))
        (or_cases (holds left across) (eqb at across) (sym (holds-push left at across) ∙ is)))

    across_differs : across ≢ v
    across_differs same =
        both_ways (holds met across) across_new (subst (λ (xs : List ℕ). holds xs across ≡ true) met_all (ap (holds (walk_vertices g v es)) same ∙ start_held g v es))

    -- the second matching goes on from there
    pub goes_on : (f : ℕ) × (other across ≡ Some f)
    goes_on = some_edge (other across) refl
      where
        some_edge : (o : Option ℕ) → other across ≡ o → (f : ℕ) × (other across ≡ Some f)
        some_edge (Some f) is = (f, is)
        some_edge None is = absurd (some_not_none e (sym first.back ∙ two.fewer across across_vertex across_differs is))

    module _ (f : ℕ) (on : other across ≡ Some f) where
      abbrev next : ℕ
      next = other_end (edge_of g f) across

      second : IsKeptTwice g other across f
      second = kept_twice g other two.ends two.second across f across_vertex on

      pub second_is : IsEdgeNumber g f
      second_is = second.is_edge

      back_across : other_end (edge_of g f) next ≡ across
      back_across = (edge_back g.vertices (edge_of g f) across (edge_of_within g f two.ends second.is_edge) second.at_v).1

      next_new : holds met next ≡ false
      next_new = false_from_ne_true (holds met next) (λ is. ⊎_elim
          (λ same. some_not_none f (sym second.back ∙ ap other same ∙ two.free))
          (λ differs. both_ways (holds met across) across_new (subst (λ (x : ℕ). holds met x ≡ true) back_across (h.other_paired next is differs f second.back)))
          (cases_eq next v))

      -- the first matching has another edge there
      not_first : m across ≢ Some f
      not_first has =
          let same : e ≡ f = same_Some e f (sym first.back ∙ has) in
          both_ways (holds met next) next_new (subst (λ (x : ℕ). holds met x ≡ true) (sym (ap (λ (k : ℕ). other_end (edge_of g k) across) (sym same) ∙ back_at)) (last_in left at))

      abbrev longer : List ℕ
      longer = (es ++ e ∷ []) ++ f ∷ []

      abbrev all_left : List ℕ
      all_left = met ++ across ∷ []

      abbrev all_met : List ℕ
      all_met = all_left ++ next ∷ []

      end_first : walk_end g v (es ++ e ∷ []) ≡ across
      end_first = end-push g v es e ∙ ap (other_end (edge_of g e)) h.end

      left_is : walk_left g v longer ≡ all_left
      left_is = left_push g v f (es ++ e ∷ []) ∙ ap₂ (λ (xs : List ℕ) (x : ℕ). xs ++ x ∷ []) (left_push g v e es ∙ ap (λ (x : ℕ). left ++ x ∷ []) h.end) end_first

      paired_still : (w : ℕ) → holds all_left w ≡ true → StaysIn g m all_left w
      paired_still w = in_more_cases (StaysIn g m all_left) met across w
          (in_more_cases (StaysIn g m all_left) left at w
          (λ inside d has. in_more met across (other_end (edge_of g d) w) (in_more left at (other_end (edge_of g d) w) (h.paired w inside d has)))
          (stays_by g m all_left at e goes (last_in met across)))
          (stays_by g m all_left across e first.back (in_more met across (other_end (edge_of g e) across) (subst (λ (x : ℕ). holds met x ≡ true) (sym back_at) (last_in left at))))

      other_paired_still : (w : ℕ) → holds all_met w ≡ true → w ≢ v → StaysIn g other all_met w
      other_paired_still w = in_more_cases (λ x. x ≢ v → StaysIn g other all_met x) all_left next w
          (in_more_cases (λ x. x ≢ v → StaysIn g other all_met x) met across w
          (λ inside d x has. in_more all_left next (other_end (edge_of g x) w) (in_more met across (other_end (edge_of g x) w) (h.other_paired w inside d x has)))
          (λ d. stays_by g other all_met across f on (last_in all_left next)))
          (λ d. stays_by g other all_met next f second.back (in_more all_left next (other_end (edge_of g f) next)
          (subst (λ (x : ℕ). holds all_left x ≡ true) (sym back_across) (last_in met across))))

      new_still : AllNew all_met
      new_still = new_push all_left next (new_push met across h.new across_new) (holds-push met across next ∙ or_from (holds met next) (eqb across next) next_new
          (false_from_ne_true (eqb across next) (λ q. far_differs g f across two.ends second.is_edge two.loopless (sym (eqb-true across next q)))))

      -- two edges more
      pub goes_further : IsEvenSoFar g m other v longer next
      goes_further = record {
        walk = walk-push g v (es ++ e ∷ []) f
            (walk-push g v es e h.walk first.is_edge (subst (λ (x : ℕ). touches (edge_of g e) x ≡ true) (sym h.end) first.at_v)) second.is_edge
            (subst (λ (x : ℕ). touches (edge_of g f) x ≡ true) (sym end_first) second.at_v);
        end = end-push g v (es ++ e ∷ []) f ∙ ap (other_end (edge_of g f)) end_first;
        new = subst (λ (xs : List ℕ). AllNew (xs ++ next ∷ [])) (sym left_is) new_still;
        alternates = alternates_push (mate_counts g m) es e f h.alternates (mate_counted g m two.ends two.first at e at_vertex goes)
            (not_counted g m two.ends two.first across (f - 1) (omega (arith, second.is_edge.0, second.is_edge.1)) second.at_v
            (λ has. not_first (has ∙ ap (λ (k : ℕ). Some k) (let same : (f - 1) + 1 ≡ f = omega (arith, second.is_edge.0) in same))));
        paired = subst (λ (xs : List ℕ). (w : ℕ) → holds xs w ≡ true → StaysIn g m xs w) (sym left_is) paired_still;
        other_paired = subst (λ (xs : List ℕ). (w : ℕ) → holds (xs ++ next ∷ []) w ≡ true → w ≢ v → StaysIn g other (xs ++ next ∷ []) w) (sym left_is) other_paired_still;
      }

  -- where the first matching goes no further, the path is whole
  pub ends_even : m at ≡ None → IsEvenPath g (mate_counts g m) v es
  ends_even none = record {
    walk = h.walk;
    no_vertex_twice = new_differ (walk_vertices g v es) (subst AllNew (sym met_all) h.new);
    alternates = h.alternates;
    missed = ap (degree g (mate_counts g m)) h.end ∙ degree-free g m two.ends two.first two.loopless at none;
  }
