-- An even path lets its vertex be missed: edges of a matching are exchanged along it.
use Rattle.graph_theory.proofs.Common.{◌≡◌, ℕ, zero, suc, ◌+◌, ◌-◌, ◌*◌, ◌<◌, ◌≤◌, true, false, eqb, refl, ap, sym, ◌∙◌, inl, inr, arith, List, []}
use Rattle.graph_theory.proofs.Common.{◌∷◌, length, slice_index, All, nat_lt, slice_set, cases_eq, cases_Bool, eq-eqb, or_left, or_right, false≢true, false_from_ne_true}
use Rattle.graph_theory.proofs.Common.{get_or-set_other, get_or-set_same, length-set, All-set, sum_to, Multigraph, IsEdgeWithin, IsEdgeNumber, edge_at, edge_of, touches, other_end, ends_at}
use Rattle.graph_theory.proofs.Common.{degree, holds, walk_vertices, AllDiffer, sum_to-same, edge_of_within, other_end-within, differ-tail, differ-head, holds_all, start_held, ends_of_step}
use Rattle.graph_theory.proofs.Common.{one_if-same, one_if-other, used_ends, one_if}
use Rattle.gallai_theory.specs.Matchings.{edges_used, IsMatched, IsGreatest, IsMissable}
use Rattle.gallai_theory.specs.Decomposition.{IsEvenPath}
use Rattle.gallai_theory.specs.Laws.{PathsDecompose}
use Rattle.gallai_theory.proofs.Berge.{odd_count_berge, odd_count_missed}

-- a sum with one term changed
sum_to-changed : (f h : ℕ → ℕ) (j n : ℕ) → j < n → ((k : ℕ) → (k ≡ j → ⊥) → h k ≡ f k) → sum_to h n + f j ≡ sum_to f n + h j
sum_to-changed f h j zero b other = absurd (omega arith)
sum_to-changed f h j (suc n) b other =
    elim (cases_eq n j) [
      | inl e ↦
          let one : h n ≡ h j = ap h e in
          let two : f n ≡ f j = ap f e in
          omega (arith, sum_to-same h f n (λ k l. other k (λ s. omega (arith, e, s, l))), one, two)
      | inr d ↦
          omega (arith, sum_to-changed f h j n (omega arith) other, other n d)
    ]

-- a count that is set: the degrees at its edge, and how many edges are used
module _ (g : Multigraph) (counts : List ℕ) (j c : ℕ) (one_each : length counts ≡ length g.edges) (b : j < length g.edges) where
  set_at : slice_index (slice_set counts j c) j ≡ c
  set_at = get_or-set_same counts j c 0 (omega (arith, one_each, b))

  set_off : (k : ℕ) → (k ≡ j → ⊥) → slice_index (slice_set counts j c) k ≡ slice_index counts k
  set_off k d = get_or-set_other counts j k c 0 d

  set_degree : (x : ℕ) → degree g (slice_set counts j c) x + slice_index counts j * ends_at (edge_at g j) x ≡ degree g counts x + c * ends_at (edge_at g j) x
  set_degree x =
      let changed = sum_to-changed (λ k. slice_index counts k * ends_at (edge_at g k) x) (λ k. slice_index (slice_set counts j c) k * ends_at (edge_at g k) x) j (length g.edges) b
      (λ k d. ap (λ (y : ℕ). y * ends_at (edge_at g k) x) (set_off k d)) in
      let at : slice_index (slice_set counts j c) j * ends_at (edge_at g j) x ≡ c * ends_at (edge_at g j) x = ap (λ (y : ℕ). y * ends_at (edge_at g j) x) set_at in
      omega (arith, changed, at)

  set_used : edges_used g (slice_set counts j c) + one_if (nat_lt 0 (slice_index counts j)) ≡ edges_used g counts + one_if (nat_lt 0 c)
  set_used =
      let changed = sum_to-changed (λ k. one_if (nat_lt 0 (slice_index counts k))) (λ k. one_if (nat_lt 0 (slice_index (slice_set counts j c) k))) j (length g.edges) b
      (λ k d. ap (λ (y : ℕ). one_if (nat_lt 0 y)) (set_off k d)) in
      let at : one_if (nat_lt 0 (slice_index (slice_set counts j c) j)) ≡ one_if (nat_lt 0 c) = ap (λ (y : ℕ). one_if (nat_lt 0 y)) set_at in
      omega (arith, changed, at)

-- a matching of the same size that misses v, with the same counts off the path
record IsSlid (g : Multigraph) (counts : List ℕ) (v : ℕ) (es : List ℕ) : Type 0 where
  new : List ℕ
  matched : IsMatched g new
  size : edges_used g new ≡ edges_used g counts
  missed : degree g new v ≡ 0
  kept : (e : ℕ) → IsEdgeNumber g e → holds es e ≡ false → slice_index new (e - 1) ≡ slice_index counts (e - 1)

-- the vertex after one edge from v
abbrev next : Multigraph → ℕ → ℕ → ℕ
next g v e = other_end (edge_of g e) v

-- an edge of the matching from v, and from its other end an edge outside to a missed vertex that isn't v
record CanExchange (g : Multigraph) (counts : List ℕ) (v e f : ℕ) : Type 0 where
  first : IsEdgeNumber g e
  at_first : touches (edge_of g e) v ≡ true
  second : IsEdgeNumber g f
  at_second : touches (edge_of g f) (next g v e) ≡ true
  differ : e ≡ f → ⊥
  far : v ≡ next g (next g v e) f → ⊥
  used : slice_index counts (e - 1) ≡ 1
  unused : slice_index counts (f - 1) ≡ 0
  missed : degree g counts (next g (next g v e) f) ≡ 0

-- the second takes the place of the first
exchange : (g : Multigraph) (counts : List ℕ) (v e f : ℕ) → All (IsEdgeWithin g.vertices) g.edges → IsMatched g counts → (1 ≤ v) × (v ≤ g.vertices)
    → CanExchange g counts v e f
    → IsSlid g counts v (e ∷ f ∷ [])
exchange g counts v e f ends m range can =
    let a = next g v e in
    let b = next g a f in
    let ie = can.first in
    let jf = can.second in
    let first = slice_set counts (e - 1) 0 in
    let second = slice_set first (f - 1) 1 in
    let be : e - 1 < length g.edges = omega (arith, ie.0, ie.1) in
    let bf : f - 1 < length g.edges = omega (arith, jf.0, jf.1) in
    let len : length first ≡ length g.edges = length-set counts (e - 1) 0 ∙ m.one_each in
    let differ : f - 1 ≡ e - 1 → ⊥ = λ s. can.differ (omega (arith, s, ie.0, jf.0)) in
    let still : slice_index first (f - 1) ≡ 0 = set_off g counts (e - 1) 0 m.one_each be (f - 1) differ ∙ can.unused in
    let degrees : (x : ℕ) → degree g second x + one_if (eqb v x) ≡ degree g counts x + one_if (eqb b x) = λ x.
    let at_e : slice_index counts (e - 1) * ends_at (edge_of g e) x ≡ 1 * ends_at (edge_of g e) x = ap (λ (y : ℕ). y * ends_at (edge_of g e) x) can.used in
    let at_f : slice_index first (f - 1) * ends_at (edge_of g f) x ≡ 0 * ends_at (edge_of g f) x = ap (λ (y : ℕ). y * ends_at (edge_of g f) x) still in
    let ends_e = ends_of_step g.vertices (edge_of g e) v x (edge_of_within g e ends ie) can.at_first in
    let ends_f = ends_of_step g.vertices (edge_of g f) a x (edge_of_within g f ends jf) can.at_second in
    omega (arith, set_degree g counts (e - 1) 0 m.one_each be x, set_degree g first (f - 1) 1 len bf x, at_e, at_f, ends_e, ends_f) in
    record {
      new = second;
      matched = record {
        one_each = length-set first (f - 1) 1 ∙ len;
        at_most_once = All-set (λ c. c ≤ 1) first (f - 1) 1 (omega arith) (All-set (λ c. c ≤ 1) counts (e - 1) 0 (omega arith) m.at_most_once);
        degrees = λ x low high. elim (cases_eq b x) [
          | inl here ↦
              let at : degree g counts x ≡ 0 = ap (degree g counts) (sym here) ∙ can.missed in
              let d = degrees x in
              omega (arith, at, one_if-same b x here, d)
          | inr other ↦
              let miss = one_if-other b x other in
              let d = degrees x in
              let old = m.degrees x low high in
              omega (arith, miss, d, old)
        ];
      };
      size =
          let at_e : one_if (nat_lt 0 (slice_index counts (e - 1))) ≡ 1 = ap (λ (y : ℕ). one_if (nat_lt 0 y)) can.used in
          let at_f : one_if (nat_lt 0 (slice_index first (f - 1))) ≡ 0 = ap (λ (y : ℕ). one_if (nat_lt 0 y)) still in
          let on : one_if (nat_lt 0 1) ≡ 1 = refl in
          let off : one_if (nat_lt 0 0) ≡ 0 = refl in
          omega (arith, set_used g counts (e - 1) 0 m.one_each be, set_used g first (f - 1) 1 len bf, at_e, at_f, on, off);
      missed =
          omega (arith, degrees v, one_if-same v v refl, one_if-other b v (λ s. can.far (sym s)), m.degrees v range.0 range.1);
      kept = λ k ik out.
          let not_e : k ≡ e → ⊥ = λ s. false≢true (sym out ∙ or_left (eqb e k) (holds (f ∷ []) k) (eq-eqb e k (sym s))) in
          let not_f : k ≡ f → ⊥ = λ s. false≢true (sym out ∙ or_right (eqb e k) (holds (f ∷ []) k) (or_left (eqb f k) false (eq-eqb f k (sym s)))) in
          set_off g first (f - 1) 1 len bf (k - 1) (λ s. not_f (omega (arith, s, ik.0, jf.0)))
          ∙ set_off g counts (e - 1) 0 m.one_each be (k - 1) (λ s. not_e (omega (arith, s, ik.0, ie.0)));
    }

-- the members of two lists
not_first : (e : ℕ) (es : List ℕ) (k : ℕ) → holds (e ∷ es) k ≡ false → eqb e k ≡ false
not_first e es k out = false_from_ne_true (eqb e k) (λ h. false≢true (sym out ∙ or_left (eqb e k) (holds es k) h))

not_later : (e : ℕ) (es : List ℕ) (k : ℕ) → holds (e ∷ es) k ≡ false → holds es k ≡ false
not_later e es k out = false_from_ne_true (holds es k) (λ h. false≢true (sym out ∙ or_right (eqb e k) (holds es k) h))

not_two : (e f k : ℕ) → eqb e k ≡ false → eqb f k ≡ false → holds (e ∷ f ∷ []) k ≡ false
not_two e f k p q = rw (p, q) refl

-- an exchange after the edges of the rest of a path
slid_on : (g : Multigraph) (counts : List ℕ) (v b e f : ℕ) (es : List ℕ) (rest : IsSlid g counts b es) → IsSlid g rest.new v (e ∷ f ∷ []) → IsSlid g counts v (e ∷ f ∷ es)
slid_on g counts v b e f es rest two = record {
  new = two.new;
  matched = two.matched;
  size = two.size ∙ rest.size;
  missed = two.missed;
  kept = λ k ik out.
      let later = not_later e (f ∷ es) k out in
      let old : slice_index two.new (k - 1) ≡ slice_index rest.new (k - 1) = two.kept k ik (not_two e f k (not_first e (f ∷ es) k out) (not_first f es k later)) in
      old ∙ rest.kept k ik (not_later f es k later);
}

-- along an even path all are exchanged, the last two first
slide : (g : Multigraph) (counts : List ℕ) (v : ℕ) (es : List ℕ) → All (IsEdgeWithin g.vertices) g.edges → IsMatched g counts → (1 ≤ v) × (v ≤ g.vertices)
    → IsEvenPath g counts v es
    → IsSlid g counts v es
slide g counts v [] ends m range path = record { new = counts; matched = m; size = refl; missed = path.missed; kept = λ e i out. refl }
slide g counts v (e ∷ []) ends m range path = absurd path.alternates
slide g counts v (e ∷ f ∷ es) ends m range path =
    let a = next g v e in
    let b = next g a f in
    let vs = walk_vertices g b es in
    let walk = path.walk in
    let from_a : AllDiffer (a ∷ vs) = differ-tail v (a ∷ vs) path.no_vertex_twice in
    let v_new : holds (a ∷ vs) v ≡ false = differ-head v (a ∷ vs) path.no_vertex_twice in
    let rest = slide g counts b es ends m (other_end-within g.vertices (edge_of g f) a (edge_of_within g f ends walk.2.0))
    (record { walk = walk.2.2; no_vertex_twice = differ-tail a vs from_a; alternates = path.alternates.2; missed = path.missed }) in
    let e_off : holds (f ∷ es) e ≡ false = false_from_ne_true (holds (f ∷ es) e) (λ h. false≢true (sym v_new ∙ used_ends g a e v (f ∷ es) walk.2 h walk.1)) in
    let f_off : holds es f ≡ false = false_from_ne_true (holds es f) (λ h. false≢true (sym (differ-head a vs from_a) ∙ used_ends g b f a es walk.2.2 h walk.2.1)) in
    let apart : e ≡ f → ⊥ = λ s. false≢true (sym (not_first f es e e_off) ∙ eq-eqb f e (sym s)) in
    let far : v ≡ b → ⊥ = λ s. false≢true (sym v_new ∙ or_right (eqb a v) (holds vs v) (ap (holds vs) s ∙ start_held g b es)) in
    slid_on g counts v b e f es rest
    (exchange g rest.new v e f ends rest.matched range (record {
      first = walk.0;
      at_first = walk.1;
      second = walk.2.0;
      at_second = walk.2.1;
      differ = apart;
      far = far;
      used = rest.kept e walk.0 (not_later f es e e_off) ∙ path.alternates.0;
      unused = rest.kept f walk.2.0 f_off ∙ path.alternates.1;
      missed = rest.missed;
    }))

-- Even paths and the count of odd components prove a matching greatest, and the set the one of all vertices that greatest
-- matchings miss (Gallai, Edmonds).
pub paths_decompose : PathsDecompose
paths_decompose g counts set border ok m within paths dec = (greatest, λ v. (forth v, back v))
  where
    greatest : IsGreatest g counts
    greatest = record {
      matched = m;
      most = λ other mo.
          omega (arith, odd_count_berge g border other dec.odd ok dec.counted mo, dec.enough);
    }

    forth : (v : ℕ) → holds set v ≡ true → IsMissable g v
    forth v h =
        let p = paths v h in
        let range = holds_all (λ x. (1 ≤ x) × (x ≤ g.vertices)) set v within.in_range h in
        let s = slide g counts v p.0 ok.ends m range p.1 in
        record {
          low = range.0;
          high = range.1;
          counts = s.new;
          greatest = record { matched = s.matched; most = λ other mo. let most = greatest.most other mo in omega (arith, most, s.size) };
          missed = s.missed;
        }

    back : (v : ℕ) → IsMissable g v → holds set v ≡ true
    back v w =
        elim (cases_Bool (holds set v)) [
          | inl there ↦ there
          | inr off ↦ absurd (
              let fewer = odd_count_missed g border w.counts dec.odd v ok dec.counted w.greatest.matched w.low w.high w.missed
              (λ c is odd. false_from_ne_true (holds c v) (λ h. false≢true (sym off ∙ dec.inside c v is odd h))) in
              omega (arith, fewer, w.greatest.most counts m, dec.enough))
        ]
