-- Neither loops nor weights matter to which vertices hang together.
use Rattle.graph_theory.proofs.Common.{◌≡◌, ℕ, zero, suc, ◌+◌, ◌-◌, ◌<◌, Bool, true, not, refl, ap, sym, ◌∙◌, inl, inr, arith, List, [], ◌∷◌, length, map}
use Rattle.graph_theory.proofs.Common.{get_or, filter, cases_Bool, not_from_false, get_or_default, get_or-map, length-map, All-filter, Multigraph, no_edge, edge_at, edge_of, is_loop}
use Rattle.graph_theory.proofs.Common.{edge_of-place, number_of-place}
use Rattle.graph_theory.specs.declared.edge.Edge.{Edge}
use Rattle.gallai_theory.specs.Decomposition.{weightless, unweighted, without_loops}
use Rattle.gallai_theory.specs.Laws.{LoopsMatterNot}
use Rattle.gallai_theory.proofs.Twins.{HasTwin, AreAlike, alike-sym, decomposed-twin}

-- edges at places with the same ends
twin-places : (a b : Multigraph) (e k : ℕ) → k < length b.edges → (edge_at b k).u ≡ (edge_of a e).u → (edge_at b k).v ≡ (edge_of a e).v → HasTwin a b e
twin-places a b e k below u v = (
  k + 1,
  record {
    is_edge = number_of-place b k below;
    u = ap (λ (x : Edge). x.u) (edge_of-place b k) ∙ u;
    v = ap (λ (x : Edge). x.v) (edge_of-place b k) ∙ v;
  },
)

-- an edge that passes stands somewhere among those that pass
pub kept_at : (p : Edge → Bool) (es : List Edge) (k : ℕ) → k < length es → p (get_or es k no_edge) ≡ true
    → (j : ℕ) × (j < length (filter p es)) × (get_or (filter p es) j no_edge ≡ get_or es k no_edge)
kept_at p [] k below passes = absurd (omega arith)
kept_at p (e ∷ es) zero below passes = rw passes (0, omega arith, refl)
kept_at p (e ∷ es) (suc k) below passes =
    let rest = kept_at p es k (omega arith) passes in
    elim (cases_Bool (p e)) [
      | inl on ↦ rw on (suc rest.0, omega (arith, rest.1), rest.2)
      | inr off ↦ rw off rest
    ]

-- .. and an edge that passed stood somewhere
pub kept_from : (p : Edge → Bool) (es : List Edge) (j : ℕ) → j < length (filter p es) → (k : ℕ) × (k < length es) × (get_or es k no_edge ≡ get_or (filter p es) j no_edge)
kept_from p es j below = All-filter p (λ (x : Edge). (k : ℕ) × (k < length es) × (get_or es k no_edge ≡ x)) es (λ k d b. (k, b, get_or_default es k no_edge d b)) j no_edge below

pub without_loops-alike : (g : Multigraph) → AreAlike g (without_loops g)
without_loops-alike g = record {
  vertices = refl;
  there = λ e is. elim (cases_Bool (is_loop (edge_of g e))) [
    | inl loop ↦ inl loop
    | inr plain ↦ inr (
        let at = kept_at (λ x. not (is_loop x)) g.edges (e - 1) (omega (arith, is.0, is.1)) (not_from_false (is_loop (edge_of g e)) plain) in
        twin-places g (without_loops g) e at.0 at.1 (ap (λ (x : Edge). x.u) at.2) (ap (λ (x : Edge). x.v) at.2))
  ];
  back = λ e is. inr (
      let at = kept_from (λ x. not (is_loop x)) g.edges (e - 1) (omega (arith, is.0, is.1)) in
      twin-places (without_loops g) g e at.0 at.1 (ap (λ (x : Edge). x.u) at.2) (ap (λ (x : Edge). x.v) at.2));
}

pub unweighted-alike : (g : Multigraph) → AreAlike g (unweighted g)
unweighted-alike g =
    let long : length (map weightless g.edges) ≡ length g.edges = length-map g.edges weightless in
    record {
      vertices = refl;
      there = λ e is. inr (
          let below : e - 1 < length g.edges = omega (arith, is.0, is.1) in
          let at = get_or-map weightless g.edges (e - 1) no_edge no_edge below in
          twin-places g (unweighted g) e (e - 1) (omega (arith, long, below)) (ap (λ (x : Edge). x.u) at) (ap (λ (x : Edge). x.v) at));
      back = λ e is. inr (
          let below : e - 1 < length g.edges = omega (arith, long, is.0, is.1) in
          let at = get_or-map weightless g.edges (e - 1) no_edge no_edge below in
          twin-places (unweighted g) g e (e - 1) below (sym (ap (λ (x : Edge). x.u) at)) (sym (ap (λ (x : Edge). x.v) at)));
    }

pub loops_matter_not : LoopsMatterNot
loops_matter_not g size set border ok =
    let plain = without_loops g in
    let bare = unweighted plain in (
      (λ d. decomposed-twin plain bare size set border (unweighted-alike plain) (decomposed-twin g plain size set border (without_loops-alike g) d)),
      (λ d. decomposed-twin plain g size set border (alike-sym g plain (without_loops-alike g))
          (decomposed-twin bare plain size set border (alike-sym plain bare (unweighted-alike plain)) d)),
    )
