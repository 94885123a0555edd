use Rattle.alt_forest.proofs.Common.{◌≡◌, ℕ, ℤ, ◌<◌, List, length, refl, sym, subst, arith, ⊎_elim, ints, Multigraph, edge_of, other_end, slack_of, state_of, incidence_leads}
use Rattle.search_tables.specs.declared.incident_edges.IncidentEdge.{IncidentEdge}
use Rattle.search_start.specs.Sweeps.{IsReach, IsBehind, IsLead}
use Rattle.search_start.specs.declared.reaching.Lead.{Lead}
use Rattle.search_start.specs.declared.reaching.Reach.{Reach}
use Rattle.search_start.proofs.LeastSeen.{seen_first, seen_one, seen_around, some_there, count_around}
use Rattle.search_start.proofs.Reaches.{told}
use Rattle.search_start.proofs.reaching.lead_at.Goals as goal

-- an edge at the vertex is behind the two
abbrev IsBehindThem : Multigraph → (ℕ → ℤ) → ℕ → Lead → ℕ → Type 0
IsBehindThem g slack v l e = IsBehind l (other_end (edge_of g e) v) (slack e)

-- the edge that is seen stands where its reach says
seen_reach : (g : Multigraph) (slack : ℕ → ℤ) (v e : ℕ) (l : Lead) (r : Reach) → IsReach g slack v r → r.edge ≡ e → IsBehind l r.far r.by → IsBehindThem g slack v l e
seen_reach g slack v e l r reach is behind = subst (IsBehindThem g slack v l) is (rw (reach.far_is, reach.slack_is) behind)

pub bounds-incidence-0 : goal.bounds-incidence-0
bounds-incidence-0 g c = some_there c.at-incidence.result.now c.is_empty.result c.is_empty.ensures c.if-is_empty.false

pub reach_by-least-requires : goal.reach_by-least-requires
reach_by-least-requires g c =
    let xs : List IncidentEdge = c.at-incidence.result.now in
    record {
      sound = c.requires.sound;
      started = c.requires.started;
      vertex = c.requires.vertex;
      incident = incidence_leads c.args.search.now c.args.v xs 0 c.index-incidence-0.result c.requires.sound.shape c.requires.vertex c.at-incidence.ensures.list
          (some_there xs c.is_empty.result c.is_empty.ensures c.if-is_empty.false) c.index-incidence-0.is;
    }

pub loop-place-init : goal.loop-place-init
loop-place-init g c =
    let s = c.args.search.now in let xs : List IncidentEdge = c.at-incidence.result.now in
    let r : Reach = c.reach_by-least.result in let e = c.reach_by-least.ensures in
    let l : Lead = record { least = r; next = r } in
    record {
      least = e.reach;
      next = e.reach;
      order = omega (arith, ints);
      seen = seen_first (IsBehindThem s.graph (slack_of (state_of s)) c.args.v l) xs c.index-incidence-0.result
          (some_there xs c.is_empty.result c.is_empty.ensures c.if-is_empty.false) c.index-incidence-0.is
          (seen_reach s.graph (slack_of (state_of s)) c.args.v c.index-incidence-0.result.edge l r e.reach e.edge (omega (arith, ints), λ ne. absurd {0} (ne refl)));
    }

pub reach_by-reach-requires : goal.reach_by-reach-requires
reach_by-reach-requires g c = record {
  sound = c.requires.sound;
  started = c.requires.started;
  vertex = c.requires.vertex;
  incident = incidence_leads c.args.search.now c.args.v c.at-incidence.result.now c.loop-place.place c.index-incidence-place.result c.requires.sound.shape c.requires.vertex
      c.at-incidence.ensures.list (omega arith) c.index-incidence-place.is;
}

pub loop-place-preserved : goal.loop-place-preserved
loop-place-preserved g c =
    let s = c.args.search.now in let slack : ℕ → ℤ = slack_of (state_of s) in
    let i = c.loop-place.invariant in let old : Lead = c.loop-place.lead in
    let new : Lead = c.with_one-lead.result in let e = c.reach_by-reach.ensures in
    let w = c.with_one-lead.ensures in
    let within : c.loop-place.place < length c.at-incidence.result.now = omega arith in
    let at = IsReach s.graph slack c.args.v in
    record {
      least = ⊎_elim (λ q. subst at (sym q) i.least) (λ q. subst at (sym q) e.reach) w.least;
      next = ⊎_elim (λ q. subst at (sym q) i.next) (λ n. ⊎_elim (λ q. subst at (sym q) i.least) (λ q. subst at (sym q) e.reach) n) w.next;
      order = w.order i.order;
      seen = seen_one (IsBehindThem s.graph slack c.args.v old) (IsBehindThem s.graph slack c.args.v new) c.at-incidence.result.now c.loop-place.place c.index-incidence-place.result within
          c.index-incidence-place.is (λ d behind. w.kept (other_end (edge_of s.graph d) c.args.v) (slack d) behind)
          (seen_reach s.graph slack c.args.v c.index-incidence-place.result.edge new c.reach_by-reach.result e.reach e.edge w.seen) i.seen;
    }

pub returns-clause-lead : goal.returns-clause-lead
returns-clause-lead g c =
    let s = c.args.search.now in let i = c.loop-place.invariant in
    told (IsLead s.graph (slack_of (state_of s)) c.args.v) c.loop-place.lead (record {
      least = i.least;
      next = i.next;
      order = i.order;
      each = seen_around s c.args.v (IsBehindThem s.graph (slack_of (state_of s)) c.args.v c.loop-place.lead) c.at-incidence.result.now c.loop-place.place c.requires.sound.shape
          c.requires.vertex c.at-incidence.ensures.list (omega (arith, c.loop-place-test.false)) i.seen;
    })

pub returns-clause-inspections : goal.returns-clause-inspections
returns-clause-inspections g c =
    omega (arith, c.at-incidence.ensures.counted, count_around c.args.search.now c.args.v c.at-incidence.result.now c.requires.sound.shape c.requires.vertex c.at-incidence.ensures.list)

pub returns-then-is_empty : goal.returns-then-is_empty
returns-then-is_empty g c = record {
  lead = λ x none. cc;
  inspections =
      omega (arith, c.at-incidence.ensures.counted, count_around c.args.search.now c.args.v c.at-incidence.result.now c.requires.sound.shape c.requires.vertex c.at-incidence.ensures.list);
}
