use Rattle.alt_forest.proofs.Common.{◌≡◌, ◌∙◌, ℕ, ap, ◌<◌, pos, None, List, length, refl, sym, subst, arith, ⊎_elim, eqb-true, ints, state_of, incidence_leads}
use Rattle.search_tables.specs.declared.incident_edges.IncidentEdge.{IncidentEdge}
use Rattle.search_start.specs.Starts.{IsAbove, IsRise}
use Rattle.search_start.specs.declared.pairing.Rise.{Rise}
use Rattle.search_start.proofs.LeastSeen.{seen_first, seen_one, seen_around, some_there, count_around}
use Rattle.search_start.proofs.LeastRise.{still_above}
use Rattle.search_start.proofs.pairing.least_rise.Goals as goal

pub bounds-incidence-0 : goal.bounds-incidence-0
bounds-incidence-0 g c = some_there c.at-incidence.result.now c.is_empty.result c.is_empty.ensures c.if-is_empty.false

pub rise_by-least-requires : goal.rise_by-least-requires
rise_by-least-requires g c =
    let xs : List IncidentEdge = c.at-incidence.result.now in
    record {
      sound = c.requires.sound;
      started = c.requires.started;
      vertex = c.requires.vertex;
      incident = incidence_leads c.args.search.now c.args.v xs 0 c.index-incidence-0.result c.requires.sound.shape c.requires.vertex c.at-incidence.ensures.list
          (some_there xs c.is_empty.result c.is_empty.ensures c.if-is_empty.false) c.index-incidence-0.is;
    }

pub loop-place-init : goal.loop-place-init
loop-place-init g c =
    let xs : List IncidentEdge = c.at-incidence.result.now in let e = c.rise_by-least.ensures in
    let is = e.slack in
    record {
      rise = e.rise;
      seen = seen_first (IsAbove (state_of c.args.search.now) c.args.v c.rise_by-least.result.by c.rise_by-least.result.mate) xs c.index-incidence-0.result
          (some_there xs c.is_empty.result c.is_empty.ensures c.if-is_empty.false) c.index-incidence-0.is (omega (arith, ints, is), e.found);
    }

pub rise_by-requires : goal.rise_by-requires
rise_by-requires g c = record {
  sound = c.requires.sound;
  started = c.requires.started;
  vertex = c.requires.vertex;
  incident = incidence_leads c.args.search.now c.args.v c.at-incidence.result.now c.loop-place.place c.index-incidence-place.result c.requires.sound.shape
      c.requires.vertex c.at-incidence.ensures.list (omega arith) c.index-incidence-place.is;
}

pub loop-place-preserved : goal.loop-place-preserved
loop-place-preserved g c =
    let s = state_of c.args.search.now in let i = c.loop-place.invariant in let e = c.rise_by.ensures in
    let l = c.lesser-least.ensures in let is = e.slack in let new : Rise = c.lesser-least.result in
    let within : c.loop-place.place < length c.at-incidence.result.now = omega arith in
    record {
      rise = ⊎_elim
          (λ q. subst (λ (r : Rise). IsRise s c.args.v r.by r.mate) (sym q) i.rise)
          (λ q. subst (λ (r : Rise). IsRise s c.args.v r.by r.mate) (sym q) e.rise)
          l.which;
      seen = seen_one (IsAbove s c.args.v c.loop-place.least.by c.loop-place.least.mate) (IsAbove s c.args.v new.by new.mate) c.at-incidence.result.now c.loop-place.place
          c.index-incidence-place.result within c.index-incidence-place.is (still_above s c.args.v new c.loop-place.least l.one l.one_mate)
          (still_above s c.args.v new c.rise_by.result l.other l.other_mate c.index-incidence-place.result.edge (omega (arith, ints, is), e.found)) i.seen;
    }

pub returns-then-is_last : goal.returns-then-is_last
returns-then-is_last g c =
    let xs : List IncidentEdge = c.at-incidence.result.now in let i = c.loop-place.invariant in
    let last = c.is_last.ensures in let zero = last.by c.if-is_last.true in
    let count = count_around c.args.search.now c.args.v xs c.requires.sound.shape c.requires.vertex c.at-incidence.ensures.list in
    record {
      rise = i.rise;
      none = λ none. zero;
      above = λ e is t. ((let low = c.requires.sound.state.slacks e is in omega (arith, ints, zero, low)), λ can. last.mate c.if-is_last.true);
      inspections = omega (arith, c.at-incidence.ensures.counted, count);
    }

pub returns-then-is_empty : goal.returns-then-is_empty
returns-then-is_empty g c =
    let s = c.args.search.now in let xs : List IncidentEdge = c.at-incidence.result.now in
    let list = c.at-incidence.ensures.list in
    let none : length xs ≡ 0 = eqb-true (length xs) 0 (sym c.is_empty.ensures ∙ c.if-is_empty.true) in
    let rise : IsRise (state_of s) c.args.v (pos 0) None = record { low = omega (arith, ints); even = (pos 0, refl); mate_pairs = λ x none. cc } in
    let count = count_around s c.args.v xs c.requires.sound.shape c.requires.vertex list in
    let above = seen_around s c.args.v (IsAbove (state_of s) c.args.v (pos 0) None) xs 0 c.requires.sound.shape c.requires.vertex list (omega (arith, none))
    (λ k d low b. absurd {0} (omega (arith, b))) in
    record { rise = rise; none = λ h. refl; above = above; inspections = omega (arith, c.at-incidence.ensures.counted, count) }

pub returns : goal.returns
returns g c =
    let s = c.args.search.now in let xs : List IncidentEdge = c.at-incidence.result.now in
    let i = c.loop-place.invariant in let list = c.at-incidence.ensures.list in
    let some = some_there xs c.is_empty.result c.is_empty.ensures c.if-is_empty.false in
    let count = count_around s c.args.v xs c.requires.sound.shape c.requires.vertex list in
    record {
      rise = i.rise;
      none = λ none. absurd {0} (omega (arith, some, count, ap (λ (ys : List ℕ). length ys) none));
      above = seen_around s c.args.v (IsAbove (state_of s) c.args.v c.loop-place.least.by c.loop-place.least.mate) xs c.loop-place.place c.requires.sound.shape c.requires.vertex list
          (omega arith) i.seen;
      inspections = omega (arith, c.at-incidence.ensures.counted, count);
    }
