use Rattle.alt_forest.proofs.Common.{◌≡◌, ◌∙◌, refl, sym, ap, subst, rules, to_z, of_z, w64, both_ways, dual_at, IsExposed, state_of}
use Rattle.alt_forest.specs.declared.search.Search.{Search}
use Rattle.search_start.specs.Starts.{CanMove}
use Rattle.search_start.specs.Sweeps.{CanTake}
use Rattle.search_start.specs.declared.reaching.Lead.{Lead}
use Rattle.search_start.proofs.Reaches.{lead_rises}
use Rattle.search_start.proofs.FirstTurns.{turn_passed, turn_still, turn_taken}
use Rattle.search_start.proofs.sweeping.sweep_at.Goals as goal

pub is_exposed-requires : goal.is_exposed-requires
is_exposed-requires g c = record { sound = c.requires.sound }

pub returns-then-not-is_exposed : goal.returns-then-not-is_exposed
returns-then-not-is_exposed g c =
    let s = state_of c.args.search.now in
    record {
      sound = c.requires.sound;
      started = c.requires.started;
      frame = refl;
      unchanged = λ _. refl;
      exact = turn_passed s c.args.v _ _
          (λ x. both_ways c.is_exposed.result c.if-not-is_exposed.true (c.is_exposed.ensures.1 (subst (IsExposed s) (sym (c.new.ensures ∙ c.number.ensures)) x)));
    }

pub lead_at-requires : goal.lead_at-requires
lead_at-requires g c = record { sound = c.requires.sound; started = c.requires.started; vertex = c.requires.vertex }

pub returns-in_default : goal.returns-in_default
returns-in_default g c =
    let s = state_of c.args.search.now in let x : IsExposed s c.args.v = subst (IsExposed s) (c.new.ensures ∙ c.number.ensures) (c.is_exposed.ensures.0 c.if-not-is_exposed.false) in
    record { sound = c.requires.sound; started = c.requires.started; frame = refl; unchanged = λ none. refl; exact = turn_taken s c.args.v _ _ _ x c.lead_at.ensures.inspections }

pub fall_for-requires : goal.fall_for-requires
fall_for-requires g c =
    record { sound = c.requires.sound; started = c.requires.started; vertex = c.requires.vertex; lead = c.lead_at.ensures.lead c.in-Some.lead c.in-Some.is }

pub take_partner-requires : goal.take_partner-requires
take_partner-requires g c =
    let s = c.args.search.now in let l : Lead = c.in-Some.lead in let fall = c.in-Some-fall_for.fall in
    let back : to_z w64 (of_z w64 fall) ≡ fall = search rules in
    record {
      sound = c.requires.sound;
      started = c.requires.started;
      weights = c.requires.weights;
      vertex = c.requires.vertex;
      exposed = subst (IsExposed (state_of s)) (c.new.ensures ∙ c.number.ensures) (c.is_exposed.ensures.0 c.if-not-is_exposed.false);
      lead = c.lead_at.ensures.lead l c.in-Some.is;
      fall = subst (CanTake (dual_at s.arena.duals l.least.far) s.start l) (sym back) (c.fall_for.ensures.fall fall c.in-Some-fall_for.is);
    }

pub returns-in-Some-fall_for : goal.returns-in-Some-fall_for
returns-in-Some-fall_for g c =
    let e = c.take_partner.ensures in
    let s = state_of c.args.search.now in let x : IsExposed s c.args.v = subst (IsExposed s) (c.new.ensures ∙ c.number.ensures) (c.is_exposed.ensures.0 c.if-not-is_exposed.false) in
    record {
      sound = e.sound;
      started = e.started;
      frame = e.frame;
      unchanged = λ none. absurd (turn_still s c.args.v x none);
      exact = turn_taken s c.args.v _ _ _ x c.lead_at.ensures.inspections;
    }

pub move_dual-requires : goal.move_dual-requires
move_dual-requires g c =
    let s = c.args.search.now in let l : Lead = c.in-Some.lead in
    let back : to_z w64 (of_z w64 l.least.by) ≡ l.least.by = search rules in
    let exposed : IsExposed (state_of s) c.args.v = subst (IsExposed (state_of s)) (c.new.ensures ∙ c.number.ensures) (c.is_exposed.ensures.0 c.if-not-is_exposed.false) in
    record {
      sound = c.requires.sound;
      started = c.requires.started;
      vertex = c.requires.vertex;
      possible = subst (CanMove (state_of s) s.start c.args.v) (sym back)
          (lead_rises (state_of s) s.start c.args.v l c.requires.sound.shape.graph.graph c.requires.started c.requires.vertex (c.lead_at.ensures.lead l c.in-Some.is) exposed);
    }

pub returns : goal.returns
returns g c =
    let s : Search = c.args.search.now in let t : Search = c.move_dual.new.search in
    let e = c.move_dual.ensures in
    let x : IsExposed (state_of s) c.args.v = subst (IsExposed (state_of s)) (c.new.ensures ∙ c.number.ensures) (c.is_exposed.ensures.0 c.if-not-is_exposed.false) in
    record {
      sound = e.sound;
      started = e.started;
      frame = e.frame ∙ ap (λ m. record s { arena = record s.arena { duals = t.arena.duals }; mates = m }) (sym (ap (λ (x : Search). x.mates) e.frame));
      unchanged = λ none. absurd (turn_still (state_of s) c.args.v x none);
      exact = turn_taken (state_of s) c.args.v _ _ _ x c.lead_at.ensures.inspections;
    }
