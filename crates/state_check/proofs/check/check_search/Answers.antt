use Rattle.alt_forest.proofs.Common.{false, refl, arith, both_ways, state_of, nested_of, outer_range, other_outer}
use Rattle.state_check.proofs.Checked.{checked, way_length, rings_pass, mates_pass, labels_pass, ways_pass}
use Rattle.state_check.proofs.check.check_search.Goals as goal

pub returns-then-not-rings_hold : goal.returns-then-not-rings_hold
returns-then-not-rings_hold c = record {
  exact = (
    λ e. absurd (both_ways false refl e),
    λ h. absurd (both_ways c.rings_hold.result c.if-not-rings_hold.true (c.rings_hold.ensures.1 (rings_pass (state_of c.args.search.now) h.depth h.state))),
  );
}

pub returns-then-not-mates_hold : goal.returns-then-not-mates_hold
returns-then-not-mates_hold c = record {
  exact = (
    λ e. absurd (both_ways false refl e),
    λ h. absurd (both_ways c.mates_hold.result c.if-not-mates_hold.true (c.mates_hold.ensures.1 (mates_pass (state_of c.args.search.now) h.depth h.state))),
  );
}

pub returns-then-not-labels_fit : goal.returns-then-not-labels_fit
returns-then-not-labels_fit c = record {
  exact = (
    λ e. absurd (both_ways false refl e),
    λ h. absurd (both_ways c.labels_fit.result c.if-not-labels_fit.true (c.labels_fit.ensures.1 (labels_pass (state_of c.args.search.now) h.depth h.state))),
  );
}

pub returns : goal.returns
returns c =
    let h = c.has_shape.ensures.0 c.if-not-has_shape.false in
    record {
      exact = (
        λ e. record {
          shape = h;
          depth = way_length (state_of c.args.search.now);
          state = checked (state_of c.args.search.now) (record {
            nested = nested_of c.args.search.now h;
            some = λ a is z. absurd (omega (arith, z, (outer_range c.args.search.now a h is).0));
            far = λ f a is. other_outer c.args.search.now f a h is;
            rings = c.rings_hold.ensures.0 c.if-not-rings_hold.false;
            slacks = c.slacks_hold.ensures.0 c.if-not-slacks_hold.false;
            duals = h.family.duals.blossoms;
            mates = c.mates_hold.ensures.0 c.if-not-mates_hold.false;
            parity = c.exposed_agree.ensures.0 c.if-not-exposed_agree.false;
            labels = c.labels_fit.ensures.0 c.if-not-labels_fit.false;
            ends = c.ways_end.ensures.0 e;
          });
        },
        λ i. c.ways_end.ensures.1 (ways_pass (state_of c.args.search.now) i.depth i.state (nested_of c.args.search.now h)),
      );
    }
