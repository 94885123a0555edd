use Rattle.graph_theory.proofs.Common.{◌≡◌, ◌∙◌, subst, sym}
use Rattle.dual_check.specs.Trees.{IsSpread, AreParents, AreSizes, AreEnds, AreOwn, AreJumps, AreEnclosing, roots_to}
use Rattle.dual_check.proofs.GrownLemmas.{grown}
use Rattle.dual_check.proofs.forest.Forest.of.Goals as goal

pub begins_of-requires-clause-parents : goal.begins_of-requires-clause-parents
begins_of-requires-clause-parents c = subst (AreParents c.args.sets.now c.args.count) (sym c.as_slice-parent_list.ensures.value) c.in_ok-parents.ensures

pub begins_of-requires-clause-sizes : goal.begins_of-requires-clause-sizes
begins_of-requires-clause-sizes c = subst (AreSizes c.args.sets.now c.args.count) (sym c.as_slice-size_list.ensures.value) c.in_ok-sizes.ensures

pub begins_of-requires-clause-earlier : goal.begins_of-requires-clause-earlier
begins_of-requires-clause-earlier c = c.requires.earlier

pub ends_of-requires-clause-spread : goal.ends_of-requires-clause-spread
ends_of-requires-clause-spread c =
    subst (IsSpread c.args.sets.now c.args.count c.as_slice-parent_list.result.now c.as_slice-size_list.result.now) (sym c.as_slice-begin_list.ensures.value) c.in_ok-begins.ensures

pub places_of-requires-clause-spread : goal.places_of-requires-clause-spread
places_of-requires-clause-spread c =
    subst (IsSpread c.args.sets.now c.args.count c.as_slice-parent_list.result.now c.as_slice-size_list.result.now) (sym c.as_slice-begin_list.ensures.value) c.in_ok-begins.ensures

pub jumps_of-requires : goal.jumps_of-requires
jumps_of-requires c = subst (AreParents c.args.sets.now c.args.count) (sym c.as_slice-parent_list.ensures.value) c.in_ok-parents.ensures

pub enclosing_of-requires : goal.enclosing_of-requires
enclosing_of-requires c =
    let parents = subst (AreParents c.args.sets.now c.args.count) (sym c.as_slice-parent_list.ensures.value) c.in_ok-parents.ensures in
    record { count = c.requires.count; parents = parents; numbers = c.requires.numbers }

pub returns : goal.returns
returns c =
    let sets = c.args.sets.now in
    let n = c.args.count in
    let parents = c.as_slice-parent_list.ensures.value in
    let begins = c.as_slice-begin_list.ensures.value in
    let sizes = c.as_slice-size_list.result.now in
    grown sets n sizes _ (record {
      spread = subst (λ p. IsSpread sets n p sizes c.in_ok-begins.begins.items) parents c.in_ok-begins.ensures;
      ends = subst (λ b. AreEnds n sizes b c.in_ok-ends.ends.items) begins c.in_ok-ends.ensures;
      long = c.in_ok-places.ensures.size ∙ subst (λ p. c.in_ok-total.total ≡ roots_to n p sizes n) parents c.in_ok-total.ensures;
      own = subst (λ b. AreOwn sets n b c.in_ok-places.places.items) begins c.in_ok-places.ensures.own;
      jumps = subst (λ p. AreJumps n p 0 c.in_ok-jumps.jumps.items) parents c.in_ok-jumps.ensures;
      enclosing = subst (λ p. AreEnclosing sets n p c.in_ok-enclosing.enclosing.items) parents c.in_ok-enclosing.ensures;
    })
