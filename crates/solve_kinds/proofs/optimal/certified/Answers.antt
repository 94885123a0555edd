use Rattle.certificates.proofs.Common.{List, map, All, sym, ap, ◌∙◌, subst, Multigraph, DualLine, SetLine, Body, AscendsBy, IsDualWithin, AreSetLinesWithin}
use Rattle.document_lines.specs.Members.{AreWithin}
use Rattle.document_lines.specs.Sets.{ListsSets}
use Rattle.solve_kinds.proofs.Forms.{form-completed}
use Rattle.solve_answers.proofs.InRange.{sets-formed}
use Rattle.solve_kinds.proofs.Settling.{states-with}
use Rattle.solve_kinds.proofs.SolvedSets.{solved-duals, solved-within, solved-positive, solved-odd}
use Rattle.solve_kinds.proofs.optimal.certified.Goals as goal

pub set_lines-requires : goal.set_lines-requires
set_lines-requires c =
    let s = c.args.engine.now in
    let solved = c.requires.solved in
    record {
      matched = c.requires.matched;
      within = subst (λ (h : Multigraph). AreWithin h.vertices s.sets) c.requires.same_graph (solved-within s solved);
      positive = solved-positive s solved;
      numbers = solved.sets_in_range;
      nested = solved.nested;
      odd = solved-odd s solved;
    }

pub dual_lines-requires : goal.dual_lines-requires
dual_lines-requires c =
    let s = c.args.engine.now in
    let solved = c.requires.solved in
    record {
      matched = c.requires.matched;
      same_graph = c.requires.same_graph;
      one_each = solved-duals s solved ∙ ap (λ (h : Multigraph). h.vertices) c.requires.same_graph;
      in_range = solved.in_range;
    }

pub answered-requires : goal.answered-requires
answered-requires c = c.requires

pub invariant_of-document : goal.invariant_of-document
invariant_of-document c = record {
  form = form-completed c.args.kind c.args.instance.now c.args.engine.now c.in_ok-document.document c.from_vec-duals.result c.from_vec-sets.result c.requires.duals c.in_ok-document.ensures
      (subst (λ (ys : List DualLine). AscendsBy (λ y. y.vertex) ys) (sym c.from_vec-duals.ensures) c.in_ok-dual_lines.ensures.ascending)
      (sets-formed c.args.graph.now.vertices c.from_vec-sets.result
      (subst (λ (zs : List SetLine). AreSetLinesWithin c.args.graph.now.vertices zs) (sym c.from_vec-sets.ensures) c.in_ok-set_lines.ensures.within));
}

pub returns : goal.returns
returns c =
    let s = c.args.engine.now in
    let g = c.args.graph.now in
    record {
      states = states-with c.args.kind c.args.instance.now s c.in_ok-document.document c.from_vec-duals.result c.from_vec-sets.result _ c.in_ok-document.ensures.states;
      duals = ap (λ (ys : List DualLine). map (λ (y : DualLine). y.dual) ys) c.from_vec-duals.ensures ∙ c.in_ok-dual_lines.ensures.duals;
      duals_within = subst (λ (h : Multigraph). All (IsDualWithin h.vertices) c.from_vec-duals.result) (sym c.requires.same_graph)
          (subst (λ (ys : List DualLine). All (IsDualWithin g.vertices) ys) (sym c.from_vec-duals.ensures) c.in_ok-dual_lines.ensures.in_range);
      sets = subst (λ (h : Multigraph). ListsSets h.vertices s.sets c.from_vec-sets.result) (sym c.requires.same_graph)
          (subst (λ (zs : List SetLine). ListsSets g.vertices s.sets zs) (sym c.from_vec-sets.ensures) c.in_ok-set_lines.ensures);
      only = ap (λ (b : Body). record b { duals = c.from_vec-duals.result; sets = c.from_vec-sets.result }) c.in_ok-document.ensures.only;
    }
