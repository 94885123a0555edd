use Rattle.graph_theory.proofs.Common.{◌≡◌, ◌+◌, ℕ, Bool, false, List, length, get_or, ap, ◌∙◌, arith, inl, inr, cases_lt, get_or-replicate, get_or_past, length-replicate}
use Rattle.std.proofs.Common.{replicate}
use Rattle.document_lines.specs.LastLines.{entry}
use Rattle.document_lines.proofs.Listing.{lists-sets}
use Rattle.document_lines.proofs.sets.set_lines.Goals as goal

-- a table that is the same everywhere, past its end too
same_entry : {A : Type 0} (n v : ℕ) (x : A) → get_or (replicate n x) v x ≡ x
same_entry n v x = elim (cases_lt v n) [ inl low ↦ get_or-replicate n v x x low | inr past ↦ get_or_past (replicate n x) v x (omega (arith, past, length-replicate n x)) ]

pub put_lines-listed-requires-clause-well_formed : goal.put_lines-listed-requires-clause-well_formed
put_lines-listed-requires-clause-well_formed c =
    let n = c.vertices-vertices.result in
    let t = c.in_ok-tables.ensures in
    record {
      last_size = ap length t.last ∙ length-replicate {A = ℕ} (n + 1) 0;
      seen_size = ap length t.seen ∙ length-replicate {A = ℕ} (c.set_count-count.result + 1) 0 ∙ ap (λ k. k + 1) c.set_count-count.ensures;
      marks_size = ap length t.marks ∙ length-replicate (n + 1) false;
      last = λ v. ap (λ (xs : List ℕ). entry xs v) t.last ∙ same_entry {A = ℕ} (n + 1) v 0;
      seen = λ v. omega (arith, ap (λ (xs : List ℕ). entry xs v) t.seen, same_entry {A = ℕ} (c.set_count-count.result + 1) v 0);
      clear = λ v. ap (λ (xs : List Bool). get_or xs v false) t.marks ∙ same_entry (n + 1) v false;
    }

pub returns : goal.returns
returns c =
    let r = c.requires in
    lists-sets c.args.graph.now.vertices c.args.engine.now.sets c.put_lines-listed.new.lines.items r.within r.positive r.numbers r.nested r.odd c.in_ok-listed.ensures.count
    c.in_ok-listed.ensures.lines
