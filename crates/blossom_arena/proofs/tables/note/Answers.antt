use Rattle.graph_theory.proofs.Common.{◌≡◌, ◌∙◌, List, [], drop, sym, ap, arith}
use Rattle.std.proofs.lemmas.List.{drop_all}
use Rattle.blossom_arena.specs.Family.{nodes_of}
use Rattle.blossom_arena.specs.Tables.{filled, noted}
use Rattle.blossom_arena.specs.declared.links.Link.{Link}
use Rattle.blossom_arena.proofs.LinkLists.{drop_next}
use Rattle.blossom_arena.proofs.tables.note.Goals as goal

pub loop-link-preserved : goal.loop-link-preserved
loop-link-preserved c =
    let i = c.loop-link.invariant in
    let next = drop_next c.args.circuit.now c.loop-link.link-index c.link-item.result c.loop-link-test.true c.link-item.is in
    record {
      noted = rw (c.set_entry.ensures.items, c.number-number.ensures) (rw next at i.noted);
      filled = rw (c.set_entry-in-loop-link.ensures.items, c.number-number.ensures) (rw next at i.filled);
      edges_len = c.set_entry.ensures.len ∙ i.edges_len;
      parents_len = c.set_entry-in-loop-link.ensures.len ∙ i.parents_len;
      within_edges = (rw next at i.within_edges).1;
      within_parents = (rw next at i.within_parents).1;
    }

pub set_entry-requires : goal.set_entry-requires
set_entry-requires c =
    let next = drop_next c.args.circuit.now c.loop-link.link-index c.link-item.result c.loop-link-test.true c.link-item.is in
    omega (arith, (rw next at c.loop-link.invariant.within_edges).0, c.loop-link.invariant.edges_len, c.number-number.ensures)

pub set_entry-requires-in-loop-link : goal.set_entry-requires-in-loop-link
set_entry-requires-in-loop-link c =
    let next = drop_next c.args.circuit.now c.loop-link.link-index c.link-item.result c.loop-link-test.true c.link-item.is in
    omega (arith, (rw next at c.loop-link.invariant.within_parents).0, c.loop-link.invariant.parents_len, c.number-number.ensures)

pub returns : goal.returns
returns c =
    let i = c.loop-link.invariant in
    let none : drop c.loop-link.link-index c.args.circuit.now ≡ [] = drop_all c.loop-link.link-index c.args.circuit.now c.loop-link-test.false in
    record {
      edges = ap (noted c.loop-link.edges.items) (sym none) ∙ i.noted;
      edges_len = i.edges_len;
      parents = ap (λ (ls : List Link). filled c.loop-link.parents.items (nodes_of ls) c.args.node) (sym none) ∙ i.filled;
      parents_len = i.parents_len;
    }
