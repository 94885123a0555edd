use Rattle.alt_forest.proofs.Common.{◌≡◌, ◌+◌, ◌<◌, ◌∙◌, slice_index, replicate, vec_len, sym, ap, subst, arith, AllByRecursion, most_blossoms, chain_of}
use Rattle.blossom_arena.proofs.ChainSums.{chain_places}
use Rattle.augment.proofs.Noted.{noted, noted_same, noted_leads, noted_more, zeros}
use Rattle.augment.proofs.missing.children_holding.Goals as goal

pub loop-holder-init : goal.loop-holder-init
loop-holder-init c =
    let f = c.args.arena.now in let n = c.node_limit.result + 1 in let e = c.chain-holder-items.ensures in
    let is = c.into_iter-holder-iterator.ensures.into_iter_gives ∙ e.chain in
    let table = c.in_ok-table.table.items in
    let fresh : table ≡ replicate n 0 = c.in_ok-table.ensures.items_if_clones_equal (λ y h. h) in
    let long : vec_len c.in_ok-table.table ≡ n = c.in_ok-table.ensures.len in
    let low : f.vertex_count + most_blossoms f.vertex_count < vec_len c.in_ok-table.table = omega (arith, long, c.node_limit.ensures.limit) in
    record {
      noted = λ a. ap (λ cs. noted (λ x. slice_index table x) 0 cs a) is
          ∙ noted_same (λ x. slice_index table x) (λ x. 0) 0 (chain_of f.blossoms c.args.v) (λ x. ap (λ xs. slice_index xs x) fresh ∙ zeros n x) a;
      each = subst (AllByRecursion (λ x. x < vec_len c.in_ok-table.table)) (sym is)
          (chain_places f.vertex_count (vec_len c.in_ok-table.table) f.blossoms c.args.v e.is_family.nested c.requires.vertex low);
    }

pub loop-holder-preserved : goal.loop-holder-preserved
loop-holder-preserved c =
    let v = c.loop-holder.invariant in let step = c.in-Some.ensures.steps in
    let each = subst (AllByRecursion (λ x. x < vec_len c.loop-holder.table)) step v.each in
    let same = c.number-below.ensures in
    let more = noted_more (λ x. slice_index c.loop-holder.table.items x) (λ x. slice_index c.set_entry.new.table.items x) c.loop-holder.below c.in-Some.holder
    c.loop-holder.holder-iterator c.next.new.self (noted (λ x. 0) 0 (chain_of c.args.arena.now.blossoms c.args.v)) step c.set_entry.ensures.entries v.noted in
    record {
      noted = λ a. ap (λ b. noted (λ x. slice_index c.set_entry.new.table.items x) b c.next.new.self a) same ∙ more a;
      each = subst (λ k. AllByRecursion (λ x. x < k) c.next.new.self) (sym c.set_entry.ensures.len) each.1;
    }

pub returns : goal.returns
returns c =
    let f = c.args.arena.now in let good = c.chain-holder-items.ensures.is_family in
    let leads = noted_leads f.vertex_count f.blossoms c.args.v good.nested c.requires.vertex in
    λ b k. ap (λ cs. noted (λ x. slice_index c.loop-holder.table.items x) c.loop-holder.below cs b) (sym c.in-None.ensures.steps.0) ∙ c.loop-holder.invariant.noted b ∙ leads b k
