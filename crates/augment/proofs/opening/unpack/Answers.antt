use Rattle.alt_forest.proofs.Common.{◌≡◌, ◌∙◌, ℕ, false, refl, slice_index, [], is_child, edge_in}
use Rattle.augment.proofs.Finished.{can_mark, can_unpack, are_vertex_mates, is_matching, outer_kept, each_vertex, is_perfect, each_tight, each_left, misses_each, still_sound}
use Rattle.augment.proofs.opening.unpack.Goals as goal

pub mark_mates-requires-clause-possible : goal.mark_mates-requires-clause-possible
mark_mates-requires-clause-possible c = can_mark c.args.search.now c.requires.sound (edge_in c.args.search.now.mates.items) c.requires.sound.state.mates
    (edge_in c.clear_children.new.mates.items) c.clear_children.ensures.outermost c.clear_children.ensures.within

pub open_all-requires-clause-possible : goal.open_all-requires-clause-possible
open_all-requires-clause-possible c =
    can_unpack c.args.search.now c.requires.sound (edge_in c.args.search.now.mates.items) c.requires.sound.state.mates (edge_in c.mark_mates.new.mates.items)
    (λ a free. c.mark_mates.ensures.outermost a free ∙ c.clear_children.ensures.outermost a free) c.mark_mates.ensures.bare c.mark_mates.ensures.spread

pub returns : goal.returns
returns c =
    let s = c.args.search.now in let is = c.requires.sound in let old = edge_in s.mates.items in
    let marked = edge_in c.mark_mates.new.mates.items in let final = edge_in c.open_all.new.mates.items in
    let inner = λ (b : ℕ). slice_index [] b in
    let same : (a : ℕ) → is_child s.arena.blossoms a ≡ false → marked a ≡ old a = λ a free. c.mark_mates.ensures.outermost a free ∙ c.clear_children.ensures.outermost a free in
    let unpacks = c.open_all.ensures.unpacks in
    record {
      sound = still_sound s is marked final same inner unpacks (record s { mates = c.open_all.new.mates }) refl
          (c.open_all.ensures.len ∙ c.mark_mates.ensures.len ∙ c.clear_children.ensures.len) refl;
      matching = is_matching s is old is.state.mates marked same inner final unpacks;
      misses = misses_each s is marked final same inner unpacks (λ b. refl);
      some = are_vertex_mates s is old is.state.mates marked same inner final unpacks;
      mates = each_vertex s is marked final same inner unpacks;
      perfect = is_perfect s is marked final same inner unpacks;
      tight = each_tight s is marked final same inner unpacks;
      leaves = each_left s is marked final same inner unpacks;
      outermost = outer_kept s is marked final same inner unpacks;
      queue = refl;
      frame = refl;
    }
