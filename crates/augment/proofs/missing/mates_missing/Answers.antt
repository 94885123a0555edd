use Rattle.alt_forest.proofs.Common.{◌≡◌, ◌∙◌, ℕ, false, sym, subst, slice_index, Option, is_child, outermost_has, IsOutermost, state_of, edge_in, nested_of}
use Rattle.alt_forest.specs.declared.search.Search.{Search}
use Rattle.augment.specs.Opening.{AreInner, Unpacks}
use Rattle.augment.specs.Turns.{IsUprooted}
use Rattle.augment.proofs.Finished.{can_mark, can_unpack, are_vertex_mates, is_matching, leaves_one}
use Rattle.augment.proofs.LeftOut.{inner_from_leads}
use Rattle.augment.proofs.Instead.{misses_instead}
use Rattle.augment.proofs.missing.mates_missing.Goals as goal

pub uproot_in-requires-clause-is : goal.uproot_in-requires-clause-is
uproot_in-requires-clause-is c =
    let s : Search = c.args.search.now in let nested = nested_of s c.requires.sound.shape in
    subst (IsOutermost (state_of s)) (sym c.outermost.ensures.node) (outermost_has s.graph.vertices s.arena.blossoms c.args.v nested c.requires.vertex).0

pub mark_mates-requires-clause-possible : goal.mark_mates-requires-clause-possible
mark_mates-requires-clause-possible c =
    can_mark c.args.search.now c.requires.sound (edge_in c.uproot_in.new.mates.items) c.uproot_in.ensures.uprooted.mates
    (edge_in c.clear_children.new.mates.items) c.clear_children.ensures.outermost c.clear_children.ensures.within

pub open_all-requires-clause-possible : goal.open_all-requires-clause-possible
open_all-requires-clause-possible c =
    can_unpack c.args.search.now c.requires.sound (edge_in c.uproot_in.new.mates.items) c.uproot_in.ensures.uprooted.mates (edge_in c.mark_mates.new.mates.items)
    (λ a free. c.mark_mates.ensures.outermost a free ∙ c.clear_children.ensures.outermost a free) c.mark_mates.ensures.bare c.mark_mates.ensures.spread

pub open_all-requires-clause-inner : goal.open_all-requires-clause-inner
open_all-requires-clause-inner c =
    let s : Search = c.args.search.now in let inner = λ (b : ℕ). slice_index c.in_ok-inner.inner.items b in
    subst (λ xs. AreInner s.arena.blossoms (λ b. slice_index xs b)) (sym c.deref-2.ensures.value)
    (inner_from_leads s.graph.vertices inner s.arena.blossoms c.args.v (nested_of s c.requires.sound.shape) c.requires.vertex c.in_ok-inner.ensures)

pub returns : goal.returns
returns c =
    let s : Search = c.args.search.now in let is = c.requires.sound in let nested = nested_of s is.shape in
    let m : ℕ → Option ℕ = edge_in c.uproot_in.new.mates.items in
    let marked = edge_in c.mark_mates.new.mates.items in let final = edge_in c.open_all.new.mates.items in
    let inner = λ (b : ℕ). slice_index c.in_ok-inner.inner.items b in let leads = c.in_ok-inner.ensures in
    let are = inner_from_leads s.graph.vertices inner s.arena.blossoms c.args.v nested c.requires.vertex leads in
    let same : (a : ℕ) → is_child s.arena.blossoms a ≡ false → marked a ≡ m a = λ a free. c.mark_mates.ensures.outermost a free ∙ c.clear_children.ensures.outermost a free in
    let unpacks = subst (λ xs. Unpacks s.graph s.arena.blossoms (λ b. slice_index xs b) marked final) c.deref-2.ensures.value c.open_all.ensures.unpacks in
    let up = subst (IsUprooted (state_of s) m) c.outermost.ensures.node c.uproot_in.ensures.uprooted in
    record {
      size = c.open_all.ensures.len ∙ c.mark_mates.ensures.len ∙ c.clear_children.ensures.len ∙ c.uproot_in.ensures.len ∙ c.in_ok-mates.ensures.len ∙ c.deref.ensures.len;
      mates = are_vertex_mates s is m up.mates marked same inner final unpacks;
      matching = is_matching s is m up.mates marked same inner final unpacks;
      instead = misses_instead (state_of s) is.depth nested is.state c.requires.misses c.args.v c.requires.vertex c.requires.outer inner leads m final up
          (leaves_one s is m up.mates marked same inner final unpacks are);
    }
