use Rattle.graph_theory.proofs.Common.{◌≡◌, ◌∙◌, ℕ, ap, ap₂, sym, subst, arith, get_or_read}
use Rattle.circular_lists.specs.Linked.{AreLinked, link_at, links_without}
use Rattle.circular_lists.specs.Updates.{put}
use Rattle.circular_lists.proofs.LinkedBoth.{link_within, linked_without}
use Rattle.circular_lists.proofs.lists.take_off.Goals as goal

pub set_link-requires : goal.set_link-requires
set_link-requires c =
    let l = c.args.lists.now in
    let at = get_or_read l.previous.items c.args.place c.index-previous.result.now (omega (arith, c.requires.place, c.requires.links.previouses)) c.index-previous.ensures c.args.place in
    let low = link_within l.previous.items l.next.items c.args.place c.requires.links.linked.forth (omega (arith, c.requires.links.previouses))
    (omega (arith, c.requires.place, c.requires.links.previouses)) in
    omega (arith, at, low, c.requires.links.previouses)

pub set_link-requires-2 : goal.set_link-requires-2
set_link-requires-2 c =
    let l = c.args.lists.now in
    let at = get_or_read l.next.items c.args.place c.index-next.result.now (omega (arith, c.requires.place)) c.index-next.ensures c.args.place in
    let low = link_within l.next.items l.previous.items c.args.place c.requires.links.linked.back (omega (arith, c.requires.links.previouses)) (omega (arith, c.requires.place)) in
    omega (arith, at, low, c.requires.links.previouses)

pub returns-clause-links : goal.returns-clause-links
returns-clause-links c =
    let l = c.args.lists.now in let place : ℕ = c.args.place in let n : ℕ → ℕ = link_at l.next.items in
    let p : ℕ → ℕ = link_at l.previous.items in
    let next : c.index-next.result.now ≡ n place = get_or_read l.next.items place c.index-next.result.now (omega (arith, c.requires.place)) c.index-next.ensures place in
    let previous : c.index-previous.result.now ≡ p place = get_or_read l.previous.items place c.index-previous.result.now
    (omega (arith, c.requires.place, c.requires.links.previouses)) c.index-previous.ensures place in
    let nexts : link_at c.set_link-3.new.links.items ≡ links_without n p place = c.set_link-3.ensures.links
    ∙ ap (λ (f : ℕ → ℕ). put f place place) (c.set_link.ensures.links ∙ ap₂ (λ (x y : ℕ). put n x y) previous next) in
    let previouses : link_at c.set_link-4.new.links.items ≡ links_without p n place = c.set_link-4.ensures.links
    ∙ ap (λ (f : ℕ → ℕ). put f place place) (c.set_link-2.ensures.links ∙ ap₂ (λ (x y : ℕ). put p x y) next previous) in
    record {
      nexts = c.set_link-3.ensures.len ∙ c.set_link.ensures.len;
      previouses = c.set_link-4.ensures.len ∙ c.set_link-2.ensures.len ∙ c.requires.links.previouses;
      size_limit = c.requires.links.size_limit;
      linked = subst (λ (f : ℕ → ℕ). AreLinked f (link_at c.set_link-4.new.links.items)) (sym nexts)
          (subst (AreLinked (links_without n p place)) (sym previouses) (linked_without n p place c.requires.links.linked));
    }
