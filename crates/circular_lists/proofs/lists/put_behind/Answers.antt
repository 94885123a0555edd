use Rattle.graph_theory.proofs.Common.{◌≡◌, ◌∙◌, ℕ, ap, ap₂, sym, subst, arith, get_or_read}
use Rattle.circular_lists.specs.Linked.{AreLinked, link_at}
use Rattle.circular_lists.specs.Updates.{put}
use Rattle.circular_lists.proofs.LinkedBoth.{link_within, linked_with, next_with, previous_with}
use Rattle.circular_lists.proofs.lists.put_behind.Goals as goal

pub set_link-requires-3 : goal.set_link-requires-3
set_link-requires-3 c =
    let l = c.args.lists.now in
    let at = get_or_read l.next.items c.args.front c.index-next.result.now (omega (arith, c.requires.front)) c.index-next.ensures c.args.front in
    let low = link_within l.next.items l.previous.items c.args.front c.requires.links.linked.back (omega (arith, c.requires.links.previouses)) (omega (arith, c.requires.front)) in
    omega (arith, at, low, c.requires.links.previouses)

pub returns-clause-links : goal.returns-clause-links
returns-clause-links c =
    let l = c.args.lists.now in let place : ℕ = c.args.place in let front : ℕ = c.args.front in
    let n : ℕ → ℕ = link_at l.next.items in let p : ℕ → ℕ = link_at l.previous.items in
    let next : c.index-next.result.now ≡ n front = get_or_read l.next.items front c.index-next.result.now (omega (arith, c.requires.front)) c.index-next.ensures front in
    let nexts : link_at c.set_link-2.new.links.items ≡ next_with n front place = c.set_link-2.ensures.links
    ∙ ap₂ (λ (f : ℕ → ℕ) (x : ℕ). put f place x) c.set_link.ensures.links next in
    let previouses : link_at c.set_link-4.new.links.items ≡ previous_with n p front place = c.set_link-4.ensures.links
    ∙ ap (λ (f : ℕ → ℕ). put f place front) (c.set_link-3.ensures.links ∙ ap (λ (x : ℕ). put p x place) next) in
    record {
      nexts = c.set_link-2.ensures.len ∙ c.set_link.ensures.len;
      previouses = c.set_link-4.ensures.len ∙ c.set_link-3.ensures.len ∙ c.requires.links.previouses;
      size_limit = c.requires.links.size_limit;
      linked = subst (λ (f : ℕ → ℕ). AreLinked f (link_at c.set_link-4.new.links.items)) (sym nexts)
          (subst (AreLinked (next_with n front place)) (sym previouses) (linked_with n p front place c.requires.links.linked c.requires.other c.requires.alone));
    }
