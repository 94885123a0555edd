use Rattle.alt_forest.proofs.Common.{◌≡◌, ◌∙◌, ◌+◌, ◌++◌, ◌≤◌, Bool, true, [], cond, length, refl, sym, ap, subst, and_parts, append-nil}
use Rattle.alt_forest.proofs.Common.{vec_len, vec_capacity, members_of, is_label, is_outermost, label_at, outermost_parts, Outer}
use Rattle.augment.specs.Sides.{is_outer}
use Rattle.augment.proofs.tree_sizes.scan_part.Goals as goal

pub scan-requires : goal.scan-requires
scan-requires c =
    let s = c.args.search.now in let a = c.args.node in let bs = s.arena.blossoms in
    let outer : is_outer s a ≡ true = sym c.is_outer.ensures ∙ c.if-not-is_outer.false in
    let node = (outermost_parts s.graph.vertices bs a (and_parts (is_outermost s.graph.vertices bs a) (is_label (label_at s.labels.items a) Outer) outer).0).0 in
    let room = subst (λ (b : Bool). vec_len s.scanned + length (cond b (members_of bs a) []) ≤ vec_capacity s.scanned) outer c.requires.room in
    record { shape = c.requires.shape; node = node; room = room }

pub returns-then-not-is_outer : goal.returns-then-not-is_outer
returns-then-not-is_outer c =
    let s = c.args.search.now in
    let none = ap (λ (b : Bool). s.scanned.items ++ cond b (members_of s.arena.blossoms c.args.node) []) (sym c.is_outer.ensures ∙ c.if-not-is_outer.true) in
    record { scanned = sym (none ∙ append-nil s.scanned.items); frame = refl; shape = c.requires.shape }
