-- Lemmas on links: what they lead to, trees of them, and those that a search adds.
use Rattle.graph_theory.proofs.Common.{◌≡◌, ◌⊎◌, ℕ, Bool, true, false, ◌||◌, eqb, ap, sym, ◌∙◌, inl, inr, List, [], ◌∷◌, ◌++◌, or-false, or_assoc, eqb-true}
use Rattle.graph_theory.proofs.Common.{false≢true, or_cases, or_left, or_right, Multigraph, IsGraph, IsEdgeNumber, edge_of, touches, other_end, holds, edge_of_within, edge_back}
use Rattle.graph_theory.proofs.Common.{holds-push}
use Rattle.graph_parts.specs.declared.links.Link.{Link}
use Rattle.graph_parts.specs.Links.{tos, from_of, IsLink, IsTree, AddsLink, LinksFrom, LinksAll}

pub tos-push : (ls : List Link) (l : Link) (v : ℕ) → holds (tos (ls ++ l ∷ [])) v ≡ (holds (tos ls) v || eqb l.to v)
tos-push [] l v = or-false (eqb l.to v)
tos-push (x ∷ xs) l v = ap (λ (b : Bool). eqb x.to v || b) (tos-push xs l v) ∙ sym (or_assoc (eqb x.to v) (holds (tos xs) v) (eqb l.to v))

-- trees

-- a tree stays one where more is seen
pub tree-wider : (g : Multigraph) (seen more : List ℕ) (ls : List Link) → ((w : ℕ) → holds seen w ≡ true → holds more w ≡ true) → IsTree g seen ls → IsTree g more ls
tree-wider g seen more [] wider t = tt
tree-wider g seen more (l ∷ ls) wider t = (
  t.0,
  wider (from_of g l) t.1,
  tree-wider g (l.to ∷ seen) (l.to ∷ more) ls
      (λ w h. elim (or_cases (eqb l.to w) (holds seen w) h) [
        | inl e ↦ or_left (eqb l.to w) (holds more w) e
        | inr e ↦ or_right (eqb l.to w) (holds more w) (wider w e)
      ])
      t.2,
)

-- the last link of a tree, and the tree before it
pub record IsPushed (g : Multigraph) (roots : List ℕ) (ls : List Link) (l : Link) : Type 0 where
  pub tree : IsTree g roots ls
  pub link : IsLink g l
  pub from : (holds roots (from_of g l) ≡ true) ⊎ (holds (tos ls) (from_of g l) ≡ true)

pub tree-pop : (g : Multigraph) (roots : List ℕ) (ls : List Link) (l : Link) → IsTree g roots (ls ++ l ∷ []) → IsPushed g roots ls l
tree-pop g roots [] l t = record { tree = tt; link = t.0; from = inl t.1 }
tree-pop g roots (x ∷ xs) l t =
    let v = from_of g l in
    let r = tree-pop g (x.to ∷ roots) xs l t.2 in
    record {
      tree = (t.0, t.1, r.tree);
      link = r.link;
      from = elim r.from [
        | inl h ↦ elim (or_cases (eqb x.to v) (holds roots v) h) [ inl e ↦ inr (or_left (eqb x.to v) (holds (tos xs) v) e) | inr e ↦ inl e ]
        | inr h ↦ inr (or_right (eqb x.to v) (holds (tos xs) v) h)
      ];
    }

-- a link more
pub tree-push : (g : Multigraph) (roots : List ℕ) (ls : List Link) (l : Link) → IsTree g roots ls → IsLink g l → (holds roots (from_of g l) ≡ true) ⊎ (holds (tos ls) (from_of g l) ≡ true)
    → IsTree g roots (ls ++ l ∷ [])
tree-push g roots [] l t link (inl h) = (link, h, tt)
tree-push g roots [] l t link (inr h) = absurd (false≢true h)
tree-push g roots (x ∷ xs) l t link from =
    let v = from_of g l in (
      t.0,
      t.1,
      tree-push g (x.to ∷ roots) xs l t.2 link (elim from [
        | inl h ↦ inl (or_right (eqb x.to v) (holds roots v) h)
        | inr h ↦ elim (or_cases (eqb x.to v) (holds (tos xs) v) h) [ inl e ↦ inl (or_left (eqb x.to v) (holds roots v) e) | inr e ↦ inr e ]
      ]),
    )

-- what a search adds

-- the edge at v leads from there
pub link-from : (g : Multigraph) (e v to : ℕ) → IsGraph g → IsEdgeNumber g e → touches (edge_of g e) v ≡ true → to ≡ other_end (edge_of g e) v → IsLink g (record { edge = e; to = to })
    × (from_of g (record { edge = e; to = to }) ≡ v)
link-from g e v to ok number meets leads =
    let back = edge_back g.vertices (edge_of g e) v (edge_of_within g e ok.ends number) meets in
    (record { number = number; meets = ap (touches (edge_of g e)) leads ∙ back.0 }, ap (other_end (edge_of g e)) leads ∙ back.1)

pub from-next : (g : Multigraph) (v : ℕ) (before : List ℕ) (old : List Link) (some : List ℕ) (mid : List Link) (l : Link) (reached : List ℕ) (new : List Link) → IsLink g l → from_of g l ≡ v
    → LinksFrom g v before old some mid → AddsLink l some mid reached new → LinksFrom g v before old reached new
from-next g v before old some mid l reached new link leaves so_far adds =
    elim adds [
      | inl same ↦ rw (same.0, same.1) so_far
      | inr more ↦ rw (more.0, more.1) (record {
        kept = λ w h. tos-push mid l w ∙ or_left (holds (tos mid) w) (eqb l.to w) (so_far.kept w h);
        tree = λ roots seen t. tree-push g roots mid l (so_far.tree roots seen t) link (elim seen [
          | inl h ↦ inl (ap (holds roots) leaves ∙ h)
          | inr h ↦ inr (ap (holds (tos mid)) leaves ∙ so_far.kept v h)
        ]);
        linked = λ start all w h. elim (or_cases (holds some w) (eqb l.to w) (sym (holds-push some l.to w) ∙ h)) [
          | inl was ↦ elim (so_far.linked start all w was) [
            | inl e ↦ inl e
            | inr e ↦ inr (tos-push mid l w ∙ or_left (holds (tos mid) w) (eqb l.to w) e)
          ]
          | inr now ↦ inr (tos-push mid l w ∙ or_right (holds (tos mid) w) (eqb l.to w) now)
        ];
      })
    ]

-- at the start
pub all-none : (g : Multigraph) (start : ℕ) (old : List Link) → LinksAll g start old (start ∷ []) old
all-none g start old = record {
  kept = λ w h. h;
  tree = λ roots h t. t;
  linked = λ w h. elim (or_cases (eqb start w) false h) [ inl e ↦ inl (sym (eqb-true start w e)) | inr e ↦ absurd (false≢true e) ];
}

-- .. from one reached vertex more
pub all-next : (g : Multigraph) (start v : ℕ) (old : List Link) (some : List ℕ) (mid : List Link) (reached : List ℕ) (new : List Link) → holds some v ≡ true → LinksAll g start old some mid
    → LinksFrom g v some mid reached new → LinksAll g start old reached new
all-next g start v old some mid reached new held so_far more = record {
  kept = λ w h. more.kept w (so_far.kept w h);
  tree = λ roots h t. more.tree roots (elim (so_far.linked v held) [ inl e ↦ inl (ap (holds roots) e ∙ h) | inr e ↦ inr e ]) (so_far.tree roots h t);
  linked = more.linked start so_far.linked;
}
