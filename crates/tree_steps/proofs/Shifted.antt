-- Edges that are shifted along links, one by one.
use Rattle.alt_forest.proofs.Common.{◌≡◌, ℕ, ◌+◌, ◌<◌, List, [], ◌∷◌, ◌++◌, length, refl, sym, ap, ap₂, ◌∙◌, arith, length-append, append_assoc}
use Rattle.alt_forest.proofs.Common.{slice_index_or, slice_set, get_or-append_seam, Link}
use Rattle.std.proofs.Common.{append-nil}
use Rattle.std.proofs.lemmas.List.{set_at}
use Rattle.tree_steps.specs.Circuits.{shifted, last_edge}

-- the first links have their new edges, and one edge is at hand
pub record IsShifted (first : ℕ) (old now : List Link) (place edge : ℕ) : Type 0 where
  pub front : List Link
  pub left : List Link
  pub whole : old ≡ front ++ left
  pub is : now ≡ shifted first front ++ left
  pub count : length front ≡ place
  pub carried : edge ≡ last_edge first front

pub shifted-length : (e : ℕ) (ls : List Link) → length (shifted e ls) ≡ length ls
shifted-length e [] = refl
shifted-length e (l ∷ ls) = omega (arith, shifted-length l.edge ls)

shifted-push : (e : ℕ) (ls : List Link) (l : Link) → shifted e (ls ++ l ∷ []) ≡ shifted e ls ++ record { node = l.node; edge = last_edge e ls } ∷ []
shifted-push e [] l = refl
shifted-push e (k ∷ ls) l = ap (λ t. record { node = k.node; edge = e } ∷ t) (shifted-push k.edge ls l)

last-push : (e : ℕ) (ls : List Link) (l : Link) → last_edge e (ls ++ l ∷ []) ≡ l.edge
last-push e [] l = refl
last-push e (k ∷ ls) l = last-push k.edge ls l

-- one link more has its new edge
pub shifted_next : (first : ℕ) (old now : List Link) (place edge : ℕ) (l : Link) → IsShifted first old now place edge → place < length now → l ≡ slice_index_or now place l
    → IsShifted first old (slice_set now place (record { node = l.node; edge = edge })) (place + 1) l.edge
shifted_next first old now place edge l h low read = by_left h.left h.whole h.is
  where
    done : List Link
    done = shifted first h.front

    at : length done ≡ place
    at = shifted-length first h.front ∙ h.count

    by_left : (left : List Link) → old ≡ h.front ++ left → now ≡ done ++ left → IsShifted first old (slice_set now place (record { node = l.node; edge = edge })) (place + 1) l.edge
    by_left [] whole is = absurd (omega (arith, low, ap length (is ∙ append-nil done), at))
    by_left (k ∷ ls) whole is =
        let here : l ≡ k = read ∙ ap (λ zs. slice_index_or zs place l) is ∙ ap (λ j. slice_index_or (done ++ (k ∷ ls)) j l) (sym at) ∙ get_or-append_seam done k ls l in
        let x : Link = record { node = k.node; edge = last_edge first h.front } in
        record {
          front = h.front ++ k ∷ [];
          left = ls;
          whole = whole ∙ sym (append_assoc h.front (k ∷ []) ls);
          is = ap (λ zs. slice_set zs place (record { node = l.node; edge = edge })) is
              ∙ set_at done k ls (record { node = l.node; edge = edge }) place at
              ∙ ap₂ (λ (m : Link) j. done ++ (record { node = m.node; edge = j } ∷ ls)) here h.carried
              ∙ sym (append_assoc done (x ∷ []) ls) ∙ ap (λ zs. zs ++ ls) (sym (shifted-push first h.front k));
          count = omega (arith, length-append h.front (k ∷ []), h.count);
          carried = ap (λ (m : Link). m.edge) here ∙ sym (last-push first h.front k);
        }
