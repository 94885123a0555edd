-- Nodes inside a blossom rest: what a shrink and a dissolve leave of the motions.
use Rattle.graph_theory.proofs.Common.{nat_tests, ◌≡◌, ℕ, zero, suc, true, false, List, [], ◌∷◌, length, refl, ◌∙◌, arith, slice_set, both_ways, get_or-set_other}
use Rattle.graph_theory.proofs.Common.{length-set, holds}
use Rattle.blossom_arena.specs.declared.label.Label.{Label}
use Rattle.blossom_arena.specs.declared.label.Label.TheVariants.{Out}
use Rattle.blossom_arena.specs.declared.links.Link.{Link}
use Rattle.blossom_arena.specs.Family.{Blossom, nodes_of, is_node, label_at, made_of, rested, HasMotions, without}
use Rattle.blossom_arena.proofs.Taken.{outermost_stays}

pub length-rested : (ms : List Label) (xs : List ℕ) → length (rested ms xs) ≡ length ms
length-rested ms [] = refl
length-rested ms (x ∷ xs) = length-rested (slice_set ms x Out) xs ∙ length-set ms x Out

now_rests : (ms : List Label) (x : ℕ) → label_at (slice_set ms x Out) x ≡ Out
now_rests [] x = refl
now_rests (m ∷ ms) zero = refl
now_rests (m ∷ ms) (suc x) = now_rests ms x

-- a number that rests still does once another is put to rest
rest_stays : (ms : List Label) (x a : ℕ) → label_at ms a ≡ Out → label_at (slice_set ms x Out) a ≡ Out
rest_stays ms x a e = grind (arith, nat_tests, get_or-set_other ms x a Out Out, now_rests ms x)

rested_stays : (ms : List Label) (xs : List ℕ) (a : ℕ) → label_at ms a ≡ Out → label_at (rested ms xs) a ≡ Out
rested_stays ms [] a e = e
rested_stays ms (x ∷ xs) a e = rested_stays (slice_set ms x Out) xs a (rest_stays ms x a e)

-- each of the nodes rests
pub rested_in : (ms : List Label) (xs : List ℕ) (a : ℕ) → holds xs a ≡ true → label_at (rested ms xs) a ≡ Out
rested_in ms [] a e = absurd (both_ways false refl e)
rested_in ms (x ∷ xs) a e = grind (arith, nat_tests, rested_in (slice_set ms x Out) xs a, rested_stays (slice_set ms x Out) xs a, now_rests ms x)

-- and no other changes
pub rested_out : (ms : List Label) (xs : List ℕ) (a : ℕ) → holds xs a ≡ false → label_at (rested ms xs) a ≡ label_at ms a
rested_out ms [] a e = refl
rested_out ms (x ∷ xs) a e = grind (arith, nat_tests, rested_out (slice_set ms x Out) xs a, get_or-set_other ms x a Out Out)

pub motions_shrunk : (n : ℕ) (bs : List Blossom) (ms : List Label) (ring : List Link) (node : ℕ) → is_node n bs node ≡ false → HasMotions n ms bs
    → HasMotions n (slice_set (rested ms (nodes_of ring)) node Out) (made_of bs ring node ∷ bs)
motions_shrunk n bs ms ring node fresh h = record {
  one_each = length-set (rested ms (nodes_of ring)) node Out ∙ length-rested ms (nodes_of ring) ∙ h.one_each;
  inside = λ a e. grind (
    arith,
    nat_tests,
    rest_stays (rested ms (nodes_of ring)) node a,
    now_rests (rested ms (nodes_of ring)) node,
    rested_in ms (nodes_of ring) a,
    rested_out ms (nodes_of ring) a,
    h.inside a,
  );
}

pub motions_dissolved : (n : ℕ) (bs : List Blossom) (ms : List Label) (node : ℕ) → HasMotions n ms bs → HasMotions n (slice_set ms node Out) (without bs node)
motions_dissolved n bs ms node h = record {
  one_each = length-set ms node Out ∙ h.one_each;
  inside = λ a e. grind (arith, nat_tests, now_rests ms node, rest_stays ms node a, h.inside a, outermost_stays n bs node a);
}
