use Rattle.graph_theory.proofs.Common.{◌≡◌, ◌∙◌, ℕ, ◌+◌, ◌/◌, ap, arith, replicate, most_blossoms}
use Rattle.blossom_arena.specs.Moving.{empty_table}
use Rattle.blossom_arena.proofs.Fresh.{fresh_sound}
use Rattle.blossom_arena.proofs.arena.Arena.new.Goals as goal

pub invariant_of-result : goal.invariant_of-result
invariant_of-result c =
    let places : c.args.n + c.saturating_sub.result / 2 + 1 ≡ c.args.n + most_blossoms c.args.n + 1 = omega (arith, c.saturating_sub.ensures) in
    fresh_sound _ (record {
      size_limit = c.requires;
      slots = c.in_ok-kept.ensures.empty;
      room = omega (arith, places, c.in_ok-kept.ensures.room);
      duals = c.in_ok-duals.ensures ∙ ap empty_table places;
      parents_len = omega (arith, c.in_ok-parents.ensures.len, places);
      parents = λ x high. c.in_ok-parents.ensures.each x (omega (arith, high, places));
      nexts = omega (arith, c.in_ok-nexts.ensures.nexts, places);
      edges = omega (arith, c.in_ok-nexts.ensures.edges, places);
      older = c.in_ok-older.ensures.older ∙ ap (λ (k : ℕ). replicate k 0) places;
      newer = c.in_ok-older.ensures.newer ∙ ap (λ (k : ℕ). replicate k 0) places;
      partition = c.in_ok-partition.ensures;
      followers = omega (arith, c.in_ok-followers.ensures.len);
    })

pub returns-clause-is_family : goal.returns-clause-is_family
returns-clause-is_family c = (invariant_of-result c).family
