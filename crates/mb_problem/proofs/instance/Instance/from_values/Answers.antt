use Rattle.mb_problem.proofs.instance.Instance.from_values.Goals as goal

pub from_parts-requires : goal.from_parts-requires
from_parts-requires c =
    rw (c.in_ok-lows.ensures.items_if_clones_equal (λ y h. h), c.in_ok-highs.ensures.items_if_clones_equal (λ y h. h), c.len.ensures, c.len-2.ensures, c.args.values.ok.0) c.requires
