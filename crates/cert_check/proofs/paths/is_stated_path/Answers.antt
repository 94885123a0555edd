use Rattle.certificates.proofs.Common.{◌≡◌, ℕ, ◌<◌, ◌≤◌, ℤ, List, All, length, get_or, sym, ap, ◌∙◌, subst, arith}
use Rattle.certificates.proofs.Common.{length-map-range_with_len, EDGE_LIMIT, vertices, AreDegrees, PathLine, count_of, IsUpTo, IsPathWithin, up_to-more}
use Rattle.cert_check.proofs.ListLemmas.{passed, number_within}
use Rattle.cert_check.proofs.paths.is_stated_path.Goals as goal

line_within : (n m k : ℕ) (rs read : List PathLine) (r : PathLine) → All (IsPathWithin n m) rs → k < length rs → read ≡ rs → r ≡ get_or read k r → IsPathWithin n m r
line_within n m k rs read r within there same is = subst (IsPathWithin n m) (sym (is ∙ ap (λ (l : List PathLine). get_or l k r) same)) (within k r there)

pub natural-requires : goal.natural-requires
natural-requires c =
    let i = c.args.instance.now in
    let within = line_within (vertices i) (length i.edges) c.args.place _ _ _ c.requires.within c.requires.in_range c.as_slice.ensures c.index-as_slice-place.is in
    let h = passed (vertices i) _ within.0 (omega (arith, c.requires.network.few_vertices)) in
    record { low = h.low; high = h.high }

pub is_marked-requires : goal.is_marked-requires
is_marked-requires c =
    let i = c.args.instance.now in
    let within = line_within (vertices i) (length i.edges) c.args.place _ _ _ c.requires.within c.requires.in_range c.as_slice.ensures c.index-as_slice-place.is in
    let start = number_within (vertices i) c.new-start.result _ within.0 (omega (arith, c.requires.network.few_vertices)) (c.new-start.ensures ∙ c.natural.ensures) in
    record { low = start.0; high = subst (λ (n : ℕ). c.new-start.result ≤ n) (sym (ap length c.deref.ensures.value ∙ c.requires.stated.outer.one_each)) start.1 }

pub edges_of-requires : goal.edges_of-requires
edges_of-requires c =
    let i = c.args.instance.now in
    let within = line_within (vertices i) (length i.edges) c.args.place _ _ _ c.requires.within c.requires.in_range c.as_slice.ensures c.index-as_slice-place.is in
    subst (λ (zs : List ℤ). All (IsUpTo EDGE_LIMIT) zs) (sym c.as_slice-2.ensures) (up_to-more (length i.edges) EDGE_LIMIT _ c.requires.network.few_edges within.1)

pub is_even_path-requires : goal.is_even_path-requires
is_even_path-requires c =
    let i = c.args.instance.now in
    let within = line_within (vertices i) (length i.edges) c.args.place _ _ _ c.requires.within c.requires.in_range c.as_slice.ensures c.index-as_slice-place.is in
    let start = number_within (vertices i) c.new-start.result _ within.0 (omega (arith, c.requires.network.few_vertices)) (c.new-start.ensures ∙ c.natural.ensures) in
    let counts = c.deref-2.ensures.value ∙ c.requires.stated.counts in
    record {
      one_each = ap length counts ∙ length-map-range_with_len (count_of c.args.document.now.counts) 1 (length i.edges);
      degrees = subst (AreDegrees i c.deref-2.result.now) (sym c.deref-3.ensures.value)
          (subst (λ (m : List ℕ). AreDegrees i m c.args.stated.now.degrees.items) (sym counts) c.requires.stated.degrees);
      low = start.0;
      high = start.1;
      network = c.requires.network;
    }
