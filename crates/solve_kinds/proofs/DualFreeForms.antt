-- The forms of the documents of a matching and a barrier of lighter edges, and of one with its sets and paths.
use Rattle.certificates.proofs.Common.{◌≡◌, ◌&&◌, ℤ, true, List, [], ◌∷◌, ◌++◌, map, Option, None, Some, IfSome, refl, subst, list_all, and_from, Kind, LighterBarrier}
use Rattle.certificates.proofs.Common.{OuterPaths, proof_of, Optimal, CountLine, MemberLine, PathLine, Part, Count, Outer, Even, Body, blank, at_most_one, ascends, is_formed, AscendsBy}
use Rattle.certificates.proofs.Common.{IsDocument, admits, all_joined, all_mapped, IsTail, before, many_ranked, keyed, only, only-bottleneck, only-gallai}
use Rattle.doc_format.specs.declared.part.Part.TheVariants.{Barrier}
use Rattle.mb_problem.specs.declared.kind.Kind.TheVariants as kinds

-- x lines, and a u line where there is one
abbrev pub matched_body : List CountLine → Option MemberLine → Body
matched_body counts barrier = record blank { counts = counts; barrier = barrier }

tail : (barrier : Option MemberLine) → IsTail 1 (at_most_one Barrier barrier ++ [])
tail None = record { order = refl; beyond = refl }
tail (Some u) = record { order = refl; beyond = refl }

line-admitted : (barrier : Option MemberLine) → list_all (admits Optimal kinds.Bottleneck) (at_most_one Barrier barrier ++ []) ≡ true
line-admitted None = refl
line-admitted (Some u) = refl

line-formed : (barrier : Option MemberLine) → IfSome barrier (λ u. ascends u.members ≡ true) → list_all is_formed (at_most_one Barrier barrier ++ []) ≡ true
line-formed None h = refl
line-formed (Some u) h = and_from (ascends u.members) true h refl

form-matched : (weight : ℤ) (counts : List CountLine) (barrier : Option MemberLine) → AscendsBy (λ x. x.edge) counts → IfSome barrier (λ u. ascends u.members ≡ true) →
    IsDocument Optimal kinds.Bottleneck weight (matched_body counts barrier)
form-matched weight counts barrier edges members =
    let p = admits Optimal kinds.Bottleneck in
    record {
      headed = refl;
      no_weight = λ h. absurd (cc);
      letters = all_joined p (map Count counts) _ (all_mapped p Count counts (λ x. refl)) (line-admitted barrier);
      ordered = (before 0 (map Count counts) _ (many_ranked 1 Count counts (λ x. refl)) (keyed Count (λ (x : CountLine). x.edge) counts (λ x y h. h) edges) (tail barrier)).order;
      formed = all_joined is_formed (map Count counts) _ (all_mapped is_formed Count counts (λ x. refl)) (line-formed barrier members);
    }

pub form-lightest : (kind : Kind) (weight : ℤ) (counts : List CountLine) (barrier : Option MemberLine) → proof_of kind ≡ LighterBarrier → AscendsBy (λ x. x.edge) counts →
    IfSome barrier (λ u. ascends u.members ≡ true) → IsDocument Optimal kind weight (matched_body counts barrier)
form-lightest kind weight counts barrier is edges members =
    subst (λ (k : Kind). IsDocument Optimal k weight (matched_body counts barrier)) (only-bottleneck kind is) (form-matched weight counts barrier edges members)

-- x lines, a d line, a u line and r lines
abbrev pub greatest_body : List CountLine → MemberLine → MemberLine → List PathLine → Body
greatest_body counts outer border paths = record blank { counts = counts; outer = Some outer; barrier = Some border; paths = paths }

module _ (outer border : MemberLine) (paths : List PathLine) where
  abbrev rest : List Part
  rest = Outer outer ∷ Barrier border ∷ map Even paths

  rest-tail : AscendsBy (λ r. r.vertex) paths → IsTail 1 rest
  rest-tail starts =
      let last : IsTail 8 (map Even paths) = only 8 (map Even paths) (many_ranked 9 Even paths (λ r. refl)) (keyed Even (λ (r : PathLine). r.vertex) paths (λ x y h. h) starts) in
      let behind : IsTail 6 (map Even paths) = before 6 [] (map Even paths) refl refl (before 7 [] (map Even paths) refl refl last) in
      let sets : IsTail 4 rest = before 4 (Outer outer ∷ []) (Barrier border ∷ map Even paths) refl refl (before 5 (Barrier border ∷ []) (map Even paths) refl refl behind) in
      before 1 [] rest refl refl (before 2 [] rest refl refl (before 3 [] rest refl refl sets))

  form-stated : (weight : ℤ) (counts : List CountLine) → AscendsBy (λ x. x.edge) counts → ascends outer.members ≡ true → ascends border.members ≡ true
      → AscendsBy (λ r. r.vertex) paths
      → IsDocument Optimal kinds.Gallai weight (greatest_body counts outer border paths)
  form-stated weight counts edges first second starts =
      let p = admits Optimal kinds.Gallai in
      record {
        headed = refl;
        no_weight = λ h. absurd (cc);
        letters = all_joined p (map Count counts) rest (all_mapped p Count counts (λ x. refl)) (all_mapped p Even paths (λ r. refl));
        ordered = (before 0 (map Count counts) rest (many_ranked 1 Count counts (λ x. refl)) (keyed Count (λ (x : CountLine). x.edge) counts (λ x y h. h) edges) (rest-tail starts)).order;
        formed = all_joined is_formed (map Count counts) rest (all_mapped is_formed Count counts (λ x. refl))
            (and_from (ascends outer.members) (ascends border.members && list_all is_formed (map Even paths)) first
            (and_from (ascends border.members) (list_all is_formed (map Even paths)) second (all_mapped is_formed Even paths (λ r. refl))));
      }

  pub form-greatest : (kind : Kind) (weight : ℤ) (counts : List CountLine) → proof_of kind ≡ OuterPaths → AscendsBy (λ x. x.edge) counts → ascends outer.members ≡ true
      → ascends border.members ≡ true → AscendsBy (λ r. r.vertex) paths → IsDocument Optimal kind weight (greatest_body counts outer border paths)
  form-greatest kind weight counts is edges first second starts =
      subst (λ (k : Kind). IsDocument Optimal k weight (greatest_body counts outer border paths)) (only-gallai kind is) (form-stated weight counts edges first second starts)
