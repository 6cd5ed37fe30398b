use Rattle.std.proofs.Common.{◌≡◌, ◌∙◌, [], true, false, arith, bytes_eq, length, sym}
use Rattle.std.proofs.lemmas.List.Elements.{All-cons, All-nil}
use Rattle.std.proofs.lemmas.Slice.Eq.{bytes_eq-Decides}
use Rattle.ul_index.specs.Catalogs.{IsOtherName}
use Rattle.tests_inputs.proofs.index.documents.catalog.Goals as goal

pub of-requires : goal.of-requires
of-requires c =
    let p = c.args.project in
    let q = c.args.found in
    let apart : bytes_eq p.name q.name ≡ false = c.are_apart.ensures.apart c.if-are_apart.true in
    let one : length p.releases ≡ 1 = c.are_apart.ensures.one c.if-are_apart.true in
    rw c.in_ok-packages.ensures.items record {
      differ = (
        All-cons (IsOtherName p) q [] (λ same. let yes : bytes_eq p.name q.name ≡ true = (bytes_eq-Decides p.name q.name).1 same in let clash : true ≡ false = sym yes ∙ apart in cc) (All-nil (IsOtherName p)),
        (All-nil (IsOtherName q), tt),
      );
      few = omega (arith, one, c.are_apart.ensures.few c.if-are_apart.true);
      project = one;
    }
