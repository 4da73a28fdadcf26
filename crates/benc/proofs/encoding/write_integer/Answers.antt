use Rattle.std.proofs.Common.{◌≡◌, [], ◌∷◌, ◌++◌, sym, ap, refl, ◌∙◌}
use Rattle.std.proofs.lemmas.Result.{err_from_is_err_and}
use Rattle.std.specs.Fmt.{signed_decimal}
use Rattle.std.specs.Int.{w64}
use Rattle.std.proofs.lemmas.Int.{to_z-of_z}
use Rattle.benc.specs.Spelling.{integer}
use Rattle.benc.proofs.Out.{Wrote-then, Wrote-part}
use Rattle.benc.proofs.encoding.write_integer.Goals as goal

pub returns-in_err-write_all : goal.returns-in_err-write_all
returns-in_err-write_all g c =
    let p = err_from_is_err_and c.from_residual.result c.from_residual.ensures.1 in
    Wrote-part _ p.0 _ _ (105 ∷ []) (signed_decimal c.args.n ++ 101 ∷ []) _ refl p.1 c.in_err-write_all.ensures

pub returns-in_err-write_all-2 : goal.returns-in_err-write_all-2
returns-in_err-write_all-2 g c =
    let digits = c.as_bytes.result.now in
    let text : digits ≡ signed_decimal c.args.n = c.as_bytes.ensures.value ∙ c.format.ensures.text ∙ ap signed_decimal (to_z-of_z w64 c.args.n c.ranges.n) in
    let whole : integer c.args.n ≡ 105 ∷ (digits ++ 101 ∷ []) = ap (λ t. 105 ∷ (t ++ 101 ∷ [])) (sym text) in
    let p = err_from_is_err_and c.from_residual-in_err-write_all-2.result c.from_residual-in_err-write_all-2.ensures.1 in
    Wrote-then _ _ _ _ (105 ∷ []) (digits ++ 101 ∷ []) _ whole c.in_ok-write_all.ensures
    (Wrote-part _ p.0 _ _ digits (101 ∷ []) _ refl p.1 c.in_err-write_all-2.ensures)

pub returns : goal.returns
returns g c =
    let digits = c.as_bytes.result.now in
    let text : digits ≡ signed_decimal c.args.n = c.as_bytes.ensures.value ∙ c.format.ensures.text ∙ ap signed_decimal (to_z-of_z w64 c.args.n c.ranges.n) in
    let whole : integer c.args.n ≡ 105 ∷ (digits ++ 101 ∷ []) = ap (λ t. 105 ∷ (t ++ 101 ∷ [])) (sym text) in
    Wrote-then _ _ _ _ (105 ∷ []) (digits ++ 101 ∷ []) _ whole c.in_ok-write_all.ensures
    (Wrote-then _ _ _ _ digits (101 ∷ []) _ refl c.in_ok-write_all-2.ensures c.write_all-3.ensures)
