use Rattle.std.proofs.Common.{◌≡◌, [], ◌∷◌, ◌++◌, sym, ap, refl, ◌∙◌}
use Rattle.benc.specs.Spelling.{string}
use Rattle.benc.proofs.Out.{Wrote-first, Wrote-then}
use Rattle.benc.proofs.encoding.write_string.Given.{Over}
use Rattle.benc.proofs.encoding.write_string.Goals as goal
use Rattle.benc.proofs.encoding.write_string.Goals.{After-as_bytes}

-- the digits of its length, and what comes behind them
whole : (g : Over) (c : After-as_bytes g) → string c.args.text.now ≡ c.as_bytes.result.now ++ 58 ∷ c.args.text.now
whole g c = ap (λ t. t ++ 58 ∷ c.args.text.now) (sym (c.as_bytes.ensures.value ∙ c.format.ensures.text))

pub returns-in_err-write_all : goal.returns-in_err-write_all
returns-in_err-write_all g c =
    let parts = whole g (goal.at.returns-in_err-write_all g c).After-as_bytes in
    Wrote-first _ c.from_residual.result c.from_residual.ensures.1 _ _ c.as_bytes.result.now (58 ∷ c.args.text.now) _ parts c.in_err-write_all.ensures

pub returns-in_err-write_all-2 : goal.returns-in_err-write_all-2
returns-in_err-write_all-2 g c =
    let text = c.args.text.now in
    let parts = whole g (goal.at.returns-in_err-write_all-2 g c).After-as_bytes in
    let r = c.from_residual-in_err-write_all-2.result in
    Wrote-then _ _ _ _ c.as_bytes.result.now (58 ∷ text) _ parts c.in_ok-write_all.ensures
    (Wrote-first _ r c.from_residual-in_err-write_all-2.ensures.1 _ _ (58 ∷ []) text _ refl c.in_err-write_all-2.ensures)

pub returns : goal.returns
returns g c =
    let parts = whole g (goal.at.returns g c).After-as_bytes in
    Wrote-then _ _ _ _ c.as_bytes.result.now (58 ∷ c.args.text.now) _ parts c.in_ok-write_all.ensures
    (Wrote-then _ _ _ _ (58 ∷ []) c.args.text.now _ refl c.in_ok-write_all-2.ensures c.write_all-3.ensures)
