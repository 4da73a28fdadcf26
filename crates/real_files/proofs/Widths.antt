-- The width of no text.
use Rattle.std.proofs.Common.{◌≡◌, ◌≤◌, ℕ, List, [], chars, false, refl, ◌∙◌, ap, arith}
use Rattle.std.proofs.lemmas.Str.{chars-nil}
use Rattle.unicode_width.specs.Width.{str_width}
use Rattle.unicode_width.proofs.Rules.{str_width-printable}

-- no text fits in any columns
pub nothing_fits : (text : List ℕ) (columns : ℕ) → text ≡ [] → str_width false (chars text) ≤ columns
nothing_fits text columns e =
    let w : str_width false (chars text) ≡ 0 =
    ap (λ t. str_width false (chars t)) e
    ∙ ap (str_width false) chars-nil
    ∙ str_width-printable false [] refl
    in omega (arith, w)
