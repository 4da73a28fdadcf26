use Rattle.std.proofs.Common.{◌≡◌, [], ◌∷◌, ◌++◌, pos, ap, ◌∙◌}
use Rattle.std.specs.Fmt.{decimal}
use Rattle.benc.specs.Spelling.{integer}
use Rattle.drafts.proofs.Penned.{put_as, put_both}
use Rattle.drafts.proofs.pen.Pen.put_integer.Goals as goal

pub returns : goal.returns
returns g c =
    let text : c.as_bytes.result.now ≡ decimal c.args.n = c.as_bytes.ensures.value ∙ c.format.ensures.text in
    put_as (integer (pos c.args.n)) (put_both c.put.ensures (put_both c.put-2.ensures c.put-3.ensures)) (ap (λ t. 105 ∷ (t ++ 101 ∷ [])) text)
