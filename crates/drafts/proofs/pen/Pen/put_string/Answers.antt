use Rattle.std.proofs.Common.{◌≡◌, ◌∷◌, ◌++◌, length, ap, ◌∙◌}
use Rattle.std.specs.Fmt.{decimal}
use Rattle.benc.specs.Spelling.{string}
use Rattle.drafts.proofs.Penned.{put_as, put_both}
use Rattle.drafts.proofs.pen.Pen.put_string.Goals as goal

pub returns : goal.returns
returns g c =
    let text : c.as_bytes.result.now ≡ decimal (length c.args.bytes.now) = c.as_bytes.ensures.value ∙ c.format.ensures.text in
    put_as (string c.args.bytes.now) (put_both c.put.ensures (put_both c.put-2.ensures c.put-3.ensures)) (ap (λ t. t ++ 58 ∷ c.args.bytes.now) text)
