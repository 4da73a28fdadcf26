use Rattle.std.proofs.Common.{pos, ap, ◌∙◌}
use Rattle.std.specs.Fmt.{decimal}
use Rattle.benc.specs.Spelling.{integer, string}
use Rattle.drafts.proofs.Keys.{pad_text}
use Rattle.drafts.proofs.Penned.{put_as, put_both}
use Rattle.drafts.proofs.hybrid_text.put_zeros.Goals as goal

pub returns : goal.returns
returns g c =
    let name = put_as (string (decimal c.args.zeros)) c.put_string.ensures (ap string (c.as_bytes.ensures.value ∙ c.format.ensures.text)) in
    put_as _ (put_both c.put.ensures (put_both c.put_integer.ensures (put_both c.put-2.ensures (put_both name c.put-3.ensures))))
    (pad_text (integer (pos c.args.zeros)) (string (decimal c.args.zeros)))
