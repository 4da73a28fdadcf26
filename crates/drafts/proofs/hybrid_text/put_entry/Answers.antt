use Rattle.std.proofs.Common.{map, pos, ap}
use Rattle.std.specs.String.{string_bytes}
use Rattle.benc.specs.Spelling.{integer}
use Rattle.benc.specs.Text.{items_spelling}
use Rattle.drafts.specs.Written.{texts_value}
use Rattle.drafts.proofs.Keys.{list_entry_text}
use Rattle.drafts.proofs.Penned.{put_as, put_both}
use Rattle.drafts.proofs.hybrid_text.put_entry.Goals as goal

pub returns : goal.returns
returns g c =
    let f = c.args.file.now in
    let path = put_as (items_spelling (texts_value (map string_bytes f.path.items))) c.put_strings.ensures
    (ap (λ ys. items_spelling (texts_value (map string_bytes ys))) c.deref.ensures.value) in
    put_as _ (put_both c.put.ensures (put_both c.put_integer.ensures (put_both c.put-2.ensures (put_both path c.put-3.ensures))))
    (list_entry_text (integer (pos f.length)) (items_spelling (texts_value (map string_bytes f.path.items))))
