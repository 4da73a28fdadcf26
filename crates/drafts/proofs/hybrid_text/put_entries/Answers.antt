use Rattle.std.proofs.Common.{◌≡◌, ◌+◌, ◌<◌, ◌∷◌, drop, length, map, refl, sym, ap, ◌∙◌, arith}
use Rattle.std.proofs.lemmas.List.{drop-map, drop_more}
use Rattle.std.proofs.Math.ListN.{drop_of_length-le}
use Rattle.std.specs.Prelude.{nat_lt}
use Rattle.benc.specs.Text.{items_spelling}
use Rattle.drafts.specs.DraftSeen.{outline_file}
use Rattle.drafts.specs.Written.{entries_value, has_content}
use Rattle.drafts.proofs.Contents.{entries_step, file_at}
use Rattle.drafts.proofs.Penned.{put_all, put_both, put_on, put_start}
use Rattle.drafts.proofs.hybrid_text.put_entries.Goals as goal

pub put_pad-requires : goal.put_pad-requires
put_pad-requires g c =
    let x = c.index-files-i.result in
    let within : c.files.i < length c.args.files.now = omega arith in
    c.requires c.files.i (outline_file x) (file_at c.args.files.now c.files.i x within c.index-files-i.is)

pub files-init : goal.files-init
files-init g c = put_start _ _ refl

pub files-preserved : goal.files-preserved
files-preserved g c =
    let p = c.args.piece_length in
    let xs = c.args.files.now in
    let i = c.files.i in
    let x = c.index-files-i.result in
    let end = c.content_end-end.result in
    let here : drop i xs ≡ x ∷ drop (i + 1) xs = drop_more xs i x (omega arith) ∙ ap (λ y. y ∷ drop (i + 1) xs) (sym c.index-files-i.is) in
    let rest = map outline_file (drop (i + 1) xs) in
    let later : has_content rest ≡ nat_lt (i + 1) end = ap has_content (sym (drop-map outline_file (i + 1) xs)) ∙ c.content_end-end.ensures (i + 1) in
    put_on (items_spelling (entries_value p rest)) c.files.invariant (put_both c.put_entry.ensures c.put_pad.ensures)
    (ap (λ ys. items_spelling (entries_value p (map outline_file ys))) here ∙ entries_step p (outline_file x) rest (nat_lt (i + 1) end) later)

pub returns : goal.returns
returns g c = put_all c.files.invariant (ap (λ ys. items_spelling (entries_value c.args.piece_length (map outline_file ys)))
    (drop_of_length-le c.args.files.now (omega arith)))
