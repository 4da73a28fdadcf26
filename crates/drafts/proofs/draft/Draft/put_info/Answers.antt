use Rattle.std.proofs.Common.{◌≡◌, List, [], ◌∷◌, ◌++◌, map, pos, if◌then◌else◌, sym, ap, ◌∙◌}
use Rattle.std.specs.Prelude.{codes}
use Rattle.benc.specs.Spelling.{integer, string}
use Rattle.benc.specs.Text.{pairs_spelling, spelling}
use Rattle.benc.specs.Value.{no_pairs}
use Rattle.drafts.specs.DraftSeen.{outline_file}
use Rattle.drafts.specs.Outline.{Outline, OutlineFile}
use Rattle.drafts.specs.Written.{file_tree_of, info_value, last_pairs, list_pair, pieces_pair}
use Rattle.drafts.specs.declared.draft.DraftFile.{DraftFile}
use Rattle.drafts.proofs.DraftText.{list_text}
use Rattle.drafts.proofs.Keys.{info_text, last_text, version_two}
use Rattle.drafts.proofs.Penned.{put_as, put_both}
use Rattle.drafts.proofs.draft.Draft.put_info.Goals as goal

pub returns : goal.returns
returns g c =
    let d = c.args.self.now in
    let files : map outline_file c.deref.result.now ≡ d.files = ap (λ (fs : List DraftFile). map outline_file fs) c.deref.ensures.value
    ∙ ap (λ (o : Outline). o.files) c.self.view_is in
    let tree = put_as (pairs_spelling (file_tree_of d.files)) c.put_tree.ensures (ap (λ (fs : List OutlineFile). pairs_spelling (file_tree_of fs)) files) in
    let name = put_as (string d.name) c.put_string.ensures (ap string (c.as_bytes.ensures.value ∙ ap (λ (o : Outline). o.name) c.self.view_is)) in
    let length = put_as (integer (pos d.piece_length)) c.put_integer.ensures (ap (λ n. integer (pos n)) (c.bytes.ensures.value
    ∙ ap (λ (o : Outline). o.piece_length) c.self.view_is)) in
    let last = put_as (pairs_spelling (last_pairs d))
    (put_both c.put-3.ensures (put_both name (put_both c.put-4.ensures (put_both length c.put_pieces.ensures))))
    (last_text (string d.name) (integer (pos d.piece_length)) (pairs_spelling (pieces_pair d)) (integer (pos 2)) version_two)
    in
    let list = pairs_spelling (if d.hybrid then list_pair d no_pairs else no_pairs) in
    put_as (spelling (info_value d)) (put_both c.put.ensures
    (put_both tree (put_both c.put-2.ensures (put_both c.put_list.ensures (put_both last c.put-5.ensures)))))
    (info_text (pairs_spelling (file_tree_of d.files)) list (pairs_spelling (last_pairs d))
    ∙ ap (λ t. 100 ∷ ((string (codes "file tree") ++ ((100 ∷ (pairs_spelling (file_tree_of d.files) ++ 101 ∷ [])) ++ t)) ++ 101 ∷ [])) (sym (list_text d)))
