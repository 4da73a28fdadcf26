use Rattle.std.proofs.Common.{◌≡◌, ◌+◌, ◌∷◌, drop, map, refl, sym, ap, ◌∙◌, arith}
use Rattle.std.proofs.lemmas.List.{drop-map, drop_more}
use Rattle.std.proofs.Math.ListN.{drop_of_length-le}
use Rattle.std.specs.List.{concat}
use Rattle.std.specs.Prelude.{nat_lt}
use Rattle.drafts.specs.DraftSeen.{outline_file}
use Rattle.drafts.specs.Written.{digests_of, has_content}
use Rattle.drafts.proofs.Contents.{digests_step}
use Rattle.drafts.proofs.Penned.{put_all, put_on, put_start}
use Rattle.drafts.proofs.hybrid_text.put_digests.Goals as goal

pub files-init : goal.files-init
files-init g c = put_start _ _ refl

pub files-preserved : goal.files-preserved
files-preserved g c =
    let xs = c.args.files.now in
    let i = c.files.i in
    let x = c.index-files-i.result in
    let end = c.content_end-end.result in
    let here : drop i xs ≡ x ∷ drop (i + 1) xs = drop_more xs i x (omega arith) ∙ ap (λ y. y ∷ drop (i + 1) xs) (sym c.index-files-i.is) in
    let rest = map outline_file (drop (i + 1) xs) in
    let later : has_content rest ≡ nat_lt (i + 1) end = ap has_content (sym (drop-map outline_file (i + 1) xs)) ∙ c.content_end-end.ensures (i + 1) in
    put_on (concat (digests_of rest)) c.files.invariant c.put_cuts.ensures
    (ap (λ ys. concat (digests_of (map outline_file ys))) here ∙ digests_step (outline_file x) rest (nat_lt (i + 1) end) later)

pub returns : goal.returns
returns g c = put_all c.files.invariant (ap (λ ys. concat (digests_of (map outline_file ys))) (drop_of_length-le c.args.files.now (omega arith)))
