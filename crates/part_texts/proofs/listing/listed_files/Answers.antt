use Rattle.std.proofs.Common.{◌≡◌, ◌∙◌, ◌++◌, ◌∷◌, [], length, map, ap, sym}
use Rattle.std.proofs.lemmas.Iterator.{YieldsList-from_slice, YieldsList-from_zip}
use Rattle.std.proofs.lemmas.Iterator.Adapters.{YieldsList-from_vec}
use Rattle.std.proofs.lemmas.Iterator.Consumers.{YieldsList-end}
use Rattle.std.proofs.lemmas.List.{map-append}
use Rattle.std.specs.Iterator.Adapters.{zip_first, zip_second}
use Rattle.std.specs.Slice.Iter.{iter_rest}
use Rattle.std.specs.Vec.Iter.{into_iter_items, into_iter_len}
use Rattle.part_texts.specs.Listings.{listed}
use Rattle.part_texts.proofs.Listed.{all_listed, paired}
use Rattle.part_texts.proofs.listing.listed_files.Goals as goal

pub files-init : goal.files-init
files-init c = ap (map listed) c.new-files.ensures.items

pub files-preserved : goal.files-preserved
files-preserved c =
    ap (map listed) c.in_ok-push.ensures.items
    ∙ map-append listed c.files.files.items _
    ∙ ap (λ fs. fs ++ paired (c.in-Some.path, c.in-Some.length) ∷ []) c.files.invariant
    ∙ sym (map-append paired c.files.yielded ((c.in-Some.path, c.in-Some.length) ∷ []))

pub returns : goal.returns
returns c =
    let s = c.into_iter-path-iterator.result in
    let items : into_iter_items (zip_first s) ≡ c.args.paths.items = cc in
    let count : into_iter_len (zip_first s) ≡ length c.args.paths.items = cc in
    let lengths : iter_rest (zip_second s) ≡ c.args.lengths.now = cc in
    let chain = YieldsList-from_zip {s = s} (YieldsList-from_vec {s = zip_first s} c.args.paths.items items count)
    (YieldsList-from_slice {s = zip_second s} c.args.lengths.now lengths) in
    let all = YieldsList-end {s = s} chain c.files.yielded c.files.path-iterator c.files.yielded_by c.next.result c.next.new.self c.in-None.is
    c.next.ensures.steps in
    all_listed _ c.files.yielded c.args.paths.items c.args.lengths.now c.files.invariant all.0
