use Rattle.std.proofs.Common.{◌≡◌, ◌+◌, ◌-◌, ℕ, List, ◌∷◌, ◌++◌, length, map, take, drop, sym, ap, ◌∙◌, append_assoc, arith}
use Rattle.std.proofs.lemmas.List.{drop-map, drop_more, length-map, take_rest}
use Rattle.std.proofs.Math.ListN.{drop_of_length-le}
use Rattle.std.specs.String.{string_bytes}
use Rattle.drafts.specs.DraftSeen.{outline_file}
use Rattle.drafts.specs.TreeText.{closed, opened, shared}
use Rattle.drafts.specs.Written.{file_value, walk_to_file}
use Rattle.drafts.proofs.Building.{walks_in_order}
use Rattle.drafts.proofs.Penned.{put_as, put_both, put_last, put_on, put_start}
use Rattle.drafts.proofs.TreeTexts.{leaf_text, rest_text, tree_text}
use Rattle.drafts.proofs.tree_text.put_tree.Goals as goal

three : (a b c later : List ℕ) → a ++ (b ++ (c ++ later)) ≡ (a ++ (b ++ c)) ++ later
three a b c later = simp append_assoc

pub files-init : goal.files-init
files-init g c =
    let fs = map outline_file c.args.files.now in
    put_start _ _ (tree_text (map walk_to_file fs) (walks_in_order fs c.requires))

pub files-preserved : goal.files-preserved
files-preserved g c =
    let l = c.files in
    let xs = c.args.files.now in
    let x = c.file-item.result in
    let here : drop l.file-index xs ≡ x ∷ drop (l.file-index + 1) xs = drop_more xs l.file-index x (omega arith)
    ∙ ap (λ y. y ∷ drop (l.file-index + 1) xs) (sym c.file-item.is) in
    let before = map string_bytes l.before.now in
    let own = c.as_slice-path.result.now in
    let path = map string_bytes own in
    let kept = shared before path in
    let walks = map walk_to_file (map outline_file (drop (l.file-index + 1) xs)) in
    let file = file_value (outline_file x) in
    let is = c.shared_count-kept.ensures.value in
    let count : length l.before.now - c.shared_count-kept.result ≡ length before - kept = omega (arith, is, length-map l.before.now string_bytes) in
    let parts : opened (map string_bytes (take (length own - c.shared_count-kept.result) (drop c.shared_count-kept.result own))) ≡ opened (drop kept path) =
    ap (λ y. opened (map string_bytes y)) (take_rest own c.shared_count-kept.result) ∙ ap opened (sym (drop-map string_bytes c.shared_count-kept.result own))
    ∙ ap (λ n. opened (drop n path)) is
    in
    let ends = put_as (closed (length before - kept)) c.put_ends.ensures (ap closed count) in
    let begun = put_as (opened (drop kept path)) c.put_opened.ensures parts in
    put_on (rest_text path walks) l.invariant (put_both ends (put_both begun c.put_file.ensures))
    (ap (λ ys. rest_text before (map walk_to_file (map outline_file ys))) here
    ∙ ap (λ (p : List (List ℕ)). rest_text before (record { path = p; file = file } ∷ walks)) (ap (map string_bytes) (sym c.as_slice-path.ensures.value))
    ∙ three (closed (length before - kept)) (opened (drop kept path)) (leaf_text file) (rest_text path walks))

pub returns : goal.returns
returns g c =
    let before = map string_bytes c.files.before.now in
    put_last c.files.invariant c.put_ends-2.ensures
    (ap (λ ys. rest_text before (map walk_to_file (map outline_file ys))) (drop_of_length-le c.args.files.now (omega arith))
    ∙ ap closed (length-map c.files.before.now string_bytes))
