use Rattle.std.proofs.Common.{◌≡◌, ◌+◌, ◌∷◌, true, false, drop, map, sym, ap, subst, ◌∙◌, arith}
use Rattle.std.proofs.lemmas.List.{drop-map, drop_more}
use Rattle.std.specs.Prelude.{nat_lt}
use Rattle.drafts.specs.DraftSeen.{outline_file}
use Rattle.drafts.proofs.Contents.{IsContentEnd, ends_before, ends_here}
use Rattle.drafts.proofs.hybrid_text.content_end.Goals as goal
use Rattle.drafts.proofs.hybrid_text.content_end.Goals.{then-file-gt0, else-file-gt0}

pub files-preserved : goal.files-preserved
files-preserved c =
    let xs = c.args.files.now in
    let i = c.files.i in
    let x = c.index-files-i.result in
    let here : drop i xs ≡ x ∷ drop (i + 1) xs = drop_more xs i x (omega arith) ∙ ap (λ y. y ∷ drop (i + 1) xs) (sym c.index-files-i.is) in
    let fs = map outline_file xs in
    let at : drop i fs ≡ outline_file x ∷ drop (i + 1) fs = drop-map outline_file i xs ∙ ap (map outline_file) here
    ∙ ap (λ ys. outline_file x ∷ ys) (sym (drop-map outline_file (i + 1) xs)) in
    elim c.if-file-gt0.branch [
      | then-file-gt0 w ↦
          let some : nat_lt 0 x.length ≡ true = grind arith in
          subst (IsContentEnd fs (i + 1)) (sym w.end-is) (ends_here fs i c.files.end (outline_file x) c.files.invariant at some)
      | else-file-gt0 w ↦
          let none : nat_lt 0 x.length ≡ false = grind arith in
          subst (IsContentEnd fs (i + 1)) (sym w.end-is) (ends_before fs i c.files.end (outline_file x) c.files.invariant at none)
    ]
