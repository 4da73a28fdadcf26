use Rattle.std.proofs.Common.{◌≡◌, ◌-◌, [], ◌∷◌, ◌++◌, true, length, take, sym, ap, ◌∙◌, arith}
use Rattle.std.proofs.lemmas.List.{append-nil}
use Rattle.std.proofs.lemmas.List.Concat.{concat_is}
use Rattle.std.proofs.lemmas.List.Folds.{concat-append}
use Rattle.std.specs.List.{concat}
use Rattle.std.specs.Prelude.{nat_lt}
use Rattle.drafts.specs.DraftSeen.{outline_file}
use Rattle.drafts.specs.Written.{filled_cuts}
use Rattle.drafts.proofs.Penned.{put_as, put_both}
use Rattle.drafts.proofs.hybrid_text.put_cuts.Goals as goal

pub returns-then-is_followed : goal.returns-then-is_followed
returns-then-is_followed g c =
    let f = c.args.file.now in
    let cuts = f.cuts.items in
    let some : nat_lt 0 f.length ≡ true = grind arith in
    let whole : c.saturating_sub-whole.result ≡ length cuts - 1 = omega (arith, c.saturating_sub-whole.ensures, c.len.ensures, f.cuts.ok.0) in
    let front = put_as (concat (take (length cuts - 1) cuts)) c.put.ensures
    (c.as_flattened.ensures.value ∙ sym (concat_is (take c.saturating_sub-whole.result c.deref.result.now))
    ∙ ap (λ ys. concat (take c.saturating_sub-whole.result ys)) c.deref.ensures.value
    ∙ ap (λ n. concat (take n cuts)) whole)
    in
    rw (some, c.if-is_followed.true)
    (put_as (concat (filled_cuts (outline_file f))) (put_both front c.put-then-is_followed.ensures)
    (ap (λ t. concat (take (length cuts - 1) cuts) ++ t) (sym (append-nil f.padded)) ∙ sym (concat-append (take (length cuts - 1) cuts) (f.padded ∷ []))))

pub returns-else-is_followed : goal.returns-else-is_followed
returns-else-is_followed g c =
    let f = c.args.file.now in
    let some : nat_lt 0 f.length ≡ true = grind arith in
    rw (some, c.if-is_followed.false)
    (put_as (concat f.cuts.items) c.put-else-is_followed.ensures
    (c.as_flattened-else-is_followed.ensures.value ∙ sym (concat_is c.deref-else-is_followed.result.now) ∙ ap concat c.deref-else-is_followed.ensures.value))
