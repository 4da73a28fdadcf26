use Rattle.std.proofs.Common.{◌≡◌, ◌++◌, true, sym, ap, ◌∙◌, arith}
use Rattle.std.proofs.lemmas.List.{append-nil}
use Rattle.std.proofs.lemmas.List.Concat.{concat_is}
use Rattle.std.specs.List.{concat}
use Rattle.std.specs.Prelude.{nat_lt}
use Rattle.benc.specs.Spelling.{string}
use Rattle.drafts.proofs.Penned.{put_as, put_both}
use Rattle.drafts.proofs.finish.put_layer.Goals as goal

pub returns-then-kept-piece_length : goal.returns-then-kept-piece_length
returns-then-kept-piece_length g c =
    let k = c.args.kept.now in
    let long : nat_lt c.args.piece_length k.length ≡ true = grind arith in
    let layer = put_as (string (concat k.layer.items)) c.put_string-then-kept-piece_length.ensures
    (ap string (c.as_flattened.ensures.value ∙ sym (concat_is c.deref.result.now) ∙ ap concat c.deref.ensures.value))
    in
    rw long (put_as _ (put_both c.put_string.ensures layer) (ap (λ t. string c.args.root.now ++ t) (sym (append-nil (string (concat k.layer.items))))))
