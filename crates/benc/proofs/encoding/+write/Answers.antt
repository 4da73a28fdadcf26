use Rattle.std.proofs.Common.{[], ◌∷◌, ◌++◌, refl, sym, ap, ◌∙◌, arith}
use Rattle.benc.specs.Spelling.{string}
use Rattle.benc.specs.Text.{spelling}
use Rattle.benc.specs.View.{view}
use Rattle.benc.proofs.Out.{Sent-append, Wrote-first, broke_between, text_out, wrote_between}
use Rattle.benc.proofs.Spelled.{all_items, all_pairs, items_text, next_item, next_pair, pairs_text}
use Rattle.benc.proofs.encoding.+write.Goals as goal

pub write_list-returns-in_err-write_all : goal.write_list-returns-in_err-write_all
write_list-returns-in_err-write_all g t c =
    Wrote-first _ c.from_residual.result c.from_residual.ensures.1 _ _ (108 ∷ []) (items_text c.args.items.now.items ++ 101 ∷ []) _ refl
    c.in_err-write_all.ensures

pub write_dict-returns-in_err-write_all : goal.write_dict-returns-in_err-write_all
write_dict-returns-in_err-write_all g t c =
    Wrote-first _ c.from_residual.result c.from_residual.ensures.1 _ _ (100 ∷ []) (pairs_text c.args.pairs.now.items ++ 101 ∷ []) _ refl
    c.in_err-write_all.ensures

pub write_list-items-preserved : goal.write_list-items-preserved
write_list-items-preserved g t c =
    let done = c.items.invariant.0 in
    let v = c.item-item.result in
    let next = next_item c.deref-item-items.result.now c.items.item-index v (omega arith) c.item-item.is in (
      done ++ spelling (view v),
      text_out done (spelling (view v)) _ c.items.invariant.1 next,
      Sent-append _ _ _ (108 ∷ done) (spelling (view v)) c.items.invariant.2 c.in_ok-write_value.ensures,
    )

pub write_list-returns-in_err-write_value : goal.write_list-returns-in_err-write_value
write_list-returns-in_err-write_value g t c =
    let done = c.items.invariant.0 in
    let v = c.item-item.result in
    let next = next_item c.deref-item-items.result.now c.items.item-index v (omega arith) c.item-item.is in
    let r = c.from_residual-in_err-write_value in
    broke_between _ 108 _ done (spelling (view v)) _ _ _ _ r.result r.ensures.1
    (ap items_text (sym c.deref-item-items.ensures.value) ∙ text_out done (spelling (view v)) _ c.items.invariant.1 next)
    c.items.invariant.2 c.in_err-write_value.ensures

pub write_list-returns : goal.write_list-returns
write_list-returns g t c =
    let all = all_items c.deref-item-items.result.now c.items.item-index c.items.invariant.0 (omega arith) c.items.invariant.1 in
    wrote_between 108 _ c.items.invariant.0 _ _ _ _ (ap items_text (sym c.deref-item-items.ensures.value) ∙ all) c.items.invariant.2 c.write_all-2.ensures

pub write_dict-pairs-preserved : goal.write_dict-pairs-preserved
write_dict-pairs-preserved g t c =
    let done = c.pairs.invariant.0 in
    let x = c.pair-item.result in
    let name = string x.key.now in
    let mine = spelling (view x.value) in
    let next = next_pair c.deref-pair-items.result.now c.pairs.pair-index x (omega arith) c.pair-item.is in (
      (done ++ name) ++ mine,
      text_out (done ++ name) mine _ (text_out done name _ c.pairs.invariant.1 next) refl,
      Sent-append _ _ _ (100 ∷ (done ++ name)) mine (Sent-append _ _ _ (100 ∷ done) name c.pairs.invariant.2 c.in_ok-write_string.ensures)
          c.in_ok-write_value.ensures,
    )

pub write_dict-returns-in_err-write_string : goal.write_dict-returns-in_err-write_string
write_dict-returns-in_err-write_string g t c =
    let x = c.pair-item.result in
    let next = next_pair c.deref-pair-items.result.now c.pairs.pair-index x (omega arith) c.pair-item.is in
    let r = c.from_residual-in_err-write_string in
    broke_between _ 100 _ c.pairs.invariant.0 (string x.key.now) _ _ _ _ r.result r.ensures.1
    (ap pairs_text (sym c.deref-pair-items.ensures.value) ∙ text_out c.pairs.invariant.0 (string x.key.now) _ c.pairs.invariant.1 next)
    c.pairs.invariant.2 c.in_err-write_string.ensures

pub write_dict-returns-in_err-write_value : goal.write_dict-returns-in_err-write_value
write_dict-returns-in_err-write_value g t c =
    let done = c.pairs.invariant.0 in
    let x = c.pair-item.result in
    let name = string x.key.now in
    let next = next_pair c.deref-pair-items.result.now c.pairs.pair-index x (omega arith) c.pair-item.is in
    let read = ap pairs_text (sym c.deref-pair-items.ensures.value) ∙ text_out done name _ c.pairs.invariant.1 next in
    let r = c.from_residual-in_err-write_value in
    broke_between _ 100 _ (done ++ name) (spelling (view x.value)) _ _ _ _ r.result r.ensures.1
    (text_out (done ++ name) (spelling (view x.value)) _ read refl)
    (Sent-append _ _ _ (100 ∷ done) name c.pairs.invariant.2 c.in_ok-write_string.ensures) c.in_err-write_value.ensures

pub write_dict-returns : goal.write_dict-returns
write_dict-returns g t c =
    let all = all_pairs c.deref-pair-items.result.now c.pairs.pair-index c.pairs.invariant.0 (omega arith) c.pairs.invariant.1 in
    wrote_between 100 _ c.pairs.invariant.0 _ _ _ _ (ap pairs_text (sym c.deref-pair-items.ensures.value) ∙ all) c.pairs.invariant.2 c.write_all-2.ensures
