use Rattle.std.proofs.Common.{sym, subst}
use Rattle.node_maps.specs.Rising.{IsNumberAt, IsGapFor}
use Rattle.node_maps.proofs.Rising.{HasItemAt, stands, found_gap}
use Rattle.node_maps.proofs.page_index.PageListPageIndex.page.Goals as goal

pub returns-in-Ok : goal.returns-in-Ok
returns-in-Ok c =
    let s = c.args.self.now in
    let found : HasItemAt s.numbers.items s.pages.items c.args.number c.in-Ok.at = record {
      rising = s.rising;
      beside = s.beside;
      is = subst (λ ns. IsNumberAt ns c.args.number c.in-Ok.at) c.deref.ensures.value c.in-Ok.ensures.at;
    } in
    sym (stands found c.index.result.now c.index.ensures)

pub returns-in-Err : goal.returns-in-Err
returns-in-Err c =
    let old = c.args.self.now in
    let gap = subst (λ ns. IsGapFor ns c.args.number c.in-Err.field-0) c.deref.ensures.value c.in-Err.ensures.gap in
    sym (found_gap old.numbers.items old.pages.items c.args.number c.in-Err.field-0 gap)
