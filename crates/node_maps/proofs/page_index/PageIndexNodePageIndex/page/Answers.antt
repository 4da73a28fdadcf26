use Rattle.std.proofs.Common.{◌/◌, ◌^◌, sym, ◌∙◌, subst}
use Rattle.node_maps.specs.Rising.{IsNumberAt, IsGapFor}
use Rattle.node_maps.proofs.Rising.{HasItemAt}
use Rattle.node_maps.proofs.Pages.{under_there, under_gap}
use Rattle.node_maps.proofs.page_index.PageIndexNodePageIndex.page.Goals as goal

pub returns-in-Ok : goal.returns-in-Ok
returns-in-Ok g c =
    let s = c.args.self.now in
    let found : HasItemAt s.numbers.items s.lists.items (c.args.number / 2 ^ s.shift) c.in-Ok.at = record {
      rising = s.rising;
      beside = s.beside;
      is = subst (λ ns. IsNumberAt ns (c.args.number / 2 ^ s.shift) c.in-Ok.at) c.deref.ensures.value c.in-Ok.ensures.at;
    } in
    c.page.ensures ∙ sym (under_there g.D.PageIndex.find s.shift c.args.number found c.index.result.now c.index.ensures)

pub returns-in-Err : goal.returns-in-Err
returns-in-Err g c =
    let old = c.args.self.now in
    let gap = subst (λ ns. IsGapFor ns (c.args.number / 2 ^ old.shift) c.in-Err.field-0) c.deref.ensures.value c.in-Err.ensures.gap in
    sym (under_gap g.D.PageIndex.find old.numbers.items old.lists.items old.shift c.args.number c.in-Err.field-0 gap)
