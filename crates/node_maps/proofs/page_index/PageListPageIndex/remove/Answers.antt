use Rattle.std.proofs.Common.{subst}
use Rattle.node_maps.specs.Rising.{IsNumberAt, IsGapFor, page_numbered}
use Rattle.node_maps.proofs.Rising.{HasItemAt, remove-rising, remove-found, remove-beside, found_gap}
use Rattle.node_maps.proofs.Pages.{absent-changed}
use Rattle.node_maps.proofs.page_index.PageListPageIndex.remove.Goals as goal
use Rattle.node_maps.proofs.page_index.PageListPageIndex.remove.Goals.{In-Ok}

found : (c : In-Ok) → HasItemAt c.args.self.now.numbers.items c.args.self.now.pages.items c.args.number c.in-Ok.at
found c = record {
  rising = c.args.self.now.rising;
  beside = c.args.self.now.beside;
  is = subst (λ ns. IsNumberAt ns c.args.number c.in-Ok.at) c.deref.ensures.value c.in-Ok.ensures.at;
}

pub invariant_of-self : goal.invariant_of-self
invariant_of-self c =
    let x = found (goal.at.invariant_of-self c).In-Ok in
    record {
      rising = remove-rising x c.remove.ensures.items c.remove-in-Ok.ensures.items;
      beside = remove-beside x c.remove.ensures.items c.remove-in-Ok.ensures.items;
    }

pub returns-in-Ok-clause-gone : goal.returns-in-Ok-clause-gone
returns-in-Ok-clause-gone c = remove-found (found (goal.at.returns-in-Ok-clause-gone c).In-Ok) c.remove.ensures.items c.remove-in-Ok.ensures.items

pub returns-in_default-clause-gone : goal.returns-in_default-clause-gone
returns-in_default-clause-gone c =
    let s = c.args.self.now in
    let gap = subst (λ xs. IsGapFor xs c.args.number c.in_default.field-0) c.deref.ensures.value c.in_default.ensures.gap in
    absent-changed c.args.number (page_numbered s.numbers.items s.pages.items) (found_gap s.numbers.items s.pages.items c.args.number c.in_default.field-0 gap)
