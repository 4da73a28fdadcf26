use Rattle.std.proofs.Common.{◌≡◌, ℕ, ◌/◌, ◌^◌, None, subst}
use Rattle.node_maps.specs.Rising.{IsNumberAt, IsGapFor}
use Rattle.node_maps.specs.Pages.{find_under}
use Rattle.node_maps.proofs.Rising.{HasItemAt, found-written, remove-rising, remove-beside}
use Rattle.node_maps.proofs.Pages.{under_gap, under-set, under-emptied, absent-changed, on_true}
use Rattle.node_maps.proofs.page_index.PageIndexNodePageIndex.remove.Given.{Over}
use Rattle.node_maps.proofs.page_index.PageIndexNodePageIndex.remove.Goals as goal
use Rattle.node_maps.proofs.page_index.PageIndexNodePageIndex.remove.Goals.{In-Ok}

found : (g : Over) (c : In-Ok g) → HasItemAt c.args.self.now.numbers.items c.args.self.now.lists.items (c.args.number / 2 ^ c.args.self.now.shift) c.in-Ok.at
found g c = record {
  rising = c.args.self.now.rising;
  beside = c.args.self.now.beside;
  is = subst (λ ns. IsNumberAt ns (c.args.number / 2 ^ c.args.self.now.shift) c.in-Ok.at) c.deref.ensures.value c.in-Ok.ensures.at;
}

pub invariant_of-self : goal.invariant_of-self
invariant_of-self g c =
    let x = found-written (found g (goal.at.invariant_of-self g c).In-Ok) c.remove.new.self in
    record {
      low = c.args.self.now.low;
      rising = remove-rising x c.remove-then-is_empty.ensures.items c.remove-then-is_empty-2.ensures.items;
      beside = remove-beside x c.remove-then-is_empty.ensures.items c.remove-then-is_empty-2.ensures.items;
    }

pub returns-then-is_empty-clause-gone : goal.returns-then-is_empty-clause-gone
returns-then-is_empty-clause-gone g c =
    let find = g.D.PageIndex.find in
    let w = c.remove.new.self in
    under-emptied find c.args.self.now.shift c.args.number (found g (goal.at.returns-then-is_empty-clause-gone g c).In-Ok) c.index_mut-list.result.now
    c.index_mut-list.ensures.value w c.remove.ensures.gone
    (on_true c.is_empty.result ((n : ℕ) → find w n ≡ None) c.is_empty.ensures.none c.if-is_empty.true) c.remove-then-is_empty.ensures.items
    c.remove-then-is_empty-2.ensures.items

pub returns-else-is_empty-clause-gone : goal.returns-else-is_empty-clause-gone
returns-else-is_empty-clause-gone g c =
    under-set g.D.PageIndex.find c.args.self.now.shift c.args.number (found g (goal.at.returns-else-is_empty-clause-gone g c).In-Ok)
    c.index_mut-list.result.now c.index_mut-list.ensures.value c.remove.new.self None c.remove.ensures.gone

pub returns-in_default-clause-gone : goal.returns-in_default-clause-gone
returns-in_default-clause-gone g c =
    let s = c.args.self.now in
    let gap = subst (λ ns. IsGapFor ns (c.args.number / 2 ^ s.shift) c.in_default.field-0) c.deref.ensures.value c.in_default.ensures.gap in
    absent-changed c.args.number (find_under g.D.PageIndex.find s.numbers.items s.lists.items s.shift)
    (under_gap g.D.PageIndex.find s.numbers.items s.lists.items s.shift c.args.number c.in_default.field-0 gap)
