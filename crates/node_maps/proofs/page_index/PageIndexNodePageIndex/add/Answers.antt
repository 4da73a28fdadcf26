use Rattle.std.proofs.Common.{◌≡◌, ◌/◌, ◌^◌, Some, length, sym, ap, ◌∙◌, subst, arith}
use Rattle.std.specs.List.{insert}
use Rattle.std.proofs.lemmas.Result.{on_ok_weaker, on_err_weaker}
use Rattle.node_maps.specs.Rising.{IsNumberAt, IsGapFor}
use Rattle.node_maps.specs.Pages.{AreInUse}
use Rattle.node_maps.proofs.Rising.{HasItemAt, HasGap, insert-rising, insert-beside, within_items}
use Rattle.node_maps.proofs.InUse.{in_use-set, in_use-insert}
use Rattle.node_maps.proofs.Pages.{under_there, under-set, under-alike, under-insert}
use Rattle.node_maps.proofs.page_index.PageIndexNodePageIndex.add.Given.{Over}
use Rattle.node_maps.proofs.page_index.PageIndexNodePageIndex.add.Goals as goal
use Rattle.node_maps.proofs.page_index.PageIndexNodePageIndex.add.Goals.{In-Ok, In-Err, After-insert_reserved-in-Err}

found : (g : Over) (c : In-Ok g) → HasItemAt c.args.self.now.numbers.items c.args.self.now.lists.items (c.args.number / 2 ^ c.args.self.now.shift) c.in-Ok.at
found g c = record {
  rising = c.args.self.now.rising;
  beside = c.args.self.now.beside;
  is = subst (λ ns. IsNumberAt ns (c.args.number / 2 ^ c.args.self.now.shift) c.in-Ok.at) c.deref.ensures.value c.in-Ok.ensures.at;
}

missing : (g : Over) (c : In-Err g) → HasGap c.args.self.now.numbers.items c.args.self.now.lists.items (c.args.number / 2 ^ c.args.self.now.shift)
    c.in-Err.at
missing g c = record {
  rising = c.args.self.now.rising;
  beside = c.args.self.now.beside;
  gap = subst (λ ns. IsGapFor ns (c.args.number / 2 ^ c.args.self.now.shift) c.in-Err.at) c.deref.ensures.value c.in-Err.ensures.gap;
}

module _ (g : Over) (c : After-insert_reserved-in-Err g) where
  numbers : c.insert_reserved.new.items.items ≡ insert c.args.self.now.numbers.items c.in-Err.at (c.args.number / 2 ^ c.args.self.now.shift)
  numbers = c.insert_reserved.ensures.items ∙ ap (λ ns. insert ns c.in-Err.at (c.args.number / 2 ^ c.args.self.now.shift)) c.make_room.ensures.numbers

  lists : c.insert_reserved-in-Err.new.items.items ≡ insert c.args.self.now.lists.items c.in-Err.at c.add-in-Err.new.self
  lists = c.insert_reserved-in-Err.ensures.items ∙ ap (λ ds. insert ds c.in-Err.at c.add-in-Err.new.self) c.make_room.ensures.items

pub add-requires : goal.add-requires
add-requires g c =
    sym (under_there g.D.PageIndex.find c.args.self.now.shift c.args.number (found g (goal.at.add-requires g c).In-Ok) c.index_mut-list.result.now
    c.index_mut-list.ensures.value) ∙ c.requires

pub invariant_of-self-in-Err : goal.invariant_of-self-in-Err
invariant_of-self-in-Err g c =
    let x = missing g (goal.at.invariant_of-self-in-Err g c).In-Err in
    let r = (goal.at.invariant_of-self-in-Err g c).After-insert_reserved-in-Err in
    record {
      low = c.args.self.now.low;
      rising = insert-rising x c.add-in-Err.new.self (numbers g r) (lists g r);
      beside = insert-beside x c.add-in-Err.new.self (numbers g r) (lists g r);
    }

pub returns-in-Ok-clause-added : goal.returns-in-Ok-clause-added
returns-in-Ok-clause-added g c =
    on_ok_weaker c.add.result (under-set g.D.PageIndex.find c.args.self.now.shift c.args.number (found g (goal.at.returns-in-Ok-clause-added g c).In-Ok)
    c.index_mut-list.result.now c.index_mut-list.ensures.value c.add.new.self (Some c.args.page)) c.add.ensures.added

pub returns-in-Ok-clause-unchanged : goal.returns-in-Ok-clause-unchanged
returns-in-Ok-clause-unchanged g c =
    on_err_weaker c.add.result (under-alike g.D.PageIndex.find c.args.self.now.shift c.args.number (found g (goal.at.returns-in-Ok-clause-unchanged g c).In-Ok)
    c.index_mut-list.result.now c.index_mut-list.ensures.value c.add.new.self) c.add.ensures.unchanged

pub returns-in_ok-add-in-Err-clause-added : goal.returns-in_ok-add-in-Err-clause-added
returns-in_ok-add-in-Err-clause-added g c =
    let find = g.D.PageIndex.find in
    let r = (goal.at.returns-in_ok-add-in-Err-clause-added g c).After-insert_reserved-in-Err in
    under-insert find c.args.self.now.shift c.args.number (missing g (goal.at.returns-in_ok-add-in-Err-clause-added g c).In-Err) (find c.new-list.result)
    c.new-list.ensures.none c.add-in-Err.new.self (Some c.args.page) c.in_ok-add-in-Err.ensures.added (numbers g r) (lists g r)

pub insert_reserved-requires-in-Err-clause-within : goal.insert_reserved-requires-in-Err-clause-within
insert_reserved-requires-in-Err-clause-within g c =
    let x = missing g (goal.at.insert_reserved-requires-in-Err-clause-within g c).In-Err in
    omega (arith, x.gap.in_range, x.beside, ap length c.make_room.ensures.items)

pub returns-in-Ok-clause-in_use : goal.returns-in-Ok-clause-in_use
returns-in-Ok-clause-in_use g c =
    in_use-set g.D.PageIndex.entries g.D.PageIndex.in_use c.args.self.now.lists.items c.in-Ok.at c.add.new.self c.index_mut-list.result.now
    (within_items (found g (goal.at.returns-in-Ok-clause-in_use g c).In-Ok)) c.index_mut-list.ensures.value c.add.result c.add.ensures.some
    c.add.ensures.kept c.add.ensures.in_use

pub returns-in_ok-add-in-Err-clause-in_use : goal.returns-in_ok-add-in-Err-clause-in_use
returns-in_ok-add-in-Err-clause-in_use g c = λ used.
    let r = (goal.at.returns-in_ok-add-in-Err-clause-in_use g c).After-insert_reserved-in-Err in
    subst (AreInUse g.D.PageIndex.entries g.D.PageIndex.in_use) (sym (lists g r))
    (in_use-insert g.D.PageIndex.entries g.D.PageIndex.in_use c.args.self.now.lists.items c.in-Err.at c.add-in-Err.new.self c.in_ok-add-in-Err.ensures.some
    (c.add-in-Err.ensures.in_use c.new-list.ensures.in_use) used)
