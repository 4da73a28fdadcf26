use Rattle.std.proofs.Common.{◌≡◌, length, is_some, sym, ap, ◌∙◌, subst, arith}
use Rattle.std.specs.List.{insert}
use Rattle.std.proofs.lemmas.Bool.{false≢true}
use Rattle.node_maps.specs.Rising.{IsNumberAt, IsGapFor}
use Rattle.node_maps.proofs.Rising.{HasGap, insert-rising, insert-beside, insert-found, found_some}
use Rattle.node_maps.proofs.page_index.PageListPageIndex.add.Goals as goal
use Rattle.node_maps.proofs.page_index.PageListPageIndex.add.Goals.{In-Err, After-insert_reserved-in-Err}

missing : (c : In-Err) → HasGap c.args.self.now.numbers.items c.args.self.now.pages.items c.args.number c.in-Err.at
missing c = record {
  rising = c.args.self.now.rising;
  beside = c.args.self.now.beside;
  gap = subst (λ ns. IsGapFor ns c.args.number c.in-Err.at) (c.deref.ensures.value ∙ c.make_room.ensures.numbers) c.in-Err.ensures.gap;
}

module _ (c : After-insert_reserved-in-Err) where
  numbers : c.insert_reserved.new.items.items ≡ insert c.args.self.now.numbers.items c.in-Err.at c.args.number
  numbers = c.insert_reserved.ensures.items ∙ ap (λ ns. insert ns c.in-Err.at c.args.number) c.make_room.ensures.numbers

  pages : c.insert_reserved-in-Err.new.items.items ≡ insert c.args.self.now.pages.items c.in-Err.at c.args.page
  pages = c.insert_reserved-in-Err.ensures.items ∙ ap (λ ps. insert ps c.in-Err.at c.args.page) c.make_room.ensures.items

pub returns-in-Err-clause-added : goal.returns-in-Err-clause-added
returns-in-Err-clause-added c =
    let r = (goal.at.returns-in-Err-clause-added c).After-insert_reserved-in-Err in
    insert-found (missing (goal.at.returns-in-Err-clause-added c).In-Err) c.args.page (numbers r) (pages r)

pub returns-in_default-clause-added : goal.returns-in_default-clause-added
returns-in_default-clause-added c =
    let s = c.args.self.now in
    let is = subst (λ xs. IsNumberAt xs c.args.number c.in_default.field-0) (c.deref.ensures.value ∙ c.make_room.ensures.numbers) c.in_default.ensures.at in
    absurd (false≢true (sym (ap is_some c.requires) ∙ found_some s.numbers.items s.pages.items c.args.number c.in_default.field-0 s.beside is))

pub insert_reserved-requires-in-Err-clause-within : goal.insert_reserved-requires-in-Err-clause-within
insert_reserved-requires-in-Err-clause-within c =
    let x = missing (goal.at.insert_reserved-requires-in-Err-clause-within c).In-Err in
    omega (arith, x.gap.in_range, x.beside, ap length c.make_room.ensures.items)

pub invariant_of-self-in-Err : goal.invariant_of-self-in-Err
invariant_of-self-in-Err c =
    let x = missing (goal.at.invariant_of-self-in-Err c).In-Err in
    let r = (goal.at.invariant_of-self-in-Err c).After-insert_reserved-in-Err in
    record { rising = insert-rising x c.args.page (numbers r) (pages r); beside = insert-beside x c.args.page (numbers r) (pages r) }
