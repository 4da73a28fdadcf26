use Rattle.std.proofs.Common.{◌≡◌, ◌≢◌, is_some, count_by, ◌⊎◌, inl, inr, ℕ, suc, ◌+◌, ◌-◌, ◌*◌, ◌<◌, ◌≤◌, ◌++◌, List, take, drop, set, get_or, Option}
use Rattle.std.proofs.Common.{Some, None, IfNone, length, refl, sym, ap, ap₂, ◌∙◌, subst, arith}
use Rattle.std.specs.FinMap.{get, insert, remove, len, get-empty, len-empty}
use Rattle.std.specs.Option.{OnSome}
use Rattle.std.specs.Vec.{vec_capacity}
use Rattle.slab.specs.Slab.{slab_len}
use Rattle.node_maps.specs.Known.{place_cmp}
use Rattle.std.proofs.lemmas.Option.{none-some, same_Some}
use Rattle.std.proofs.lemmas.List.{length-set, get_or-set_same, get_or-set_other, get_or_default, with_items_is}
use borrow.Rule.Slice.PartMut.{put_mid}
use Rattle.std.specs.Vec.{with_items, with_item}
use Rattle.fixed_maps.specs.FixedMaps.{map_of}
use Rattle.holdings.specs.Cells.{Cells}
use Rattle.holdings.specs.Holdings.{PieceSeen, KeptPieces, seen_at, with_table_piece}
use Rattle.holdings.specs.Tables.{RowOf, seen_row, seen_rows}
use Rattle.holdings.proofs.Rows.{row-some, row-none, row-size, row-of, none-if, len-rows, part-size, mid-size, table-written, none-removed, row-removed}
use Rattle.holdings.proofs.Rows.{left-there, no-rows, one-less, other-number}
use Rattle.holdings.proofs.piece_table.PieceTable.remove.Goals as goal

pub returns-in_default : goal.returns-in_default
returns-in_default c =
    let cells = c.self.inside.cells.items in
    let newest = c.self.inside.newest.items in
    let w = c.self.inside.width in
    let m = map_of c.self.inside.order in
    subst (λ (k : KeptPieces). k ≡ record k { pieces = remove k.pieces c.args.key }) c.self.view_is
    (λ i. record {
      pieces = none-removed cells newest w m c.args.key (row-none cells newest w m c.args.key (sym c.in_default.ensures)) i;
      room
          = c.self.inside.room;
      width = w;
    })

pub returns-in-Some : goal.returns-in-Some
returns-in-Some c =
    let cells = c.self.inside.cells.items in
    let newest = c.self.inside.newest.items in
    let w = c.self.inside.width in
    let m = map_of c.self.inside.order in
    let less : seen_rows cells newest w (map_of c.remove.new.self) ≡ remove (seen_rows cells newest w m) c.args.key =
    ap (seen_rows cells newest w) c.remove.ensures.map ∙ row-removed cells newest w m c.args.key in
    subst (λ (k : KeptPieces). record { pieces = seen_rows cells newest w (map_of c.remove.new.self); room = c.self.inside.room; width = w }
    ≡ record k { pieces = remove k.pieces c.args.key }) c.self.view_is
    (λ i. record { pieces = less i; room = c.self.inside.room; width = w })

pub invariant_of-self : goal.invariant_of-self
invariant_of-self c =
    let m = map_of c.self.inside.order in
    let m' = map_of c.remove.new.self in
    let p : RowOf = (c.in-Some.row, c.in-Some.field-0-1) in
    let there : get m c.args.key ≡ Some p = sym c.in-Some.ensures in
    let old : (q : ℕ × ℕ) (s : RowOf) → get m' q ≡ Some s → (c.args.key ≢ q) × (get m q ≡ Some s) =
    λ q s at. left-there c.self.inside.cells.items c.self.inside.newest.items c.self.inside.width m c.args.key q s
    (ap (λ k. get k q) (sym c.remove.ensures.map) ∙ at) in
    let result : c.try_remove.result ≡ Some c.args.key = c.try_remove.ensures.value ∙ c.self.invariant.back c.args.key p there in
    let fewer : slab_len c.try_remove.new.self + 1 ≡ slab_len c.self.inside.rows =
    subst (λ o. OnSome o (slab_len c.try_remove.new.self + 1 ≡ slab_len c.self.inside.rows)) result c.try_remove.ensures.len in
    let count : len m' + 1 ≡ len m = one-less m m' c.args.key p there c.remove.ensures.map in
    record {
      back = λ q s at.
          let (apart, was) = old q s at in
          c.try_remove.ensures.updates.others s.0 (other-number c.self.inside.order c.self.inside.rows c.self.inside.cells.items c.self.inside.newest.items
          c.self.inside.width _ _ _ c.self.invariant c.args.key p there q s was apart) ∙ c.self.invariant.back q s was;
      low = λ q s at. c.self.invariant.low q s (old q s at).1;
      inside = λ q s at. c.self.invariant.inside q s (old q s at).1;
      timed = λ q s at. c.self.invariant.timed q s (old q s at).1;
      count = let was = c.self.invariant.count in omega (arith, fewer, count, was);
      all = let was = c.self.invariant.all in let same = c.try_remove.ensures.capacity in omega (arith, fewer, was, same);
      room_rows = let was = c.self.invariant.room_rows in let same = c.try_remove.ensures.capacity in omega (arith, was, same);
      room_map = let was = c.self.invariant.room_map in let same = c.remove.ensures.room in omega (arith, was, same);
      few_map = let was = c.self.invariant.few_map in let same = c.remove.ensures.room in omega (arith, was, same);
      wide = subst (λ n. n * c.self.inside.width ≡ vec_capacity c.self.inside.cells) (sym c.try_remove.ensures.capacity) c.self.invariant.wide;
      long = let was = c.self.invariant.long in let same = c.try_remove.ensures.capacity in omega (arith, was, same);
    }
