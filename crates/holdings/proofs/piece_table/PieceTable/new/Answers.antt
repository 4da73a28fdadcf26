use Rattle.std.proofs.Common.{◌≡◌, ◌≢◌, is_some, count_by, ◌⊎◌, inl, inr, ℕ, suc, ◌+◌, ◌-◌, ◌*◌, ◌<◌, ◌≤◌, ◌++◌, List, take, drop, set, get_or, Option}
use Rattle.std.proofs.Common.{Some, None, IfNone, length, refl, sym, ap, ap₂, ◌∙◌, subst, arith}
use Rattle.std.specs.FinMap.{get, insert, remove, len, get-empty, len-empty}
use Rattle.std.specs.Option.{OnSome}
use Rattle.std.specs.Vec.{vec_capacity}
use Rattle.slab.specs.Slab.{slab_len}
use Rattle.node_maps.specs.Known.{place_cmp}
use Rattle.std.proofs.lemmas.Option.{none-some, same_Some}
use Rattle.std.proofs.lemmas.List.{length-set, get_or-set_same, get_or-set_other, get_or_default, with_items_is}
use borrow.Rule.Slice.PartMut.{put_mid}
use Rattle.std.specs.Vec.{with_items, with_item}
use Rattle.fixed_maps.specs.FixedMaps.{map_of}
use Rattle.holdings.specs.Cells.{Cells}
use Rattle.holdings.specs.Holdings.{PieceSeen, KeptPieces, seen_at, with_table_piece}
use Rattle.holdings.specs.Tables.{RowOf, seen_row, seen_rows}
use Rattle.holdings.proofs.Rows.{row-some, row-none, row-size, row-of, none-if, len-rows, part-size, mid-size, table-written, none-removed, row-removed}
use Rattle.holdings.proofs.Rows.{left-there, no-rows, one-less, other-number}
use Rattle.holdings.proofs.piece_table.PieceTable.new.Goals as goal

pub invariant_of-result : goal.invariant_of-result
invariant_of-result c =
    let m = map_of c.in_ok-new.field-0 in
    let none : (q : ℕ × ℕ) (p : RowOf) → get m q ≡ Some p → ⊥ = λ q p at. none-some p (sym (ap (λ k. get k q) c.in_ok-new.ensures.none
    ∙ get-empty place_cmp q) ∙ at) in
    let rows = c.in_ok-rows.rows in
    record {
      back = λ q p at. absurd (none q p at);
      low = λ q p at. absurd (none q p at);
      inside = λ q p at. absurd (none q p at);
      timed = λ q p at. absurd (none q p at);
      count = ap (count_by is_some) c.in_ok-rows.ensures.none ∙ sym (ap len c.in_ok-new.ensures.none ∙ len-empty place_cmp RowOf);
      all = let none = ap (count_by is_some) c.in_ok-rows.ensures.none in omega (arith, none);
      room_rows = sym c.in_ok-rows.ensures.exact;
      room_map = c.in_ok-new.ensures.room;
      few_map = c.in_ok-new.ensures.most;
      wide = let b = c.in-Some.ensures.1 in let d = c.in_ok-with_capacity.ensures.exact in
          subst (λ n. n * c.args.width ≡ vec_capacity c.in_ok-with_capacity.field-0) (sym c.in_ok-rows.ensures.exact) (omega (arith, b, d));
      long = let d = c.in_ok-with_capacity-2.ensures.exact in let e = c.in_ok-rows.ensures.exact in omega (arith, d, e);
    }

pub returns-clause-none : goal.returns-clause-none
returns-clause-none c = no-rows _ _ c.args.width _ c.in_ok-new.ensures.none
