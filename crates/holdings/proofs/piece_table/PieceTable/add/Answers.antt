use Rattle.std.proofs.Common.{◌≡◌, ◌≢◌, replicate, vec_capacity, ◌⊎◌, inl, inr, ℕ, ◌+◌, ◌-◌, ◌*◌, ◌<◌, ◌≤◌, ◌++◌, List, set, get_or}
use Rattle.std.proofs.Common.{is_some, cond, Option, Some, None, length, refl, sym, ap, ap₂, ◌∙◌, subst, arith}
use Rattle.std.specs.FinMap.{get, insert, len, len-insert}
use Rattle.slab.specs.Slab as slab
use Rattle.node_maps.specs.Digest.{Hash}
use Rattle.node_maps.proofs.Known.{place_total}
use Rattle.std.proofs.lemmas.Option.{none-some}
use Rattle.std.proofs.lemmas.List.{length-set, get_or-set_same, get_or-set_other, with_items_is, length-append, length-replicate}
use borrow.Rule.Slice.PartMut.{put_mid}
use Rattle.std.specs.Vec.{with_items}
use Rattle.fixed_maps.specs.FixedMaps.{map_of}
use Rattle.holdings.specs.Cells.{Cells}
use Rattle.holdings.specs.Holdings.{PieceSeen, KeptPieces, seen_at, with_table_piece}
use Rattle.holdings.specs.Tables.{RowOf, IsTable, seen_rows}
use Rattle.holdings.proofs.Rows.{len-rows, IsCut, is-cut, absent-row}
use Rattle.holdings.proofs.Added.{put-cases, table-added}
use Rattle.holdings.proofs.piece_table.PieceTable.add.Goals as goal
use Rattle.holdings.proofs.piece_table.PieceTable.add.Goals.{After-self, After-clear}

-- one by one: the new piece, or another one
by-back : (rows rows' : slab.Slab (ℕ × ℕ)) (q : ℕ × ℕ) (p : RowOf) (r : ℕ × ℕ) (s : RowOf) {O : Type 0} → (O → slab.get rows s.0 ≡ Some r)
    → slab.get rows p.0 ≡ None → slab.get rows' p.0 ≡ Some q → (s.0 ≢ p.0 → slab.get rows' s.0 ≡ slab.get rows s.0)
    → ((q ≡ r) × (p ≡ s)) ⊎ O → slab.get rows' s.0 ≡ Some r
by-back rows rows' q p r s old vacant changed others (inl (same, row)) = ap (λ (x : RowOf). slab.get rows' x.0) (sym row) ∙ changed ∙ ap Some same
by-back rows rows' q p r s old vacant changed others (inr was) =
    others (λ same. none-some r (sym vacant ∙ ap (slab.get rows) (sym same) ∙ old was)) ∙ old was

by-low : (p : RowOf) (r : ℕ × ℕ) (s : RowOf) {Q O : Type 0} (w : ℕ) → p.1 ≤ w → (O → s.1 ≤ w) → (Q × (p ≡ s)) ⊎ O → s.1 ≤ w
by-low p r s w low old (inl (same, row)) = subst (λ (x : RowOf). x.1 ≤ w) row low
by-low p r s w low old (inr was) = old was

by-inside : (p : RowOf) (r : ℕ × ℕ) (s : RowOf) {Q O : Type 0} (w n : ℕ) → p.0 * w + w ≤ n → (O → s.0 * w + w ≤ n) → (Q × (p ≡ s)) ⊎ O → s.0 * w + w ≤ n
by-inside p r s w n low old (inl (same, row)) = subst (λ (x : RowOf). x.0 * w + w ≤ n) row low
by-inside p r s w n low old (inr was) = old was

by-timed : (p : RowOf) (r : ℕ × ℕ) (s : RowOf) {Q O : Type 0} (n : ℕ) → p.0 < n → (O → s.0 < n) → (Q × (p ≡ s)) ⊎ O → s.0 < n
by-timed p r s n low old (inl (same, row)) = subst (λ (x : RowOf). x.0 < n) row low
by-timed p r s n low old (inr was) = old was

-- the piece is new, and there is room for it
module _ (c : After-self) where
  absent : get (map_of c.self.inside.order) c.args.key ≡ None
  absent = absent-row c.self.inside.cells.items c.self.inside.newest.items c.self.inside.width (map_of c.self.inside.order) c.args.key _ refl
      (subst (λ (k : KeptPieces). seen_at k c.args.key ≡ None) (sym c.self.view_is) c.requires.new)

  few : len (map_of c.self.inside.order) < c.self.inside.room
  few =
      let given = subst (λ (k : KeptPieces). len k.pieces < k.room) (sym c.self.view_is) c.requires.room in
      let same = len-rows c.self.inside.cells.items c.self.inside.newest.items c.self.inside.width (map_of c.self.inside.order) in
      omega (arith, given, same)

-- the new row is cleared, and then a digest is put there
module _ (c : After-clear) where
  abbrev row : ℕ
  row = c.insert_reserved-row.result

  abbrev p : RowOf
  p = (row, c.args.size)

  abbrev cells : Cells
  cells = c.self.inside.cells.items

  abbrev w : ℕ
  w = c.self.inside.width

  abbrev newest : List ℕ
  newest = c.self.inside.newest.items

  abbrev more : Cells
  more = replicate (row * w + w - length cells) None

  abbrev more-times : List ℕ
  more-times = replicate (row + 1 - length newest) 0

  abbrev part : ℕ
  part = row * w + c.args.size - row * w

  abbrev ys : Cells
  ys = set c.clear.new.cells c.args.block (Some c.args.digest)

  abbrev after : Cells
  after = put_mid (row * w) part c.deref_mut.result.now ys

  low : c.args.size ≤ w
  low = subst (λ (k : KeptPieces). c.args.size ≤ k.width) (sym c.self.view_is) c.requires.size

  now : c.deref_mut.result.now ≡ cells ++ more
  now = c.deref_mut.ensures.value ∙ c.grow.ensures.items

  long : length (cells ++ more) ≡ length cells + (row * w + w - length cells)
  long = length-append cells more ∙ ap (λ n. length cells + n) (length-replicate {A = Option Hash} (row * w + w - length cells) None)

  wide : row * w + w ≤ length (cells ++ more)
  wide = omega (arith, long)

  timed : length c.grow-2.new.items.items ≡ length newest + (row + 1 - length newest)
  timed = ap length c.grow-2.ensures.items ∙ length-append newest more-times
      ∙ ap (λ n. length newest + n) (length-replicate {A = ℕ} (row + 1 - length newest) 0)

  slice : IsCut (cells ++ more) c.deref_mut.result.now w p (row * w) part
  slice = is-cut _ _ _ _ _ _ now refl (omega arith) (let same = ap length now in omega (arith, same, wide, low))

  clear : c.clear.new.cells ≡ replicate c.args.size None
  clear = c.clear.ensures ∙ ap (λ n. replicate n None) slice.long

  sized : length ys ≡ c.args.size
  sized = length-set c.clear.new.cells c.args.block (Some c.args.digest) ∙ ap length clear ∙ length-replicate {A = Option Hash} c.args.size None

  filled : length after ≡ length c.deref_mut.result.now
  filled = slice.put ys sized

  items : (with_items c.grow.new.items after).items ≡ after
  items = with_items_is c.grow.new.items after (filled ∙ c.deref_mut.ensures.len)

pub insert_reserved-row-requires : goal.insert_reserved-row-requires
insert_reserved-row-requires c =
    let count = few (goal.at.insert_reserved-row-requires c).After-self in
    omega (arith, count, c.self.invariant.count, c.self.invariant.room_rows)

pub insert-requires-clause-new : goal.insert-requires-clause-new
insert-requires-clause-new c = absent (goal.at.insert-requires-clause-new c).After-self

pub insert-requires-clause-room : goal.insert-requires-clause-room
insert-requires-clause-room c =
    let count = few (goal.at.insert-requires-clause-room c).After-self in
    omega (arith, count, c.self.invariant.room_map)

pub invariant_of-self : goal.invariant_of-self
invariant_of-self c =
    let s = (goal.at.invariant_of-self c).After-self in
    let k = (goal.at.invariant_of-self c).After-clear in
    let m = map_of c.self.inside.order in
    let table = c.self.invariant in
    let rows' = c.insert_reserved-row.new.self in
    let cases : (r : ℕ × ℕ) (s : RowOf) → get (map_of c.insert.new.self) r ≡ Some s → ((c.args.key ≡ r) × (p k ≡ s)) ⊎ (get m r ≡ Some s) =
    λ r s at. put-cases m c.args.key (p k) r s (ap (λ x. get x r) (sym c.insert.ensures.map) ∙ at) in
    let more : length (cells k) ≤ length (cells k ++ more k) = let is = long k in omega (arith, is) in
    let later : length (newest k) ≤ length c.grow-2.new.items.items = let is = timed k in omega (arith, is) in
    let late : row k < length c.grow-2.new.items.items = let is = timed k in omega (arith, is) in
    let filled = filled k in
    let wide = wide k in
    let few = few s in
    let w = w k in
    let row = row k in
    subst (λ cs. IsTable c.insert.new.self rows' cs (set c.grow-2.new.items.items row c.args.now) w c.self.inside.room (vec_capacity c.grow.new.items)
    (vec_capacity c.grow-2.new.items)) (sym (items k))
    (record {
      back = λ r s at. by-back c.self.inside.rows rows' c.args.key (p k) r s (table.back r s) c.insert_reserved-row.ensures.was_vacant
          c.insert_reserved-row.ensures.updates.changed (c.insert_reserved-row.ensures.updates.others s.0) (cases r s at);
      low = λ r s at. by-low (p k) r s w (low k) (table.low r s) (cases r s at);
      inside = λ r s at. let same = ap length (now k) in by-inside (p k) r s w _ (omega (arith, filled, same, wide))
          (λ was. let old = table.inside r s was in omega (arith, old, more, filled, same)) (cases r s at);
      timed = λ r s at. let size = length-set c.grow-2.new.items.items row c.args.now in by-timed (p k) r s _ (omega (arith, size, late))
          (λ was. let old = table.timed r s was in omega (arith, old, later, size)) (cases r s at);
      count = let was = table.count in let one = c.insert_reserved-row.ensures.len in
          let more = ap len c.insert.ensures.map ∙ len-insert place_total m c.args.key (p k) ∙ ap (λ o. cond (is_some o) (len m) (len m + 1)) (absent s) in
          omega (arith, was, one, more);
      all = let was = table.count in let one = c.insert_reserved-row.ensures.len in let room = table.room_rows in
          let same = c.insert_reserved-row.ensures.capacity in omega (arith, was, one, room, same, few);
      room_rows = let was = table.room_rows in let same = c.insert_reserved-row.ensures.capacity in omega (arith, was, same);
      room_map = let was = table.room_map in let same = c.insert.ensures.room in omega (arith, was, same);
      few_map = let was = table.few_map in let same = c.insert.ensures.room in omega (arith, was, same);
      wide = let was = subst (λ n. n * w ≡ vec_capacity c.self.inside.cells) (sym c.insert_reserved-row.ensures.capacity) table.wide in
          let same = c.grow.ensures.room in omega (arith, was, same);
      long = let was = table.long in let same = c.grow-2.ensures.room in let cap = c.insert_reserved-row.ensures.capacity in omega (arith, was, same, cap);
    })

pub returns : goal.returns
returns c =
    let k = (goal.at.returns c).After-clear in
    let y : PieceSeen = record { cells = set (replicate c.args.size None) c.args.block (Some c.args.digest); newest = c.args.now } in
    let times : List ℕ = set c.grow-2.new.items.items (row k) c.args.now in
    let late : row k < length c.grow-2.new.items.items = let is = timed k in omega (arith, is) in
    let pieces : seen_rows (with_items c.grow.new.items (after k)).items times (w k) (map_of c.insert.new.self)
    ≡ insert (seen_rows (cells k) (newest k) (w k) (map_of c.self.inside.order)) c.args.key y =
    ap₂ (λ cs m. seen_rows cs times (w k) m) (items k ∙ ap (λ xs. put_mid (row k * w k) (part k) xs (ys k)) (now k)) c.insert.ensures.map
    ∙ table-added c.self.inside.order c.self.inside.rows (cells k) (newest k) (w k) _ _ _ c.self.invariant c.args.key (p k)
    c.insert_reserved-row.ensures.was_vacant (low k) (more k) (more-times k) (wide k) (ys k) times c.args.now (part k) (slice k).part_is (sized k)
    (get_or-set_same c.grow-2.new.items.items (row k) c.args.now 0 late)
    (λ i other. get_or-set_other c.grow-2.new.items.items (row k) i c.args.now 0 other ∙ ap (λ ts. get_or ts i 0) c.grow-2.ensures.items)
    ∙ ap (λ cs. insert (seen_rows (cells k) (newest k) (w k) (map_of c.self.inside.order)) c.args.key
    (record { cells = set cs c.args.block (Some c.args.digest); newest = c.args.now })) (clear k) in
    subst (λ (v : KeptPieces). record {
      pieces = seen_rows (with_items c.grow.new.items (after k)).items times (w k) (map_of c.insert.new.self);
      room = c.self.inside.room;
      width = w k;
    } ≡ with_table_piece v c.args.key y) c.self.view_is
    (λ i. record { pieces = pieces i; room = c.self.inside.room; width = w k })
