use Rattle.std.proofs.Common.{◌≡◌, ℕ, suc, ◌+◌, ◌^◌, ◌<◌, length, sym, ap, subst, arith}
use Rattle.opening.specs.Sound.{IsSound}
use Rattle.holdings.specs.Holding.{IsTreeBlock}
use Rattle.btcheck_c.specs.Held.{EntriesHeld}
use Rattle.btcheck_c.proofs.Placing.{entry_block, entry_bytes, few_blocks, number_is, tree_inside}
use Rattle.btcheck_c.proofs.holding.hold_unproved.Goals as goal
use Rattle.btcheck_c.proofs.holding.hold_unproved.Goals.{After-unwrap-tree}

-- the tree that was found is that of the blocks
module _ (c : After-unwrap-tree) where
  number : c.unwrap-tree.result ≡ c.requires.number
  number = number_is c.args.session.now c.args.blocks.now (length c.args.bytes.now) c.requires c.torrent-2.result.now c.place-file.result
      c.tree_of.result c.unwrap-tree.result c.torrent-2.ensures c.place-file.ensures c.tree_of.ensures c.unwrap-tree.ensures

  within : c.unwrap-tree.result < length c.args.session.now.torrent.trees
  within =
      let inside = tree_inside c.args.session.now c.args.blocks.now (length c.args.bytes.now) c.requires in
      omega (arith, inside, number)

pub hold_entry-requires-clause-tree : goal.hold_entry-requires-clause-tree
hold_entry-requires-clause-tree c = within (goal.at.hold_entry-requires-clause-tree c).After-unwrap-tree

pub hold_entry-requires-clause-block : goal.hold_entry-requires-clause-block
hold_entry-requires-clause-block c =
    let S = c.args.session.now in let v = c.args.blocks.now in
    let low : c.entries.entry < length v.refusals = omega (arith, c.entries-test.true, c.len-entry-end.ensures.count) in
    subst (λ n. IsTreeBlock S n (v.first + c.entries.entry)) (sym (number (goal.at.hold_entry-requires-clause-block c).After-unwrap-tree))
    (entry_block S v (length c.args.bytes.now) c.requires c.entries.entry low)

pub hold_entry-requires-clause-bytes : goal.hold_entry-requires-clause-bytes
hold_entry-requires-clause-bytes c =
    let v = c.args.blocks.now in
    let low : c.entries.entry < length v.refusals = omega (arith, c.entries-test.true, c.len-entry-end.ensures.count) in
    entry_bytes c.args.session.now v (length c.args.bytes.now) c.requires c.entries.entry low

-- one more entry is held
pub entries-preserved : goal.entries-preserved
entries-preserved c =
    let S = c.args.session.now in let v = c.args.blocks.now in let bytes = c.args.bytes.now in let n = c.unwrap-tree.result in
    let inv = c.entries.invariant in let e = c.hold_entry.ensures in
    let next : suc c.entries.entry ≡ c.entries.entry + 1 = omega arith in (
      inv.0,
      (
        inv.1.0,
        subst (λ k. EntriesHeld S n v bytes k c.args.held.now.holdings inv.0 c.hold_entry.new.holdings c.hold_entry.new.out) next
            (c.entries.held.holdings, (c.entries.out, (inv.1.1, (e.0, (e.1, e.2))))),
      ),
    )

pub pieces_of-pieces-requires-clause-tree : goal.pieces_of-pieces-requires-clause-tree
pieces_of-pieces-requires-clause-tree c = within (goal.at.pieces_of-pieces-requires-clause-tree c).After-unwrap-tree

pub pieces_of-pieces-requires-clause-few : goal.pieces_of-pieces-requires-clause-few
pieces_of-pieces-requires-clause-few c =
    let v = c.args.blocks.now in
    let few : v.first + length v.refusals < 2 ^ 64 = few_blocks c.args.session.now v (length c.args.bytes.now) c.requires
    (subst IsSound c.torrent.ensures c.recall_sound.ensures) in
    let first : c.place-file.result.1 ≡ v.first + 0 = ap (λ (q : ℕ × ℕ). q.1) c.place-file.ensures in
    omega (arith, few, first, c.len.ensures.count)
