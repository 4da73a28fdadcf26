use Rattle.std.proofs.Common.{◌+◌, ◌∙◌, sym, ap, arith, drop, map}
use Rattle.benc.specs.View.{items_view}
use Rattle.opening.specs.Matching.{are_same}
use Rattle.opening.specs.Seen.{file_entry}
use Rattle.opening.proofs.Entries.{same_unsized, same_pad, same_short, same_holds, same_fails, same_end}
use Rattle.opening.proofs.version1.are_same.Goals.{then-not-has_attribute+else-next-files+else-not-is_entry_of, else-not-has_attribute}
use Rattle.opening.proofs.version1.are_same.Goals as goal

pub returns-then-not-is_sized : goal.returns-then-not-is_sized
returns-then-not-is_sized c =
    sym (c.entries.invariant.same ∙ same_unsized c.args.entries.now c.entries.entry-index c.entry-item.result _ c.is_sized.result c.entries-test.true
    c.entry-item.is c.is_sized.ensures c.if-not-is_sized.true)

pub returns-then-next-files : goal.returns-then-next-files
returns-then-next-files c =
    sym (c.entries.invariant.same
    ∙ same_short c.args.entries.now c.entries.entry-index c.entry-item.result c.args.files.now c.entries.next c.is_sized.result c.has_attribute.result
    c.entries-test.true c.entry-item.is
    c.is_sized.ensures c.if-not-is_sized.false c.has_attribute.ensures c.if-not-has_attribute.true (omega arith))

pub returns-then-not-is_entry_of : goal.returns-then-not-is_entry_of
returns-then-not-is_entry_of c =
    sym (c.entries.invariant.same
    ∙ same_fails c.args.entries.now c.entries.entry-index c.entry-item.result c.args.files.now c.entries.next c.index-files-next.result c.is_sized.result
    c.has_attribute.result c.is_entry_of.result
    c.entries-test.true c.entry-item.is c.is_sized.ensures c.if-not-is_sized.false c.has_attribute.ensures c.if-not-has_attribute.true (omega arith)
    c.index-files-next.is c.is_entry_of.ensures c.if-not-is_entry_of.true)

pub entries-preserved : goal.entries-preserved
entries-preserved c = elim c.if-not-has_attribute.branch [
  | then-not-has_attribute+else-next-files+else-not-is_entry_of w ↦ record {
    within = omega arith;
    same = c.entries.invariant.same
        ∙ same_holds c.args.entries.now c.entries.entry-index c.entry-item.result c.args.files.now c.entries.next w.index-files-next.result c.is_sized.result
        c.has_attribute.result w.is_entry_of.result
        c.entries-test.true c.entry-item.is c.is_sized.ensures c.if-not-is_sized.false c.has_attribute.ensures w.if-not-has_attribute.true (omega arith)
        w.index-files-next.is w.is_entry_of.ensures w.if-not-is_entry_of.false
        ∙ ap (λ j. are_same (items_view (drop (c.entries.entry-index + 1) c.args.entries.now)) (drop j (map file_entry c.args.files.now))) (sym w.next-is);
  }
  | else-not-has_attribute w ↦ record {
    within = omega arith;
    same = c.entries.invariant.same
        ∙ same_pad c.args.entries.now c.entries.entry-index c.entry-item.result _ c.is_sized.result c.has_attribute.result c.entries-test.true c.entry-item.is
        c.is_sized.ensures c.if-not-is_sized.false c.has_attribute.ensures w.if-not-has_attribute.false
        ∙ ap (λ j. are_same (items_view (drop (c.entries.entry-index + 1) c.args.entries.now)) (drop j (map file_entry c.args.files.now))) (sym w.next-is);
  }
]

pub returns : goal.returns
returns c = same_end c.args.entries.now c.entries.entry-index c.args.files.now c.entries.next (omega arith) c.entries.invariant.within
    ∙ sym c.entries.invariant.same
