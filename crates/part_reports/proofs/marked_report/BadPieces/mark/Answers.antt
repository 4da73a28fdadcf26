use Rattle.std.proofs.Common.{◌≡◌, ◌+◌, ℕ, List, inl, inr, length, ap, ◌∙◌, arith}
use Rattle.std.specs.Vec.{with_items}
use Rattle.std.proofs.lemmas.Bool.{cases_eq}
use Rattle.hashtree.specs.Bits.{bit_of}
use Rattle.part_reports.specs.declared.marked_report.BadPieces.{BadPieces}
use Rattle.part_reports.proofs.MarkBits.{filled_items, one_marked}
use Rattle.part_reports.proofs.RunMarks.{IsBetween, marks_both, marks_none, marks_same}
use Rattle.part_reports.proofs.marked_report.BadPieces.mark.Goals as goal

pub pieces-init : goal.pieces-init
pieces-init c = marks_none (IsBetween c.args.from c.args.from) c.args.self.now (λ q is. omega (arith, is.0, is.1))

pub pieces-preserved : goal.pieces-preserved
pieces-preserved c =
    let from : ℕ = c.args.from in
    let piece : ℕ = c.pieces.piece in
    let was = c.pieces.self.bits in
    let cleared : List ℕ = c.clear_bit.new.bits in
    let count : length cleared ≡ length was.items = c.clear_bit.auto.bits ∙ ap length c.deref_mut.ensures.value in
    let items : (with_items was cleared).items ≡ cleared = filled_items was cleared count in
    let now : BadPieces = record { bits = with_items was cleared } in
    marks_both (IsBetween from piece) (λ q. q ≡ piece) (IsBetween from (piece + 1)) c.args.self.now c.pieces.self now c.pieces.invariant
    (one_marked c.pieces.self now piece (omega (arith, c.pieces.invariant.count, c.requires.room, c.pieces-test.true)) (ap length items ∙ count)
    (ap (λ bits. bit_of bits piece) items ∙ c.clear_bit.ensures.clear)
    (λ k apart. ap (λ bits. bit_of bits k) items ∙ c.clear_bit.ensures.others k apart ∙ ap (λ bits. bit_of bits k) c.deref_mut.ensures.value))
    (λ q is. elim (cases_eq q piece) [ inl last ↦ inr last | inr other ↦ inl (is.0, omega (arith, is.1, other)) ])
    (λ q is. elim is [
      | inl before ↦ (before.0, omega (arith, before.1))
      | inr last ↦ (omega (arith, last, c.pieces.auto.piece), omega (arith, last))
    ])

pub returns : goal.returns
returns c =
    let end = c.pieces.auto.piece-end c.requires.order in
    let past = c.pieces-test.false in
    marks_same (IsBetween c.args.from c.pieces.piece) (IsBetween c.args.from c.args.to) c.args.self.now c.pieces.self
    (λ q is. (is.0, omega (arith, end, is.1))) (λ q is. (is.0, omega (arith, past, is.1))) c.pieces.invariant
