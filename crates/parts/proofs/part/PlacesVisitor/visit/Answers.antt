use Rattle.std.proofs.Common.{◌∙◌, ℕ, ap, refl, sym, subst, Vec, arith}
use Rattle.std.specs.Global.{Global}
use Rattle.hashtree.specs.Bits.{AreClear}
use Rattle.opening.specs.Seen.{file_entry}
use Rattle.folders.specs.Shelf.{more}
use Rattle.folders.specs.Verdicts.{fault_count}
use Rattle.folders.proofs.Places.{pieces_are_positive}
use Rattle.parts.specs.Spans.{IsSpanOf, IsSpanned}
use Rattle.parts.proofs.FoundFiles.{finds_other}
use Rattle.parts.proofs.HeldPieces.{span_shape}
use Rattle.parts.proofs.SoFar.{begins, begins_within}
use Rattle.parts.proofs.Visited.{part_is_small, part_visited}
use Rattle.parts.proofs.part.PlacesVisitor.visit.Given.{Over}
use Rattle.parts.proofs.part.PlacesVisitor.visit.Goals as goal
use Rattle.parts.proofs.part.PlacesVisitor.visit.Goals.{In-Some}

-- the file's pieces in the part
span_is : (g : Over) (c : In-Some g) → IsSpanOf c.args.torrent.now c.args.self.now (file_entry c.args.file.now) c.in-Some.span
span_is g c = subst (IsSpanned c.args.torrent.now c.args.self.now (file_entry c.args.file.now)) c.in-Some.is c.span_of.ensures

pub returns-in_default-clause-visited : goal.returns-in_default-clause-visited
returns-in_default-clause-visited g c =
    let t = c.args.torrent.now in
    let r = c.args.self.now in
    let f = file_entry c.args.file.now in
    let off = subst (IsSpanned t r f) c.in_default.is c.span_of.ensures in
    record {
      finds = finds_other t r f ((g.S.Shelf.contents c.args.shelf.now).under c.args.file.now.path) c.clear_bits.new.bits.items c.of_other.result off
          c.of_other.ensures.file c.of_other.ensures.v1;
      visits = record { touched = λ on. absurd (off on); other = λ _. (refl, c.of_other.ensures.file) };
      counts = sym (ap (λ w. more (g.S.Shelf.faults c.args.shelf.now) (fault_count w)) c.of_other.ensures.file);
      stays = refl;
    }

pub first_byte-offset-requires : goal.first_byte-offset-requires
first_byte-offset-requires g c =
    let t = c.args.torrent.now in
    let file = c.requires.file in
    let f = file_entry c.args.file.now in
    let shape = span_shape t c.args.self.now f c.in-Some.span (span_is g (goal.at.first_byte-offset-requires g c).In-Some) in
    let low = begins_within _ _ (begins t f c.in-Some.span (pieces_are_positive t c.recall_sound.ensures) shape) in
    omega (arith, low, (c.recall_sound.ensures.files file.0 f file.1).bound)

pub visit_at-visited-requires-clause-ready : goal.visit_at-visited-requires-clause-ready
visit_at-visited-requires-clause-ready g c = record {
  file = c.requires.file;
  span = span_shape c.args.torrent.now c.args.self.now (file_entry c.args.file.now) c.in-Some.span
      (span_is g (goal.at.visit_at-visited-requires-clause-ready g c).In-Some);
  clear = subst (λ (v : Vec ℕ Global). AreClear v.items) (sym c.taken.ensures.taken) c.clear_bits.ensures.clear;
}

pub of_visit-requires : goal.of_visit-requires
of_visit-requires g c =
    let path = c.deref.ensures ∙ c.parts.ensures in
    part_is_small g.S.Shelf g.S.SeekShelf.opens_at g.S.File.Source.seen c.args.torrent.now c.args.self.now c.requires.file.0 (file_entry c.args.file.now)
    c.in-Some.span c.recall_sound.ensures c.requires.file.1 (span_is g (goal.at.of_visit-requires g c).In-Some) c.taken.result
    c.visit_at-visited.new.reader.bits c.args.shelf.now c.visit_at-visited.new.shelf _ path _ c.first_byte-offset.ensures c.visit_at-visited.result
    c.visit_at-visited.ensures.visits

pub returns-clause-visited : goal.returns-clause-visited
returns-clause-visited g c =
    let path = c.deref.ensures ∙ c.parts.ensures in
    part_visited g.S.Shelf g.S.SeekShelf.opens_at g.S.File.Source.seen c.args.torrent.now c.args.self.now c.requires.file.0 (file_entry c.args.file.now)
    c.in-Some.span c.recall_sound.ensures c.requires.file.1 (span_is g (goal.at.returns-clause-visited g c).In-Some) c.taken.result
    c.visit_at-visited.new.reader.bits c.args.shelf.now c.visit_at-visited.new.shelf _ path _ c.first_byte-offset.ensures c.visit_at-visited.result
    c.visit_at-visited.ensures.visits c.of_visit.result c.of_visit.ensures c.visit_at-visited.ensures.stays
