use Rattle.std.proofs.Common.{◌≡◌, ◌<◌, ◌-◌, ◌^◌, arith}
use Rattle.folders.specs.declared.report.FileVerdict.TheVariants.{Good}
use Rattle.parts.specs.PartVisits.{VisitsPart}
use Rattle.parts.specs.Parts.{Touches}
use Rattle.parts.specs.Shares.{share}
use Rattle.uses.proofs.SentReports.{chain_at, report_sent}
use Rattle.uses.proofs.parts_reported.report_part.Goals as goal

pub returns : goal.returns
returns g c =
    let t = c.args.torrent.now in
    let part = c.args.part.number - 1 in
    let count = c.args.part.count in
    let there : part < count = omega (arith, c.args.part.some, c.args.part.there) in
    let small : count < 2 ^ 64 = omega arith in
    report_sent c.places_are_tested.ensures c.true_parts_report.ensures t part count _ _ _ _ there small
    (λ files went n f v at of none. chain_at (VisitsPart g.S.SeekShelf.opens_at g.S.Shelf.closes g.S.File.Source.seen t (share t part count))
    (λ h w. (Touches t (share t part count) h → ⊥) → w ≡ Good) (λ a b h w one off. (one.other off).1) _ _ t.files files went.0 n f v at of none)
    c.check_part.result c.check_part.ensures.checks
