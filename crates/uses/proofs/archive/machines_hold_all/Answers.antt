-- A yes means that the joined report is a yes, and then the law of texts gives the contents.
use Rattle.std.proofs.Common.{◌≡◌, Bool, true, false, map, refl, sym, ◌∙◌}
use Rattle.std.specs.Bool.{OnTrue}
use Rattle.uses.specs.Archive.{HoldAllApart}
use Rattle.uses.proofs.archive.machines_hold_all.Goals as goal

on_yes : (yes : Bool) (Holds : Type 0) → (yes ≡ true → Holds) → OnTrue yes Holds
on_yes true Holds holds = holds refl
on_yes false Holds holds = tt

pub returns : goal.returns
returns c = on_yes c.yes.result (HoldAllApart c.args.torrent.now (map (λ x. x.now) c.args.reports.now)) (λ yes own are.
    let report = c.in_ok-report.report in
    c.yes_of_texts_apart.ensures c.args.torrent.now (map (λ x. x.now) c.args.reports.now) own report.files.items report.v1 c.recall_sound.ensures are
    c.in_ok-report.ensures.joined (sym c.yes.ensures ∙ yes))
