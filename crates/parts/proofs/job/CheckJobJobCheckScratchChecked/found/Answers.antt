use Rattle.std.proofs.Common.{◌≡◌, ◌∙◌, Some, length, ap, sym, subst, arith}
use Rattle.std.proofs.lemmas.List.{length-map}
use Rattle.std.proofs.lemmas.Option.{same_Some}
use Rattle.chains.proofs.Cases.{item_at}
use Rattle.opening.specs.Seen.{file_entry}
use Rattle.opening.proofs.Placing.{file_there}
use Rattle.parts.specs.Passing.{JudgesAnswer, JudgesContent}
use Rattle.parts.proofs.job.CheckJobJobCheckScratchChecked.found.Goals as goal

pub judge_held-requires-clause-file : goal.judge_held-requires-clause-file
judge_held-requires-clause-file g c = (
  c.args.number,
  file_there c.args.self.now.torrent.now c.files.result.now c.args.number c.index-files-number.result c.files.ensures
      (omega (arith, c.requires.there, ap length c.files.ensures, length-map c.files.result.now file_entry)) c.index-files-number.is,
)

pub judge_held-requires-clause-whole : goal.judge_held-requires-clause-whole
judge_held-requires-clause-whole g c =
    let it = item_at c.args.held.now.answers c.args.place c.requires.place in
    let whole = c.in-None.ensures it.0 it.1 in
    (whole.0, it.1 ∙ ap Some whole.1)

pub returns-in-None-clause-found : goal.returns-in-None-clause-found
returns-in-None-clause-found g c i a there at =
    let t = c.args.self.now.torrent.now in
    let is = file_there t c.files.result.now c.args.number c.index-files-number.result c.files.ensures
    (omega (arith, c.requires.there, ap length c.files.ensures, length-map c.files.result.now file_entry)) c.index-files-number.is in
    let same : file_entry c.index-files-number.result ≡ i = same_Some (file_entry c.index-files-number.result) i (sym is ∙ there) in
    let whole = c.in-None.ensures a at in
    subst (λ x. JudgesAnswer t i x c.judge_held.result) (sym whole.1)
    (subst (λ f. JudgesContent t f whole.0 c.judge_held.result) same (c.judge_held.ensures whole.0 (at ∙ ap Some whole.1)))
