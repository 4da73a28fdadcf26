use Rattle.std.proofs.Common.{◌≡◌, ◌∙◌, ◌<◌, length, map, slice_get, Some, sym, ap, subst, arith}
use Rattle.std.specs.String.{string_bytes}
use Rattle.std.proofs.lemmas.List.{length-map}
use Rattle.std.proofs.lemmas.Option.{same_Some}
use Rattle.folders.specs.Shelf.{path_bytes}
use Rattle.passes.specs.Passing.{AnswersOpening}
use Rattle.gathering.proofs.Steps.{item_of}
use Rattle.gathering.proofs.job.GatherJobJobGatherScratchDraftUnit.open.Given.{Over}
use Rattle.gathering.proofs.job.GatherJobJobGatherScratchDraftUnit.open.Goals as goal
use Rattle.gathering.proofs.job.GatherJobJobGatherScratchDraftUnit.open.Goals.{After-deref}

-- the path with this number
path_is : (g : Over) (c : After-deref g)
    → slice_get (map path_bytes c.args.self.now.paths.now) c.args.number ≡ Some (map string_bytes c.deref.result.now)
path_is g c =
    let paths = c.args.self.now.paths.now in
    let inside : c.args.number < length paths = omega (arith, c.requires.there, length-map paths path_bytes) in
    item_of path_bytes paths c.args.number c.index-self-number.result inside ∙ ap Some (sym (ap (map string_bytes) c.deref.ensures.value))

pub put_parts-requires : goal.put_parts-requires
put_parts-requires g c =
    let at = path_is g (goal.at.put_parts-requires g c).After-deref in
    record {
      room = omega (arith, c.requires.fits c.args.number (map string_bytes c.deref.result.now) at, length-map c.deref.result.now string_bytes);
    }

pub returns-clause-opens : goal.returns-clause-opens
returns-clause-opens g c i there =
    let at = path_is g (goal.at.returns-clause-opens g c).After-deref in
    let seen : map (λ s. s.now) c.deref-3.result.now ≡ map string_bytes c.deref.result.now = ap (map (λ s. s.now)) c.deref-3.ensures.value
    ∙ c.put_parts.ensures.parts in
    subst (λ p. AnswersOpening g.S.Shelf g.S.File.Source.seen c.args.shelf.now p c.open.result c.open.new.self)
    (seen ∙ same_Some _ i (sym at ∙ there)) (record {
      opens = c.open.ensures.opens;
      found = c.open.ensures.found;
      fresh = c.open.ensures.fresh;
      counts = c.open.ensures.counts;
      stays = c.open.ensures.stays;
    })
