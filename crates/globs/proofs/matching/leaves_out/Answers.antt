use Rattle.std.proofs.Common.{◌≡◌, ◌∙◌, ap, arith, drop, length, map, ◌-◌}
use Rattle.globs.specs.Globs.{kind_of}
use Rattle.globs.specs.Matching.{found}
use Rattle.globs.proofs.Meaning.{found_is_left_out}
use Rattle.globs.proofs.matching.leaves_out.Goals as goal

pub returns : goal.returns
returns c =
    let kinds = map kind_of c.args.parts.now in
    let path = c.args.path.now in
    let start : length path - c.letters.done ≡ 0 = omega arith in
    c.letters.invariant.found ∙ ap (λ j. found c.args.folders_alone kinds (drop j path)) start ∙ found_is_left_out c.args.folders_alone kinds path
