use Rattle.std.proofs.Common.{◌++◌, rules}
use Rattle.benc.specs.View.{view}
use Rattle.opening.specs.Refusals.{version_rows, present_rows, kind_rows}
use Rattle.opening.specs.Steps.{AreInfoKeys}
use Rattle.filetree.proofs.Tables.{none_both, passes_behind}
use Rattle.opening.proofs.info.read_info.Goals as goal

pub returns : goal.returns
returns c =
    let i = view c.args.info.now in
    passes_behind (version_rows i ++ present_rows i) (kind_rows i) (AreInfoKeys i) c.all_of_kind.result
    (none_both (version_rows i) (present_rows i) c.in_ok-version.ensures.0 c.in_ok-present.ensures.0)
    (c.all_of_kind.ensures i c.in_ok-present.ensures.1)

pub returns-in_err-version : goal.returns-in_err-version
returns-in_err-version c = search rules

pub returns-in_err-present : goal.returns-in_err-present
returns-in_err-present c = search rules
