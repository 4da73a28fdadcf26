use Rattle.std.proofs.Common.{◌≡◌, ◌∙◌, List, Option, Result, Ok, Err, IfOk}
use Rattle.clap.specs.Simple.{subcommand_rows_of}
use Rattle.clap.specs.Values.{kind_of}
use Rattle.clap.specs.Walk.{Row, Text}
use Rattle.clap.specs.declared.error.Error.{Error}
use Rattle.clap.specs.declared.error.kind.ErrorKind.{ErrorKind}
use Rattle.command_line.specs.Reasons.{IsUnaskedKind, IsWhy, kind_for}
use Rattle.command_line.specs.declared.unasked.Unasked.{Unasked}
use Rattle.command_line.proofs.unasked.unasked_error.Goals as goal

-- an error of the kind of a reason that holds says why nothing is asked for
says_why : {E : Type 0} (found : Option (Text × List Row)) (reason : Unasked) (kind : ErrorKind) (r : Result Error E)
    → IsWhy found reason → kind ≡ kind_for reason → IfOk r (λ e. kind_of e ≡ kind) → IfOk r (λ e. IsUnaskedKind found (kind_of e))
says_why found reason kind (Ok e) why is same = (reason, why, same ∙ is)
says_why found reason kind (Err e) why is same = tt

pub returns : goal.returns
returns c =
    says_why (subcommand_rows_of c.args.matches.now) c.why_unasked-why.result c.kind.result c.error.result
    c.why_unasked-why.ensures c.kind.ensures c.error.ensures.kind
