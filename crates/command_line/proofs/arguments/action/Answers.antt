use Rattle.std.proofs.Common.{◌≡◌, ◌∙◌, ap, Err, List, map, Ok, Option, refl, Result, subst, sym, true, inl, inr, [], ℕ}
use Rattle.std.specs.Prelude.{◌⊎◌, IfErr, IfOk}
use Rattle.std.proofs.lemmas.Result.{err_from_is_err_and}
use Rattle.clap.specs.Simple.{App, HasMatchesOf, app_of, subcommand_of, subcommand_rows_of}
use Rattle.clap.specs.Faults.{fault_of, is_simple_and_free}
use Rattle.clap.specs.Kinds.{HasKind}
use Rattle.clap.specs.Takes.{takes}
use Rattle.clap.specs.Values.{kind_of}
use Rattle.clap.specs.Walk.{Row, Text}
use Rattle.clap.specs.declared.error.Error.{Error}
use Rattle.clap.specs.declared.error.kind.ErrorKind.TheVariants.{OutOfMemory}
use Rattle.clap.specs.declared.parser.matches.ArgMatches.{ArgMatches}
use Rattle.actions.specs.declared.command.Asked.{Asked}
use Rattle.command_line.specs.CommandLine.{AreWordsTaken, IsAskedBy, IsAskedIn, IsFoundIn, IsNothing, IsRefusalOf, program}
use Rattle.command_line.specs.Reasons.{IsUnaskedKind}
use Rattle.command_line.proofs.arguments.action.Goals as goal

-- an error of the command that clap was given is one of the program
kind_in : (app : App) (words : List (List ℕ)) (e : Error) → app ≡ program
    → (is_simple_and_free app ≡ true → HasKind (fault_of app words) e) → HasKind (fault_of program words) e
kind_in app words e same kinds =
    subst (λ (a : App). is_simple_and_free a ≡ true → HasKind (fault_of a words) e) same kinds refl

-- and what that command takes the program takes
taken_in : (app : App) (words : List (List ℕ)) → app ≡ program
    → (is_simple_and_free app ≡ true → fault_of app words ≡ []) → AreWordsTaken words
taken_in app words same none =
    subst (λ (a : App). is_simple_and_free a ≡ true → fault_of a words ≡ []) same none refl

pub returns-in_err-matches-clause-memory : goal.returns-in_err-matches-clause-memory
returns-in_err-matches-clause-memory c =
    let words = map (λ s. s.now) c.args.line.now in
    let error = err_from_is_err_and c.from_residual-in_err-matches.result c.from_residual-in_err-matches.ensures.1 in
    let taken = λ (app : App). takes app words ≡ true in
    rw error.1 λ met asked is.
    ap kind_of error.2 ∙ c.in_err-matches.ensures.passes (subst taken (sym c.in_ok-command.ensures.0) met)

pub returns-in_err-matches-clause-refused : goal.returns-in_err-matches-clause-refused
returns-in_err-matches-clause-refused c =
    let words = map (λ s. s.now) c.args.line.now in
    let error = err_from_is_err_and c.from_residual-in_err-matches.result c.from_residual-in_err-matches.ensures.1 in
    let kinds = kind_in (app_of c.in_ok-command.field-0) words c.in_err-matches.field-0.0
    c.in_ok-command.ensures.0 c.in_err-matches.ensures.kinds in
    rw error.1 (inl (subst (HasKind (fault_of program words)) (sym error.2) kinds))

-- an action of what was found is one that the words ask for
asked_by : {E : Type 0} (r : Result Asked E) (words : List (List ℕ)) (found : Option (Text × List Row)) → found ≡ subcommand_of program words
    → AreWordsTaken words
    → IfOk r (IsAskedIn found) → IfOk r (IsAskedBy words)
asked_by (Ok a) words found same taken is = (taken, subst (λ f. IsAskedIn f a) same is)
asked_by (Err e) words found same taken is = tt

abbrev Unasked : Option (Text × List Row) → Error → Type 0
Unasked found e = (kind_of e ≡ OutOfMemory) ⊎ (IsUnaskedKind found (kind_of e) × IsNothing found)

-- what was found is why they ask for none
refusal_of : (r : Result Asked Error) (words : List (List ℕ)) (found : Option (Text × List Row)) → found ≡ subcommand_of program words → AreWordsTaken words
    → IfErr r (Unasked found) → IfErr r (λ e. IsRefusalOf words (kind_of e))
refusal_of (Ok a) words found same taken is = tt
refusal_of (Err e) words found same taken (inl memory) = inl (inl memory)
refusal_of (Err e) words found same taken (inr why) =
    inr (taken, subst IsNothing same why.1, subst (λ f. IsUnaskedKind f (kind_of e)) same why.0)

-- if they ask for one, memory was refused
memory_of : (r : Result Asked Error) (words : List (List ℕ)) (found : Option (Text × List Row)) → found ≡ subcommand_of program words
    → IfErr r (Unasked found)
    → IfErr r (λ e. takes program words ≡ true → (asked : Asked) → IsFoundIn words asked → kind_of e ≡ OutOfMemory)
memory_of (Ok a) words found same is = tt
memory_of (Err e) words found same (inl memory) = λ met asked there. memory
memory_of (Err e) words found same (inr why) = λ met asked there. absurd (subst IsNothing same why.1 asked there)

-- the matches are those of the program
matches_of_program : (app : App) (words : List (List ℕ)) (m : ArgMatches) → app ≡ program → HasMatchesOf app words m
    → subcommand_rows_of m ≡ subcommand_of program words
matches_of_program app words m same has = (subst (λ (a : App). HasMatchesOf a words m) same has refl).1

pub returns-clause-asked : goal.returns-clause-asked
returns-clause-asked c =
    let words = map (λ s. s.now) c.args.line.now in
    let found = matches_of_program (app_of c.in_ok-command.field-0) words c.in_ok-matches.matches c.in_ok-command.ensures.0 c.in_ok-matches.ensures.matches in
    let taken = taken_in (app_of c.in_ok-command.field-0) words c.in_ok-command.ensures.0 c.in_ok-matches.ensures.kinds in
    asked_by c.action_in.result words _ found taken c.action_in.ensures.asked

pub returns-clause-refused : goal.returns-clause-refused
returns-clause-refused c =
    let words = map (λ s. s.now) c.args.line.now in
    let found = matches_of_program (app_of c.in_ok-command.field-0) words c.in_ok-matches.matches c.in_ok-command.ensures.0 c.in_ok-matches.ensures.matches in
    let taken = taken_in (app_of c.in_ok-command.field-0) words c.in_ok-command.ensures.0 c.in_ok-matches.ensures.kinds in
    refusal_of c.action_in.result words _ found taken c.action_in.ensures.refused

pub returns-clause-memory : goal.returns-clause-memory
returns-clause-memory c =
    let words = map (λ s. s.now) c.args.line.now in
    let found = matches_of_program (app_of c.in_ok-command.field-0) words c.in_ok-matches.matches c.in_ok-command.ensures.0 c.in_ok-matches.ensures.matches in
    memory_of c.action_in.result words _ found c.action_in.ensures.refused
