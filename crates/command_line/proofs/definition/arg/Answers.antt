use Rattle.std.proofs.Common.{◌≡◌, ◌∙◌, Bool, Some, ap, false, subst, sym}
use Rattle.std.specs.Borrow.{Bor}
use Rattle.clap.specs.Simple.{new_rule}
use Rattle.clap.specs.Walk.{Text, rule_of}
use Rattle.clap.specs.declared.builder.action.ArgAction.{ArgAction}
use Rattle.clap.specs.declared.builder.action.ArgAction.TheVariants.{SetTrue}
use Rattle.clap.specs.declared.builder.arg.Arg.{Arg}
use Rattle.command_line.specs.CommandLine.{IsArgument}
use Rattle.command_line.specs.Table.{action_for, needs, rule_for, word}
use Rattle.command_line.specs.declared.definition.Times.{Times}
use Rattle.command_line.proofs.Building.{set_action, set_help, set_long, set_required, set_short, set_value_name}
use Rattle.command_line.proofs.definition.arg.Goals as goal

-- what is made of each argument is a word that is there so often
begun : (new required action done : Arg) (name : Text) (times : Times) (is_needed : Bool) (is_done : ArgAction) (help : Bor Text)
    → rule_of new ≡ new_rule name → new.global ≡ false → is_needed ≡ needs times → is_done ≡ action_for times
    → required ≡ record new { required = is_needed } → action ≡ record required { action = Some is_done }
    → done ≡ record action { help = Some help } → IsArgument (word name times) done
begun new required action done name times is_needed is_done help is local needed values r a h =
    let one = set_required new required (needs times) _ (r ∙ ap (λ b. record new { required = b }) needed) (is, local) in
    let two = set_action required action (action_for times) _ (a ∙ ap (λ x. record required { action = Some x }) values) one in
    set_help action done help _ h two

pub returns-in-Word : goal.returns-in-Word
returns-in-Word c =
    let made = begun _ _ _ _ c.args.name.now c.args.times _ _ _ c.new.ensures.rule c.new.ensures.optional.1 c.is_needed.ensures c.action.ensures
    c.required.ensures c.action-2.ensures c.help-argument.ensures in
    subst (λ k. IsArgument (rule_for c.args.name.now k c.args.times) c.help-argument.result) (sym c.in-Word.is) made

pub returns-in-Flag : goal.returns-in-Flag
returns-in-Flag c =
    let made = begun _ _ _ _ c.args.name.now c.args.times _ _ _ c.new.ensures.rule c.new.ensures.optional.1 c.is_needed.ensures c.action.ensures
    c.required.ensures c.action-2.ensures c.help-argument.ensures in
    let long = set_long c.help-argument.result c.long.result c.args.name _ c.long.ensures made in
    subst (λ k. IsArgument (rule_for c.args.name.now k c.args.times) c.action-in-Flag.result) (sym c.in-Flag.is)
    (set_action c.long.result c.action-in-Flag.result SetTrue _ c.action-in-Flag.ensures long)

pub returns-in-ShortFlag : goal.returns-in-ShortFlag
returns-in-ShortFlag c =
    let made = begun _ _ _ _ c.args.name.now c.args.times _ _ _ c.new.ensures.rule c.new.ensures.optional.1 c.is_needed.ensures c.action.ensures
    c.required.ensures c.action-2.ensures c.help-argument.ensures in
    let long = set_long c.help-argument.result c.long-in-ShortFlag.result c.args.name _ c.long-in-ShortFlag.ensures made in
    let short = set_short c.long-in-ShortFlag.result c.short.result c.in-ShortFlag.letter _ c.short.ensures long in
    subst (λ k. IsArgument (rule_for c.args.name.now k c.args.times) c.action-in-ShortFlag.result) (sym c.in-ShortFlag.is)
    (set_action c.short.result c.action-in-ShortFlag.result SetTrue _ c.action-in-ShortFlag.ensures short)

pub returns-in-Text : goal.returns-in-Text
returns-in-Text c =
    let made = begun _ _ _ _ c.args.name.now c.args.times _ _ _ c.new.ensures.rule c.new.ensures.optional.1 c.is_needed.ensures c.action.ensures
    c.required.ensures c.action-2.ensures c.help-argument.ensures in
    let long = set_long c.help-argument.result c.long-in-Text.result c.args.name _ c.long-in-Text.ensures made in
    subst (λ k. IsArgument (rule_for c.args.name.now k c.args.times) c.value_name.result) (sym c.in-Text.is)
    (set_value_name c.long-in-Text.result c.value_name.result c.in-Text.value _ c.value_name.ensures long)

pub returns-in-ShortText : goal.returns-in-ShortText
returns-in-ShortText c =
    let made = begun _ _ _ _ c.args.name.now c.args.times _ _ _ c.new.ensures.rule c.new.ensures.optional.1 c.is_needed.ensures c.action.ensures
    c.required.ensures c.action-2.ensures c.help-argument.ensures in
    let long = set_long c.help-argument.result c.long-in-ShortText.result c.args.name _ c.long-in-ShortText.ensures made in
    let short = set_short c.long-in-ShortText.result c.short-in-ShortText.result c.in-ShortText.letter _ c.short-in-ShortText.ensures long in
    subst (λ k. IsArgument (rule_for c.args.name.now k c.args.times) c.value_name-in-ShortText.result) (sym c.in-ShortText.is)
    (set_value_name c.short-in-ShortText.result c.value_name-in-ShortText.result c.in-ShortText.value _ c.value_name-in-ShortText.ensures short)
