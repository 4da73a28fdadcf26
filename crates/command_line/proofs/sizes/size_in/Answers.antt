use Rattle.command_line.proofs.Units.{without_units}
use Rattle.command_line.proofs.sizes.size_in.Goals as goal

pub returns : goal.returns
returns c = without_units c.args.text.now c.number_in.result c.in_default.ensures c.in_default-units_in.ensures
    c.in_default-units_in-2.ensures c.number_in.ensures
