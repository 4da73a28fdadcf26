use Rattle.command_line.proofs.finding.action_of.Goals as goal

pub create_of-requires : goal.create_of-requires
create_of-requires c = c.in_ok-texts-in-create.ensures

pub join_of-requires : goal.join_of-requires
join_of-requires c = c.in_ok-texts-in-join.ensures
