use Rattle.std.proofs.Common.{◌∙◌, ◌++◌, sym, ap, append-nil, true≢false}
use Rattle.std.specs.Option.{option_to_list}
use Rattle.partial_tree.specs.Grown.{GrownTree}
use Rattle.seeding.proofs.FedLeaves.{last-fits, all-there}
use Rattle.seeding.proofs.leaves.Leaves.finish.Goals.{in-Some+in_ok-push, in_default}
use Rattle.seeding.proofs.leaves.Leaves.finish.Goals as goal

pub push-requires : goal.push-requires
push-requires g c =
    let full = c.requires.1 in
    last-fits c.args.self c.requires.0 c.finish_layer-last.result.2 c.in-Some.leaf full
    (λ refused. true≢false (sym refused ∙ c.if-self.false))
    (c.finish_layer-last.ensures.nodes c.requires.0 full.fed.fed) c.in-Some.is

pub finish-requires : goal.finish-requires
finish-requires g c =
    let content = c.requires.0 in
    let full = c.requires.1 in
    let nodes = c.finish_layer-last.ensures.nodes content full.fed.fed in
    elim c.match-last.branch [
      | in-Some+in_ok-push w ↦ all-there c.args.self c.match-last.tree content c.finish_layer-last.result.2 full
          (λ refused. true≢false (sym refused ∙ c.if-self.false)) nodes
          (ap (λ (t : GrownTree). t.leaves) w.tree-is ∙ w.in_ok-push.ensures.pushed
          ∙ ap (λ o. c.args.self.tree.leaves ++ option_to_list o) (sym w.in-Some.is))
          (ap (λ (t : GrownTree). t.length) w.tree-is ∙ w.push.ensures.length)
      | in_default w ↦ all-there c.args.self c.match-last.tree content c.finish_layer-last.result.2 full
          (λ refused. true≢false (sym refused ∙ c.if-self.false)) nodes
          (ap (λ (t : GrownTree). t.leaves) w.tree-is ∙ sym (append-nil c.args.self.tree.leaves)
          ∙ ap (λ o. c.args.self.tree.leaves ++ option_to_list o) (sym w.in_default.is))
          (ap (λ (t : GrownTree). t.length) w.tree-is)
    ]
