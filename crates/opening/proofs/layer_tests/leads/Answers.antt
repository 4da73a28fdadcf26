use Rattle.std.proofs.Common.{rules, sym, ◌∙◌}
use Rattle.opening.proofs.Layering.{whole_layer}
use Rattle.opening.proofs.layer_tests.leads.Goals as goal

pub layer_root-requires-clause-whole : goal.layer_root-requires-clause-whole
layer_root-requires-clause-whole c =
    let bytes = c.bytes-bytes.ensures in
    whole_layer c.args.piece_length bytes.legal.0 c.args.tree.now.length c.in-Some-Some.piece c.in-Some-Some.shape c.height-layer.result _ bytes.legal.1
    (sym bytes.value ∙ bytes.legal.3)
    (c.in-Some-Some.ensures'.value ∙ bytes.value) c.in-Some-Some.ensures.value c.height-layer.ensures.enough c.height-layer.ensures.least c.requires.whole

pub returns : goal.returns
returns c = search rules
