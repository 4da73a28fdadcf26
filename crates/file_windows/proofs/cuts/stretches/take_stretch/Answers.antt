use Rattle.std.proofs.Common.{ℕ, List, ◌-◌, ◌++◌, ◌∙◌, take, slice_index, ap₂, subst}
use Rattle.sha1_lanes.specs.Batches.{HasTaken, filled_at}
use Rattle.file_windows.proofs.LaneParts.{part_filled}
use Rattle.file_windows.proofs.cuts.stretches.take_stretch.Goals as goal

pub returns : goal.returns
returns c j lt =
    let buffer : List ℕ = c.args.cuts.buffer.now in
    let start : ℕ = slice_index c.args.cuts.starts.now j in
    let size : ℕ = slice_index c.args.cuts.sizes.now j in
    let before : List ℕ = take c.args.from (filled_at buffer start size c.args.whole) in
    subst (HasTaken c.update.new.self j)
    (ap₂ (λ s z. before ++ filled_at buffer s z (c.args.to - c.args.from)) (c.starts_from-part_starts.ensures j lt) (c.sizes_from-part_sizes.ensures j lt)
    ∙ part_filled buffer start size c.args.whole c.args.from c.args.to (c.requires.inside j lt) (c.requires.fit j lt) c.requires.order c.requires.within)
    (c.update.ensures j lt before (c.requires.taken j lt))
