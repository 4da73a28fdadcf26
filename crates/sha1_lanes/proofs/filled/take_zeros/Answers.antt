use Rattle.lanes.specs.declared.words.TheConstants.{LANES}
use Rattle.std.proofs.Common.{ℕ, [], ◌≤◌, ◌++◌, length, take, drop, replicate, slice_index, ap, sym, ◌∙◌, arith}
use Rattle.std.proofs.lemmas.List.{get_or-replicate}
use Rattle.lanes.specs.Lanes.{bytes_at}
use Rattle.sha1_lanes.proofs.Zeros.{message_within, zero_word}
use Rattle.sha1_lanes.proofs.filled.take_zeros.Goals as goal

pub returns : goal.returns
returns c j lt zeros =
    let own = bytes_at c.args.buffer.now (slice_index c.args.starts.now j) (slice_index c.args.sizes.now j) in
    let at = c.args.at in
    let past : length own ≤ at =
    omega (arith, message_within c.args.buffer.now (slice_index c.args.starts.now j) (slice_index c.args.sizes.now j), c.requires.past j lt) in
    c.compress.ensures j lt (take 64 (drop at (own ++ replicate {A = ℕ} zeros 0))) (λ k below.
    ap (λ v. slice_index v j) (get_or-replicate 16 k (replicate LANES 0) [] below)
    ∙ get_or-replicate LANES j 0 0 lt
    ∙ sym (zero_word own zeros at k past below))
