use Rattle.std.proofs.Common.{◌≡◌, ◌+◌, ◌*◌, [], ◌∷◌, slice_index, ap, ◌∙◌, arith}
use Rattle.lanes.specs.Lanes.{word_at, word_in}
use Rattle.lanes.proofs.FourWords.{below_four, below_eight}
use Rattle.lanes.proofs.rows.four_words_at.Goals as goal

pub returns : goal.returns
returns c j k lane lt =
    let bytes = c.args.buffer.now in
    let starts = c.args.starts.now in
    let at = c.args.at in
    let rows = c.row_at.result ∷ c.row_at-2.result ∷ c.row_at-3.result ∷ c.row_at-4.result ∷ [] in
    let spot : slice_index starts j + at + 4 * k ≡ slice_index starts j + (at + 4 * k) = omega arith in
    below_eight (λ j. word_in c.turned.result k j ≡ word_at bytes (slice_index starts j + at + 4 * k))
    (λ j low. c.turned.ensures.first j k low lt
    ∙ below_four (λ j. word_in rows j k ≡ word_at bytes (slice_index starts j + at + 4 * k))
    (c.row_at.ensures.first k lt) (c.row_at-2.ensures.first k lt) (c.row_at-3.ensures.first k lt) (c.row_at-4.ensures.first k lt) j low)
    (λ j low. c.turned.ensures.second j k low lt
    ∙ below_four (λ j. word_in rows j (4 + k) ≡ word_at bytes (slice_index starts (4 + j) + at + 4 * k))
    (c.row_at.ensures.second k lt) (c.row_at-2.ensures.second k lt) (c.row_at-3.ensures.second k lt) (c.row_at-4.ensures.second k lt) j low)
    j lane
    ∙ ap (word_at bytes) spot
