use Rattle.std.proofs.Common.{◌≡◌, ◌+◌, [], ◌∷◌, refl, ap, ◌∙◌}
use Rattle.lanes.specs.Lanes.{word_in}
use Rattle.lanes.proofs.FourWords.{columns, column_in_second}
use Rattle.lanes.proofs.rows.turned.Goals as goal

pub returns-clause-second : goal.returns-clause-second
returns-clause-second c j k a b =
    let all : (c.first_pairs.result ∷ c.last_pairs.result ∷ c.first_pairs-2.result ∷ c.last_pairs-2.result ∷ []) ≡ columns c.args.rows =
    rw (
      c.first_pairs.ensures,
      c.last_pairs.ensures,
      c.first_pairs-2.ensures,
      c.last_pairs-2.ensures,
      c.first_words-first_ab.ensures,
      c.last_words-last_ab.ensures,
      c.first_words-first_cd.ensures,
      c.last_words-last_cd.ensures,
    ) refl
    in
    ap (λ t. word_in t k (4 + j)) all ∙ column_in_second c.args.rows j k a b
