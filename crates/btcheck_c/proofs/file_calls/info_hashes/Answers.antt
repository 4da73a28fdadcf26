use Rattle.std.proofs.Common.{refl, sym, ap, ◌∙◌}
use Rattle.opening.specs.Description.{Description}
use Rattle.btcheck_c.proofs.file_calls.info_hashes.Goals as goal

pub returns-clause-done : goal.returns-clause-done
returns-clause-done c =
    let v2 = c.info_hash_v2.ensures ∙ ap (λ (d : Description). d.info_hash_v2) c.torrent.ensures in
    let v1 = c.info_hash_v1.ensures ∙ ap (λ (d : Description). d.info_hash_v1) c.torrent-2.ensures in
    (refl, (refl, (v2, v1)))
