-- How what callers see of a session is written as one value: what a model of it needs.
use Rattle.std.specs.Prelude.{ℕ, List, Option, refl}
use Rattle.std.specs.Coded.{Coded, code_by, coded×, coded_list, coded_option, coded_ℕ}
use Rattle.opening.specs.Description.{Description, FileEntry, TreeEntry, Version1}
use Rattle.partial_tree.specs.Kept.{TreeState}
use Rattle.partial_tree.specs.Codes.{tree_state_code}
use Rattle.session.specs.Asks.{AskSet, asks_code}
use Rattle.session.specs.Layouts.{SessionSeen}

abbrev bytes_code : Coded (List ℕ)
bytes_code = coded_list coded_ℕ

abbrev texts_code : Coded (List (List ℕ))
texts_code = coded_list bytes_code

abbrev pub file_code : Coded FileEntry
file_code = code_by (List (List ℕ) × (ℕ × (Option ℕ × ℕ)))
    (coded× texts_code (coded× coded_ℕ (coded× (coded_option coded_ℕ) coded_ℕ)))
    (λ f. (f.path, (f.length, (f.tree, f.first_piece))))
    (λ p. record { path = p.0; length = p.1.0; tree = p.1.1.0; first_piece = p.1.1.1 })
    (λ _. refl)

abbrev pub tree_code : Coded TreeEntry
tree_code = code_by (List ℕ × (ℕ × List (List ℕ)))
    (coded× bytes_code (coded× coded_ℕ texts_code))
    (λ t. (t.root, (t.length, t.layer)))
    (λ p. record { root = p.0; length = p.1.0; layer = p.1.1 })
    (λ _. refl)

abbrev pub version_code : Coded Version1
version_code = code_by (List (List ℕ) × ℕ) (coded× texts_code coded_ℕ)
    (λ v. (v.pieces, v.total)) (λ p. record { pieces = p.0; total = p.1 }) (λ _. refl)

-- the parts of a description, in its own order
abbrev Parts : Type 0
Parts = List ℕ × (ℕ × (List FileEntry × (List TreeEntry × (List ℕ × (List ℕ × Option Version1)))))

abbrev parts_code : Coded Parts
parts_code = coded× bytes_code (coded× coded_ℕ (coded× (coded_list file_code)
    (coded× (coded_list tree_code) (coded× bytes_code (coded× bytes_code
    (coded_option version_code))))))

abbrev description_parts : Description → Parts
description_parts d =
    (d.name, (d.piece_length, (d.files, (d.trees, (d.info_hash_v2, (d.info_hash_v1, d.v1))))))

abbrev of_parts : Parts → Description
of_parts p = record {
  name = p.0;
  piece_length = p.1.0;
  files = p.1.1.0;
  trees = p.1.1.1.0;
  info_hash_v2 = p.1.1.1.1.0;
  info_hash_v1 = p.1.1.1.1.1.0;
  v1 = p.1.1.1.1.1.1;
}

abbrev pub description_code : Coded Description
description_code = code_by Parts parts_code description_parts of_parts (λ _. refl)

abbrev pub session_code : Coded SessionSeen
session_code = code_by (Description × (List TreeState × AskSet))
    (coded× description_code (coded× (coded_list tree_state_code) asks_code))
    (λ s. (s.torrent, (s.trees, s.asks)))
    (λ p. record { torrent = p.0; trees = p.1.0; asks = p.1.1 }) (λ _. refl)
