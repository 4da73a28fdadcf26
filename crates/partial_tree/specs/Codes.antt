-- How what callers see of a tree is written as one value: what a model of it needs.
use Rattle.std.specs.Prelude.{ℕ, List, refl}
use Rattle.std.specs.Coded.{Coded, code_by, coded×, coded_list, coded_ℕ}
use Rattle.node_maps.specs.Digest.{Hash}
use Rattle.node_maps.specs.Known.{Known, Marked, known_code, marked_code}
use Rattle.node_maps.specs.Nodes.{Nodes}
use Rattle.partial_tree.specs.Kept.{TreeState, KeptTree}
use Rattle.partial_tree.specs.Grown.{GrownTree}

abbrev pub nodes_code : Coded Nodes
nodes_code = code_by (ℕ × (Known × Marked)) (coded× coded_ℕ (coded× known_code marked_code))
    (λ n. (n.length, (n.known, n.marked)))
    (λ p. record { length = p.0; known = p.1.0; marked = p.1.1 })
    (λ _. refl)

abbrev pub tree_state_code : Coded TreeState
tree_state_code = code_by (Known × Marked) (coded× known_code marked_code)
    (λ s. (s.known, s.marked)) (λ p. record { known = p.0; marked = p.1 }) (λ _. refl)

abbrev pub kept_tree_code : Coded KeptTree
kept_tree_code = code_by (Hash × (ℕ × TreeState))
    (coded× (coded_list coded_ℕ) (coded× coded_ℕ tree_state_code))
    (λ t. (t.root, (t.length, t.state)))
    (λ p. record { root = p.0; length = p.1.0; state = p.1.1 })
    (λ _. refl)

abbrev pub grown_tree_code : Coded GrownTree
grown_tree_code = code_by (ℕ × List Hash) (coded× coded_ℕ (coded_list (coded_list coded_ℕ)))
    (λ t. (t.length, t.leaves)) (λ p. record { length = p.0; leaves = p.1 }) (λ _. refl)
