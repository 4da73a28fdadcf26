-- What the keys of an info dictionary say. Public clauses do not name these.
use Rattle.std.specs.Prelude.{◌≡◌, List, Option, None, Some, codes}
use Rattle.std.specs.Borrow.{Bor}
use Rattle.benc.specs.Value.{Bencode, int, text, dict, Pairs, no_pairs}
use Rattle.benc.specs.View.{view, pairs_view}
use Rattle.benc.specs.declared.value.Pair.{Pair}
use Rattle.filetree.specs.Dictionary.{get}
use Rattle.opening.specs.declared.info.Present.{Present}
use Rattle.opening.specs.declared.info.InfoKeys.{InfoKeys}

-- the values under the keys of an info dictionary
pub record ArePresent (info : Bencode) (p : Present) : Type 0 where
  pub tree : get (codes "file tree") info ≡ Some (view p.tree.now)
  pub name : get (codes "name") info ≡ Some (view p.name.now)
  pub piece_length : get (codes "piece length") info ≡ Some (view p.piece_length.now)

-- the file tree, the name and the piece length of an info dictionary
pub record AreInfoKeys (info : Bencode) (t : InfoKeys) : Type 0 where
  pub tree : get (codes "file tree") info ≡ Some (dict (pairs_view t.tree.now))
  pub name : get (codes "name") info ≡ Some (text t.name.now)
  pub piece_length : get (codes "piece length") info ≡ Some (int t.piece_length)

-- the pairs of a dictionary that may be absent
abbrev pub pairs_seen : Option (Bor (List Pair)) → Pairs
pairs_seen None = no_pairs
pairs_seen (Some ps) = pairs_view ps.now
