use Rattle.std.proofs.Common.{◌≡◌, Some, refl, sym, ap, ap₂, ◌∙◌}
use Rattle.std.proofs.lemmas.Option.{none-some}
use Rattle.node_maps.specs.declared.page.Cell.TheVariants.{Marked}
use Rattle.node_maps.specs.Cell.{hash_of}
use Rattle.node_maps.specs.Nodes.{nodes}
use Rattle.node_maps.specs.Paged.{cell_at, hashes}
use Rattle.node_maps.proofs.Paging.{put-known-same, put-marked, put-in_tree, look-hashes, held-same}
use Rattle.node_maps.proofs.paged.PagedNodeMap.mark.Goals as goal
use Rattle.node_maps.proofs.paged.PagedNodeMap.mark.Goals.{After-hash}

module _ (c : After-hash) where
  known : hashes c.args.self.now.rows.items 0 c.args.index ≡ Some c.requires.0
  known = sym (look-hashes c.args.self.now.height c.args.self.now.rows.items c.args.self.now.in_tree 0 c.args.index) ∙ c.requires.1

  cell : c.hash.result ≡ hashes c.args.self.now.rows.items 0 c.args.index
  cell = c.hash.ensures ∙ ap hash_of (c.read_cell.ensures ∙ ap (λ rows. cell_at rows 0 c.args.index) c.deref.ensures.value)

pub returns-in-Some-clause-seen : goal.returns-in-Some-clause-seen
returns-in-Some-clause-seen c =
    let r = (goal.at.returns-in-Some-clause-seen c).After-hash in
    let map = c.args.self.now in
    let rows = c.write_cell.new.rows.items in
    ap₂ (nodes map.shape)
    (put-known-same map.height map.rows.items rows 0 c.args.index (Marked c.in-Some.hash) c.write_cell.ensures.here c.write_cell.ensures.others
    (sym c.in-Some.is ∙ cell r))
    (put-marked map.height map.rows.items rows c.args.index (Marked c.in-Some.hash) c.write_cell.ensures.here c.write_cell.ensures.others
    map.in_tree (put-in_tree map.height map.rows.items rows 0 c.args.index (Marked c.in-Some.hash) c.write_cell.ensures.here c.write_cell.ensures.others
    (map.in_tree.place 0 c.args.index c.requires.0 (known r)) map.in_tree) refl)

pub returns-in-Some-clause-held : goal.returns-in-Some-clause-held
returns-in-Some-clause-held c = held-same c.args.self.now.rows.items c.write_cell.new.rows.items c.write_cell.ensures.same

pub returns-in_default-clause-seen : goal.returns-in_default-clause-seen
returns-in_default-clause-seen c =
    let r = (goal.at.returns-in_default-clause-seen c).After-hash in
    absurd (none-some c.requires.0 (sym c.in_default.is ∙ cell r ∙ known r))
