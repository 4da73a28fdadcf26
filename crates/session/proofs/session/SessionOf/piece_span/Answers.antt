use Rattle.std.proofs.Common.{◌≡◌, IfSome, ap, ap₂, ◌∙◌, subst, arith}
use Rattle.std.specs.Prelude.{min}
use Rattle.hashtree.specs.Tree.{block_count, height}
use Rattle.node_maps.specs.Places.{tree_height}
use Rattle.opening.specs.Description.{Description}
use Rattle.opening.specs.PieceLayers.{piece_layer}
use Rattle.partial_tree.specs.Kept.{info_of}
use Rattle.opening.specs.Sound.{IsSound}
use Rattle.session.specs.Layouts.{SessionSeen}
use Rattle.session.specs.Pieces.{piece_span}
use Rattle.session.proofs.PieceRows.{legal_bounds}
use Rattle.session.proofs.KeptTrees.{tree_of_number}
use Rattle.session.proofs.session.SessionOf.piece_span.Goals as goal

pub unwrap-requires : goal.unwrap-requires
unwrap-requires g c =
    let bounds = legal_bounds (g.T.HoldsTorrent.described c.self.inside.torrent).piece_length (subst IsSound c.lend-torrent.ensures
    c.recall_sound.ensures).legal in
    let same : c.piece_length.result ≡ (g.T.HoldsTorrent.described c.self.inside.torrent).piece_length = c.piece_length.ensures ∙ ap (λ
    (d : Description). d.piece_length) c.lend-torrent.ensures in
    c.of.ensures.some.1 (omega (arith, bounds.0, same), omega (arith, bounds.1, same))

pub returns-clause-value : goal.returns-clause-value
returns-clause-value g c =
    let d : Description = g.T.HoldsTorrent.described c.self.inside.torrent in
    let a = c.index.result.now in
    let x = tree_of_number c.self.inside.asks _ _ c.self.invariant _ c.self.view_is c.args.tree c.requires a c.index.ensures in
    let piece : c.unwrap.result ≡ d.piece_length = subst (λ o. IfSome o (λ s. s ≡ c.piece_length.result)) c.unwrap.ensures c.of.ensures.value
    ∙ c.piece_length.ensures ∙ ap (λ (x : Description). x.piece_length) c.lend-torrent.ensures in
    let layer : c.height-layer.result ≡ piece_layer d.piece_length = c.height-layer.ensures.value ∙ ap (λ n. height (block_count n)) piece in
    let high : c.height.result ≡ tree_height a.length = c.height.ensures.value ∙ ap (λ n. height (block_count n)) c.shape.ensures in (
      info_of a,
      x.is_tree.tree_is,
      subst (λ (v : SessionSeen). c.min.result ≡ piece_span v.torrent.piece_length a.length) c.self.view_is (c.min.ensures ∙ ap₂ min layer high),
    )
