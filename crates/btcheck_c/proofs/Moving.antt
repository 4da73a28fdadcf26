-- What a handle holds may move to another thread, as each of its parts may.
use denote.Ref.{NamedLft}
use denote.Param.Send.{IsSend, sendable}
use denote.Param.SendFields.{as_row_send, declared_send, variants_send}
use Rattle.std.proofs.Crossing as heap
use Rattle.std.proofs.MapsCrossing as maps
use Rattle.filetree.proofs.folder.TreeFolder.TheLaws.TheKnot as folder
use Rattle.filetree.specs.contracts.path.Path as Path
use Rattle.opening.proofs.torrent.TreeInfo.TheSendSync as tree_info
use Rattle.opening.specs.contracts.torrent.File as File
use Rattle.opening.specs.contracts.torrent.Torrent as Torrent
use Rattle.pieces.proofs.v1_feed.V1.TheSendSync as version1
use Rattle.pieces.proofs.piece_length.PieceLength.TheSendSync as piece_length
use Rattle.node_maps.proofs.paged.Paged.TheSendSync as paged
use Rattle.session.proofs.session.SessionOf.TheSendSync as session_of
use Rattle.session.specs.contracts.torrent_holder.OwnTorrent as OwnTorrent
use Rattle.short_pushes.proofs.row_check.RowCheck.TheSendSync as row_check
use Rattle.short_pushes.proofs.file_root.FileRoot.TheSendSync as root
use Rattle.hashtree.proofs.shape.Shape.TheSendSync as shape
use Rattle.holdings.proofs.holdings.Holdings.TheSendSync as holdings
use Rattle.drafting.proofs.open_draft.OpenDraft.TheSendSync as draft
use Rattle.drafting.proofs.coming_file.ComingFile.TheSendSync as coming
use Rattle.btcheck_c.specs.contracts.file_check.FileCheck as FileCheck
use Rattle.btcheck_c.specs.contracts.held.Held as Held
use Rattle.btcheck_c.specs.contracts.thing.Kind as Kind
use Rattle.btcheck_c.specs.contracts.thing.Thing as Thing

-- folders are shared by an `Arc`, so each must be one that threads may share
path : (κ : NamedLft) → IsSend (Path.the_row κ)
path κ = search (folder.crosses_both, maps.crosses, heap.crosses, sendable) depth 40 fits 100000

file : (κ : NamedLft) → IsSend (File.the_row κ)
file κ = search (path, sendable) depth 40 fits 100000

torrent : (κ : NamedLft) → IsSend (Torrent.the_row κ)
torrent κ = search (file, tree_info.the_send, version1.the_send, piece_length.the_send, maps.crosses, heap.crosses, sendable) depth 40 fits 100000

own : IsSend OwnTorrent.the_row
own = search (torrent, declared_send, as_row_send, sendable) depth 40 fits 100000

check : IsSend FileCheck.the_row
check = search (row_check.the_field_send, declared_send, as_row_send, sendable) depth 30 fits 100000

held : IsSend Held.the_row
held = search (holdings.the_send, declared_send, as_row_send, sendable) depth 30 fits 100000

kind : IsSend Kind.the_row
kind = search (
  session_of.the_send,
  own,
  paged.the_send,
  root.the_field_send,
  check,
  held,
  draft.the_send,
  coming.the_field_send,
  variants_send,
  as_row_send,
  sendable,
) depth 40 fits 100000

pub thing : IsSend Thing.the_row
thing = search (kind, declared_send, sendable) depth 30 fits 100000
