-- That calls of any kind keep the trees of a session closed: for who has the clauses of these calls
-- alone, as a caller from another language.
use Rattle.std.specs.Prelude.{List}
use Rattle.node_maps.specs.Digest.{Hash}
use Rattle.partial_tree.specs.Claims.{AreHashes}
use Rattle.session.specs.Session.{SessionSeen, HasClosedTrees, HasHashes}
use Rattle.session_laws.specs.Calling.{AreMade, Call, CallDoes, Filled, MarkedLeaf, TookBlock, TookLeaves, TookMessage, TookNoted, TookPiece}

-- each hash that a call was given has 32 bytes, as its type says
abbrev pub IsGivenHashes : Call → Type 0
IsGivenHashes (TookMessage m v) = HasHashes m
IsGivenHashes (TookNoted m v) = HasHashes m.1
IsGivenHashes (TookLeaves n first leaves c) = AreHashes leaves
IsGivenHashes (Filled n layer hashes c) = AreHashes hashes
IsGivenHashes call = Unit {0}

-- a call keeps the trees of a session closed, and each marked leaf known
abbrev pub CallsKeepTreesClosed : Type 0
CallsKeepTreesClosed = (S : SessionSeen) (call : Call) (S' : SessionSeen) → HasClosedTrees S
    → IsGivenHashes call → CallDoes S call S' → HasClosedTrees S'
