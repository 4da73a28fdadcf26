use Rattle.std.proofs.Common.{◌≢◌, ◌≤◌, ℕ, List, length, Result, Ok, Err, IfErr, IfOk, inl, inr, arith}
use Rattle.benc.specs.Spelling.{Spells}
use Rattle.benc.specs.Value.{Bencode}
use Rattle.benc.specs.View.{view}
use Rattle.filetree.specs.Tests.{PassesUnlessNoMemory}
use Rattle.filetree.specs.declared.refusal.Refusal.{Refusal}
use Rattle.filetree.specs.declared.refusal.Refusal.TheVariants as refusals
use Rattle.opening.specs.Describes.{Describes, IsDescribed}
use Rattle.opening.specs.Description.{Description}
use Rattle.opening.specs.Refusals.{RefusesTorrent, max_torrent, table}
use Rattle.opening.proofs.Growing.{wants_memory}
use Rattle.opening.proofs.Legal.{legal_if_accepted}
use Rattle.opening.proofs.open.open_bytes.Goals as goal

-- what reading a value says of the bytes that spell it
describes : (b : List ℕ) (v : Bencode) → length b ≤ max_torrent → Spells v b → (result : Result Description Refusal)
    → PassesUnlessNoMemory (table v) (IsDescribed v) result → IfOk result (λ t. Describes b t)
describes b v small spelled (Ok t) passes = record { small = small; value = v; spelled = spelled; legal = legal_if_accepted v passes.0; described = passes.1 }
describes b v small spelled (Err r) passes = tt

refuses : (b : List ℕ) (v : Bencode) → length b ≤ max_torrent → Spells v b → (result : Result Description Refusal)
    → PassesUnlessNoMemory (table v) (IsDescribed v) result → IfErr result (λ r. r ≢ refusals.NoMemory → RefusesTorrent b r)
refuses b v small spelled (Ok t) passes = tt
refuses b v small spelled (Err r) passes = λ memory. inr (small, inr (v, spelled, passes memory))

pub read-requires-clause-canonical : goal.read-requires-clause-canonical
read-requires-clause-canonical c = (c.spelling_is_of_canonical.ensures (view c.in-Ok.decoded.0) c.args.input.now c.in-Ok.ensures.found).0

pub returns-in-Err-clause-refused : goal.returns-in-Err-clause-refused
returns-in-Err-clause-refused c = λ memory. inr (
  omega arith,
  inl (
    c.in-Err.fault,
    c.in-Err.ensures.fault (λ is. memory (c.refusal_of.ensures.memory is)),
    c.refusal_of.ensures.other (λ is. memory (c.refusal_of.ensures.memory is)),
  ),
)

pub returns-in-Err-clause-memory : goal.returns-in-Err-clause-memory
returns-in-Err-clause-memory c = λ memory.
    let none = c.refusal_of.ensures.memory_only memory in
    let found = c.in-Err.ensures.spelled none in
    record { small = omega arith; value = found.0; spells = found.1; where_taken = inl (c.in-Err.fault.offset, c.in-Err.ensures.memory none) }

pub returns-clause-described : goal.returns-clause-described
returns-clause-described c = describes c.args.input.now (view c.in-Ok.decoded.0) (omega arith) c.in-Ok.ensures.found c.read.result c.read.ensures.passes

pub returns-clause-refused : goal.returns-clause-refused
returns-clause-refused c = refuses c.args.input.now (view c.in-Ok.decoded.0) (omega arith) c.in-Ok.ensures.found c.read.result c.read.ensures.passes

pub returns-clause-memory : goal.returns-clause-memory
returns-clause-memory c = wants_memory c.args.input.now (view c.in-Ok.decoded.0) (omega arith) c.in-Ok.ensures.found c.read.result c.read.ensures.memory
