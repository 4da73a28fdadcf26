-- What devices over memory hold: their bytes, the calls that they count, and how many bytes a call
-- moves at most.
use Rattle.std.specs.Prelude.{ℕ, List, Bool}
use Rattle.benc.specs.declared.memory.calls.Calls.{Calls}
use Rattle.benc.specs.declared.memory.sink.MemSink.{MemSink}
use Rattle.benc.specs.declared.memory.source.MemSource.{MemSource}

-- the bytes that a source has still to give
abbrev pub bytes_left : MemSource → List ℕ
bytes_left source = source.rest.now

-- the calls of a source, one of which may be to fail
abbrev pub source_calls : MemSource → Calls
source_calls source = source.calls

-- how many bytes a source gives in one call at most
abbrev pub most_given : MemSource → ℕ
most_given source = source.at_most

-- the bytes that a sink has taken
abbrev pub bytes_in_sink : MemSink → List ℕ
bytes_in_sink sink = sink.bytes.items

-- how many bytes a sink can still take
abbrev pub room_left : MemSink → ℕ
room_left sink = sink.room

-- the calls of a sink, one of which may be to fail
abbrev pub sink_calls : MemSink → Calls
sink_calls sink = sink.calls

-- how many bytes a sink takes in one call at most
abbrev pub most_taken : MemSink → ℕ
most_taken sink = sink.at_most

-- how many flushes a sink had
abbrev pub flush_count : MemSink → ℕ
flush_count sink = sink.flushes

-- a sink took nothing after its last flush that succeeded
abbrev pub has_flushed : MemSink → Bool
has_flushed sink = sink.flushed
