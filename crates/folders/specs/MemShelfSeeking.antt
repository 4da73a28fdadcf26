-- What opening a file at a place makes of a shelf in memory.
use Rattle.std.specs.Prelude.{◌≡◌, ◌≢◌, ℕ, List, drop, Option, Some, None, Result, Ok, Err}
use Rattle.benc.specs.Calls.{after_call}
use Rattle.benc.specs.Device.{one_more}
use Rattle.benc.specs.MemDevices.{bytes_left, most_given, source_calls}
use Rattle.benc.specs.declared.device.DeviceFault.{DeviceFault}
use Rattle.benc.specs.declared.memory.source.MemSource.{MemSource}
use Rattle.folders.specs.MemShelf.{first_with}
use Rattle.folders.specs.MemShelfCalls.{MemShelfSeen, OpensFile}
use Rattle.folders.specs.declared.memory.file.MemFile.{MemFile}

-- a source gives a file's bytes from this number on, at most this many per read, and fails at the
-- call at which the file is to
pub record IsSourceFrom (offset : ℕ) (file : MemFile) (at_most : ℕ) (source : MemSource) : Type 0
  where
    pub bytes : bytes_left source ≡ drop offset file.content.now
    pub bound : most_given source ≡ at_most
    pub fails : (source_calls source).before_fault ≡ file.before_fault
    pub faults : (source_calls source).faults ≡ 0

-- this file was opened at this byte, or nothing is there
abbrev pub IsOpenedFrom : ℕ → Option MemFile → ℕ → Option MemSource → Type 0
IsOpenedFrom offset None at_most found = found ≡ None
IsOpenedFrom offset (Some file) at_most found =
    (source : MemSource) × (found ≡ Some source) × IsSourceFrom offset file at_most source

-- an opening at a byte fails in its turn and counts as any other
abbrev pub OpensFileAt : MemShelfSeen → List (List ℕ) → ℕ
    → Result (Option MemSource) DeviceFault → MemShelfSeen → Type 0
OpensFileAt s path offset (Ok found) s' =
    (s.before_fault ≢ Some 0) × IsOpenedFrom offset (first_with path s.files) s.at_most found
    × (s' ≡ record s { before_fault = after_call s.before_fault; openings = one_more s.openings })
OpensFileAt s path offset (Err e) s' = OpensFile s path (Err e) s'
