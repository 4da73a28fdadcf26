-- What is laid out of a refusal of a torrent beside its number.
use Rattle.std.specs.Prelude.{ℕ}
use Rattle.benc.specs.declared.fault.FaultKind.{FaultKind}
use Rattle.benc.specs.declared.fault.FaultKind.TheVariants as fault
use Rattle.filetree.specs.declared.refusal.Key.{Key}
use Rattle.filetree.specs.declared.refusal.Key.TheVariants as keys
use Rattle.filetree.specs.declared.refusal.Refusal.{Refusal}
use Rattle.filetree.specs.declared.refusal.Refusal.TheVariants as refusals
use Rattle.c_layouts.specs.declared.refusal_info.RefusalInfo.{RefusalInfo}

-- the number of a kind of fault, from 1 on; refused memory is no fault of the bytes
abbrev pub fault_number : FaultKind → ℕ
fault_number fault.Truncated = 1
fault_number fault.BadStart = 2
fault_number fault.BadInteger = 3
fault_number fault.IntegerRange = 4
fault_number fault.BadLength = 5
fault_number fault.KeyOrder = 6
fault_number fault.Trailing = 7
fault_number fault.TooDeep = 8
fault_number fault.NoMemory = 0

-- the number of a key, from 1 on
abbrev pub key_number : Key → ℕ
key_number keys.Top = 1
key_number keys.Info = 2
key_number keys.MetaVersion = 3
key_number keys.FileTree = 4
key_number keys.Name = 5
key_number keys.PieceLength = 6
key_number keys.PieceLayers = 7

-- neither a fault nor a key
abbrev pub nothing_more : RefusalInfo
nothing_more = record { offset = 0; fault = 0; key = 0 }

-- the fault and where its item begins, or the key
abbrev pub refusal_info : Refusal → RefusalInfo
refusal_info (refusals.NotBencode f) =
    record { offset = f.offset; fault = fault_number f.kind; key = 0 }
refusal_info (refusals.Missing k) = record { offset = 0; fault = 0; key = key_number k }
refusal_info (refusals.WrongType k) = record { offset = 0; fault = 0; key = key_number k }
refusal_info r = nothing_more
