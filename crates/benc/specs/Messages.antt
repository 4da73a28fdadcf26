-- What `{}` prints of each fault, and the names of the kinds.
use Rattle.std.specs.Prelude.{ℕ, List, ◌++◌, codes, decimal}
use Rattle.benc.specs.declared.device.DeviceFault.{DeviceFault}
use Rattle.benc.specs.declared.device.WriteFault.{WriteFault}
use Rattle.benc.specs.declared.device.WriteFault.TheVariants.{Write}
use Rattle.benc.specs.declared.fault.Fault.{Fault}
use Rattle.benc.specs.declared.fault.FaultKind.{FaultKind}
use Rattle.benc.specs.declared.fault.FaultKind.TheVariants as kinds

-- what is printed of a device fault
abbrev pub device_fault_text : DeviceFault → List ℕ
device_fault_text fault = codes "the device failed"

-- what is printed of a write fault
abbrev pub write_fault_text : WriteFault → List ℕ
write_fault_text Write = codes "cannot write"

-- the printed name of a kind of bencoding fault
abbrev pub kind_name : FaultKind → List ℕ
kind_name kinds.Truncated = codes "Truncated"
kind_name kinds.BadStart = codes "BadStart"
kind_name kinds.BadInteger = codes "BadInteger"
kind_name kinds.IntegerRange = codes "IntegerRange"
kind_name kinds.BadLength = codes "BadLength"
kind_name kinds.KeyOrder = codes "KeyOrder"
kind_name kinds.Trailing = codes "Trailing"
kind_name kinds.TooDeep = codes "TooDeep"
kind_name kinds.NoMemory = codes "NoMemory"

-- the kind, and in decimal where the item that fails begins
abbrev pub fault_text : Fault → List ℕ
fault_text fault = kind_name fault.kind ++ (codes " at byte " ++ decimal fault.offset)
