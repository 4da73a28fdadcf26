-- The line of a fault, which the program prints on standard error.
use Rattle.std.specs.Prelude.{ℕ, List, ◌++◌, codes, map, String, string_bytes}
use Rattle.printing.specs.declared.fault.Fault.{Fault}
use Rattle.printing.specs.declared.fault.Fault.TheVariants as faults
use Rattle.printing.specs.Text.{escaped, path_text}

-- the path of a file in a folder, as it is printed
abbrev pub printed_path : {A : Type 0} → List (String A) → List ℕ
printed_path path = path_text (map string_bytes path)

-- what could not be done, with the path as it is printed if it is about one
abbrev pub fault_reason : Fault → List ℕ
fault_reason (faults.Read path) = codes "cannot read " ++ escaped path.now
fault_reason (faults.ReadBelow path) = codes "cannot read " ++ printed_path path.items
fault_reason (faults.Write path) = codes "cannot write " ++ escaped path.now
fault_reason (faults.Truncated path) = codes "record is truncated: " ++ escaped path.now
fault_reason faults.NotUtf8 = codes "name is not UTF-8"
fault_reason (faults.Special path) = codes "not a file or folder: " ++ printed_path path.items
fault_reason faults.NoMemory = codes "no memory"

-- the line of a fault
abbrev pub fault_line : Fault → List ℕ
fault_line fault = codes "fault: " ++ (fault_reason fault ++ codes "\n")
