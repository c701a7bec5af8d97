-- The numbers of refusals: document 01, "Numbered replies", and document 02, quoted with the name of the change. `Refusal` is declared in
-- src/lib.rt.
-- Assumes nothing.
use Rattle.std.specs.Prelude.{ℕ, Result, Ok, Err}
use Rattle.model.specs.declared.Refusal.{Refusal}

abbrev pub refusal_number : Refusal → ℕ
-- "memory, device page, working stack, return stack of wrong length"
refusal_number Refusal.MemoryLength = 1
refusal_number Refusal.DevicesLength = 2
refusal_number Refusal.WorkLength = 3
refusal_number Refusal.RetLength = 4
-- "program empty; at load also above 65,280 bytes"
refusal_number Refusal.Program = 5
-- "device above 15"
refusal_number Refusal.Device = 6
-- C-16: "7 now means not 128, 8 L above 126 or a tail byte not 0", and of a stored record "8 for a broken one by its form's rules"
refusal_number Refusal.FrameLength = 7
refusal_number Refusal.FrameBroken = 8
-- "above 4,096 bytes"
refusal_number Refusal.ProgramTooLong = 9
-- C-19: "not eight times the program length"
refusal_number Refusal.SheetLength = 10
-- "no assignment"
refusal_number Refusal.NoAssignment = 11
-- "13 for a short output"
refusal_number Refusal.OutputShort = 13
-- C-16: "15 for a file not of whole records", "16 for one too long to go back"
refusal_number Refusal.PartRecord = 15
refusal_number Refusal.FrameTooLong = 16
-- C-19: "18 .., then 19 for one that can't go back"
refusal_number Refusal.SheetBroken = 18
refusal_number Refusal.OtherRoutine = 19

-- the number of what was refused, 0 if it was not
abbrev pub refused_by : {A : Type 0} → Result A Refusal → ℕ
refused_by (Ok x) = 0
refused_by (Err refusal) = refusal_number refusal
