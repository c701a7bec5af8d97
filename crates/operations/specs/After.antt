-- What one operation, and one instruction byte, leave: model's definitions put together for the contracts of the inner functions.
-- Assumes nothing.
use Rattle.std.specs.Prelude.{ℕ, ◌+◌, Bool, cond, List, ◌==◌}
use Rattle.model.specs.Machine.{Stack, State}
use Rattle.model.specs.Instruction.{Op}
use Rattle.model.specs.Step.{effect_on, main_after, execute, ports_of}
use Rattle.model.specs.Run.{Reply, reply, with_ports}
use Rattle.model.specs.Run.Answer.{WentOn, Broke}

-- the main stack after an operation, with the memory, the device page and the next address that it may use
abbrev pub main_with : (memory devices : List ℕ) (next : ℕ) → Op → Bool → Bool → Stack → Stack
main_with memory devices next o w keep s = main_after o w keep (effect_on memory devices next 0 o w s) s

-- the reply of a step that carries out this byte
abbrev pub executed : ℕ → State → Reply
executed byte s = with_ports (ports_of byte s) (reply (cond (byte == 0x00) Broke WentOn) 1 0 (execute byte s))

-- the instruction byte with these low seven bits and bit 7
abbrev pub byte_of : ℕ → Bool → ℕ
byte_of key keep = key + cond keep 128 0
