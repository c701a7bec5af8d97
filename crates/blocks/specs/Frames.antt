-- Document 01, the second program: a frame call for each whole record, "with a budget of 10,000 steps a frame", one after the
-- other. Assumes nothing.
use Rattle.std.specs.Prelude.{List, [], ◌++◌, ℕ, zero, suc, ◌*◌, ◌/◌, length, take, drop}
use Rattle.model.specs.Machine.{State}
use Rattle.model.specs.Calls.{frame_size, frame_call}
use Rattle.text.specs.Lines.{line}

abbrev pub frame_budget : ℕ
frame_budget = 10000

-- how many whole records there are, and record k, from 0
abbrev pub whole_records : List ℕ → ℕ
whole_records records = length records / frame_size

abbrev pub frame_at : List ℕ → ℕ → List ℕ
frame_at records k = take frame_size (drop (frame_size * k) records)

-- the machine after the first k records: each frame call is made on what the one before it left
unfoldable pub machine_after : List ℕ → State → ℕ → State
machine_after records s zero = s
machine_after records s (suc k) = (frame_call (frame_at records k) frame_budget (machine_after records s k)).state

-- their lines
unfoldable pub first_lines : List ℕ → State → ℕ → List ℕ
first_lines records s zero = []
first_lines records s (suc k) =
    first_lines records s k ++ line (frame_call (frame_at records k) frame_budget (machine_after records s k))

-- what the bytes of a record file come to: the machine after all whole records, their lines, and the bytes of the record that
-- is not whole, which wait for the rest of it
pub record Judged : Type 0 where
  pub machine : State
  pub lines : List ℕ
  pub waiting : List ℕ

unfoldable pub judged : List ℕ → State → Judged
judged bytes s =
    record {
      machine = machine_after bytes s (whole_records bytes);
      lines = first_lines bytes s (whole_records bytes);
      waiting = drop (frame_size * whole_records bytes) bytes;
    }

-- the same with its lines behind others
abbrev pub behind : List ℕ → Judged → Judged
behind lines j = record { machine = j.machine; lines = lines ++ j.lines; waiting = j.waiting }

-- when further bytes come: they are judged behind those that wait, on the machine as it is then
unfoldable pub further : Judged → List ℕ → Judged
further j came =
    let k = judged (j.waiting ++ came) j.machine in
    record { machine = k.machine; lines = j.lines ++ k.lines; waiting = k.waiting }
