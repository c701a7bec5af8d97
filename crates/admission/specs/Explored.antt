-- What the functions of admission answer, and what they keep. Inside the crate only: the contracts of `admit` and `explain` do not
-- cite it.
-- Assumes nothing.
use Rattle.std.specs.Prelude.{◌≡◌, ◌⊎◌, List, ℕ, ◌+◌, ◌≤◌, ◌<◌, length, get_or, Result, Ok, Err}
use Rattle.model.specs.Instruction.{length_of}
use Rattle.model.specs.Admission.{Smallest}
use Rattle.worklist.specs.Worklist.{Obeyed, Listed, Tested, placed, Waiting, Fails, Failing, ToldIn}
use Rattle.admission.specs.declared.Depths.{Depths}

-- A rule fails at place i with the depths of its record, or those of the instruction by itself hold.
abbrev pub Judged : (program sheet : List ℕ) → ℕ → Result Depths Failing → Type 0
Judged program sheet i (Err fault) = (fault.at ≡ i) × (fault.other ≡ 0) × Fails program sheet fault.rule i 0
Judged program sheet i (Ok d) = Tested program sheet i d.work d.ret × (d.after ≡ i + length_of (get_or program i 0))

-- The addresses before place `head` of the queue obey the rules, those from there on are still to be visited.
pub record Going (program sheet queue : List ℕ) (head : ℕ) (routines before : List ℕ) : Type 0 where
  pub list : Listed program sheet queue
  pub visited : (k : ℕ) → k < head → Obeyed program sheet (placed queue k)
  pub waiting : Waiting program sheet queue head routines before
  pub low : head ≤ length queue

-- a call or a return
abbrev pub OfRoutines : ℕ → Type 0
OfRoutines byte = (byte ≡ 0x60) ⊎ (byte ≡ 0x6C)

-- At place `head` of the queue one is next, or nothing is.
abbrev pub Met : (program queue : List ℕ) → ℕ → Type 0
Met program queue head = head < length queue → OfRoutines (get_or program (get_or queue head 0) 0)

-- A rule fails, or the walk went on from place `first` to place `head`, whatever calls wait.
abbrev pub Walked : (program sheet queue : List ℕ) → ℕ → (sheet_after queue_after : List ℕ) → Result ℕ Failing → Type 0
Walked program sheet queue first sheet_after queue_after (Err fault) = ToldIn program sheet_after fault
Walked program sheet queue first sheet_after queue_after (Ok head) =
    Met program queue_after head
    × (first ≤ head)
    × ((routines before : List ℕ) → Going program sheet queue first routines before → Going program sheet_after queue_after head routines before)

-- A rule fails, or the sheet is the smallest one.
abbrev pub Explored : List ℕ → List ℕ → Result (Unit {0}) Failing → Type 0
Explored program sheet (Err fault) = ToldIn program sheet fault
Explored program sheet (Ok done) = Smallest program sheet
