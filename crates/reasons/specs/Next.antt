-- The depths after an instruction. Assumes nothing.
use Rattle.std.specs.Prelude.{ℕ}
use Rattle.model.specs.Instruction.{working, returning}
use Rattle.model.specs.Admission.{depth_after}
use Rattle.model.specs.declared.Place.{Place}

-- an address where an instruction with the depths w and r goes on, in the routine q
abbrev pub next_place : (byte w r at q : ℕ) → Place
next_place byte w r at q = record { at = at; work = depth_after working byte w; ret = depth_after returning byte r; routine = q }
