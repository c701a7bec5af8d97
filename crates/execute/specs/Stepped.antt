-- What the answer of a step stands for, on buffers of the right lengths. Assumes nothing.
use Rattle.model.specs.Bytes.{places_ring}
use Rattle.model.specs.Machine.{page_size, State}
use Rattle.model.specs.Run.{Reply, reply, with_ports}
use Rattle.model.specs.Run.Answer.{WentOn, Broke}
use Rattle.model.specs.declared.Machine.{Machine}
use Rattle.execute.specs.declared.Stepped.{Stepped}

-- `state_of` makes the state of the machine record in the answer and the four buffers. The ports written are so many from the first one on,
-- modulo 256
abbrev pub of_stepped : (Machine → State) → Stepped → Reply
of_stepped state_of (Stepped.WentOn m sent) = with_ports (places_ring page_size sent.first sent.count) (reply WentOn 1 0 (state_of m))
of_stepped state_of (Stepped.Broke m) = reply Broke 1 0 (state_of m)
