-- Calls that write bytes to the start of a lent output: what they answer, and the output afterwards. Assumes nothing.
use Rattle.std.specs.Prelude.{List, ◌++◌, ℕ, zero, suc, length, take, drop}

-- the number of the refusal or 0, how many bytes are written, and the output afterwards
pub record WriteResult : Type 0 where
  pub number : ℕ
  pub length : ℕ
  pub output : List ℕ

-- these bytes, and "the rest of it stays"
abbrev pub written : List ℕ → List ℕ → WriteResult
written bytes output = record { number = 0; length = length bytes; output = bytes ++ drop (length bytes) output }

-- "nothing written"
abbrev pub unwritten : ℕ → List ℕ → WriteResult
unwritten n output = record { number = n; length = 0; output = output }

-- refused with the number, unless it is 0
unfoldable pub write_unless : ℕ → List ℕ → List ℕ → WriteResult
write_unless zero bytes output = written bytes output
write_unless (suc n) bytes output = unwritten (suc n) output

-- what a call wrote
abbrev pub wrote : WriteResult → List ℕ
wrote r = take r.length r.output
