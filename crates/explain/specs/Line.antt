-- What the program `explain` writes of a program. Assumes nothing.
use Rattle.std.specs.Prelude.{◌≡◌, List, ℕ, Option, Result}
use Rattle.model.specs.Reasons.{Explains}
use Rattle.model.specs.declared.Reason.{Reason}
use Rattle.model.specs.declared.Refusal.{Refusal}
use Rattle.why.specs.Explained.{explain_line}

-- the line of a reply that explains the program
abbrev pub LineOf : List ℕ → List ℕ → Type 0
LineOf program line = (reply : Result (Option Reason) Refusal) × Explains program reply × (line ≡ explain_line program reply)
