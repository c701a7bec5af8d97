-- What uxn_explain returns: why a program is refused, as a C struct. Assumes nothing.
use Rattle.std.specs.Prelude.{◌≡◌, List, ℕ, Option, Some, None, Result, Ok, Err}
use Rattle.model.specs.Refusals.{refusal_number}
use Rattle.model.specs.Reasons.{Explains}
use Rattle.model.specs.declared.Place.{Place}
use Rattle.model.specs.declared.Reason.{Reason}
use Rattle.model.specs.declared.Refusal.{Refusal}
use Rattle.creply.specs.declared.Why.{Why}

-- where there is no place
abbrev pub nowhere_place : Place
nowhere_place = record { at = 0; work = 0; ret = 0; routine = 0 }

-- a refusal that has no reason, with its number; 0 for a program that is admitted
abbrev pub plain_struct : ℕ → Why
plain_struct number =
    record { number = number; rule = 0; count = 0; here = nowhere_place; next = nowhere_place; other = nowhere_place }

-- 11: the rule, the number that it speaks of, the place of the instruction, where it goes on, and the other place
abbrev pub because_struct : ℕ → ℕ → Place → Place → Place → Why
because_struct rule count here next other =
    record { number = 11; rule = rule; count = count; here = here; next = next; other = other }

-- UXN_RULE_CUT to UXN_RULE_RETURNS_DIFFER; what a rule does not have is 0
abbrev pub reason_struct : Reason → Why
reason_struct (Reason.Cut p n) = because_struct 1 n p nowhere_place nowhere_place
reason_struct (Reason.Forbidden p) = because_struct 2 0 p nowhere_place nowhere_place
reason_struct (Reason.FewWorking p n) = because_struct 3 n p nowhere_place nowhere_place
reason_struct (Reason.FewReturn p n) = because_struct 4 n p nowhere_place nowhere_place
reason_struct (Reason.BelowFloor p n entry) = because_struct 5 n p nowhere_place entry
reason_struct (Reason.ManyWorking p n) = because_struct 6 n p nowhere_place nowhere_place
reason_struct (Reason.ManyReturn p n) = because_struct 7 n p nowhere_place nowhere_place
reason_struct (Reason.Outside p next) = because_struct 8 0 p next nowhere_place
reason_struct (Reason.WaysDiffer p next other) = because_struct 9 0 p next other
reason_struct (Reason.ReturnIn0100 p) = because_struct 10 0 p nowhere_place nowhere_place
reason_struct (Reason.ReturnOffFloor p entry) = because_struct 11 0 p nowhere_place entry
reason_struct (Reason.ReturnsDiffer p other) = because_struct 12 0 p nowhere_place other

abbrev pub why_struct : Result (Option Reason) Refusal → Why
why_struct (Ok None) = plain_struct 0
why_struct (Ok (Some reason)) = reason_struct reason
why_struct (Err refusal) = plain_struct (refusal_number refusal)

-- the struct is that of a reply which explains what admission answers to the program
abbrev pub WhyOf : List ℕ → Why → Type 0
WhyOf program why = (reply : Result (Option Reason) Refusal) × (why ≡ why_struct reply) × Explains program reply
