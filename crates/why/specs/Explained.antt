-- The line of the program `explain`: why a program is refused, as ASCII codes with a line feed. Assumes nothing.
use Rattle.std.specs.Prelude.{cond, List, [], ◌∷◌, ℕ, ◌+◌, ◌-◌, ◌%◌, eqb, length, Option, Some, None, Result, Ok, Err}
use Rattle.model.specs.Machine.{memory_size, start}
use Rattle.model.specs.Reasons.{byte_there}
use Rattle.model.specs.Refusals.{refusal_number}
use Rattle.model.specs.declared.Place.{Place}
use Rattle.model.specs.declared.Reason.{Reason}
use Rattle.model.specs.declared.Refusal.{Refusal}
use Rattle.table.specs.declared.WhichStack.{WhichStack}
use Rattle.text.specs.Lines.{refused_line, line_feed}
use Rattle.words.specs.Words.{text, joined, digits, count, hex, name}

-- ---- of the program

-- how many bytes there are from an address to the program's end, in 16 bits
abbrev pub rest_from : List ℕ → ℕ → ℕ
rest_from program at = (start + length program - at) % memory_size

-- the address of the program's last byte, in 16 bits
abbrev pub last_of : List ℕ → ℕ
last_of program = (start + length program - 1) % memory_size

-- ---- parts of sentences

-- the word for a stack
abbrev pub stack_name : WhichStack → List ℕ
stack_name WhichStack.Working = text "working"
stack_name WhichStack.Returning = text "return"

-- " takes 1 byte of the working stack, which holds 0"
unfoldable pub takes : ℕ → List ℕ → ℕ → List ℕ
takes n stack holds =
    joined (text " takes " ∷ count n ∷ text " of the " ∷ stack ∷ text " stack, which holds " ∷ digits holds ∷ [])

-- " leaves 256 bytes on the working stack, which has room for 255"
unfoldable pub leaves : ℕ → List ℕ → List ℕ
leaves n stack =
    joined (text " leaves " ∷ count n ∷ text " on the " ∷ stack ∷ text " stack, which has room for 255" ∷ [])

-- " returns from routine 0104 with return depth 3"
unfoldable pub returns_with : ℕ → List ℕ → ℕ → List ℕ
returns_with routine stack depth =
    joined (text " returns from routine " ∷ hex routine ∷ text " with " ∷ stack ∷ text " depth " ∷ digits depth ∷ [])

-- " in routine 0104", if the other routine is another one
unfoldable pub in_routine : ℕ → ℕ → List ℕ
in_routine routine other = cond (eqb routine other) [] (joined (text " in routine " ∷ hex routine ∷ []))

-- " with working depth 1 and return depth 0"; with the routine, if the other one is another
unfoldable pub with_depths : Place → ℕ → List ℕ
with_depths next other =
    joined (text " with working depth " ∷ digits next.work ∷ text " and return depth " ∷ digits next.ret
    ∷ in_routine next.routine other ∷ [])

-- ", and another way there has 0 and 0"; with the routine, if the next one is another
unfoldable pub other_way : Place → ℕ → List ℕ
other_way other next =
    joined (text ", and another way there has " ∷ digits other.work ∷ text " and " ∷ digits other.ret
    ∷ in_routine other.routine next ∷ [])

-- room for every one of these
abbrev pub part_most : ℕ
part_most = 70

-- ---- a sentence for each reason, after the name of the instruction

-- " is 3 bytes long, and the program ends after 2 of them"
unfoldable pub is_cut : ℕ → ℕ → List ℕ
is_cut n rest =
    joined (text " is " ∷ count n ∷ text " long, and the program ends after " ∷ digits rest ∷ text " of them" ∷ [])

-- " takes 1 byte of the return stack, which holds 2, and 2 of them belong to the callers of routine 0104"
unfoldable pub takes_below : ℕ → ℕ → ℕ → ℕ → List ℕ
takes_below n holds floor routine =
    joined (takes n (text "return") holds ∷ text ", and " ∷ digits floor
    ∷ text " of them belong to the callers of routine " ∷ hex routine ∷ [])

-- " goes on to 0203, outside the program, which is 0100 to 0102"
unfoldable pub goes_outside : ℕ → ℕ → List ℕ
goes_outside next last =
    joined (text " goes on to " ∷ hex next ∷ text ", outside the program, which is 0100 to " ∷ hex last ∷ [])

-- " goes on to 0107 with working depth 1 and return depth 0, and another way there has 0 and 0"; where the routines differ,
-- " goes on to 0108 with working depth 0 and return depth 2 in routine 0108, and another way there has 0 and 0 in routine 0100"
unfoldable pub ways_differ : Place → Place → List ℕ
ways_differ next other =
    joined (text " goes on to " ∷ hex next.at ∷ with_depths next other.routine
    ∷ other_way other next.routine ∷ [])

-- " returns from routine 0104 with return depth 3, and it was entered with 2"
unfoldable pub returns_off_floor : Place → Place → List ℕ
returns_off_floor p entry =
    joined (returns_with p.routine (text "return") p.ret ∷ text ", and it was entered with "
    ∷ digits entry.ret ∷ [])

-- " returns from routine 0107 with working depth 2, and the JMP2r at 010A with 1"
unfoldable pub returns_differ : Place → Place → List ℕ
returns_differ p other =
    joined (returns_with p.routine (text "working") p.work ∷ text ", and the JMP2r at " ∷ hex other.at
    ∷ text " with " ∷ digits other.work ∷ [])

unfoldable pub sentence : List ℕ → Reason → List ℕ
sentence program (Reason.Cut p n) = is_cut n (rest_from program p.at)
sentence program (Reason.Forbidden p) = text " is not allowed in a filter"
sentence program (Reason.FewWorking p n) = takes n (text "working") p.work
sentence program (Reason.FewReturn p n) = takes n (text "return") p.ret
sentence program (Reason.BelowFloor p n entry) = takes_below n p.ret entry.ret p.routine
sentence program (Reason.ManyWorking p n) = leaves n (text "working")
sentence program (Reason.ManyReturn p n) = leaves n (text "return")
sentence program (Reason.Outside p next) = goes_outside next.at (last_of program)
sentence program (Reason.WaysDiffer p next other) = ways_differ next other
sentence program (Reason.ReturnIn0100 p) = text " returns in routine 0100, which was not called"
sentence program (Reason.ReturnOffFloor p entry) = returns_off_floor p entry
sentence program (Reason.ReturnsDiffer p other) = returns_differ p other

-- room for every sentence
abbrev pub sentence_most : ℕ
sentence_most = 160

-- ---- the line

-- the place of the instruction where the rule fails
unfoldable pub place_of : Reason → Place
place_of (Reason.Cut p n) = p
place_of (Reason.Forbidden p) = p
place_of (Reason.FewWorking p n) = p
place_of (Reason.FewReturn p n) = p
place_of (Reason.BelowFloor p n entry) = p
place_of (Reason.ManyWorking p n) = p
place_of (Reason.ManyReturn p n) = p
place_of (Reason.Outside p next) = p
place_of (Reason.WaysDiffer p next other) = p
place_of (Reason.ReturnIn0100 p) = p
place_of (Reason.ReturnOffFloor p entry) = p
place_of (Reason.ReturnsDiffer p other) = p

-- "refused 11 at 0100: POP takes 1 byte of the working stack, which holds 0"
unfoldable pub because_line : List ℕ → Reason → List ℕ
because_line program reason =
    joined (text "refused 11 at " ∷ hex (place_of reason).at ∷ text ": "
    ∷ name (byte_there program (place_of reason)) ∷ sentence program reason ∷ line_feed ∷ [])

-- "refused 5", "admitted", or the reason
unfoldable pub explain_line : List ℕ → Result (Option Reason) Refusal → List ℕ
explain_line program (Err refusal) = refused_line (refusal_number refusal)
explain_line program (Ok None) = text "admitted\n"
explain_line program (Ok (Some reason)) = because_line program reason

-- room for every line
abbrev pub explain_most : ℕ
explain_most = 192
