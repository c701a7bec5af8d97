-- What the line of `explain` is made of: words, numbers, addresses, and the names of instructions, as ASCII codes.
-- Assumes nothing.
use Rattle.std.specs.Prelude.{Bool, cond, List, [], ◌∷◌, ◌++◌, ℕ, ◌+◌, ◌*◌, ◌/◌, ◌%◌, eqb, ltb, get_or, take, drop}
use Prim.Native.Char.{code}
use Prim.Native.String.{String, [] as none, ◌∷◌ as ◌then◌}
use Rattle.model.specs.Instruction.{wide, return_mode, keep_mode}
use Rattle.text.specs.Lines.{decimal}

-- the codes of a text
abbrev pub text : String → List ℕ
text none = []
text (c then s) = code c ∷ text s

-- pieces, one after the other
unfoldable pub joined : List (List ℕ) → List ℕ
joined [] = []
joined (p ∷ ps) = p ++ joined ps

-- ---- numbers

-- the last three decimal digits of a number
abbrev pub last_three : ℕ → List ℕ
last_three n = (48 + n / 100 % 10) ∷ (48 + n / 10 % 10) ∷ (48 + n % 10) ∷ []

-- a number of 16 bits in decimal digits, with no 0 in front: three digits at most, or the thousands and three digits
unfoldable pub digits : ℕ → List ℕ
digits n = cond (ltb n 1000) (decimal n) (decimal (n / 1000) ++ last_three n)

-- "1 byte", "2 bytes"
unfoldable pub count : ℕ → List ℕ
count n = joined (digits n ∷ cond (eqb n 1) (text " byte") (text " bytes") ∷ [])

abbrev pub hex_digit : ℕ → ℕ
hex_digit d = get_or (text "0123456789ABCDEF") d 0

-- an address: four hexadecimal digits
unfoldable pub hex : ℕ → List ℕ
hex a = hex_digit (a / 4096 % 16) ∷ hex_digit (a / 256 % 16) ∷ hex_digit (a / 16 % 16) ∷ hex_digit (a % 16) ∷ []

-- ---- names of instructions

-- three letters out of a list of such names
abbrev pub letters : List ℕ → ℕ → List ℕ
letters names k = take 3 (drop (4 * k) names)

-- by the high three bits, where the low five are 0: 00, 20, 40, 60, 80, A0, C0, E0
abbrev pub exception_names : List ℕ
exception_names = text "BRK JCI JMI JSI LIT LIT LIT LIT"

-- by the low five bits, 01 to 1F
abbrev pub operation_names : List ℕ
operation_names =
    text "... INC POP NIP SWP ROT DUP OVR EQU NEQ GTH LTH JMP JCN JSR STH LDZ STZ LDR STR LDA STA DEI DEO ADD SUB MUL DIV AND ORA EOR SFT"

-- a letter, if the mode is on
abbrev pub mode : Bool → List ℕ → List ℕ
mode on letter = cond on letter []

-- the name of an instruction byte: its three letters, then 2, k and r for its modes. Of the eight bytes whose low five bits are 0 the
-- upper four, LIT, have the modes 2 and r, and the others none
unfoldable pub name : ℕ → List ℕ
name b =
    cond (eqb (b % 32) 0)
    (cond (ltb b 128)
    (letters exception_names (b / 32))
    (joined (letters exception_names (b / 32) ∷ mode (wide b) (text "2") ∷ mode (return_mode b) (text "r") ∷ [])))
    (joined (letters operation_names (b % 32) ∷ mode (wide b) (text "2") ∷ mode (keep_mode b) (text "k")
    ∷ mode (return_mode b) (text "r") ∷ []))
