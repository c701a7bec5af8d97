-- Words that the definitions give, computed: numbers, counts, addresses, and names of bytes. Assumes nothing.
use mathlib.Core.Path.{◌≡◌, refl}
use mathlib.Core.List.{[], ◌∷◌, map}
use Rattle.model.specs.Instruction.{wide, return_mode, keep_mode}
use Rattle.text.specs.Lines.{decimal}
use Rattle.words.specs.Words.{text, joined, digits, count, hex, name}

pub numbers-are :
    map digits (0 ∷ 9 ∷ 10 ∷ 99 ∷ 100 ∷ 255 ∷ 256 ∷ 999 ∷ 1000 ∷ 65535 ∷ [])
    ≡ map text ("0" ∷ "9" ∷ "10" ∷ "99" ∷ "100" ∷ "255" ∷ "256" ∷ "999" ∷ "1000" ∷ "65535" ∷ [])
unfolding digits decimal
numbers-are = refl

pub counts_are : map count (0 ∷ 1 ∷ 2 ∷ 256 ∷ []) ≡ map text ("0 bytes" ∷ "1 byte" ∷ "2 bytes" ∷ "256 bytes" ∷ [])
unfolding count joined digits decimal
counts_are = refl

pub addresses_are : map hex (0 ∷ 0x0100 ∷ 0x9ABC ∷ 0xFFFF ∷ []) ≡ map text ("0000" ∷ "0100" ∷ "9ABC" ∷ "FFFF" ∷ [])
unfolding hex
addresses_are = refl

-- the eight exceptions; each mode by itself, and all of them; the last operation
pub names-are :
    map name (0x00 ∷ 0x20 ∷ 0x40 ∷ 0x60 ∷ 0x80 ∷ 0xA0 ∷ 0xC0 ∷ 0xE0 ∷ 0x01 ∷ 0x02 ∷ 0x38 ∷ 0x82 ∷ 0x4F ∷ 0xB1 ∷ 0xCF ∷ 0x6C ∷ 0xFF ∷ [])
    ≡ map text ("BRK" ∷ "JCI" ∷ "JMI" ∷ "JSI" ∷ "LIT" ∷ "LIT2" ∷ "LITr" ∷ "LIT2r" ∷ "INC" ∷ "POP" ∷ "ADD2" ∷ "POPk" ∷ "STHr" ∷ "STZ2k" ∷ "STHkr" ∷ "JMP2r" ∷ "SFT2kr" ∷ [])
unfolding name joined wide return_mode keep_mode
names-are = refl
