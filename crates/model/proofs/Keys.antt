-- The last arm of a match over the numbers from 0 on: a number that is none of the first n is at least n. Assumes nothing.
use mathlib.Core.Path.{◌≡◌}
use Prim.Native.Nat.{ℕ, zero, suc, ◌≤◌}
use native.Mathlib.Omega.{arith}

abbrev pub Beside : ℕ → ℕ → Type 0
Beside key zero = Unit {0}
Beside key (suc n) = Beside key n × (key ≡ n → ⊥)

pub from_zero : (n key : ℕ) → Beside key n → n ≤ key
from_zero zero key h = omega arith
from_zero (suc n) key h =
    let e = from_zero n key h.0 in
    let d = h.1 in
    omega arith
