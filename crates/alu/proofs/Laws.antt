-- Laws of a product by shifts and adds. Assumes nothing.
use Rattle.std.proofs.Common.{◌≡◌, ℕ, zero, suc, ◌+◌, ◌*◌, ◌/◌, ◌%◌, ◌^◌, ◌<◌, ◌≤◌, sym, refl, ap, ◌∙◌, mul_assoc, add-mul, mul-add, mul_right_comm, arith}
use native.Mathlib.Nat.{mod-add-mod, mod-add-div, mod-add-div', add-mul-mod_self_right}

module _ (m : ℕ) where
  -- a factor counts modulo m
  reduced : (s n h : ℕ) → (s + n % m * h) % m ≡ (s + n * h) % m
  reduced s n h = sym (add-mul-mod_self_right (s + n % m * h) (n / m * h) m) ∙ ap (λ (k : ℕ). k % m) (omega (arith, parts))
    where
      parts : n % m * h + n / m * h * m ≡ n * h
      parts = omega (arith, ap (λ (k : ℕ). k * h) (mod-add-div' n m), add-mul (n % m) (n / m * m) h, mul_right_comm (n / m) m h)

  -- a turn leaves sum + term * rest as it is, modulo any m: the lowest bit of the rest times the term goes to the sum, the term is doubled, the
  -- rest halved
  pub turn : (sum term rest next : ℕ) → next % m ≡ (sum + term * (rest % 2)) % m → (next + term * 2 % m * (rest / 2)) % m ≡ (sum + term * rest) % m
  turn sum term rest next h =
      reduced next (term * 2) (rest / 2)
      ∙ sym (mod-add-mod next m _)
      ∙ ap (λ (k : ℕ). (k + term * 2 * (rest / 2)) % m) h
      ∙ mod-add-mod (sum + term * (rest % 2)) m _
      ∙ ap (λ (k : ℕ). k % m) (omega (arith, parts))
    where
      parts : term * (rest % 2) + term * 2 * (rest / 2) ≡ term * rest
      parts = omega (arith, ap (λ (k : ℕ). term * k) (mod-add-div rest 2), mul-add term (rest % 2) (2 * (rest / 2)), mul_assoc term 2 (rest / 2))

-- after the last turn the sum is all there is
pub last_turn : (sum term rest : ℕ) {p : ℕ} → sum < 65536 → rest ≤ 0 → (sum + term * rest) % 65536 ≡ p → sum ≡ p
last_turn sum term zero h none e = omega arith
last_turn sum term (suc rest) h none e = absurd (omega arith)

-- the turns until nothing is left of a rest of at most k bits
pub turns : ℕ → ℕ → ℕ
turns zero rest = 0
turns (suc k) zero = 0
turns (suc k) (suc rest) = suc (turns k (suc rest / 2))

-- a rest of j bits takes at most j turns: 16, or 8
pub turns_most : (k j rest : ℕ) → rest < 2 ^ j → turns k rest ≤ j
unfolding turns
turns_most zero j rest h = omega arith
turns_most (suc k) j zero h = omega arith
turns_most (suc k) zero (suc rest) h = absurd (omega arith)
turns_most (suc k) (suc j) (suc rest) h = omega (arith, turns_most k j (suc rest / 2) (omega arith))

turns_enough : (k rest : ℕ) → rest < 2 ^ k → turns (suc k) rest ≡ turns k rest
unfolding turns
turns_enough zero zero h = refl
turns_enough zero (suc rest) h = absurd (omega arith)
turns_enough (suc k) zero h = refl
turns_enough (suc k) (suc rest) h = ap suc (turns_enough k (suc rest / 2) (omega arith))

-- a turn is one of them
pub turns_fewer : (k rest : ℕ) → 0 < rest → rest < 2 ^ k → turns k (rest / 2) < turns k rest
unfolding turns
turns_fewer zero rest p h = absurd (omega arith)
turns_fewer (suc k) zero p h = absurd (omega arith)
turns_fewer (suc k) (suc rest) p h = omega (arith, turns_enough k (suc rest / 2) (omega arith))

-- a lowest bit that is not 1 is 0
pub even : (n : ℕ) → (n % 2 ≡ 1 → ⊥) → n % 2 ≡ 0
even n h = omega (arith, h)
