-- The number of a rule that fails, with its places (`Fault`). Inside the crates of admission only.
-- Assumes nothing.
use Rattle.std.specs.Prelude.{◌≡◌, refl, ℕ, zero, suc, ◌+◌, ◌*◌, ◌%◌, ◌<◌}
use Rattle.std.proofs.Common.{arith}
use denote.Enum.Declared.{tag_of}
use Rattle.model.specs.Admission.{admit_most}
use Rattle.worklist.specs.contracts.Rule.{the_type}
use Rattle.worklist.specs.Worklist.{rule_of, rule_in, place_in, other_in, Failing, failing_of}

abbrev pub number_of : Failing → ℕ
number_of f = tag_of the_type f.rule + 16 * (f.at + admit_most * f.other)

-- a rule's own number is its place among them
rule_number : (n : ℕ) → n < 12 → tag_of the_type (rule_of n) ≡ n
rule_number zero h = refl
rule_number (suc zero) h = refl
rule_number (suc (suc zero)) h = refl
rule_number (suc (suc (suc zero))) h = refl
rule_number (suc (suc (suc (suc zero)))) h = refl
rule_number (suc (suc (suc (suc (suc zero))))) h = refl
rule_number (suc (suc (suc (suc (suc (suc zero)))))) h = refl
rule_number (suc (suc (suc (suc (suc (suc (suc zero))))))) h = refl
rule_number (suc (suc (suc (suc (suc (suc (suc (suc zero)))))))) h = refl
rule_number (suc (suc (suc (suc (suc (suc (suc (suc (suc zero))))))))) h = refl
rule_number (suc (suc (suc (suc (suc (suc (suc (suc (suc (suc zero)))))))))) h = refl
rule_number (suc (suc (suc (suc (suc (suc (suc (suc (suc (suc (suc zero))))))))))) h = refl
rule_number (suc (suc (suc (suc (suc (suc (suc (suc (suc (suc (suc (suc n)))))))))))) h = absurd (omega arith)

-- no other number of one of the twelve rules has the same rule and places
pub number_is : (n : ℕ) → n % 16 < 12 → number_of (failing_of n) ≡ n
unfolding rule_in place_in other_in
number_is n h = rw (rule_number (n % 16) h) (omega arith)
