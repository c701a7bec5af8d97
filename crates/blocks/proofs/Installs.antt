-- Laws of the line of an install: none, or that of its refusal. Assumes nothing.
use mathlib.Core.Path.{◌≡◌, ap, sym, ◌∙◌}
use mathlib.Core.List.{List, [], ◌++◌}
use Prim.Native.Nat.{ℕ, ◌+◌}
use native.Mathlib.Omega.{arith}
use lib.ListN.{length, length-append}
use Rattle.std.specs.Prelude.{Result, Ok, Err}
use Rattle.model.specs.Machine.{State}
use Rattle.model.specs.Run.Answer.{Loaded}
use Rattle.model.specs.Calls.{InstallResult}
use Rattle.model.specs.Replies.{of_install}
use Rattle.model.specs.declared.Machine.{Machine}
use Rattle.model.specs.Refusals.{refusal_number}
use Rattle.model.specs.declared.Refused.{Refused}
use Rattle.text.specs.Lines.{refused_word, decimal, line_feed, refused_line, line_of, line}

-- a refusal has a line
not_empty : (n : ℕ) → length (refused_line n) ≡ 0 → ⊥
unfolding refused_line
not_empty n z = let l = sym z ∙ length-append refused_word (decimal n ++ line_feed) in absurd (omega arith)

some-line : (n : ℕ) (x y : List ℕ) → y ≡ x ++ refused_line n → length y ≡ length x → ⊥
some-line n x y e z =
    let f : length x ≡ length x + length (refused_line n) = sym z ∙ ap length e ∙ length-append x (refused_line n) in
    not_empty n (omega arith)

module _ (state_of : Machine → State) (sheet : List ℕ) {a : Result Machine Refused} {t : InstallResult} (call : of_install state_of sheet a ≡ t) where
  pub loaded : {m : Machine} → a ≡ Ok m → (state_of m ≡ t.reply.state) × ([] ≡ line t.reply) × (t.reply.answer ≡ Loaded)
  unfolding line_of
  loaded {m} e =
      let h : of_install state_of sheet (Ok m) ≡ t = rw e at call in
      (ap (λ (r : InstallResult). r.reply.state) h, ap (λ (r : InstallResult). line r.reply) h, sym (ap (λ (r : InstallResult). r.reply.answer) h))

  pub not_loaded : {r : Refused} (x y : List ℕ) → a ≡ Err r → y ≡ x ++ refused_line (refusal_number r.refusal)
      → (state_of r.machine ≡ t.reply.state) × (y ≡ x ++ line t.reply) × (length y ≡ length x → t.reply.answer ≡ Loaded)
  unfolding line_of
  not_loaded {r} x y e g =
      let h : of_install state_of sheet (Err r) ≡ t = rw e at call in
      (ap (λ (q : InstallResult). q.reply.state) h, g ∙ ap (λ (q : InstallResult). x ++ line q.reply) h, λ z. absurd (some-line (refusal_number r.refusal) x y g z))
