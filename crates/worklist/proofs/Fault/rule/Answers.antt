-- `worklist::Fault::rule` meets its contract. Assumes nothing.
use mathlib.Core.Path.{◌≡◌, sym, ap}
use Prim.Native.Nat.{ℕ, ◌%◌}
use lib.ListN.{get_or-eq_default}
use Rattle.worklist.specs.declared.Rule.{Rule}
use Rattle.worklist.specs.Worklist.{Failing, first_rules, rule_of, failing_of, rule_in}
use native.Mathlib.Omega.{arith}
use Prim.Native.Nat.{◌≤◌}
use Rattle.worklist.proofs.Fault.rule.Goals as goal

past : (n : ℕ) (f : Failing) → failing_of n ≡ f → 11 ≤ n % 16 → Rule.ReturnsDiffer ≡ f.rule
unfolding rule_in
past n f e h = rw (← e) (sym (get_or-eq_default first_rules Rule.ReturnsDiffer {n = n % 16} h))

by : (n k : ℕ) (f : Failing) → failing_of n ≡ f → n % 16 ≡ k → rule_of k ≡ f.rule
unfolding rule_in
by n k f e h = rw (← e) (sym (ap rule_of h))

pub returns-in-0 : goal.returns-in-0
returns-in-0 c = by _ 0 _ c.self.view_is c.in-0.is

pub returns-in-1 : goal.returns-in-1
returns-in-1 c = by _ 1 _ c.self.view_is c.in-1.is

pub returns-in-2 : goal.returns-in-2
returns-in-2 c = by _ 2 _ c.self.view_is c.in-2.is

pub returns-in-3 : goal.returns-in-3
returns-in-3 c = by _ 3 _ c.self.view_is c.in-3.is

pub returns-in-4 : goal.returns-in-4
returns-in-4 c = by _ 4 _ c.self.view_is c.in-4.is

pub returns-in-5 : goal.returns-in-5
returns-in-5 c = by _ 5 _ c.self.view_is c.in-5.is

pub returns-in-6 : goal.returns-in-6
returns-in-6 c = by _ 6 _ c.self.view_is c.in-6.is

pub returns-in-7 : goal.returns-in-7
returns-in-7 c = by _ 7 _ c.self.view_is c.in-7.is

pub returns-in-8 : goal.returns-in-8
returns-in-8 c = by _ 8 _ c.self.view_is c.in-8.is

pub returns-in-9 : goal.returns-in-9
returns-in-9 c = by _ 9 _ c.self.view_is c.in-9.is

pub returns-in-10 : goal.returns-in-10
returns-in-10 c = by _ 10 _ c.self.view_is c.in-10.is

pub returns-in_default : goal.returns-in_default
returns-in_default c = past _ _ c.self.view_is (omega arith)
