-- The cases of document 01, by computation. Assumes nothing.
use Rattle.std.specs.Prelude.{Option}
use mathlib.Core.Path.{◌≡◌, refl}
use mathlib.Core.Bool.{Bool, true, false, not, ◌&&◌, ◌||◌}
use mathlib.Core.List.{List, [], ◌∷◌}
use Prim.Native.Nat.{ℕ}
use lib.Dec.{T, ltb}
use lib.ListN.{length, length-replicate}
use Rattle.model.specs.Bytes.{zeros}
use Rattle.model.specs.Machine.{memory_size, page_size, stack_size, Sized}
use Rattle.model.specs.Step.{pop_wraps, push_wraps, stack_wraps}
use Rattle.model.specs.Run.{run}
use Rattle.model.specs.Run.Answer.{Admitted}
use Rattle.model.specs.Calls.{has_length, unless, load_most, load, load_call, admit_call}
use Rattle.model.specs.Demand3.{greatest_of}
use Rattle.model.specs.Cases.{Case, claimed, all_claimed, used, load_and_run, all_hold, starred, mistakes, sentences, example, example_sheet, call_example, call_sheet, subroutines, marks_raised, ports_written, depths_fine, depths_not, call_depths_fine, call_depths_not, depths_are, rotate_tests, call_tests, numbered, agree, greatest_depths, summing, frames_seen, vectored, events_seen, wrapping, not_wrapping, wraps_are, move_cases, record_move_cases, all_come}
use Rattle.model.proofs.Tests.{and_left, and_right, and_both, not-true}
use Rattle.model.proofs.Numbers.{load_right, load-passed, load_sized, run-passed}
use Rattle.model.proofs.Computing.{stepping, admitting, calling, moving}

-- ---- a load and a run: neither is refused, so that only the run is to be computed

-- the program is not refused with 5
abbrev fits : List ℕ → Bool
fits program = not (has_length program 0 || ltb load_most (length program))

used_sized : Sized used
unfolding used
used_sized =
    record {
      memory = length-replicate {A = ℕ} memory_size 0xAA;
      devices = length-replicate {A = ℕ} page_size 0xAA;
      work = length-replicate {A = ℕ} stack_size 0xAA;
      ret = length-replicate {A = ℕ} stack_size 0xAA;
    }

only_run : (program : List ℕ) (watch : Option ℕ) (budget : ℕ) → T (fits program) → load_and_run program watch budget ≡ run watch budget (load program)
unfolding load_and_run load_call unless
only_run program watch budget t =
    let e = load-passed program used used_sized (not-true _ t) in
    rw (e, unless) (run-passed watch budget (load program) (load_sized program (load_right program used e).1))

abbrev computed : List Case → Bool
computed [] = true
computed (c ∷ cs) = fits c.program && (all_claimed c.program (run c.watch c.budget (load c.program)) c.claims && computed cs)

all_hold_lem : (cs : List Case) → T (computed cs) → T (all_hold cs)
unfolding all_hold
all_hold_lem [] t = tt
all_hold_lem (c ∷ cs) t =
    let claims = all_claimed c.program (run c.watch c.budget (load c.program)) c.claims in
    let u = and_right (fits c.program) (claims && computed cs) t in
    rw (only_run c.program c.watch c.budget (and_left (fits c.program) _ t))
    (and_both claims (all_hold cs) (and_left claims (computed cs) u) (all_hold_lem cs (and_right claims (computed cs) u)))

-- ---- the cases

-- every case marked * in the bench sheet
pub starred_hold : T (all_hold starred)
unfolding starred all_claimed claimed calling
starred_hold = all_hold_lem starred tt

pub example-sheet : admit_call example (zeros 48) ≡ record { answer = Admitted; sheet = example_sheet }
unfolding example example_sheet calling
example-sheet = refl

pub call-sheet : admit_call call_example (zeros 56) ≡ record { answer = Admitted; sheet = call_sheet }
unfolding call_example call_sheet calling
call-sheet = refl

pub mistakes_show : T (all_hold mistakes)
unfolding mistakes all_claimed claimed calling
mistakes_show = all_hold_lem mistakes tt

pub sentences_hold : T (all_hold sentences)
unfolding sentences all_claimed claimed calling
sentences_hold = all_hold_lem sentences tt

pub subroutines_hold : T (all_hold subroutines)
unfolding subroutines all_claimed claimed calling
subroutines_hold = all_hold_lem subroutines tt

pub marks_hold : T (all_hold marks_raised)
unfolding marks_raised all_claimed claimed calling
marks_hold = all_hold_lem marks_raised tt

pub ports_hold : T (all_hold ports_written)
unfolding ports_written all_claimed claimed calling
ports_hold = all_hold_lem ports_written tt

pub depths_hold : T (depths_are rotate_tests true depths_fine) × T (depths_are rotate_tests false depths_not)
unfolding depths_are depths_fine depths_not admitting
depths_hold = (tt, tt)

pub call_depths_hold : T (depths_are call_tests true call_depths_fine) × T (depths_are call_tests false call_depths_not)
unfolding depths_are call_depths_fine call_depths_not admitting
call_depths_hold = (tt, tt)

pub numbers_hold : T (agree numbered)
unfolding numbered used calling
numbers_hold = tt

pub depths_of_sheets : T (agree greatest_depths)
unfolding greatest_depths greatest_of example_sheet call_sheet
depths_of_sheets = tt

pub frames_hold : T (agree frames_seen)
unfolding frames_seen summing used calling
frames_hold = tt

pub events_hold : T (agree events_seen)
unfolding events_seen vectored calling
events_hold = tt

pub wraps_hold : T (wraps_are true wrapping) × T (wraps_are false not_wrapping)
unfolding wraps_are wrapping not_wrapping stack_wraps pop_wraps push_wraps stepping
wraps_hold = (tt, tt)

pub moves_hold : T (all_come move_cases)
unfolding move_cases all_come moving
moves_hold = tt

pub record_moves_hold : T (all_come record_move_cases)
unfolding record_move_cases all_come moving
record_moves_hold = tt
