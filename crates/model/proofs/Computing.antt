-- Names for groups of definitions: a proof that computes says `unfolding stepping`, `admitting`, `calling` or `moving`. Assumes nothing.
use Rattle.model.specs.Bytes.{word, number, read_ring, places_ring, write_ring}
use Rattle.model.specs.Machine.{pushed, popped, top, lowered, numbers, operands}
use Rattle.model.specs.Instruction.{op_of, wide, size, return_mode, keep_mode, shape, shape_of, row_of}
use Rattle.model.specs.Step.{compared, computed, shifted, relative, address, effect, effect_on, words, main_after, other_after, written, applied, operated, execute, sent_by, ports_of, step}
use Rattle.model.specs.Run.{run}
use Rattle.model.specs.Admission.{byte_at, allowed, after_of, target_of, successors, mark_at, found, is_call, is_return, rule_tests, routine_tests, returned, fits, fits_from, assigns, mark_one, mark_each, follow, sweep, sweeps, reached, admitted, sheet_of}
use Rattle.model.specs.Calls.{refusal, buffer_rows, unless, load_rows, load, load_call, step_call, run_call, event_rows, vector, event_call, well_formed, frame_rows, framed, frame_call, admit_rows, admit_by, admit_call, install_rows, install_by, install_call}
use Rattle.model.specs.Writes.{write_unless}
use Rattle.model.specs.Moves.{wrong_old, wrong_new, stays_new, widened, narrowed, pieces, records_of, some_record, each_record, wrong_sheet, widened_sheet, narrowed_sheet, widen_rows, widen_call, narrow_rows, narrow_call}
use Rattle.model.specs.RecordMoves.{broken, too_long, fitted, moved_file, file_rows, move_rows, move_call}

-- the row of a byte
unfoldable pub decoding : Unit {0}
unfolding row_of shape_of shape size op_of wide return_mode keep_mode
decoding = tt

-- a step
unfoldable pub stepping : Unit {0}
unfolding step execute sent_by ports_of places_ring operated applied written other_after main_after words effect_on effect address relative shifted computed compared operands numbers lowered top popped pushed word number read_ring write_ring decoding
stepping = tt

-- an admission
unfoldable pub admitting : Unit {0}
unfolding byte_at allowed after_of target_of successors mark_at found is_call is_return rule_tests routine_tests returned fits fits_from assigns mark_one mark_each follow sweep sweeps reached admitted sheet_of number decoding
admitting = tt

-- the calls
unfoldable pub calling : Unit {0}
unfolding refusal buffer_rows unless load_rows load load_call step_call run_call event_rows vector event_call well_formed frame_rows framed frame_call admit_rows admit_by admit_call install_rows install_by install_call run stepping admitting
calling = tt

-- the moves of sheets and of files of frame records
unfoldable pub moving : Unit {0}
unfolding refusal write_unless widen_call widen_rows narrow_call narrow_rows widened_sheet narrowed_sheet wrong_sheet each_record some_record records_of pieces wrong_old wrong_new stays_new widened narrowed word number move_call move_rows file_rows moved_file fitted too_long broken well_formed
moving = tt
