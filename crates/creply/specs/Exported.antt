-- What a call of the static library is given to watch, and what it leaves: the reply as a C struct, and the four buffers. Assumes nothing.
use Rattle.std.specs.Prelude.{cond, List, [], ◌∷◌, ℕ, ltb, length, get_or, Option, Some, None}
use Rattle.model.specs.Machine.{registers}
use Rattle.model.specs.Run.{Answer, Reply}
use Rattle.model.specs.Run.Answer.{Refused, Loaded, WentOn, Broke, Spent, Paused, Ignored, Admitted}
use Rattle.model.specs.Calls.{number_of, AdmitResult, InstallResult}
use Rattle.model.specs.Writes.{WriteResult}
use Rattle.model.specs.declared.Machine.{Machine}
use Rattle.creply.specs.declared.Reply as C
use Rattle.creply.specs.declared.Written.{Written}

-- the watch of uxn_run and uxn_event: a port, or nothing, as UXN_WATCH_NONE and every number above 255
abbrev pub watch_of : ℕ → Option ℕ
watch_of n = cond (ltb n 256) (Some n) None

pub record Returned : Type 0 where
  pub reply : C.Reply
  pub memory : List ℕ
  pub devices : List ℕ
  pub work : List ℕ
  pub ret : List ℕ

abbrev pub returned : C.Reply → List ℕ → List ℕ → List ℕ → List ℕ → Returned
returned reply memory devices work ret = record { reply = reply; memory = memory; devices = devices; work = work; ret = ret }

-- UXN_REFUSED, UXN_LOADED, UXN_WENT_ON, UXN_BROKE, UXN_SPENT, UXN_IGNORED, UXN_PAUSED. Admission is no call on a machine
abbrev pub answer_of : Answer → ℕ
answer_of (Refused n) = 0
answer_of Loaded = 1
answer_of WentOn = 2
answer_of Broke = 3
answer_of Spent = 4
answer_of Ignored = 5
answer_of Paused = 6
answer_of Admitted = 7

-- the ports as `uint8_t ports[2]`: 0 where there is none
abbrev pub two_ports : List ℕ → List ℕ
two_ports ports = get_or ports 0 0 ∷ get_or ports 1 0 ∷ []

-- the struct of a refusal, of an answer to what was done, and of a step that wrote so many ports
abbrev pub refused_struct : ℕ → Machine → C.Reply
refused_struct number m =
    record { machine = m; steps = 0; number = number; answer = 0; verdict = 0; sent = 0; ports = 0 ∷ 0 ∷ [] }

abbrev pub done_struct : ℕ → Machine → ℕ → ℕ → C.Reply
done_struct answer m steps verdict =
    record { machine = m; steps = steps; number = 0; answer = answer; verdict = verdict; sent = 0; ports = 0 ∷ 0 ∷ [] }

abbrev pub went_on_struct : Machine → ℕ → ℕ → ℕ → C.Reply
went_on_struct m sent first second =
    record { machine = m; steps = 1; number = 0; answer = 2; verdict = 0; sent = sent; ports = first ∷ second ∷ [] }

-- the reply of a call, as the static library gives it
abbrev pub exported : Reply → Returned
exported r =
    returned
    (record {
      machine = registers r.state;
      steps = r.steps;
      number = number_of r.answer;
      answer = answer_of r.answer;
      verdict = r.verdict;
      sent = length r.ports;
      ports = two_ports r.ports;
    })
    r.state.memory r.state.devices r.state.work.bytes r.state.ret.bytes

-- What uxn_admit leaves: 0 or the number, and the sheet.
pub record AdmitReturned : Type 0 where
  pub number : ℕ
  pub sheet : List ℕ

abbrev pub admit_returned : ℕ → List ℕ → AdmitReturned
admit_returned number sheet = record { number = number; sheet = sheet }

abbrev pub exported_admit : AdmitResult → AdmitReturned
exported_admit r = admit_returned (number_of r.answer) r.sheet

-- What uxn_install leaves: what a call on a machine does, and the sheet.
pub record InstallReturned : Type 0 where
  pub call : Returned
  pub sheet : List ℕ

abbrev pub install_returned : Returned → List ℕ → InstallReturned
install_returned call sheet = record { call = call; sheet = sheet }

abbrev pub exported_install : InstallResult → InstallReturned
exported_install r = install_returned (exported r.reply) r.sheet

-- What a call that writes leaves: the struct, whose line is 0, and the output.
pub record WriteReturned : Type 0 where
  pub reply : Written
  pub output : List ℕ

abbrev pub wrote_struct : ℕ → ℕ → Written
wrote_struct length number = record { length = length; line = 0; number = number }

abbrev pub write_returned : Written → List ℕ → WriteReturned
write_returned reply output = record { reply = reply; output = output }

abbrev pub exported_write : WriteResult → WriteReturned
exported_write r = write_returned (wrote_struct r.length r.number) r.output
