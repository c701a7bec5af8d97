-- Laws of bytes that come, read after read. Assumes nothing.
use mathlib.Core.Path.{◌≡◌, sym, ap, ◌∙◌}
use mathlib.Core.List.{List, [], ◌++◌, append-nil}
use Prim.Native.Nat.{ℕ, ◌+◌, ◌-◌, ◌≤◌, ◌<◌}
use native.Mathlib.Omega.{arith}
use lib.ListN.{length, take, drop}
use lib.Seq.{length-take-le, take-add}
use Rattle.model.specs.Machine.{State}
use Rattle.model.specs.Calls.{frame_size}
use Rattle.blocks.specs.Frames.{Judged, judged, further}
use Rattle.blocks.proofs.Blocks.{cut_anywhere, all_wait}
use Rattle.frames.specs.Reading.{Came}

-- nothing came: the bytes that wait are those that waited
pub nothing_came : (w : ℕ) (before after : List ℕ) (s : State) → w ≤ length before → w < frame_size → take w after ≡ take w before
    → Came (take w before) s (record { machine = s; lines = []; waiting = take w after })
nothing_came w before after s l h e =
    let m : length (take w before) < frame_size = rw (length-take-le w before l) h in
    ([], rw (e, append-nil (take w before)) (all_wait (take w before) s m))

-- the first n bytes of the block are those that waited and those that came
pub came : (n w : ℕ) (before after : List ℕ) (s : State) (j : Judged) → w ≤ n → take w after ≡ take w before → j ≡ judged (take n after) s
    → Came (take w before) s j
came n w before after s j l e h =
    let q : w + (n - w) ≡ n = omega arith in
    let t : take n after ≡ take w after ++ take (n - w) (drop w after) = rw q at (take-add w (n - w) after) in
    (take (n - w) (drop w after), h ∙ ap (λ (x : List ℕ). judged x s) (t ∙ ap (λ (x : List ℕ). x ++ take (n - w) (drop w after)) e))

-- the machine and the bytes that wait, after all that came so far
abbrev pub SoFar : State → State → List ℕ → Type 0
SoFar s t waiting = (bytes : List ℕ) × (t ≡ (judged bytes s).machine) × (waiting ≡ (judged bytes s).waiting)

pub from_nothing : (s : State) → SoFar s s []
from_nothing s =
    let e = all_wait [] s (omega arith) in
    ([], ap (λ (j : Judged). j.machine) e, ap (λ (j : Judged). j.waiting) e)

pub so_far_on : (s t : State) (waited : List ℕ) (j : Judged) → SoFar s t waited → Came waited t j → SoFar s j.machine j.waiting
unfolding further
so_far_on s t waited j (bytes, e, f) (next, g) =
    let k : j ≡ judged ((judged bytes s).waiting ++ next) (judged bytes s).machine = g ∙ rw (e, f) in
    let c = cut_anywhere bytes next s in
    (bytes ++ next, ap (λ (x : Judged). x.machine) k ∙ sym (ap (λ (x : Judged). x.machine) c), ap (λ (x : Judged). x.waiting) k ∙ sym (ap (λ (x : Judged). x.waiting) c))
