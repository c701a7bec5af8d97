-- The state that load leaves, of the four buffers. Assumes nothing.
use mathlib.Core.Path.{◌≡◌}
use mathlib.Core.List.{List}
use Prim.Native.Nat.{ℕ}
use Rattle.model.specs.Bytes.{zeros}
use Rattle.model.specs.Machine.{page_size, stack_size, start, state}
use Rattle.model.specs.Calls.{load}

pub load_is : (program : List ℕ) {m d w r : List ℕ} {i j k : ℕ} → i ≡ page_size → j ≡ stack_size → k ≡ stack_size
    → m ≡ (load program).memory → d ≡ zeros i → w ≡ zeros j → r ≡ zeros k
    → state m d w r (record { pc = start; wp = 0; rp = 0; wp_high = 0; rp_high = 0 }) ≡ load program
unfolding load
load_is program hi hj hk hm hd hw hr = rw (hm, hd, hw, hr, hi, hj, hk)
