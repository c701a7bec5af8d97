-- What was done, from what it is taken for. Assumes nothing.
use mathlib.Core.Path.{◌≡◌, sym, ap}
use Rattle.std.specs.Prelude.{Option, Some, None, Result, Ok, Err}
use Rattle.std.specs.Result.{result_ok}

pub was_done : {T E : Type 0} (x : T) (done : Result T E) → Some x ≡ result_ok done → done ≡ Ok x
was_done {T} {E} x (Ok y) h = ap (λ (o : Option T). elim o [ None ↦ Ok x | Some z ↦ Ok z ]) (sym h)
was_done x (Err e) h = cc
