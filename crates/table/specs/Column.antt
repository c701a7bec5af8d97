-- The columns of the table, as places of a row. Assumes nothing.
use Rattle.std.specs.Prelude.{ℕ, ◌+◌}
use Rattle.model.specs.Instruction.{working, returning}
use Rattle.table.specs.declared.WhichStack.{WhichStack}
use Rattle.table.specs.declared.Column.{Column}

abbrev pub stack_number : WhichStack → ℕ
stack_number WhichStack.Working = working
stack_number WhichStack.Returning = returning

abbrev pub column_number : Column → ℕ
column_number (Column.Taken s) = stack_number s
column_number (Column.Pushed s) = stack_number s + 2
column_number Column.Length = 4
