-- What a table stands for: a list of rows, and the room for them.
use Rattle.std.specs.Prelude.{ℕ, min, Bool, ◌||◌, List, length, take, nat_lt}
use Rattle.table.specs.Count.{has}
-- what tells rows apart, under this name too
pub use Rattle.table.specs.Keyed.{of, Single, entered, lone, most}
use Rattle.table.specs.declared.Table.{Table}

-- a table's rows, in order
unfoldable pub listed : {R K : Type 0} {row : _} → Table R K row → List R
listed t = take t.len t.rows.now

-- how many rows a table has places for
unfoldable pub room : {R K : Type 0} {row : _} → Table R K row → ℕ
room t = min (length t.rows.now) most

-- whether a row finds a place: one that it replaces passes the test, or a place is free
abbrev pub takes : {R K : Type 0} {row : _} → (R → Bool) → Table R K row → Bool
takes p t = has p (listed t) || nat_lt (length (listed t)) (room t)
