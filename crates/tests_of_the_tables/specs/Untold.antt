-- A layout whose bodies promise nothing about their writes: only the tests check them.
use Rattle.std.specs.Prelude.{[]}
use Rattle.sql_statements.specs.Layouts.{Layout}

abbrev pub untold : Layout
untold = record { Tables = Unit {0}; schema = λ _. record { tables = []; indexes = []; views = [] }; IsStored = λ _ _. ⊥ }
