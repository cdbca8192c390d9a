-- The plain data of what variables are bound to.
use Rattle.type_terms.specs.Table.{Table, table}
use Rattle.type_terms.specs.declared.table.Bindings.{Bindings}

-- the substitution that the program's bindings stand for, as plain data; the flags of variables that stand inside
-- others are left out
abbrev pub table_of : Bindings → Table
table_of b = table b.types.items b.kinds.items
