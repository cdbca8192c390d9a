-- A value that holds a list, seen by its parts.
use Rattle.std.proofs.Common.{◌≡◌, ℕ, ◌+◌, ◌<◌, List, [], ◌∷◌, ◌++◌, length, take, get_or, refl, sym, ap, ◌∙◌, arith}
use Rattle.std.proofs.lemmas.List.{map_more}
use Rattle.std.specs.Prelude.{map}
use Rattle.std.specs.Global.{Vec}
use Rattle.script_values.specs.declared.value.Value as value
use Rattle.script_values.specs.declared.value.Value.TheBlock as block
use Rattle.script_values.specs.Values.{Value, more_values, many, size, ListValue, TupleValue}
use Rattle.script_values.specs.View.{view_value, view_values}

values_row : (n : _) (row : value.Row_of-Value n) → view_values row ≡ many (map view_value (value.items-the_row-Value n row))
values_row n value.end_of-Value = refl
values_row n (value.more_of-Value v rest) = ap (more_values (view_value v)) (values_row _ rest)

pub values_seen : (v : Vec value.Value) → view_values (block.hidden-the_row-Value-0 v) ≡ many (map view_value v.items)
values_seen v = values_row _ (block.hidden-the_row-Value-0 v) ∙ ap (λ (l : List value.Value). many (map view_value l)) (value.items_hidden-the_row-Value-0 v)

pub listed_seen : (v : Vec value.Value) → view_value (value.Listed v) ≡ ListValue (many (map view_value v.items))
listed_seen v = ap ListValue (values_seen v)

pub tuple_seen : (v : Vec value.Value) → view_value (value.Tuple v) ≡ TupleValue (many (map view_value v.items))
tuple_seen v = ap TupleValue (values_seen v)

pub same_list : (v w : Vec value.Value) → map view_value v.items ≡ map view_value w.items → view_value (value.Listed v) ≡ view_value (value.Listed w)
same_list v w same = listed_seen v ∙ ap (λ (l : List Value). ListValue (many l)) same ∙ sym (listed_seen w)

pub same_tuple : (v w : Vec value.Value) → map view_value v.items ≡ map view_value w.items → view_value (value.Tuple v) ≡ view_value (value.Tuple w)
same_tuple v w same = tuple_seen v ∙ ap (λ (l : List Value). TupleValue (many l)) same ∙ sym (tuple_seen w)

pub size_push : (vs : List Value) (v : Value) → size (many (vs ++ v ∷ [])) ≡ size (many vs) + size v
size_push [] v = omega arith
size_push (u ∷ vs) v = omega (arith, size_push vs v)

-- the size of the first parts, one more
pub size_more : (ps : List value.Value) (i : ℕ) (d : value.Value) → i < length ps → size (many (map view_value (take (i + 1) ps))) ≡ size (many (map view_value (take i ps))) + size (view_value (get_or ps i d))
size_more ps i d lt = ap (λ (l : List Value). size (many l)) (map_more view_value ps i d lt) ∙ size_push (map view_value (take i ps)) (view_value (get_or ps i d))
