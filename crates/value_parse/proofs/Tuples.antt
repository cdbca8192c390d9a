-- A tuple, made of all its values.
use Rattle.std.proofs.Common.{◌≡◌, ◌<◌, ℕ, List, [], ◌∷◌, length, arith}
use Rattle.std.proofs.lemmas.List.Elements.{All-head, All-tail}
use Rattle.std.specs.Global.{Vec}
use Rattle.std.specs.Prelude.{map}
use Rattle.std.specs.List.{All}
use Rattle.script_grammar.specs.ReadValue.{round_or_unit}
use Rattle.script_grammar.specs.View.{listed, view_full, view_operand}
use Rattle.script_grammar.specs.Whole.{IsWholeFull, IsWholeOperand}
use Rattle.script_grammar.specs.declared.tree.Full.{Full}
use Rattle.script_grammar.specs.declared.tree.Operand as operand
use Rattle.script_grammar.proofs.Rows.{tuple_made}
use Rattle.script_grammar.proofs.Wholes.{tuple_whole}

pub tuple_seen : (at : ℕ) (v : Vec Full) (fs : List Full) → v.items ≡ fs → 1 < length fs → view_operand (operand.Tuple at v) ≡ round_or_unit at (listed (map view_full fs))
tuple_seen at v [] e lt = absurd (omega arith)
tuple_seen at v (f ∷ []) e lt = absurd (omega arith)
tuple_seen at v (f ∷ g ∷ fs) e lt = tuple_made at f (g ∷ fs) v (omega arith) e

pub tuple_is_whole : (at : ℕ) (v : Vec Full) (fs : List Full) → v.items ≡ fs → 1 < length fs → All IsWholeFull fs → IsWholeOperand (operand.Tuple at v)
tuple_is_whole at v [] e lt h = absurd (omega arith)
tuple_is_whole at v (f ∷ []) e lt h = absurd (omega arith)
tuple_is_whole at v (f ∷ g ∷ fs) e lt h = tuple_whole at f (g ∷ fs) v (omega arith) e (All-head IsWholeFull f (g ∷ fs) h) (All-tail IsWholeFull f (g ∷ fs) h)
