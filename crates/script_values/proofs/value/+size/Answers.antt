use Rattle.std.proofs.Common.{◌≡◌, ◌+◌, ◌∙◌, ap, sym, arith, List, min, take}
use Rattle.std.specs.Prelude.{map}
use Rattle.script_values.specs.declared.value.Value.{Value}
use Rattle.script_values.specs.Values.{ValueTree, OneValue, many, size}
use Rattle.script_values.specs.View.{view_value}
use Rattle.script_values.proofs.Rows.{listed_seen, tuple_seen, size_more}
use Rattle.script_values.proofs.value.+size.Goals as goal

pub size-returns-in-Listed : goal.size-returns-in-Listed
size-returns-in-Listed t c =
    let whole : size (view_value c.args.value.now) ≡ size (many (map view_value c.deref.result.now)) + 1 =
    ap (λ (v : Value). size (view_value v)) c.in-Listed.is ∙ ap (λ (v : ValueTree OneValue). size v) (listed_seen c.in-Listed.parts) ∙ ap (λ (l : List Value). size (many (map view_value l)) + 1) (sym c.deref.ensures.value) in omega arith

pub size-returns-in-Tuple : goal.size-returns-in-Tuple
size-returns-in-Tuple t c =
    let whole : size (view_value c.args.value.now) ≡ size (many (map view_value c.deref-in-Tuple.result.now)) + 1 =
    ap (λ (v : Value). size (view_value v)) c.in-Tuple.is ∙ ap (λ (v : ValueTree OneValue). size v) (tuple_seen c.in-Tuple.parts) ∙ ap (λ (l : List Value). size (many (map view_value l)) + 1) (sym c.deref-in-Tuple.ensures.value) in omega arith

pub sizes-loop-part-preserved : goal.sizes-loop-part-preserved
sizes-loop-part-preserved t c =
    let more = size_more c.args.parts.now c.loop-part.part-index c.part-item.result c.loop-part-test.true in
    let here = ap (λ (v : Value). size (view_value v)) c.part-item.is in
    let so : c.loop-part.sum ≡ min (size (many (map view_value (take c.loop-part.part-index c.args.parts.now)))) 18446744073709551615 = c.loop-part.invariant in
    let done : c.saturating_add-sum.result ≡ min (size (many (map view_value (take (c.loop-part.part-index + 1) c.args.parts.now)))) 18446744073709551615 = omega (arith, more, here, so) in done
