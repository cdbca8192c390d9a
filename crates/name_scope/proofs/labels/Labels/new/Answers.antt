use Rattle.std.proofs.Common.{◌∙◌, ap, sym, subst, length, map, arith, ℕ, List, Option, Bor}
use Rattle.std.proofs.lemmas.List.{with_items_is}
use Rattle.name_scope.specs.Labelled.{AreHeads, AreLinked, head_at, left_in, next_at, placed, seen_label}
use Rattle.name_scope.proofs.Labelling.{all_left}
use Rattle.name_scope.proofs.labels.Labels.new.Goals as goal

pub invariant_of-result : goal.invariant_of-result
invariant_of-result c =
    let xs = c.args.labels.items in
    let left = all_left seen_label xs c.in_ok-taken.taken.items c.len.result (c.in_ok-taken.ensures.items_if_clones_equal (λ y e. e)) (omega (arith, c.len.ensures, c.args.labels.ok.0)) in
    let next = with_items_is c.in_ok-next.next c.link_all.new.next (omega (arith, c.link_all.auto.next, c.deref_mut.ensures.len)) in
    record {
      taken_all = omega (arith, c.in_ok-taken.ensures.len, c.in_ok-taken.taken.ok.0, c.len.ensures, c.args.labels.ok.0);
      next_all = ap (λ (ns : List (Option ℕ)). length ns) next ∙ omega (arith, c.link_all.auto.next, c.deref_mut.ensures.len, c.in_ok-next.ensures.len, c.in_ok-next.next.ok.0, c.len-2.ensures, c.args.labels.ok.0);
      linked = subst (λ (ns : List (Option ℕ)). AreLinked (next_at ns) (left_in 0 (map seen_label xs) c.in_ok-taken.taken.items)) (sym next)
          (subst (AreLinked (next_at c.link_all.new.next)) (sym left)
          (subst (λ (ls : List (Option (Bor (List ℕ)))). AreLinked (next_at c.link_all.new.next) (placed 0 (map seen_label ls))) c.deref.ensures.value c.in_ok-link_all.ensures.linked));
      heads = subst (AreHeads (head_at c.link_all.new.named c.link_all.new.plain)) (sym left)
          (subst (λ (ls : List (Option (Bor (List ℕ)))). AreHeads (head_at c.link_all.new.named c.link_all.new.plain) (placed 0 (map seen_label ls))) c.deref.ensures.value c.in_ok-link_all.ensures.heads);
    }

pub returns : goal.returns
returns c = record {
  all = all_left seen_label c.args.labels.items c.in_ok-taken.taken.items c.len.result (c.in_ok-taken.ensures.items_if_clones_equal (λ y e. e)) (omega (arith, c.len.ensures, c.args.labels.ok.0));
}
