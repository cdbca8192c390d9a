use Rattle.std.proofs.Common.{rules, refl, sym, subst}
use Rattle.name_scope.specs.Labelled.{AreHeads, AreLinked, head_at, next_at, seen_label}
use Rattle.name_scope.proofs.Labelling.{from_all, from_none, heads_next, linked_next}
use Rattle.name_scope.proofs.labels.link_all.Goals as goal

pub loop-back-init : goal.loop-back-init
loop-back-init c = record {
  long = c.requires.long;
  linked = subst (AreLinked (next_at c.args.next.now)) (sym (from_none seen_label c.args.labels.now)) refl;
  heads = subst (AreHeads (head_at c.args.named.now c.args.plain.now)) (sym (from_none seen_label c.args.labels.now)) c.requires.none;
}

pub loop-back-preserved : goal.loop-back-preserved
loop-back-preserved c =
    let xs = c.args.labels.now in
    let head = head_at c.loop-back.named c.loop-back.plain in
    record {
      long = search rules;
      linked = linked_next seen_label xs c.loop-back.back _ c.label_at-label.result c.loop-back-test.true refl c.label_at-label.ensures.at head c.loop-back.next c.head.result c.loop-back.invariant.long c.loop-back.invariant.heads c.head.ensures.at c.loop-back.invariant.linked;
      heads = heads_next seen_label xs c.loop-back.back _ c.label_at-label.result c.loop-back-test.true refl c.label_at-label.ensures.at head (head_at c.set_head.new.named c.set_head.new.plain) c.loop-back.invariant.heads c.in_ok-set_head.ensures.set;
    }

pub returns-clause-linked : goal.returns-clause-linked
returns-clause-linked c = subst (AreLinked (next_at c.loop-back.next)) (from_all seen_label c.args.labels.now c.loop-back.back c.loop-back-test.false) c.loop-back.invariant.linked

pub returns-clause-heads : goal.returns-clause-heads
returns-clause-heads c = subst (AreHeads (head_at c.loop-back.named c.loop-back.plain)) (from_all seen_label c.args.labels.now c.loop-back.back c.loop-back-test.false) c.loop-back.invariant.heads
