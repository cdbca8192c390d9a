use Rattle.type_terms.specs.Bound.{table_of}
use Rattle.type_terms.specs.Term.{term_of}
use Rattle.type_terms.proofs.Basics.{on_false}
use Rattle.type_terms.proofs.Settling.{settles_resolved}
use Rattle.type_terms.proofs.differ.differ_directly.Goals as goal

pub resolve-s-requires : goal.resolve-s-requires
resolve-s-requires c = record { sound = c.requires.sound; over = c.requires.left }

pub resolve-t-requires : goal.resolve-t-requires
resolve-t-requires c = record { sound = c.requires.sound; over = c.requires.right }

pub differ_resolved-requires : goal.differ_resolved-requires
differ_resolved-requires c =
    rw (c.deref.ensures.value, c.deref-2.ensures.value, c.deref-3.ensures.value) (record {
      sound = c.requires.sound;
      marked = c.requires.marked;
      left = c.resolve-s.ensures.over;
      right = c.resolve-t.ensures.over;
      left_free = c.resolve-s.ensures.free;
      right_free = c.resolve-t.ensures.free;
      unsplit = on_false _ c.if-is_split.ensures.unsplit;
    })

pub returns : goal.returns
returns c =
    settles_resolved (table_of c.args.bindings.now) (term_of c.resolve-s.result.now) (term_of c.resolve-t.result.now) (term_of c.args.left.now) (term_of c.args.right.now) c.in_ok-difference.difference
    c.resolve-s.ensures.value c.resolve-t.ensures.value (rw (c.deref.ensures.value, c.deref-2.ensures.value) at c.in_ok-difference.ensures)
