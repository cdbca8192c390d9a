use Rattle.std.proofs.Common.{◌≡◌, ◌∙◌, sym, false, true}
use Rattle.type_terms.specs.Differ.{is_number_base}
use Rattle.type_terms.specs.Table.{number_at}
use Rattle.type_terms.specs.Term.{base_of, term_of}
use Rattle.type_terms.proofs.Basics.{on_false}
use Rattle.type_terms.proofs.Settling.{clash_number, forced_number, forced_other, mark_read, number_read, unnested}
use Rattle.type_terms.proofs.differ.differ_from_variable.Goals as goal

pub occurs_in-requires-clause-unnested : goal.occurs_in-requires-clause-unnested
occurs_in-requires-clause-unnested c e =
    unnested c.args.types.now c.args.nested.now c.requires.marked c.args.x (mark_read c.args.nested.now c.args.x ∙ e)

pub returns-then-is_number-2 : goal.returns-then-is_number-2
returns-then-is_number-2 c ks o =
    let n : is_number_base (base_of (term_of c.args.t.now)) ≡ true = sym c.is_number-then-is_number.ensures ∙ c.if-is_number-2.true in
    forced_number c.args.types.now ks c.args.x _ c.requires.inside c.requires.free n o

pub returns-else-is_number-2 : goal.returns-else-is_number-2
returns-else-is_number-2 c ks o a m e =
    let n : is_number_base (base_of (term_of c.args.t.now)) ≡ false = sym c.is_number-then-is_number.ensures ∙ c.if-is_number-2.false in
    let x : number_at c.args.types.now c.args.x ≡ true = number_read _ _ _ c.requires.inside c.index-types-x.is ∙ sym c.is_number.ensures ∙ c.if-is_number.true in
    clash_number c.args.types.now c.args.x _ x c.requires.no_variable n a (m.numbers c.args.x) e

pub returns-else-branch : goal.returns-else-branch
returns-else-branch c ks o =
    let x : number_at c.args.types.now c.args.x ≡ false = number_read _ _ _ c.requires.inside c.index-types-x.is ∙ sym c.is_number.ensures ∙ c.if-is_number.false in
    forced_other c.args.types.now ks c.args.x _ c.requires.inside c.requires.free x (on_false _ (rw c.if-branch.false at c.in_ok-occurs_in.ensures.no)) o
