use Rattle.std.proofs.Common.{◌≡◌, length, refl, sym, ◌∙◌}
use Rattle.std.proofs.lemmas.List.{length-map}
use Rattle.script_grammar.specs.ReadScript.{def}
use Rattle.script_grammar.specs.ReadValue.{call, choice, full_by}
use Rattle.parse_base.specs.Gives.{token_kind, kinds, places}
use Rattle.statement_parse.specs.Reads.{bind_part, def_part, call_part, if_part}
use Rattle.statement_parse.proofs.Arms.{stmt_is, part_bind, part_def, part_call, part_if, part_other}
use Rattle.statement_parse.proofs.Pushed.{by_part}
use Rattle.statement_parse.proofs.statement.statement.Goals as goal

pub returns-then-next_is-clause-gives : goal.returns-then-next_is-clause-gives
returns-then-next_is-clause-gives c =
    let w = kinds c.args.tokens.now in
    by_part c.bind_stmt.result c.args.items.now.items c.reserve.new.self.items c.bind_stmt.new.items.items (places c.args.total) w (bind_part (places c.args.total) w) c.reserve.ensures.items
    (part_bind (places c.args.total) w (sym c.next_is.ensures ∙ c.if-next_is.true)) c.bind_stmt.ensures.gives

pub returns-then-next_is-2-clause-gives : goal.returns-then-next_is-2-clause-gives
returns-then-next_is-2-clause-gives c =
    let w = kinds c.args.tokens.now in
    by_part c.keep_def.result c.args.items.now.items c.reserve.new.self.items c.keep_def.new.items.items (places c.args.total) w (def_part (places c.args.total) w) c.reserve.ensures.items
    (part_def (places c.args.total) w (sym c.next_is-else-next_is.ensures ∙ c.if-next_is-2.true)) (c.keep_def.ensures.gives (def (places c.args.total) w) c.def.ensures.gives)

pub returns-then-next_is-3-clause-gives : goal.returns-then-next_is-3-clause-gives
returns-then-next_is-3-clause-gives c =
    let w = kinds c.args.tokens.now in
    let size = length c.args.tokens.now in
    by_part c.keep_call.result c.args.items.now.items c.reserve.new.self.items c.keep_call.new.items.items (places c.args.total) w (call_part (places c.args.total) size w) c.reserve.ensures.items
    (part_call (places c.args.total) w size (length-map c.args.tokens.now token_kind) (sym c.next_is-else-next_is-2.ensures ∙ c.if-next_is-3.true))
    (c.keep_call.ensures.gives (call (places c.args.total) (full_by size (places c.args.total)) w) c.call.ensures.gives)

pub returns-then-next_is-4-clause-gives : goal.returns-then-next_is-4-clause-gives
returns-then-next_is-4-clause-gives c =
    let w = kinds c.args.tokens.now in
    let size = length c.args.tokens.now in
    by_part c.keep_if.result c.args.items.now.items c.reserve.new.self.items c.keep_if.new.items.items (places c.args.total) w (if_part (places c.args.total) size w) c.reserve.ensures.items
    (part_if (places c.args.total) w size (length-map c.args.tokens.now token_kind) (sym c.next_is-else-next_is-3.ensures ∙ c.if-next_is-4.true))
    (c.keep_if.ensures.gives (choice (places c.args.total) (full_by size (places c.args.total)) w) c.choice.ensures.gives)

pub returns-else-next_is-4-clause-gives : goal.returns-else-next_is-4-clause-gives
returns-else-next_is-4-clause-gives c =
    let w = kinds c.args.tokens.now in
    let size : length w ≡ length c.args.tokens.now = length-map c.args.tokens.now token_kind in
    let other = part_other (places c.args.total) w (sym c.next_is.ensures ∙ c.if-next_is.false) (sym c.next_is-else-next_is.ensures ∙ c.if-next_is-2.false) (sym c.next_is-else-next_is-2.ensures ∙ c.if-next_is-3.false) (sym c.next_is-else-next_is-3.ensures ∙ c.if-next_is-4.false) in
    rw (← size, stmt_is (places c.args.total) w, other) refl

pub returns-then-next_is-2-clause-shorter : goal.returns-then-next_is-2-clause-shorter
returns-then-next_is-2-clause-shorter c = c.keep_def.ensures.shorter (length c.args.tokens.now) c.def.ensures.shorter

pub returns-then-next_is-3-clause-shorter : goal.returns-then-next_is-3-clause-shorter
returns-then-next_is-3-clause-shorter c = c.keep_call.ensures.shorter (length c.args.tokens.now) c.call.ensures.shorter

pub returns-then-next_is-4-clause-shorter : goal.returns-then-next_is-4-clause-shorter
returns-then-next_is-4-clause-shorter c = c.keep_if.ensures.shorter (length c.args.tokens.now) c.choice.ensures.shorter

pub returns-then-next_is-clause-whole : goal.returns-then-next_is-clause-whole
returns-then-next_is-clause-whole c = λ old. c.bind_stmt.ensures.whole (rw c.reserve.ensures.items old)

pub returns-then-next_is-2-clause-whole : goal.returns-then-next_is-2-clause-whole
returns-then-next_is-2-clause-whole c = λ old. c.keep_def.ensures.whole (rw c.reserve.ensures.items old) c.def.ensures.whole

pub returns-then-next_is-3-clause-whole : goal.returns-then-next_is-3-clause-whole
returns-then-next_is-3-clause-whole c = λ old. c.keep_call.ensures.whole (rw c.reserve.ensures.items old) c.call.ensures.whole

pub returns-then-next_is-4-clause-whole : goal.returns-then-next_is-4-clause-whole
returns-then-next_is-4-clause-whole c = λ old. c.keep_if.ensures.whole (rw c.reserve.ensures.items old) c.choice.ensures.whole
