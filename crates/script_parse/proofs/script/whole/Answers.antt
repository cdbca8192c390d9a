use Rattle.std.proofs.Common.{◌≡◌, ℕ, ◌-◌, Err, length, map, subst, ◌∙◌, arith}
use Rattle.std.proofs.lemmas.List.{length-map}
use Rattle.script_grammar.specs.ReadScript.{script}
use Rattle.script_grammar.specs.View.{view_stmt, listed}
use Rattle.parse_base.specs.Gives.{token_kind, kinds, places}
use Rattle.script_parse.specs.Places.{IsSyntaxPlace}
use Rattle.script_parse.proofs.Exact.{script_is, fault}
use Rattle.script_parse.proofs.script.whole.Goals as goal

pub overflow_sub-result : goal.overflow_sub-result
overflow_sub-result c =
    let w = kinds c.args.tokens.now in
    let read : script (places (length c.args.tokens.now)) w ≡ Err c.in-Err-Syntax.left = script_is (places (length c.args.tokens.now)) w ∙ (rw c.in-Err-Syntax.field-0-is at c.in-Err-Syntax.ensures.gives) in
    let p = fault c.reads_again.ensures.again c.reads_spellings.ensures.begun c.faults_are_steady.ensures.steady (places (length c.args.tokens.now)) w c.in-Err-Syntax.left read in
    omega (arith, p.0, length-map c.args.tokens.now token_kind)

pub returns-in-Ok : goal.returns-in-Ok
returns-in-Ok c =
    let w = kinds c.args.tokens.now in
    let p = c.reads_spellings.ensures.found (length c.args.tokens.now) w (listed (map view_stmt c.in-Ok.statements.items)) (kinds c.in-Ok._end.now) (script_is (places (length c.args.tokens.now)) w ∙ c.in-Ok.ensures.gives) in
    record { spelled = p.1; placed = p.2 0 (omega (arith, length-map c.args.tokens.now token_kind)); whole = c.in-Ok.ensures.whole }

pub returns-in-Err-Syntax : goal.returns-in-Err-Syntax
returns-in-Err-Syntax c =
    let w = kinds c.args.tokens.now in
    let read : script (places (length c.args.tokens.now)) w ≡ Err c.in-Err-Syntax.left = script_is (places (length c.args.tokens.now)) w ∙ (rw c.in-Err-Syntax.field-0-is at c.in-Err-Syntax.ensures.gives) in
    let p = fault c.reads_again.ensures.again c.reads_spellings.ensures.begun c.faults_are_steady.ensures.steady (places (length c.args.tokens.now)) w c.in-Err-Syntax.left read in
    subst (λ (n : ℕ). IsSyntaxPlace w (n - c.in-Err-Syntax.left)) (length-map c.args.tokens.now token_kind) p.1
