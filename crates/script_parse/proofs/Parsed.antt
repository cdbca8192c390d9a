-- What is answered where brackets nest too deep at d.
use Rattle.std.proofs.Common.{ℕ, ◌+◌, ◌<◌, ◌≤◌, List, take, arith}
use Rattle.script_lex.specs.declared.token.TokenKind.{TokenKind}
use Rattle.script_grammar.specs.declared.tree.Script as program
use Rattle.script_grammar.specs.View.{view_script}
use Rattle.script_parse.specs.declared.fault.ParseFault.TheVariants as answers
use Rattle.script_parse.specs.Places.{IsSyntaxPlace, IsDepthPlace}
use Rattle.script_parse.specs.Answer.{IsParsed, IsFault}
use Rattle.script_parse.proofs.Exact.{begins_all, place_in_front, no_place_in_front, front_begins}

pub deep_by_script : (w : List TokenKind) (d : ℕ) (s : program.Script) → IsDepthPlace w d → IsParsed (take (d + 1) w) s → IsFault w (answers.TooDeep d)
deep_by_script w d s deep h = (deep, λ k p. let le : d + 1 ≤ k = no_place_in_front (d + 1) w (omega (arith, deep.within)) (begins_all (view_script s) (take (d + 1) w) h.spelled) k p in omega arith)

pub deep_by_place : (w : List TokenKind) (d k : ℕ) → IsDepthPlace w d → d < k → IsSyntaxPlace (take (d + 1) w) k → IsFault w (answers.TooDeep d)
deep_by_place w d k deep lt h = (deep, λ j p. let le : d + 1 ≤ j = no_place_in_front (d + 1) w (omega (arith, deep.within)) (front_begins (d + 1) w k (omega (arith, deep.within)) (omega arith) h) j p in omega arith)

pub syntax_first : (w : List TokenKind) (d k : ℕ) → IsDepthPlace w d → k ≤ d → IsSyntaxPlace (take (d + 1) w) k → IsFault w (answers.Syntax k)
syntax_first w d k deep le h = (place_in_front (d + 1) w k (omega arith) (omega (arith, deep.within)) h, λ j lt. deep.first j (omega arith))
