use Rattle.std.proofs.Common.{◌≡◌, ◌≤◌, length, List, ℕ, false}
use Rattle.script_lex.specs.Tokens.{between, Leads}
use Rattle.script_lex.proofs.lexer.read_tokens.Given as goal

abbrev pub invariant-loop-rest : goal.invariant-loop-rest
invariant-loop-rest l = (before : List ℕ) × Leads (length l.text) l.text l.made.items before × (between false before ≡ l.rest) × (length l.rest ≤ length l.text)

abbrev pub decreases-loop-rest : goal.decreases-loop-rest
decreases-loop-rest l = length l.rest
