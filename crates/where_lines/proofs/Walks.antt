-- Calls that are closed among some tokens, one token at a time.
use Rattle.std.proofs.Common.{◌≡◌, ℕ, ◌+◌, ◌<◌, ◌≤◌, List, length, drop, get_or, sym, ap, ◌∙◌}
use Rattle.std.proofs.lemmas.List.{at_drop_more, at_drop_all}
use Rattle.script_lex.specs.declared.token.Token.{Token}
use Rattle.where_lines.specs.Calls.{Closed, behind, calls_from}

pub call_more : (text : List ℕ) (tokens : List Token) (i : ℕ) (t : Token) (s : Closed) (whole : Closed) → calls_from text s (drop i tokens) ≡ whole → i < length tokens → t ≡ get_or tokens i t → calls_from text (behind text s t) (drop (i + 1) tokens) ≡ whole
unfolding calls_from
call_more text tokens i t s whole so lt is =
    ap (λ (u : Token). calls_from text (behind text s u) (drop (i + 1) tokens)) is
    ∙ sym (at_drop_more (λ (l : List Token). calls_from text s l) tokens i t lt)
    ∙ so

pub calls_end : (text : List ℕ) (tokens : List Token) (i : ℕ) (s : Closed) (whole : Closed) → calls_from text s (drop i tokens) ≡ whole → length tokens ≤ i → whole ≡ s
unfolding calls_from
calls_end text tokens i s whole so over = sym so ∙ at_drop_all (λ (l : List Token). calls_from text s l) tokens i over
