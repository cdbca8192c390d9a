-- What a function of the parser returned, against what reading gives.
use denote.Ref.{Bor}
use Rattle.std.specs.Prelude.{◌≡◌, ◌<◌, ◌≤◌, ℕ, ◌-◌, IfOk, List, length, map, Result, Ok, Err}
use Rattle.script_lex.specs.declared.token.Token.{Token}
use Rattle.script_lex.specs.declared.token.TokenKind.{TokenKind}
use Rattle.parse_base.specs.declared.fault.Fault.{Fault}
use Rattle.parse_base.specs.declared.fault.Fault.TheVariants as faults

-- what a token is, without where it stands
abbrev pub token_kind : Token → TokenKind
token_kind t = t.kind

-- what each of these tokens is, without where it stands
abbrev pub kinds : List Token → List TokenKind
kinds ts = map token_kind ts

-- a fault that the parser returned is right for what the grammar reads: want of memory always is, and a fault of the
-- tokens if reading stops with as many tokens left
abbrev pub Fails : {Y : Type 0} → Fault → Result Y ℕ → Type 0
Fails faults.Memory read = Unit {0}
Fails (faults.Syntax left) read = read ≡ Err left

-- what the parser returned is what the grammar reads: the same thing, where `view` turns a tree of the code into one
-- of the grammar, or a right fault
abbrev pub Gives : {X Y : Type 0} → (X → Y) → Result X Fault → Result Y ℕ → Type 0
Gives view (Ok x) read = read ≡ Ok (view x)
Gives view (Err e) read = Fails e read

-- the index of the first token that is left, where so many of `total` are left
abbrev pub places : ℕ → ℕ → ℕ
places total left = total - left

-- What the parser read of these tokens is what `rule` of the grammar reads: a tree that is whole, as `Whole` says, and
-- the tokens behind it, of which there are fewer. `view` turns a tree of the code into one of the grammar.
pub record Reads {X Y : Type 0} (view : X → Y) (Whole : X → Type 0) (rule : List TokenKind → Result (Y × List TokenKind) ℕ)
    (tokens : List Token) (result : Result (X × Bor (List Token)) Fault) : Type 0 where
  pub shorter : IfOk result (λ x. length x.1.now < length tokens)
  pub gives : Gives (λ x. (view x.0, kinds x.1.now)) result (rule (kinds tokens))
  pub whole : IfOk result (λ x. Whole x.0)

-- What the parser read of these tokens is what `rule` of the grammar reads, which may read no token: a tree that is
-- whole, as `Whole` says, and the tokens behind it. `view` turns a tree of the code into one of the grammar.
pub record ReadsOn {X Y : Type 0} (view : X → Y) (Whole : X → Type 0) (rule : List TokenKind → Result (Y × List TokenKind) ℕ)
    (tokens : List Token) (result : Result (X × Bor (List Token)) Fault) : Type 0 where
  pub shorter : IfOk result (λ x. length x.1.now ≤ length tokens)
  pub gives : Gives (λ x. (view x.0, kinds x.1.now)) result (rule (kinds tokens))
  pub whole : IfOk result (λ x. Whole x.0)
