-- A loop that keeps what it reads.
use Rattle.std.proofs.Common.{◌≡◌, ◌<◌, ◌≤◌, ℕ, List, [], ◌∷◌, ◌++◌, length, Bool, true, false, Result, Ok, Err, Bor, subst, arith}
use Rattle.std.proofs.lemmas.List.Elements.{All-nil, All-push}
use Rattle.std.specs.Prelude.{IfOk}
use Rattle.std.specs.Result.{IsOkAnd}
use Rattle.std.specs.List.{All}
use Rattle.script_lex.specs.declared.token.Token.{Token}
use Rattle.script_lex.specs.declared.token.TokenKind.{TokenKind}
use Rattle.script_grammar.specs.Tree.{Sort, Tree}
use Rattle.script_grammar.specs.Read.{Reader, next, many, behind}
use Rattle.parse_base.specs.declared.fault.Fault.{Fault}
use Rattle.parse_base.specs.declared.fault.Fault.TheVariants as faults
use Rattle.parse_base.specs.Gives.{kinds, Gives, Fails}
use Rattle.parse_base.proofs.Turns.{Turning, goes_on, fails}
use Rattle.value_parse.specs.Operand.{IsFaultOf, chained}
use Rattle.value_parse.proofs.Chained.{Chaining, chain_begins, chain_goes_on, chain_fails_first, chain_fails}

-- the first item is kept
pub keeps_first : {s : Sort} {X : Type 0} (view : X → Tree s) (IsSound : X → Type 0) (comma : TokenKind → Bool) (item : Reader (Tree s)) (whole : List Token) (read : Result (X × Bor (List Token)) Fault) (after : List Token) (items items' : List X)
    → Gives (λ x. (view x.0, kinds x.1.now)) read (item (kinds whole)) → IfOk read (λ x. length x.1.now < length whole) → IfOk read (λ x. IsSound x.0) → IsOkAnd read (λ x. (x.1.now ≡ after) × (items' ≡ items ++ x.0 ∷ [])) → items ≡ []
    → (length after < length whole) × Chaining view comma item whole after items' × All IsSound items'
keeps_first view IsSound comma item whole (Ok x) after items items' gives shorter sound kept none_yet = (
  subst (λ (a : List Token). length a < length whole) kept.0 shorter,
  subst (λ (a : List Token). Chaining view comma item whole a items') kept.0 (chain_begins view comma item whole x.1.now x.0 items items' gives none_yet kept.1),
  rw (kept.1, none_yet) (All-push IsSound [] x.0 (All-nil IsSound) sound),
)
keeps_first view IsSound comma item whole (Err e) after items items' gives shorter sound kept none_yet = absurd kept

-- one item more
pub keeps_more : {s : Sort} {X : Type 0} (view : X → Tree s) (IsSound : X → Type 0) (comma : TokenKind → Bool) (item : Reader (Tree s)) (whole rest : List Token) (read : Result (X × Bor (List Token)) Fault) (after : List Token) (items items' : List X)
    → (length rest < length whole) × Chaining view comma item whole rest items × All IsSound items → next comma (kinds rest) ≡ true
    → Gives (λ x. (view x.0, kinds x.1.now)) read (behind comma item (kinds rest)) → IfOk read (λ x. length x.1.now < length rest) → IfOk read (λ x. IsSound x.0) → IsOkAnd read (λ x. (x.1.now ≡ after) × (items' ≡ items ++ x.0 ∷ []))
    → (length after < length whole) × Chaining view comma item whole after items' × All IsSound items'
keeps_more view IsSound comma item whole rest (Ok x) after items items' so held gives shorter sound kept =
    let within : length x.1.now < length whole = omega (arith, so.0) in (
      subst (λ (a : List Token). length a < length whole) kept.0 within,
      subst (λ (a : List Token). Chaining view comma item whole a items') kept.0 (chain_goes_on so.1 x.0 x.1.now items' held gives shorter kept.1),
      rw kept.1 (All-push IsSound items x.0 so.2 sound),
    )
keeps_more view IsSound comma item whole rest (Err e) after items items' so held gives shorter sound kept = absurd kept

-- one item more, where no first one stands apart
pub keeps_turn : {s : Sort} {X : Type 0} (view : X → Tree s) (IsSound : X → Type 0) (test : List TokenKind → Bool) (item : Reader (Tree s)) (whole rest : List Token) (read : Result (X × Bor (List Token)) Fault) (after : List Token) (items items' : List X)
    → (length rest ≤ length whole) × Turning view test item whole rest items × All IsSound items → test (kinds rest) ≡ true
    → Gives (λ x. (view x.0, kinds x.1.now)) read (item (kinds rest)) → IfOk read (λ x. length x.1.now < length rest) → IfOk read (λ x. IsSound x.0) → IsOkAnd read (λ x. (x.1.now ≡ after) × (items' ≡ items ++ x.0 ∷ []))
    → (length after ≤ length whole) × Turning view test item whole after items' × All IsSound items'
keeps_turn view IsSound test item whole rest (Ok x) after items items' so held gives shorter sound kept =
    let within : length x.1.now ≤ length whole = omega (arith, so.0) in (
      subst (λ (a : List Token). length a ≤ length whole) kept.0 within,
      subst (λ (a : List Token). Turning view test item whole a items') kept.0 (goes_on so.1 x.0 x.1.now items' held gives shorter kept.1),
      rw kept.1 (All-push IsSound items x.0 so.2 sound),
    )
keeps_turn view IsSound test item whole rest (Err e) after items items' so held gives shorter sound kept = absurd kept

-- ---- the fault of reading, where what was read is not kept

fault_of : {X Y : Type 0} (view : X → Y) (read : Result X Fault) (reading : Result Y ℕ) (e : Fault) → IsFaultOf read e → Gives view read reading → Fails e reading
fault_of view read reading faults.Memory is gives = tt
fault_of view (Ok x) reading (faults.Syntax left) is gives = absurd cc
fault_of view (Err e) reading (faults.Syntax left) is gives =
    let same : e ≡ faults.Syntax left = cc in
    subst (λ (f : Fault). Fails f reading) same gives

pub loses_first : {s : Sort} {X : Type 0} (view : X → Tree s) (comma : TokenKind → Bool) (item : Reader (Tree s)) (whole : List Token) (read : Result (X × Bor (List Token)) Fault) (e : Fault)
    → IsFaultOf read e → Gives (λ x. (view x.0, kinds x.1.now)) read (item (kinds whole)) → Fails e (chained comma item (kinds whole))
loses_first {X = X} view comma item whole read e is gives =
    chain_fails_first comma item (kinds whole) e (fault_of (λ (x : X × Bor (List Token)). (view x.0, kinds x.1.now)) read (item (kinds whole)) e is gives)

pub loses_more : {s : Sort} {X : Type 0} (view : X → Tree s) (comma : TokenKind → Bool) (item : Reader (Tree s)) (whole rest : List Token) (read : Result (X × Bor (List Token)) Fault) (items : List X) (e : Fault)
    → Chaining view comma item whole rest items → next comma (kinds rest) ≡ true → IsFaultOf read e → Gives (λ x. (view x.0, kinds x.1.now)) read (behind comma item (kinds rest)) → Fails e (chained comma item (kinds whole))
loses_more {X = X} view comma item whole rest read items e so held is gives =
    chain_fails so e held (fault_of (λ (x : X × Bor (List Token)). (view x.0, kinds x.1.now)) read (behind comma item (kinds rest)) e is gives)

pub loses_turn : {s : Sort} {X : Type 0} (view : X → Tree s) (test : List TokenKind → Bool) (item : Reader (Tree s)) (whole rest : List Token) (read : Result (X × Bor (List Token)) Fault) (items : List X) (e : Fault)
    → Turning view test item whole rest items → test [] ≡ false → test (kinds rest) ≡ true → IsFaultOf read e → Gives (λ x. (view x.0, kinds x.1.now)) read (item (kinds rest)) → Fails e (many test item (kinds whole))
loses_turn {X = X} view test item whole rest read items e so at_end held is gives =
    fails so e at_end held (fault_of (λ (x : X × Bor (List Token)). (view x.0, kinds x.1.now)) read (item (kinds rest)) e is gives)
