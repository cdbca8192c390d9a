-- A loop whose items are pushed where they are read.
use Rattle.std.proofs.Common.{◌≡◌, ◌<◌, ℕ, List, [], ◌∷◌, ◌++◌, length, Bool, true, Option, Ok, sym, ap, ◌∙◌, arith}
use Rattle.std.proofs.lemmas.List.Elements.{All-nil}
use Rattle.std.specs.List.{All}
use Rattle.script_lex.specs.declared.token.Token.{Token}
use Rattle.script_lex.specs.declared.token.TokenKind.{TokenKind}
use Rattle.script_grammar.specs.Tree.{Sort, Tree, AFull, AnArg, Arg as an_argument}
use Rattle.script_grammar.specs.Read.{Reader, Read, next, behind}
use Rattle.script_grammar.specs.View.{view_arg}
use Rattle.script_grammar.specs.declared.tree.Arg.{Arg}
use Rattle.parse_base.specs.declared.fault.Fault.{Fault}
use Rattle.parse_base.specs.declared.fault.Fault.TheVariants as faults
use Rattle.parse_base.specs.Gives.{Fails, kinds}
use Rattle.value_parse.specs.Operand.{as_argument}
use Rattle.value_parse.proofs.Chained.{Chaining, chain_begins, chain_goes_on}

-- the first item is pushed
pub pushes_first : {s : Sort} {X : Type 0} (view : X → Tree s) (IsSound : X → Type 0) (comma : TokenKind → Bool) (item : Reader (Tree s)) (whole after : List Token) (items items' : List X)
    → (x : X) × (items' ≡ items ++ x ∷ []) × (item (kinds whole) ≡ Ok (view x, kinds after)) → length after < length whole → (All IsSound items → All IsSound items') → items ≡ []
    → (length after < length whole) × Chaining view comma item whole after items' × All IsSound items'
pushes_first view IsSound comma item whole after items items' pushed shorter sound none_yet = (
  shorter,
  chain_begins view comma item whole after pushed.0 items items' pushed.2 none_yet pushed.1,
  sound (rw none_yet (All-nil IsSound)),
)

-- one item more
pub pushes_more : {s : Sort} {X : Type 0} (view : X → Tree s) (IsSound : X → Type 0) (comma : TokenKind → Bool) (item : Reader (Tree s)) (whole rest after : List Token) (items items' : List X)
    → (length rest < length whole) × Chaining view comma item whole rest items × All IsSound items → next comma (kinds rest) ≡ true
    → (x : X) × (items' ≡ items ++ x ∷ []) × (behind comma item (kinds rest) ≡ Ok (view x, kinds after)) → length after < length rest → (All IsSound items → All IsSound items')
    → (length after < length whole) × Chaining view comma item whole after items' × All IsSound items'
pushes_more view IsSound comma item whole rest after items items' so held pushed shorter sound =
    let within : length after < length whole = omega (arith, so.0) in
    (within, chain_goes_on so.1 pushed.0 after items' held pushed.2 shorter pushed.1, sound so.2)

-- an argument is pushed, of the value that was read
pub pushes_argument : (at : ℕ) (label : Option (List ℕ)) (x : Arg) (f : Tree AFull) (w : List TokenKind) (r : Read (Tree AFull)) (items items' : List Arg)
    → view_arg x ≡ an_argument at label f → items' ≡ items ++ x ∷ [] → r ≡ Ok (f, w) → (y : Arg) × (items' ≡ items ++ y ∷ []) × (as_argument at label r ≡ Ok (view_arg y, w))
pushes_argument at label x f w r items items' made_of pushed is =
    (x, pushed, ap (as_argument at label) is ∙ ap (λ (t : Tree AnArg). Ok (t, w)) (sym made_of))

-- and none, where no value was read
pub argument_fails : (at : ℕ) (label : Option (List ℕ)) (e : Fault) (r : Read (Tree AFull)) → Fails e r → Fails e (as_argument at label r)
argument_fails at label faults.Memory r fault = tt
argument_fails at label (faults.Syntax left) r fault = ap (as_argument at label) fault
