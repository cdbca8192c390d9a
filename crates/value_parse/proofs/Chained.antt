-- A loop that reads a first item and others, each behind a token.
use Rattle.std.proofs.Common.{◌≡◌, ◌<◌, List, [], ◌∷◌, ◌++◌, length, map, Bool, true, false, Ok, Err, refl, sym, ap, ◌∙◌}
use Rattle.script_lex.specs.declared.token.Token.{Token}
use Rattle.script_lex.specs.declared.token.TokenKind.{TokenKind}
use Rattle.script_grammar.specs.Tree.{Sort, Tree, Many, none, more}
use Rattle.script_grammar.specs.View.{listed}
use Rattle.script_grammar.specs.Read.{Reader, Read, ◌>>=◌, made, next, expect, perhaps, many, behind, chain, closed}
use Rattle.parse_base.specs.declared.fault.Fault.{Fault}
use Rattle.parse_base.specs.declared.fault.Fault.TheVariants as faults
use Rattle.parse_base.specs.Gives.{kinds, Fails}
use Rattle.parse_base.proofs.Turns.{Turning, begins, goes_on, fails, ends}
use Rattle.value_parse.proofs.Both.{both_goes, first_fails, second_fails}
use Rattle.value_parse.specs.Operand.{chained}

-- the first item, and a loop over the others
pub record Chaining {s : Sort} {X : Type 0} (view : X → Tree s) (comma : TokenKind → Bool) (item : Reader (Tree s)) (whole rest : List Token) (items : List X) : Type 0 where
  pub first : X
  pub others : List X
  pub after : List Token
  pub parts : items ≡ first ∷ others
  pub head : item (kinds whole) ≡ Ok (view first, kinds after)
  pub turning : Turning view (next comma) (behind comma item) after rest others

-- the first item is read
pub chain_begins : {s : Sort} {X : Type 0} (view : X → Tree s) (comma : TokenKind → Bool) (item : Reader (Tree s)) (whole after : List Token) (x : X) (items items' : List X) → item (kinds whole) ≡ Ok (view x, kinds after) → items ≡ [] → items' ≡ items ++ x ∷ [] → Chaining view comma item whole after items'
chain_begins view comma item whole after x items items' is none_yet pushed = record {
  first = x;
  others = [];
  after = after;
  parts = pushed ∙ ap (λ (l : List _). l ++ x ∷ []) none_yet;
  head = is;
  turning = begins view (next comma) (behind comma item) after [] refl;
}

-- one item more
pub chain_goes_on : {s : Sort} {X : Type 0} {view : X → Tree s} {comma : TokenKind → Bool} {item : Reader (Tree s)} {whole rest : List Token} {items : List X} → Chaining view comma item whole rest items
    → (x : X) (after : List Token) (items' : List X) → next comma (kinds rest) ≡ true → behind comma item (kinds rest) ≡ Ok (view x, kinds after) → length after < length rest → items' ≡ items ++ x ∷ [] → Chaining view comma item whole after items'
chain_goes_on {X = X} so x after items' held is less pushed = record {
  first = so.first;
  others = so.others ++ x ∷ [];
  after = so.after;
  parts = pushed ∙ ap (λ (l : List X). l ++ x ∷ []) so.parts;
  head = so.head;
  turning = goes_on so.turning x after (so.others ++ x ∷ []) held is less refl;
}

-- at the end nothing is left to read
pub chain_ends : {s : Sort} {X : Type 0} {view : X → Tree s} {comma : TokenKind → Bool} {item : Reader (Tree s)} {whole rest : List Token} {items : List X} → Chaining view comma item whole rest items → next comma (kinds rest) ≡ false → chained comma item (kinds whole) ≡ Ok (listed (map view items), kinds rest)
unfolding chain
chain_ends {s = s} {X = X} {view = view} {comma = comma} {item = item} {whole = whole} {rest = rest} so over =
    ap (λ (x : Read (Tree s × Tree (Many s))). x >>= made (λ y. more y.0 y.1)) (both_goes item (many (next comma) (behind comma item)) (kinds whole) (kinds so.after) (kinds rest) (view so.first) (listed (map view so.others)) so.head (ends so.turning over))
    ∙ ap (λ (l : List X). Ok (listed (map view l), kinds rest)) (sym so.parts)

-- the first item fails, and one behind it
pub chain_fails_first : {s : Sort} (comma : TokenKind → Bool) (item : Reader (Tree s)) (w : List TokenKind) (e : Fault) → Fails e (item w) → Fails e (chained comma item w)
unfolding chain
chain_fails_first comma item w faults.Memory is = tt
chain_fails_first {s = s} comma item w (faults.Syntax left) is =
    ap (λ (x : Read (Tree s × Tree (Many s))). x >>= made (λ y. more y.0 y.1)) (first_fails item (many (next comma) (behind comma item)) w left is)

pub chain_fails : {s : Sort} {X : Type 0} {view : X → Tree s} {comma : TokenKind → Bool} {item : Reader (Tree s)} {whole rest : List Token} {items : List X} → Chaining view comma item whole rest items → (e : Fault) → next comma (kinds rest) ≡ true → Fails e (behind comma item (kinds rest)) → Fails e (chained comma item (kinds whole))
unfolding chain
chain_fails so faults.Memory held is = tt
chain_fails {s = s} {view = view} {comma = comma} {item = item} {whole = whole} so (faults.Syntax left) held is =
    ap (λ (x : Read (Tree s × Tree (Many s))). x >>= made (λ y. more y.0 y.1)) (second_fails item (many (next comma) (behind comma item)) (kinds whole) (kinds so.after) (view so.first) left so.head (fails so.turning (faults.Syntax left) refl held is))

-- ---- items up to another token

regroup_end : {s : Sort} (x : Tree s) (xs : Tree (Many s)) (e : Read (Unit {0})) → (◌>>=◌ {A = ((Tree s × Tree (Many s)) × Unit {0}) × List TokenKind} (e >>= λ z. Ok (((x, xs), z.0), z.1)) (made (λ y. more y.0.0 y.0.1))) ≡ (e >>= λ z. Ok (more x xs, z.1))
regroup_end x xs (Ok z) = refl
regroup_end x xs (Err left) = refl

regroup : {s : Sort} (close : TokenKind → Bool) (read : Read (Tree s × Tree (Many s))) → (◌>>=◌ {A = ((Tree s × Tree (Many s)) × Unit {0}) × List TokenKind} (read >>= λ y. expect close y.1 >>= λ z. Ok ((y.0, z.0), z.1)) (made (λ y. more y.0.0 y.0.1))) ≡ (◌>>=◌ {A = Tree (Many s) × List TokenKind} (read >>= made (λ y. more y.0 y.1)) (λ y. expect close y.1 >>= λ z. Ok (y.0, z.1)))
regroup close (Ok y) = regroup_end y.0.0 y.0.1 (expect close y.1)
regroup close (Err left) = refl

-- the value that was read, and the tokens behind it
abbrev value_of : {A : Type 0} → A → Read A → A
value_of other (Ok x) = x.0
value_of other (Err left) = other

abbrev rest_of : {A : Type 0} → List TokenKind → Read A → List TokenKind
rest_of other (Ok x) = x.1
rest_of other (Err left) = other

none_at : {s : Sort} (comma close : TokenKind → Bool) (item : Reader (Tree s)) (k : TokenKind) (w r : List TokenKind) (held : Bool) → close k ≡ held → perhaps close (k ∷ w) ≡ Ok (true, r) → closed comma close item (k ∷ w) ≡ Ok (none, r)
unfolding closed
none_at comma close item k w r true is found =
    let over : expect close (k ∷ w) ≡ Ok (tt, w) = rw (is, expect) refl in
    let rest : w ≡ r = ap (rest_of []) (rw (is, perhaps) at found) in
    rw (is, closed) (ap (λ (x : Read (Unit {0})). x >>= λ y. Ok (none, y.1)) over ∙ ap (λ (v : List TokenKind). Ok (none, v)) rest)
none_at comma close item k w r false is found =
    let e = rw (is, perhaps) at found in
    let e' = ap (value_of false) e in
    absurd cc

none_stands : {s : Sort} (comma close : TokenKind → Bool) (item : Reader (Tree s)) (w r : List TokenKind) → perhaps close w ≡ Ok (true, r) → closed comma close item w ≡ Ok (none, r)
none_stands comma close item [] r found =
    let e = ap (value_of false) found in
    absurd cc
none_stands comma close item (k ∷ w) r found = none_at comma close item k w r (close k) refl found

some_at : {s : Sort} (comma close : TokenKind → Bool) (item : Reader (Tree s)) (k : TokenKind) (w r : List TokenKind) (held : Bool) → close k ≡ held → perhaps close (k ∷ w) ≡ Ok (false, r) → closed comma close item (k ∷ w) ≡ (chained comma item (k ∷ w) >>= λ y. expect close y.1 >>= λ z. Ok (y.0, z.1))
unfolding closed
some_at comma close item k w r true is found =
    let e = rw (is, perhaps) at found in
    let e' = ap (value_of false) e in
    absurd cc
some_at comma close item k w r false is found = rw (is, closed) (regroup close (chain comma item (k ∷ w)))

by_chained : {s : Sort} (comma close : TokenKind → Bool) (item : Reader (Tree s)) (w r : List TokenKind) → perhaps close w ≡ Ok (false, r) → closed comma close item w ≡ (chained comma item w >>= λ y. expect close y.1 >>= λ z. Ok (y.0, z.1))
unfolding closed
by_chained comma close item [] r found = regroup close (chain comma item [])
by_chained comma close item (k ∷ w) r found = some_at comma close item k w r (close k) refl found

-- no item, where that token stands first, which was asked before; else some, and that token behind them
module _ {s : Sort} {X : Type 0} (view : X → Tree s) (comma close : TokenKind → Bool) (item : Reader (Tree s)) (w r : List TokenKind) (is_closed : Bool) (asked : perhaps close w ≡ Ok (is_closed, r)) where
  pub closed_none : (items : List X) → is_closed ≡ true → items ≡ [] → closed comma close item w ≡ Ok (listed (map view items), r)
  closed_none items held none_yet =
      none_stands comma close item w r (asked ∙ ap (λ (b : Bool). Ok (b, r)) held) ∙ ap (λ (l : List X). Ok (listed (map view l), r)) (sym none_yet)

  opened : is_closed ≡ false → closed comma close item w ≡ (chained comma item w >>= λ y. expect close y.1 >>= λ z. Ok (y.0, z.1))
  opened held = by_chained comma close item w r (asked ∙ ap (λ (b : Bool). Ok (b, r)) held)

  pub closed_goes : (items : List X) (r' r'' : List TokenKind) → is_closed ≡ false → chained comma item w ≡ Ok (listed (map view items), r') → expect close r' ≡ Ok (tt, r'') → closed comma close item w ≡ Ok (listed (map view items), r'')
  closed_goes items r' r'' held is over =
      opened held
      ∙ ap (λ (x : Read (Tree (Many s))). x >>= λ y. expect close y.1 >>= λ z. Ok (y.0, z.1)) is
      ∙ ap (λ (x : Read (Unit {0})). x >>= λ z. Ok (listed (map view items), z.1)) over

  pub closed_fails : (e : Fault) → is_closed ≡ false → Fails e (chained comma item w) → Fails e (closed comma close item w)
  closed_fails faults.Memory held is = tt
  closed_fails (faults.Syntax left) held is = opened held ∙ ap (λ (x : Read (Tree (Many s))). x >>= λ y. expect close y.1 >>= λ z. Ok (y.0, z.1)) is

  pub closing_fails : (items : List X) (r' : List TokenKind) (e : Fault) → is_closed ≡ false → chained comma item w ≡ Ok (listed (map view items), r') → Fails e (expect close r') → Fails e (closed comma close item w)
  closing_fails items r' faults.Memory held is fault = tt
  closing_fails items r' (faults.Syntax left) held is fault =
      opened held
      ∙ ap (λ (x : Read (Tree (Many s))). x >>= λ y. expect close y.1 >>= λ z. Ok (y.0, z.1)) is
      ∙ ap (λ (x : Read (Unit {0})). x >>= λ z. Ok (listed (map view items), z.1)) fault
