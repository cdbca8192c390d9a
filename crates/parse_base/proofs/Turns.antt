-- A loop that reads items: what was read, and what is still to read.
use Rattle.std.proofs.Common.{◌≡◌, ℕ, zero, suc, ◌+◌, ◌-◌, ◌<◌, ◌≤◌, List, [], ◌∷◌, ◌++◌, length, map, Bool, true, false, Ok, Err, refl, sym, ap, ◌∙◌, arith}
use Rattle.std.proofs.lemmas.List.{length-append, map_push}
use Rattle.script_lex.specs.declared.token.Token.{Token}
use Rattle.script_lex.specs.declared.token.TokenKind.{TokenKind}
use Rattle.script_grammar.specs.Tree.{Sort, Tree, Many, none, more}
use Rattle.script_grammar.specs.View.{listed}
use Rattle.script_grammar.specs.Read.{Read, Reader, ◌>>=◌, made, repeat, many}
use Rattle.parse_base.specs.declared.fault.Fault.{Fault}
use Rattle.parse_base.specs.declared.fault.Fault.TheVariants as faults
use Rattle.parse_base.specs.Gives.{kinds, Fails}

-- trees before a list of trees
abbrev pub onto : {s : Sort} → List (Tree s) → Tree (Many s) → Tree (Many s)
onto [] ts = ts
onto (x ∷ xs) ts = more x (onto xs ts)

abbrev pub with_front : {s : Sort} → List (Tree s) → Read (Tree (Many s)) → Read (Tree (Many s))
with_front front read = read >>= made (onto front)

onto_none : {s : Sort} (xs : List (Tree s)) → onto xs none ≡ listed xs
onto_none [] = refl
onto_none (x ∷ xs) = ap (more x) (onto_none xs)

onto_push : {s : Sort} (xs : List (Tree s)) (x : Tree s) (ts : Tree (Many s)) → onto (xs ++ x ∷ []) ts ≡ onto xs (more x ts)
onto_push [] x ts = refl
onto_push (y ∷ xs) x ts = ap (more y) (onto_push xs x ts)

front_none : {s : Sort} (read : Read (Tree (Many s))) → with_front [] read ≡ read
front_none (Ok y) = refl
front_none (Err k) = refl

front_push : {s : Sort} (front : List (Tree s)) (x : Tree s) (read : Read (Tree (Many s))) → with_front front (read >>= made (more x)) ≡ with_front (front ++ x ∷ []) read
front_push front x (Ok y) = ap (λ (t : _). Ok (t, y.1)) (sym (onto_push front x y.0))
front_push front x (Err k) = refl

repeat_true : {s : Sort} (test : List TokenKind → Bool) (item : Reader (Tree s)) (n m : ℕ) (w : List TokenKind) → n ≡ suc m → test w ≡ true → repeat test item n w ≡ (item w >>= λ x. repeat test item m x.1 >>= made (more x.0))
unfolding repeat
repeat_true test item n m w e held = ap (λ (k : ℕ). repeat test item k w) e ∙ rw (held, repeat) refl

repeat_false : {s : Sort} (test : List TokenKind → Bool) (item : Reader (Tree s)) (n : ℕ) (w : List TokenKind) → test w ≡ false → repeat test item n w ≡ Ok (none, w)
unfolding repeat
repeat_false test item zero w over = refl
repeat_false test item (suc n) w over = rw (over, repeat) refl

-- the items so far, and the reading of the others behind them, are the reading of all
pub record Turning {s : Sort} {X : Type 0} (view : X → Tree s) (test : List TokenKind → Bool) (item : Reader (Tree s)) (whole rest : List Token) (items : List X) : Type 0 where
  pub within : length rest + length items ≤ length whole
  pub so_far : with_front (map view items) (repeat test item (length whole - length items) (kinds rest)) ≡ many test item (kinds whole)

kinds_length : (ts : List Token) → length (kinds ts) ≡ length ts
kinds_length [] = refl
kinds_length (t ∷ ts) = ap suc (kinds_length ts)

-- no item so far
pub begins : {s : Sort} {X : Type 0} (view : X → Tree s) (test : List TokenKind → Bool) (item : Reader (Tree s)) (whole : List Token) (items : List X) → items ≡ [] → Turning view test item whole whole items
unfolding many
begins view test item whole items none_yet = rw none_yet record {
  within = omega arith;
  so_far =
      let full : length whole - 0 ≡ length (kinds whole) = omega (arith, kinds_length whole) in
      front_none (repeat test item (length whole - 0) (kinds whole)) ∙ ap (λ (k : ℕ). repeat test item k (kinds whole)) full;
}

-- at the end nothing is left to read
pub ends : {s : Sort} {X : Type 0} {view : X → Tree s} {test : List TokenKind → Bool} {item : Reader (Tree s)} {whole rest : List Token} {items : List X} → Turning view test item whole rest items → test (kinds rest) ≡ false → many test item (kinds whole) ≡ Ok (listed (map view items), kinds rest)
ends {view = view} {test = test} {item = item} {whole = whole} {rest = rest} {items = items} so over =
    sym so.so_far ∙ ap (with_front (map view items)) (repeat_false test item (length whole - length items) (kinds rest) over) ∙ ap (λ (t : _). Ok (t, kinds rest)) (onto_none (map view items))

-- a token is there, where the test holds
there : (test : List TokenKind → Bool) (rest : List Token) → test [] ≡ false → test (kinds rest) ≡ true → 0 < length rest
there test [] at_end held = absurd cc
there test (t ∷ rest) at_end held = omega arith

-- one item more
pub goes_on : {s : Sort} {X : Type 0} {view : X → Tree s} {test : List TokenKind → Bool} {item : Reader (Tree s)} {whole rest : List Token} {items : List X} → Turning view test item whole rest items
    → (x : X) (after : List Token) (items' : List X) → test (kinds rest) ≡ true → item (kinds rest) ≡ Ok (view x, kinds after) → length after < length rest → items' ≡ items ++ x ∷ [] → Turning view test item whole after items'
goes_on {s = s} {X = X} {view = view} {test = test} {item = item} {whole = whole} {rest = rest} {items = items} so x after items' held is less pushed =
    let size : length items' ≡ length items + 1 = ap length pushed ∙ length-append items (x ∷ []) in
    let fuel : length whole - length items ≡ suc (length whole - length items') = omega (arith, so.within) in
    let one : repeat test item (length whole - length items) (kinds rest) ≡ (repeat test item (length whole - length items') (kinds after) >>= made (more (view x))) =
    repeat_true test item (length whole - length items) (length whole - length items') (kinds rest) fuel held ∙ ap (λ (r : Read (Tree s)). r >>= λ x. repeat test item (length whole - length items') x.1 >>= made (more x.0)) is in
    let front : map view items' ≡ map view items ++ view x ∷ [] = ap (map view) pushed ∙ map_push view items x in
    record {
      within = omega (arith, so.within);
      so_far =
          ap (λ (f : List (Tree s)). with_front f (repeat test item (length whole - length items') (kinds after))) front
          ∙ sym (front_push (map view items) (view x) (repeat test item (length whole - length items') (kinds after)))
          ∙ ap (with_front (map view items)) (sym one) ∙ so.so_far;
    }

-- an item that fails
pub fails : {s : Sort} {X : Type 0} {view : X → Tree s} {test : List TokenKind → Bool} {item : Reader (Tree s)} {whole rest : List Token} {items : List X} → Turning view test item whole rest items
    → (e : Fault) → test [] ≡ false → test (kinds rest) ≡ true → Fails e (item (kinds rest)) → Fails e (many test item (kinds whole))
fails so faults.Memory at_end held is = tt
fails {s = s} {view = view} {test = test} {item = item} {whole = whole} {rest = rest} {items = items} so (faults.Syntax k) at_end held is =
    let token = there test rest at_end held in
    let fuel : length whole - length items ≡ suc (length whole - length items - 1) = omega (arith, so.within) in
    let one : repeat test item (length whole - length items) (kinds rest) ≡ Err k =
    repeat_true test item (length whole - length items) (length whole - length items - 1) (kinds rest) fuel held ∙ ap (λ (r : Read (Tree s)). r >>= λ x. repeat test item (length whole - length items - 1) x.1 >>= made (more x.0)) is in
    sym so.so_far ∙ ap (with_front (map view items)) one
