-- What a list of trees and a struct that holds one spell.
use Rattle.std.proofs.Common.{◌≡◌, ℕ, List, [], ◌∷◌, ◌++◌, Result, Ok, Err, OnOk, refl, sym, ap, ◌∙◌, append_assoc}
use Rattle.std.proofs.lemmas.List.{append-nil}
use Rattle.std.specs.Prelude.{map}
use Rattle.std.specs.Global.{Vec}
use Rattle.script_lex.specs.declared.token.TokenKind.{TokenKind}
use Rattle.script_lex.specs.declared.token.TokenKind.TheVariants.{NameOpen, Keyword, Symbol}
use Rattle.script_lex.specs.declared.token.Keyword.TheVariants as word
use Rattle.script_lex.specs.declared.token.Symbol.TheVariants as sign
use Rattle.script_grammar.specs.Tree.{Sort, Tree, Many, APAnd, APNot, AFull}
use Rattle.script_grammar.specs.Spelling.{spell, each_after, with_commas}
use Rattle.script_grammar.specs.Pieces.{each, each_behind, between_commas, in_brackets, por_parts, pand_parts}
use Rattle.script_grammar.specs.View.{listed, por_of, pand_of, tuple_of, view_por, view_pand, view_pnot, view_expr, view_and, view_not, view_sum, view_added, view_product, view_multiplied, view_operand, view_full, view_call, view_arg}
use Rattle.script_grammar.specs.declared.tree.Full.{Full}
use Rattle.script_grammar.specs.declared.tree.Expr as expr
use Rattle.script_grammar.specs.declared.tree.And as and_
use Rattle.script_grammar.specs.declared.tree.Not as not_
use Rattle.script_grammar.specs.declared.tree.Sum as sum
use Rattle.script_grammar.specs.declared.tree.Added as added
use Rattle.script_grammar.specs.declared.tree.Product as product
use Rattle.script_grammar.specs.declared.tree.Multiplied as multiplied
use Rattle.script_grammar.specs.declared.tree.Operand as operand
use Rattle.script_grammar.specs.declared.tree.Call as call
use Rattle.script_grammar.specs.declared.tree.Arg as arg
use Rattle.script_grammar.specs.declared.predicate.POr as por
use Rattle.script_grammar.specs.declared.predicate.PAnd as pand
use Rattle.script_grammar.specs.declared.predicate.PNot as pnot
use Rattle.script_grammar.proofs.Rows.{pands_listed, pnots_listed, fulls_listed, expr_seen, and_seen, sum_seen, product_seen, call_seen}

-- ---- the spellings of a list

pub each_listed : {s : Sort} (ts : List (Tree s)) → spell (listed ts) ≡ each ts
each_listed [] = refl
each_listed (t ∷ ts) = ap (λ (z : List TokenKind). spell t ++ z) (each_listed ts)

pub behind_listed : {s : Sort} (k : TokenKind) (ts : List (Tree s)) → each_after k (listed ts) ≡ each_behind k ts
behind_listed k [] = refl
behind_listed k (t ∷ ts) = ap (λ (z : List TokenKind). k ∷ (spell t ++ z)) (behind_listed k ts)

pub commas_listed : {s : Sort} (ts : List (Tree s)) → with_commas (listed ts) ≡ between_commas ts
commas_listed [] = refl
commas_listed (t ∷ ts) = ap (λ (z : List TokenKind). spell t ++ z) (behind_listed (Symbol sign.Comma) ts)

por_listed : (ts : List (Tree APAnd)) → spell (por_of (listed ts)) ≡ por_parts ts
por_listed [] = refl
por_listed (t ∷ ts) = ap (λ (z : List TokenKind). spell t ++ z) (behind_listed (Keyword word.Or) ts)

pand_listed : (ts : List (Tree APNot)) → spell (pand_of (listed ts)) ≡ pand_parts ts
pand_listed [] = refl
pand_listed (t ∷ ts) = ap (λ (z : List TokenKind). spell t ++ z) (behind_listed (Keyword word.And) ts)

tuple_listed : (at : ℕ) (ts : List (Tree AFull)) → spell (tuple_of at (listed ts)) ≡ in_brackets sign.OpenRound ts sign.CloseRound
tuple_listed at [] = refl
tuple_listed at (f ∷ []) = ap (λ (z : List TokenKind). Symbol sign.OpenRound ∷ (z ++ (Symbol sign.CloseRound ∷ []))) (sym (append-nil (spell f)))
tuple_listed at (f ∷ g ∷ rest) = ap (λ (z : List TokenKind). Symbol sign.OpenRound ∷ (spell f ++ (Symbol sign.Comma ∷ (spell g ++ (z ++ (Symbol sign.CloseRound ∷ [])))))) (behind_listed (Symbol sign.Comma) rest) ∙ simp append_assoc refl

-- a piece, and the rest by a call that may fail
pub two_parts : {E : Type 0} (r : Result (Unit {0}) E) (old a new p q whole : List TokenKind) → a ≡ old ++ p → OnOk r (new ≡ a ++ q) → whole ≡ p ++ q → OnOk r (new ≡ old ++ whole)
two_parts (Ok u) old a new p q whole e f g = f ∙ ap (λ (z : List TokenKind). z ++ q) e ∙ append_assoc old p q ∙ ap (λ (z : List TokenKind). old ++ z) (sym g)
two_parts (Err x) old a new p q whole e f g = f

three_parts : {E : Type 0} (r : Result (Unit {0}) E) (old a b new : List TokenKind) (k : TokenKind) (q : List TokenKind) (last : TokenKind) (whole : List TokenKind) → a ≡ old ++ (k ∷ []) → b ≡ a ++ q → OnOk r (new ≡ b ++ (last ∷ [])) → whole ≡ k ∷ (q ++ (last ∷ [])) → OnOk r (new ≡ old ++ whole)
three_parts r old a b new k q last whole e f g h = two_parts r old a new (k ∷ []) (q ++ (last ∷ [])) whole e (two_parts r a b new q (last ∷ []) (q ++ (last ∷ [])) f g refl) h

-- ---- what is written after its parts

pub expr_parts : {E : Type 0} (r : Result (Unit {0}) E) (e : expr.Expr) (l : List and_.And) (old a new : List TokenKind) → l ≡ (expr.out-Expr e).rest.items → a ≡ old ++ spell (view_and (expr.out-Expr e).first) → OnOk r (new ≡ a ++ each_behind (Keyword word.Or) (map view_and l)) → OnOk r (new ≡ old ++ spell (view_expr e))
expr_parts r e l old a new lis ais nis =
    let whole : spell (view_expr e) ≡ spell (view_and (expr.out-Expr e).first) ++ each_behind (Keyword word.Or) (map view_and l) = ap spell (expr_seen e) ∙ ap (λ (z : List TokenKind). spell (view_and (expr.out-Expr e).first) ++ z) (behind_listed (Keyword word.Or) (map view_and (expr.out-Expr e).rest.items)) ∙ ap (λ (z : List and_.And). spell (view_and (expr.out-Expr e).first) ++ each_behind (Keyword word.Or) (map view_and z)) (sym lis) in
    two_parts r old a new (spell (view_and (expr.out-Expr e).first)) (each_behind (Keyword word.Or) (map view_and l)) (spell (view_expr e)) ais nis whole

pub and_parts : {E : Type 0} (r : Result (Unit {0}) E) (e : and_.And) (l : List not_.Not) (old a new : List TokenKind) → l ≡ (and_.out-And e).rest.items → a ≡ old ++ spell (view_not (and_.out-And e).first) → OnOk r (new ≡ a ++ each_behind (Keyword word.And) (map view_not l)) → OnOk r (new ≡ old ++ spell (view_and e))
and_parts r e l old a new lis ais nis =
    let whole : spell (view_and e) ≡ spell (view_not (and_.out-And e).first) ++ each_behind (Keyword word.And) (map view_not l) = ap spell (and_seen e) ∙ ap (λ (z : List TokenKind). spell (view_not (and_.out-And e).first) ++ z) (behind_listed (Keyword word.And) (map view_not (and_.out-And e).rest.items)) ∙ ap (λ (z : List not_.Not). spell (view_not (and_.out-And e).first) ++ each_behind (Keyword word.And) (map view_not z)) (sym lis) in
    two_parts r old a new (spell (view_not (and_.out-And e).first)) (each_behind (Keyword word.And) (map view_not l)) (spell (view_and e)) ais nis whole

pub sum_parts : {E : Type 0} (r : Result (Unit {0}) E) (e : sum.Sum) (l : List added.Added) (old a new : List TokenKind) → l ≡ (sum.out-Sum e).rest.items → a ≡ old ++ spell (view_product (sum.out-Sum e).first) → OnOk r (new ≡ a ++ each (map view_added l)) → OnOk r (new ≡ old ++ spell (view_sum e))
sum_parts r e l old a new lis ais nis =
    let whole : spell (view_sum e) ≡ spell (view_product (sum.out-Sum e).first) ++ each (map view_added l) = ap spell (sum_seen e) ∙ ap (λ (z : List TokenKind). spell (view_product (sum.out-Sum e).first) ++ z) (each_listed (map view_added (sum.out-Sum e).rest.items)) ∙ ap (λ (z : List added.Added). spell (view_product (sum.out-Sum e).first) ++ each (map view_added z)) (sym lis) in
    two_parts r old a new (spell (view_product (sum.out-Sum e).first)) (each (map view_added l)) (spell (view_sum e)) ais nis whole

pub product_parts : {E : Type 0} (r : Result (Unit {0}) E) (e : product.Product) (l : List multiplied.Multiplied) (old a new : List TokenKind) → l ≡ (product.out-Product e).rest.items → a ≡ old ++ spell (view_operand (product.out-Product e).first) → OnOk r (new ≡ a ++ each (map view_multiplied l)) → OnOk r (new ≡ old ++ spell (view_product e))
product_parts r e l old a new lis ais nis =
    let whole : spell (view_product e) ≡ spell (view_operand (product.out-Product e).first) ++ each (map view_multiplied l) = ap spell (product_seen e) ∙ ap (λ (z : List TokenKind). spell (view_operand (product.out-Product e).first) ++ z) (each_listed (map view_multiplied (product.out-Product e).rest.items)) ∙ ap (λ (z : List multiplied.Multiplied). spell (view_operand (product.out-Product e).first) ++ each (map view_multiplied z)) (sym lis) in
    two_parts r old a new (spell (view_operand (product.out-Product e).first)) (each (map view_multiplied l)) (spell (view_product e)) ais nis whole

pub call_parts : {E : Type 0} (r : Result (Unit {0}) E) (e : call.Call) (l : List arg.Arg) (old a b new : List TokenKind) → l ≡ (call.out-Call e).args.items → a ≡ old ++ (NameOpen (call.out-Call e).name ∷ []) → b ≡ a ++ between_commas (map view_arg l) → OnOk r (new ≡ b ++ (Symbol sign.CloseRound ∷ [])) → OnOk r (new ≡ old ++ spell (view_call e))
call_parts r e l old a b new lis ais bis nis =
    let name = (call.out-Call e).name in
    let whole : spell (view_call e) ≡ NameOpen name ∷ (between_commas (map view_arg l) ++ (Symbol sign.CloseRound ∷ [])) = ap spell (call_seen e) ∙ ap (λ (z : List TokenKind). NameOpen name ∷ (z ++ (Symbol sign.CloseRound ∷ []))) (commas_listed (map view_arg (call.out-Call e).args.items)) ∙ ap (λ (z : List arg.Arg). NameOpen name ∷ (between_commas (map view_arg z) ++ (Symbol sign.CloseRound ∷ []))) (sym lis) in
    three_parts r old a b new (NameOpen name) (between_commas (map view_arg l)) (Symbol sign.CloseRound) (spell (view_call e)) ais bis nis whole

pub por_spelled : (e : por.POr) (l : List pand.PAnd) → l ≡ (por.out-POr e).parts.items → spell (view_por e) ≡ por_parts (map view_pand l)
por_spelled e l lis = ap (λ (z : por.POr). spell (view_por z)) (sym (por.roll-out-POr e) ∙ por.rolls-POr' (por.out-POr e)) ∙ ap (λ (z : _). spell (por_of z)) (pands_listed (por.out-POr e).parts) ∙ por_listed (map view_pand (por.out-POr e).parts.items) ∙ ap (λ (z : List pand.PAnd). por_parts (map view_pand z)) (sym lis)

pub pand_spelled : (e : pand.PAnd) (l : List pnot.PNot) → l ≡ (pand.out-PAnd e).parts.items → spell (view_pand e) ≡ pand_parts (map view_pnot l)
pand_spelled e l lis = ap (λ (z : pand.PAnd). spell (view_pand z)) (sym (pand.roll-out-PAnd e) ∙ pand.rolls-PAnd' (pand.out-PAnd e)) ∙ ap (λ (z : _). spell (pand_of z)) (pnots_listed (pand.out-PAnd e).parts) ∙ pand_listed (map view_pnot (pand.out-PAnd e).parts.items) ∙ ap (λ (z : List pnot.PNot). pand_parts (map view_pnot z)) (sym lis)

pub tuple_spelled : (at : ℕ) (v : Vec Full) → spell (view_operand (operand.Tuple at v)) ≡ in_brackets sign.OpenRound (map view_full v.items) sign.CloseRound
tuple_spelled at v = ap (λ (t : _). spell (tuple_of at t)) (fulls_listed v) ∙ tuple_listed at (map view_full v.items)

pub list_spelled : (at : ℕ) (v : Vec Full) → spell (view_operand (operand.List at v)) ≡ in_brackets sign.OpenSquare (map view_full v.items) sign.CloseSquare
list_spelled at v = ap (λ (t : Tree (Many AFull)). Symbol sign.OpenSquare ∷ (with_commas t ++ (Symbol sign.CloseSquare ∷ []))) (fulls_listed v) ∙ ap (λ (z : List TokenKind). Symbol sign.OpenSquare ∷ (z ++ (Symbol sign.CloseSquare ∷ []))) (commas_listed (map view_full v.items))
