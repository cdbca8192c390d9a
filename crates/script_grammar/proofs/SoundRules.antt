-- What is known of what a reader gives: a spelling with its places, or a fault where a spelling has begun. How this carries over to readers made of it.
use Rattle.std.proofs.Common.{◌≡◌, ℕ, zero, suc, ◌+◌, ◌-◌, List, [], ◌∷◌, ◌++◌, length, Bool, true, false, Ok, Err, refl, sym, ap, ◌∙◌, append_assoc, arith}
use Rattle.std.proofs.lemmas.List.{length-append, append-nil}
use Rattle.script_lex.specs.declared.token.TokenKind.{TokenKind}
use Rattle.script_lex.specs.declared.token.TokenKind.TheVariants.{Symbol}
use Rattle.script_lex.specs.declared.token.Symbol.TheVariants as sign
use Rattle.script_grammar.specs.Tree.{Sort, Tree, Many, none, more}
use Rattle.script_grammar.specs.Spelling.{spell, each_after as behind_spelled, with_commas, token_if}
use Rattle.script_grammar.specs.Placed.{IsPlaced, IsBehind, IsApart}
use Rattle.script_grammar.specs.Read.{Read, Reader, ◌>>=◌, made, both, next, expect, perhaps, repeat, many, behind, chain, closed}
use Rattle.script_grammar.specs.Kinds.{is_comma}
use Rattle.script_grammar.specs.Stops.{Begun}

-- i is the index of the first token of w, and stamp gives the index of the token where so many are left
pub record Here (stamp : ℕ → ℕ) (total : ℕ) (i : ℕ) (w : List TokenKind) : Type 0 where
  pub sum : i + length w ≡ total
  pub stamps : (left : ℕ) → stamp left ≡ total - left

-- what a reader gives at the tokens w, where sp spells a tree and at says that its places are right
pub data Outcome {T : Type 0} (stamp : ℕ → ℕ) (total : ℕ) (sp : T → List TokenKind) (at : ℕ → T → Type 0) (w : List TokenKind) : Read T → Type 0 where
  found : (t : T) (r : List TokenKind) → w ≡ sp t ++ r → ((i : ℕ) → Here stamp total i w → at i t) → Outcome stamp total sp at w (Ok (t, r))
  stopped : (k : ℕ) → Begun sp w k → Outcome stamp total sp at w (Err k)

pub record Sound {T : Type 0} (stamp : ℕ → ℕ) (total : ℕ) (f : Reader T) (sp : T → List TokenKind) (at : ℕ → T → Type 0) : Type 0 where
  pub outcome : (w : List TokenKind) → Outcome stamp total sp at w (f w)

-- nothing to be placed
abbrev pub nowhere : {T : Type 0} → ℕ → T → Type 0
nowhere i t = Unit {0}

-- one token, always the same
abbrev pub one : TokenKind → Unit {0} → List TokenKind
one k x = k ∷ []

abbrev pub pair_sp : {A B : Type 0} → (A → List TokenKind) → (B → List TokenKind) → A × B → List TokenKind
pair_sp spA spB x = spA x.0 ++ spB x.1

-- the second part stands behind the first
abbrev pub pair_at : {A B : Type 0} → (A → List TokenKind) → (ℕ → A → Type 0) → (ℕ → B → Type 0) → ℕ → A × B → Type 0
pair_at spA atA atB i x = atA i x.0 × ((j : ℕ) → j ≡ i + length (spA x.0) → atB j x.1)

-- a fault in what is read behind front and before back
pub begun_behind : {A B : Type 0} {spA : A → List TokenKind} {spB : B → List TokenKind} {u w : List TokenKind} {k : ℕ} (mk : A → B) (front back : List TokenKind) → w ≡ front ++ u → ((a : A) → spB (mk a) ≡ front ++ (spA a ++ back)) → Begun spA u k → Begun spB w k
begun_behind mk front back e spelled b = record {
  before = front ++ b.before;
  after = b.after;
  parts = e ∙ ap (λ (z : List TokenKind). front ++ z) b.parts ∙ sym (append_assoc front b.before b.after);
  left = b.left;
  tree = mk b.tree;
  others = b.others ++ back;
  begins = spelled b.tree ∙ ap (λ (z : List TokenKind). front ++ (z ++ back)) b.begins ∙ ap (λ (z : List TokenKind). front ++ z) (append_assoc b.before b.others back) ∙ sym (append_assoc front b.before (b.others ++ back));
}

only_comma : (k : TokenKind) → is_comma k ≡ true → k ≡ Symbol sign.Comma
only_comma (Symbol sign.Comma) e = refl
only_comma k e = absurd cc

module _ {stamp : ℕ → ℕ} {total : ℕ} where
  -- the index of the first token, and of one behind others
  pub first : {i : ℕ} {k : TokenKind} {r : List TokenKind} → Here stamp total i (k ∷ r) → stamp (suc (length r)) ≡ i
  first {r = r} h = omega (arith, h.stamps (suc (length r)))

  pub here : {i : ℕ} {w : List TokenKind} → Here stamp total i w → stamp (length w) ≡ i
  here {w = w} h = omega (arith, h.stamps (length w))

  pub later : {i : ℕ} {w : List TokenKind} (front u : List TokenKind) → w ≡ front ++ u → Here stamp total i w → stamp (length u) ≡ i + length front
  later front u e h = omega (arith, h.stamps (length u), ap length e, length-append front u)

  pub moved : {i j : ℕ} {w : List TokenKind} (front u : List TokenKind) → w ≡ front ++ u → j ≡ i + length front → Here stamp total i w → Here stamp total j u
  moved front u e is h = record { sum = omega (arith, ap length e, length-append front u); stamps = h.stamps }

  -- ---- faults

  -- the tokens of front begin the spelling of a tree
  pub stop : {T : Type 0} {sp : T → List TokenKind} {at : ℕ → T → Type 0} {w : List TokenKind} (front r : List TokenKind) (t : T) (others : List TokenKind) → w ≡ front ++ r → sp t ≡ front ++ others → Outcome stamp total sp at w (Err (length r))
  stop front r t others e b = stopped (length r) (record { before = front; after = r; parts = e; left = refl; tree = t; others = others; begins = b })

  pub refused : {T : Type 0} {sp : T → List TokenKind} {at : ℕ → T → Type 0} (w : List TokenKind) → T → Outcome stamp total sp at w (Err (length w))
  refused {sp = sp} w t = stop [] w t (sp t) refl refl

  -- ---- a tree made of what is read behind other tokens

  pub behind_front : {A B : Type 0} {spA : A → List TokenKind} {atA : ℕ → A → Type 0} {spB : B → List TokenKind} {atB : ℕ → B → Type 0} {u w : List TokenKind} {x : Read A} (mk : A → B) (front : List TokenKind)
      → w ≡ front ++ u → ((a : A) → spB (mk a) ≡ front ++ spA a) → ((i : ℕ) (a : A) → Here stamp total i w → ((j : ℕ) → j ≡ i + length front → atA j a) → atB i (mk a))
      → Outcome stamp total spA atA u x → Outcome stamp total spB atB w (x >>= made mk)
  behind_front {spA = spA} {spB = spB} {u = u} mk front e spelled placed (found a r p q) =
      found (mk a) r (e ∙ ap (λ (z : List TokenKind). front ++ z) p ∙ sym (append_assoc front (spA a) r) ∙ ap (λ (z : List TokenKind). z ++ r) (sym (spelled a))) (λ i h. placed i a h (λ j is. q j (moved front u e is h)))
  behind_front {spA = spA} mk front e spelled placed (stopped k b) =
      stopped k (begun_behind mk front [] e (λ a. spelled a ∙ ap (λ (z : List TokenKind). front ++ z) (sym (append-nil (spA a)))) b)

  pub made_of : {A B : Type 0} {spA : A → List TokenKind} {atA : ℕ → A → Type 0} {spB : B → List TokenKind} {atB : ℕ → B → Type 0} {w : List TokenKind} {x : Read A} (mk : A → B)
      → ((a : A) → spB (mk a) ≡ spA a) → ((i : ℕ) (a : A) → Here stamp total i w → atA i a → atB i (mk a))
      → Outcome stamp total spA atA w x → Outcome stamp total spB atB w (x >>= made mk)
  made_of mk spelled placed o = behind_front mk [] refl spelled (λ i a h p. placed i a h (p i (omega arith))) o

  -- ---- one after the other

  both_after : {A B : Type 0} (spA : A → List TokenKind) (atA : ℕ → A → Type 0) {spB : B → List TokenKind} {atB : ℕ → B → Type 0} {w r : List TokenKind} {y : Read B} (a : A) → w ≡ spA a ++ r → ((i : ℕ) → Here stamp total i w → atA i a)
      → Outcome stamp total spB atB r y → Outcome stamp total (pair_sp spA spB) (pair_at spA atA atB) w (y >>= λ y. Ok ((a, y.0), y.1))
  both_after spA atA {spB = spB} {r = r} a e p (found b u e' p') =
      found (a, b) u (e ∙ ap (λ (z : List TokenKind). spA a ++ z) e' ∙ sym (append_assoc (spA a) (spB b) u)) (λ i h. (p i h, λ j is. p' j (moved (spA a) r e is h)))
  both_after spA atA {spB = spB} a e p (stopped k b) =
      stopped k (begun_behind (λ b. (a, b)) (spA a) [] e (λ b. ap (λ (z : List TokenKind). spA a ++ z) (sym (append-nil (spB b)))) b)

  both_from : {A B : Type 0} {spA : A → List TokenKind} {atA : ℕ → A → Type 0} {spB : B → List TokenKind} {atB : ℕ → B → Type 0} {w : List TokenKind} {x : Read A} (g : Reader B) → B → ((r : List TokenKind) → Outcome stamp total spB atB r (g r))
      → Outcome stamp total spA atA w x → Outcome stamp total (pair_sp spA spB) (pair_at spA atA atB) w (x >>= λ x. g x.1 >>= λ y. Ok ((x.0, y.0), y.1))
  both_from {spA = spA} {atA = atA} g b0 o (found a r e p) = both_after spA atA a e p (o r)
  both_from {spB = spB} g b0 o (stopped k b) = stopped k (begun_behind (λ a. (a, b0)) [] (spB b0) refl (λ a. refl) b)

  -- b0 is any value of the second reader
  pub both_sound : {A B : Type 0} {f : Reader A} {g : Reader B} {spA : A → List TokenKind} {atA : ℕ → A → Type 0} {spB : B → List TokenKind} {atB : ℕ → B → Type 0} → B → Sound stamp total f spA atA → Sound stamp total g spB atB → Sound stamp total (both f g) (pair_sp spA spB) (pair_at spA atA atB)
  both_sound {g = g} b0 lf lg = record { outcome = λ w. both_from g b0 lg.outcome (lf.outcome w) }

  -- ---- one token

  expect_from : (k : TokenKind) (b : Bool) (k' : TokenKind) (w : List TokenKind) → (b ≡ true → k' ≡ k) → Outcome stamp total (one k) nowhere (k' ∷ w) (elim b [ true ↦ Ok (tt, w) | false ↦ Err (suc (length w)) ])
  expect_from k true k' w only = found tt w (ap (λ (z : TokenKind). z ∷ w) (only refl)) (λ i h. tt)
  expect_from k false k' w only = refused (k' ∷ w) tt

  expect_out : (is : TokenKind → Bool) (k : TokenKind) → ((k' : TokenKind) → is k' ≡ true → k' ≡ k) → (w : List TokenKind) → Outcome stamp total (one k) nowhere w (expect is w)
  expect_out is k only [] = refused [] tt
  expect_out is k only (k' ∷ w) = expect_from k (is k') k' w (only k')

  pub expect_sound : (is : TokenKind → Bool) (k : TokenKind) → ((k' : TokenKind) → is k' ≡ true → k' ≡ k) → Sound stamp total (expect is) (one k) nowhere
  expect_sound is k only = record { outcome = expect_out is k only }

  perhaps_from : (k : TokenKind) (b : Bool) (k' : TokenKind) (w : List TokenKind) → (b ≡ true → k' ≡ k) → Outcome stamp total (token_if k) nowhere (k' ∷ w) (elim b [ true ↦ Ok (true, w) | false ↦ Ok (false, k' ∷ w) ])
  perhaps_from k true k' w only = found true w (ap (λ (z : TokenKind). z ∷ w) (only refl)) (λ i h. tt)
  perhaps_from k false k' w only = found false (k' ∷ w) refl (λ i h. tt)

  perhaps_out : (is : TokenKind → Bool) (k : TokenKind) → ((k' : TokenKind) → is k' ≡ true → k' ≡ k) → (w : List TokenKind) → Outcome stamp total (token_if k) nowhere w (perhaps is w)
  perhaps_out is k only [] = found false [] refl (λ i h. tt)
  perhaps_out is k only (k' ∷ w) = perhaps_from k (is k') k' w (only k')

  pub perhaps_sound : (is : TokenKind → Bool) (k : TokenKind) → ((k' : TokenKind) → is k' ≡ true → k' ≡ k) → Sound stamp total (perhaps is) (token_if k) nowhere
  perhaps_sound is k only = record { outcome = perhaps_out is k only }

  -- ---- items as long as a test holds

  pub pick : {T : Type 0} {sp : T → List TokenKind} {at : ℕ → T → Type 0} {w : List TokenKind} (b : Bool) {x y : Read T} → Outcome stamp total sp at w x → Outcome stamp total sp at w y → Outcome stamp total sp at w (elim b [ true ↦ x | false ↦ y ])
  pick true p q = p
  pick false p q = q

  module _ {s : Sort} (test : List TokenKind → Bool) {item : Reader (Tree s)} {sp : Tree s → List TokenKind} {at : ℕ → Tree s → Type 0} (li : Sound stamp total item sp at)
      (runs : Tree (Many s) → List TokenKind) (along : ℕ → Tree (Many s) → Type 0) (runs_none : runs none ≡ []) (runs_more : (t : Tree s) (ts : Tree (Many s)) → runs (more t ts) ≡ sp t ++ runs ts)
      (along_none : (i : ℕ) → along i none) (along_more : (i : ℕ) (t : Tree s) (ts : Tree (Many s)) → at i t → ((j : ℕ) → j ≡ i + length (sp t) → along j ts) → along i (more t ts)) where
    none_out : (w : List TokenKind) → Outcome stamp total runs along w (Ok (none, w))
    none_out w = found none w (ap (λ (z : List TokenKind). z ++ w) (sym runs_none)) (λ i h. along_none i)

    more_out : {w : List TokenKind} {x : Read (Tree s)} (g : Reader (Tree (Many s))) → ((r : List TokenKind) → Outcome stamp total runs along r (g r)) → Outcome stamp total sp at w x → Outcome stamp total runs along w (x >>= λ x. g x.1 >>= made (more x.0))
    more_out g rest (found t r e p) = behind_front (more t) (sp t) e (runs_more t) (λ i ts h q. along_more i t ts (p i h) q) (rest r)
    more_out g rest (stopped k b) = stopped k (begun_behind (λ t. more t none) [] (runs none) refl (λ t. runs_more t none) b)

    repeat_out : (m : ℕ) (w : List TokenKind) → Outcome stamp total runs along w (repeat test item m w)
    unfolding repeat
    repeat_out zero w = none_out w
    repeat_out (suc m) w = pick (test w) (more_out (repeat test item m) (repeat_out m) (li.outcome w)) (none_out w)

    pub many_sound : Sound stamp total (many test item) runs along
    unfolding many
    many_sound = record { outcome = λ w. repeat_out (length w) w }

  -- trees one after another
  pub row_sound : {s : Sort} (test : List TokenKind → Bool) {item : Reader (Tree s)} → Sound stamp total item spell IsPlaced → Sound stamp total (many test item) (λ (ts : Tree (Many s)). spell ts) IsPlaced
  row_sound {s = s} test li = many_sound test li (λ (ts : Tree (Many s)). spell ts) IsPlaced refl (λ t ts. refl) (λ i. tt) (λ i t ts p q. (p, q (i + length (spell t)) refl))

  -- ---- items with a token between

  behind_from : {s : Sort} {item : Reader (Tree s)} (k : TokenKind) {w : List TokenKind} {x : Read (Unit {0})} → Tree s → Sound stamp total item spell IsPlaced → Outcome stamp total (one k) nowhere w x → Outcome stamp total (λ (t : Tree s). k ∷ spell t) (λ i t. IsPlaced (i + 1) t) w (x >>= λ x. item x.1)
  behind_from k t0 li (stopped n b) = stopped n (begun_behind (λ x. t0) [] (spell t0) refl (λ x. refl) b)
  behind_from {s = s} {item = item} k {w = w} t0 li (found x r e p) = go (item r) (li.outcome r)
    where
      go : (y : Read (Tree s)) → Outcome stamp total spell IsPlaced r y → Outcome stamp total (λ (t : Tree s). k ∷ spell t) (λ i t. IsPlaced (i + 1) t) w y
      go y (found t u e' p') = found t u (e ∙ ap (λ (z : List TokenKind). k ∷ z) e') (λ i h. p' (i + 1) (moved (k ∷ []) r e (omega arith) h))
      go y (stopped n b) = stopped n (begun_behind (λ t. t) (k ∷ []) [] e (λ t. ap (λ (z : List TokenKind). k ∷ z) (sym (append-nil (spell t)))) b)

  module _ {s : Sort} (is : TokenKind → Bool) (k : TokenKind) (only : (k' : TokenKind) → is k' ≡ true → k' ≡ k) {item : Reader (Tree s)} (t0 : Tree s) (li : Sound stamp total item spell IsPlaced) where
    behind_sound : Sound stamp total (behind is item) (λ (t : Tree s). k ∷ spell t) (λ i t. IsPlaced (i + 1) t)
    unfolding behind
    behind_sound = record { outcome = λ w. behind_from k t0 li (expect_out is k only w) }

    others_sound : Sound stamp total (many (next is) (behind is item)) (λ (ts : Tree (Many s)). behind_spelled k ts) IsBehind
    others_sound = many_sound (next is) behind_sound (λ (ts : Tree (Many s)). behind_spelled k ts) IsBehind refl (λ t ts. refl) (λ i. tt) (λ i t ts p q. (p, q (i + 1 + length (spell t)) (omega arith)))

    pub chain_sound : Sound stamp total (chain is item) (pair_sp spell (λ (ts : Tree (Many s)). behind_spelled k ts)) (pair_at spell IsPlaced IsBehind)
    unfolding chain
    chain_sound = record { outcome = λ w. (both_sound none li others_sound).outcome w }

  -- ---- items with commas between, up to a bracket

  none_closed : {s : Sort} (k : TokenKind) {w : List TokenKind} {x : Read (Unit {0})} → Outcome stamp total (one k) nowhere w x → Outcome stamp total (λ (ts : Tree (Many s)). with_commas ts ++ (k ∷ [])) IsApart w (x >>= λ x. Ok (none, x.1))
  none_closed k (found x r e p) = found none r e (λ i h. tt)
  none_closed k (stopped n b) = stopped n (begun_behind (λ x. none) [] [] refl (λ x. refl) b)

  pub closed_sound : {s : Sort} (close : TokenKind → Bool) (k : TokenKind) → ((k' : TokenKind) → close k' ≡ true → k' ≡ k) → {item : Reader (Tree s)} → Tree s → Sound stamp total item spell IsPlaced → Sound stamp total (closed is_comma close item) (λ (ts : Tree (Many s)). with_commas ts ++ (k ∷ [])) IsApart
  unfolding closed
  closed_sound close k only t0 li = record {
    outcome = λ w.
        pick (next close w) (none_closed k (expect_out close k only w))
        (made_of (λ x. more x.0.0 x.0.1) (λ x. refl) (λ i x h p. (p.0.0, p.0.1 (i + length (spell x.0.0)) refl)) ((both_sound tt (chain_sound is_comma (Symbol sign.Comma) only_comma t0 li) (expect_sound close k only)).outcome w));
  }
