-- A reader that gives back each tree from its spelling, and how this carries over to readers made of it.
use Rattle.std.proofs.Common.{◌≡◌, ℕ, zero, suc, ◌<◌, ◌≤◌, List, [], ◌∷◌, ◌++◌, length, Bool, true, false, Ok, refl, sym, ap, subst, ◌∙◌, append_assoc, arith}
use Rattle.std.proofs.lemmas.List.{length-append}
use Rattle.script_lex.specs.declared.token.TokenKind.{TokenKind}
use Rattle.script_lex.specs.declared.token.TokenKind.TheVariants.{Symbol}
use Rattle.script_lex.specs.declared.token.Symbol.TheVariants as sign
use Rattle.script_grammar.specs.Tree.{Sort, Tree, Many, none, more}
use Rattle.script_grammar.specs.Spelling.{spell, each_after as behind_spelled, with_commas, token_if}
use Rattle.script_grammar.specs.Bare.{bare}
use Rattle.script_grammar.specs.Read.{Read, Reader, ◌>>=◌, made, both, next, expect, perhaps, repeat, many, behind, chain, closed}
use Rattle.script_grammar.specs.Kinds.{is_comma, is_assign}

-- The tree t is read, as pl t, from its spelling sp t, where en holds of what stands behind; over lists of fewer than n tokens.
pub record Reads {T : Type 0} (f : Reader T) (sp : T → List TokenKind) (pl : T → T) (en : List TokenKind → Type 0) (n : ℕ) : Type 0 where
  pub again : (t : T) (u : List TokenKind) → en u → length (sp t ++ u) < n → f (sp t ++ u) ≡ Ok (pl t, u)

abbrev pub Anything : List TokenKind → Type 0
Anything u = Unit {0}

abbrev pub same : {T : Type 0} → T → T
same t = t

pub lower : {T : Type 0} {f : Reader T} {sp : T → List TokenKind} {pl : T → T} {en : List TokenKind → Type 0} (m : ℕ) {n : ℕ} → Reads f sp pl en n → m ≤ n → Reads f sp pl en m
lower m {n = n} l le = record { again = λ t u e short. l.again t u e (omega arith) }

pub weaker : {T : Type 0} {f : Reader T} {sp : T → List TokenKind} {pl : T → T} {en : List TokenKind → Type 0} {n : ℕ} (en' : List TokenKind → Type 0) → ((u : List TokenKind) → en' u → en u) → Reads f sp pl en n → Reads f sp pl en' n
weaker en' h l = record { again = λ t u e short. l.again t u (h u e) short }

-- a tree made of what is read
pub lift : {A B : Type 0} {r : Read A} {x : A × List TokenKind} → r ≡ Ok x → (mk : A → B) → (r >>= made mk) ≡ Ok (mk x.0, x.1)
lift {A = A} e mk = ap (λ (r : Read A). r >>= made mk) e

-- ---- one after the other

abbrev pub pair_sp : {A B : Type 0} → (A → List TokenKind) → (B → List TokenKind) → A × B → List TokenKind
pair_sp spA spB x = spA x.0 ++ spB x.1

abbrev pub pair_pl : {A B : Type 0} → (A → A) → (B → B) → A × B → A × B
pair_pl plA plB x = (plA x.0, plB x.1)

pub both_reads : {A B : Type 0} {f : Reader A} {g : Reader B} {spA : A → List TokenKind} {spB : B → List TokenKind} {plA : A → A} {plB : B → B} {enA enB : List TokenKind → Type 0} {n : ℕ}
    → Reads f spA plA enA n → Reads g spB plB enB n → ((b : B) (u : List TokenKind) → enB u → enA (spB b ++ u)) → Reads (both f g) (pair_sp spA spB) (pair_pl plA plB) enB n
both_reads {f = f} {g = g} {spA = spA} {spB = spB} {plA = plA} {plB = plB} {n = n} lf lg follow = record {
  again = λ t u e short.
      let regroup : (spA t.0 ++ spB t.1) ++ u ≡ spA t.0 ++ (spB t.1 ++ u) = append_assoc (spA t.0) (spB t.1) u in
      let short' : length (spA t.0 ++ (spB t.1 ++ u)) < n = subst (λ (z : List TokenKind). length z < n) regroup short in
      let short'' : length (spB t.1 ++ u) < n = omega (arith, length-append (spA t.0) (spB t.1 ++ u)) in
      let first = lf.again t.0 (spB t.1 ++ u) (follow t.1 u e) short' in
      let second = lg.again t.1 u e short'' in
      rw regroup (rw (first, second) refl);
}

-- ---- one token

pub expect_is : (is : TokenKind → Bool) (k : TokenKind) (w : List TokenKind) → is k ≡ true → expect is (k ∷ w) ≡ Ok (tt, w)
expect_is is k w e = rw (e, expect) refl

pub expect_reads : {n : ℕ} (is : TokenKind → Bool) (k : TokenKind) → is k ≡ true → Reads (expect is) (λ (x : Unit {0}). k ∷ []) same Anything n
expect_reads is k e = record { again = λ t u any short. expect_is is k u e }

perhaps_again : (is : TokenKind → Bool) (k : TokenKind) → is k ≡ true → (b : Bool) (u : List TokenKind) → next is u ≡ false → perhaps is (token_if k b ++ u) ≡ Ok (b, u)
perhaps_again is k e true u h = rw (e, perhaps) refl
perhaps_again is k e false [] h = refl
perhaps_again is k e false (k' ∷ u) h = rw (h, perhaps) refl

pub perhaps_reads : {n : ℕ} (is : TokenKind → Bool) (k : TokenKind) → is k ≡ true → Reads (perhaps is) (token_if k) same (λ u. next is u ≡ false) n
perhaps_reads is k e = record { again = λ t u h short. perhaps_again is k e t u h }

-- ---- items as long as a test holds

module _ {s : Sort} (test : List TokenKind → Bool) (item : Reader (Tree s)) where
  repeat_true : (m : ℕ) (w : List TokenKind) → test w ≡ true → repeat test item (suc m) w ≡ (item w >>= λ x. repeat test item m x.1 >>= made (more x.0))
  unfolding repeat
  repeat_true m w e = rw (e, repeat) refl

  repeat_false : (m : ℕ) (w : List TokenKind) → test w ≡ false → repeat test item m w ≡ Ok (none, w)
  unfolding repeat
  repeat_false zero w e = refl
  repeat_false (suc m) w e = rw (e, repeat) refl

  module _ (sp : Tree s → List TokenKind) (en : List TokenKind → Type 0) (n : ℕ) (li : Reads item sp bare en n) (runs : Tree (Many s) → List TokenKind)
      (runs_none : runs none ≡ []) (runs_more : (t : Tree s) (ts : Tree (Many s)) → runs (more t ts) ≡ sp t ++ runs ts)
      (starts : (t : Tree s) (u : List TokenKind) → test (sp t ++ u) ≡ true) (follow : (t : Tree s) (u : List TokenKind) → en (sp t ++ u)) (long : (t : Tree s) → 0 < length (sp t)) where
    regroup : (t : Tree s) (ts : Tree (Many s)) (u : List TokenKind) → runs (more t ts) ++ u ≡ sp t ++ (runs ts ++ u)
    regroup t ts u = ap (λ (z : List TokenKind). z ++ u) (runs_more t ts) ∙ append_assoc (sp t) (runs ts) u

    behind_item : (ts : Tree (Many s)) (u : List TokenKind) → en u → en (runs ts ++ u)
    behind_item none u e = subst (λ (z : List TokenKind). en (z ++ u)) (sym runs_none) e
    behind_item (more t ts) u e = subst en (sym (regroup t ts u)) (follow t (runs ts ++ u))

    repeat_again : (m : ℕ) (ts : Tree (Many s)) (u : List TokenKind) → length (runs ts) ≤ m → en u → test u ≡ false → length (runs ts ++ u) < n → repeat test item m (runs ts ++ u) ≡ Ok (bare ts, u)
    repeat_again m none u le e h short = ap (λ (z : List TokenKind). repeat test item m (z ++ u)) runs_none ∙ repeat_false m u h
    repeat_again zero (more t ts) u le e h short =
        let size : length (runs (more t ts)) ≡ length (sp t ++ runs ts) = ap length (runs_more t ts) in
        absurd (omega (arith, long t, length-append (sp t) (runs ts)))
    repeat_again (suc m) (more t ts) u le e h short =
        let size : length (runs (more t ts)) ≡ length (sp t ++ runs ts) = ap length (runs_more t ts) in
        let fits : length (runs ts) ≤ m = omega (arith, long t, length-append (sp t) (runs ts)) in
        let short' : length (sp t ++ (runs ts ++ u)) < n = subst (λ (z : List TokenKind). length z < n) (regroup t ts u) short in
        let short'' : length (runs ts ++ u) < n = omega (arith, length-append (sp t) (runs ts ++ u)) in
        let first = li.again t (runs ts ++ u) (behind_item ts u e) short' in
        let second = repeat_again m ts u fits e h short'' in
        ap (λ (z : List TokenKind). repeat test item (suc m) z) (regroup t ts u) ∙ repeat_true m (sp t ++ (runs ts ++ u)) (starts t (runs ts ++ u)) ∙ rw (first, second) refl

    pub many_reads : Reads (many test item) runs bare (λ u. en u × (test u ≡ false)) n
    unfolding many
    many_reads = record { again = λ ts u e short. repeat_again (length (runs ts ++ u)) ts u (omega (arith, length-append (runs ts) u)) e.0 e.1 short }

-- ---- items with a token between

behind_again : {T : Type 0} (is : TokenKind → Bool) (k : TokenKind) (item : Reader T) (w : List TokenKind) → is k ≡ true → behind is item (k ∷ w) ≡ item w
unfolding behind
behind_again {T = T} is k item w e = ap (λ (r : Read (Unit {0})). r >>= λ x. item x.1) (expect_is is k w e)

module _ {s : Sort} (is : TokenKind → Bool) (k : TokenKind) (isk : is k ≡ true) (item : Reader (Tree s)) (en : List TokenKind → Type 0) (n : ℕ) (li : Reads item spell bare en n) (at_k : (u : List TokenKind) → en (k ∷ u)) where
  behind_reads : Reads (behind is item) (λ (t : Tree s). k ∷ spell t) bare en (suc n)
  behind_reads = record { again = λ t u e short. behind_again is k item (spell t ++ u) isk ∙ li.again t u e (omega arith) }

  others_reads : Reads (many (next is) (behind is item)) (λ (ts : Tree (Many s)). behind_spelled k ts) bare (λ u. en u × (next is u ≡ false)) (suc n)
  others_reads = many_reads (next is) (behind is item) (λ (t : Tree s). k ∷ spell t) en (suc n) behind_reads (λ (ts : Tree (Many s)). behind_spelled k ts) refl (λ t ts. refl) (λ t u. isk) (λ t u. at_k (spell t ++ u)) (λ t. omega arith)

  behind_first : (ts : Tree (Many s)) (u : List TokenKind) → en u → en (behind_spelled k ts ++ u)
  behind_first none u e = e
  behind_first (more t ts) u e = at_k ((spell t ++ behind_spelled k ts) ++ u)

  abbrev pub chain_sp : Tree s × Tree (Many s) → List TokenKind
  chain_sp x = spell x.0 ++ behind_spelled k x.1

  abbrev pub chain_pl : Tree s × Tree (Many s) → Tree s × Tree (Many s)
  chain_pl x = (bare x.0, bare x.1)

  pub chain_reads : Reads (chain is item) chain_sp chain_pl (λ u. en u × (next is u ≡ false)) n
  unfolding chain
  chain_reads = record { again = λ x u e short. (both_reads li (lower n others_reads (omega arith)) (λ ts u e. behind_first ts u e.0)).again x u e short }

-- ---- items with commas between, up to a bracket

module _ {s : Sort} (close : TokenKind → Bool) (k : TokenKind) (isk : close k ≡ true) (no_comma : is_comma k ≡ false) (no_assign : is_assign k ≡ false) (item : Reader (Tree s)) (en : List TokenKind → Type 0) (n : ℕ) (li : Reads item spell bare en n)
    (at_comma : (u : List TokenKind) → en (Symbol sign.Comma ∷ u)) (at_close : (u : List TokenKind) → en (k ∷ u)) (first : (t : Tree s) (u : List TokenKind) → next is_assign u ≡ false → next close (spell t ++ u) ≡ false) where
  abbrev pub closed_sp : Tree (Many s) → List TokenKind
  closed_sp ts = with_commas ts ++ (k ∷ [])

  parts_reads : Reads (both (chain is_comma item) (expect close)) (pair_sp (λ (x : Tree s × Tree (Many s)). spell x.0 ++ behind_spelled (Symbol sign.Comma) x.1) (λ (x : Unit {0}). k ∷ [])) (pair_pl (λ (x : Tree s × Tree (Many s)). (bare x.0, bare x.1)) same) Anything n
  parts_reads = both_reads (chain_reads is_comma (Symbol sign.Comma) refl item en n li at_comma) (expect_reads close k isk) (λ b u any. (at_close u, no_comma))

  closed_true : (w : List TokenKind) → next close w ≡ true → closed is_comma close item w ≡ (expect close w >>= λ x. Ok (none, x.1))
  unfolding closed
  closed_true w e = rw (e, closed) refl

  closed_none : (w : List TokenKind) → closed is_comma close item (k ∷ w) ≡ Ok (none, w)
  unfolding closed
  closed_none w = closed_true (k ∷ w) isk ∙ ap (λ (r : Read (Unit {0})). r >>= λ x. Ok (none {s = s}, x.1)) (expect_is close k w isk)

  closed_more : (w : List TokenKind) → next close w ≡ false → closed is_comma close item w ≡ (both (chain is_comma item) (expect close) w >>= made (λ x. more x.0.0 x.0.1))
  unfolding closed
  closed_more w e = rw (e, closed) refl

  others_no : (ts : Tree (Many s)) (u : List TokenKind) → next is_assign (behind_spelled (Symbol sign.Comma) ts ++ ((k ∷ []) ++ u)) ≡ false
  others_no none u = no_assign
  others_no (more t ts) u = refl

  begins : (t : Tree s) (ts : Tree (Many s)) (u : List TokenKind) → next close (closed_sp (more t ts) ++ u) ≡ false
  begins t ts u =
      let b = behind_spelled (Symbol sign.Comma) ts in
      let regroup : ((spell t ++ b) ++ (k ∷ [])) ++ u ≡ spell t ++ (b ++ ((k ∷ []) ++ u)) = append_assoc (spell t ++ b) (k ∷ []) u ∙ append_assoc (spell t) b ((k ∷ []) ++ u) in
      ap (next close) regroup ∙ first t (b ++ ((k ∷ []) ++ u)) (others_no ts u)

  closed_again : (ts : Tree (Many s)) (u : List TokenKind) → length (closed_sp ts ++ u) < n → closed is_comma close item (closed_sp ts ++ u) ≡ Ok (bare ts, u)
  closed_again none u short = closed_none u
  closed_again (more t ts) u short = closed_more (closed_sp (more t ts) ++ u) (begins t ts u) ∙ ap (λ (r : Read ((Tree s × Tree (Many s)) × Unit {0})). r >>= made (λ x. more x.0.0 x.0.1)) (parts_reads.again ((t, ts), tt) u tt short)

  pub closed_reads : Reads (closed is_comma close item) closed_sp bare Anything n
  closed_reads = record { again = λ ts u any short. closed_again ts u short }
