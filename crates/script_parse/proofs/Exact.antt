-- What reading a script says of all scripts: the place of a fault is the least.
use Rattle.std.proofs.Common.{◌≡◌, ℕ, ◌+◌, ◌-◌, ◌<◌, ◌≤◌, List, [], ◌∷◌, ◌++◌, length, take, drop, inl, inr, Ok, Err, refl, sym, ap, subst, ◌∙◌, append_assoc, arith}
use Rattle.std.proofs.lemmas.List.{length-append, append-nil, take_at, take-append-drop, length-take-le, take-take}
use Rattle.std.proofs.lemmas.Bool.{cases_lt}
use Rattle.script_lex.specs.declared.token.TokenKind.{TokenKind}
use Rattle.script_grammar.specs.Tree.{Script}
use Rattle.script_grammar.specs.Spelling.{spelling}
use Rattle.script_grammar.specs.Bare.{bare}
use Rattle.script_grammar.specs.Kinds.{is_any}
use Rattle.script_grammar.specs.Read.{next, many}
use Rattle.script_grammar.specs.ReadScript.{no_place, stmt, script}
use Rattle.script_grammar.specs.Stops.{Begun}
use Rattle.script_grammar.specs.Steady.{peek}
use Rattle.script_parse.specs.Places.{Begins, IsSyntaxPlace}

-- ---- what is known of reading: three laws of the crates below

abbrev pub Again : Type 0
Again = (s : Script) → script no_place (spelling s) ≡ Ok (bare s, [])

abbrev pub Stops : Type 0
Stops = (stamp : ℕ → ℕ) (w : List TokenKind) (k : ℕ) → script stamp w ≡ Err k → Begun spelling w k

abbrev pub Steady : Type 0
Steady = (stamp : ℕ → ℕ) (before after v : List TokenKind) → script stamp (before ++ after) ≡ Err (length after) → peek v ≡ peek after → script no_place (before ++ v) ≡ Err (length v)

-- a script is as many statements as there are
pub script_is : (stamp : ℕ → ℕ) (w : List TokenKind) → script stamp w ≡ many (next is_any) (stmt stamp) w
unfolding script
script_is stamp w = refl

-- ---- the place of a fault

past : (before after w : List TokenKind) (p : ℕ) → w ≡ before ++ after → p ≡ length before → p < length w → (x : TokenKind) × (rest : List TokenKind) × (after ≡ x ∷ rest) × (take (p + 1) w ≡ before ++ x ∷ [])
past before [] w p e q lt = absurd (omega (arith, ap length e, length-append before []))
past before (x ∷ rest) w p e q lt =
    let whole : w ≡ (before ++ x ∷ []) ++ rest = e ∙ sym (append_assoc before (x ∷ []) rest) in
    let long : length (before ++ x ∷ []) ≡ p + 1 = omega (arith, length-append before (x ∷ [])) in
    (x, rest, refl, ap (take (p + 1)) whole ∙ take_at (before ++ x ∷ []) rest (p + 1) long)

module _ (again : Again) (stops : Stops) (steady : Steady) where
  no_spelling : (stamp : ℕ → ℕ) (w : List TokenKind) (k : ℕ) (s : Script) (v : List TokenKind) (b : Begun spelling w k) → script stamp w ≡ Err k → spelling s ≡ b.before ++ v → peek v ≡ peek b.after → ⊥
  no_spelling stamp w k s v b is e same =
      let there : script stamp (b.before ++ b.after) ≡ Err (length b.after) = ap (script stamp) (sym b.parts) ∙ is ∙ ap (λ (i : ℕ). Err i) b.left in
      let bad : script no_place (spelling s) ≡ Err (length v) = ap (script no_place) e ∙ steady stamp b.before b.after v there same in
      let good = again s in
      absurd cc

  no_front : (stamp : ℕ → ℕ) (w : List TokenKind) (k : ℕ) → script stamp w ≡ Err k → length w - k < length w → Begins (take (length w - k + 1) w) → ⊥
  no_front stamp w k is lt front =
      let b = stops stamp w k is in
      let size : length w ≡ length b.before + k = omega (arith, ap length b.parts, length-append b.before b.after, b.left) in
      let next = past b.before b.after w (length w - k) b.parts (omega arith) lt in
      let e : spelling front.0 ≡ b.before ++ (next.0 ∷ front.1) = front.2 ∙ ap (λ (z : List TokenKind). z ++ front.1) next.3 ∙ append_assoc b.before (next.0 ∷ []) front.1 in
      no_spelling stamp w k front.0 (next.0 ∷ front.1) b is e (sym (ap peek next.2))

  pub fault : (stamp : ℕ → ℕ) (w : List TokenKind) (k : ℕ) → script stamp w ≡ Err k → (k ≤ length w) × IsSyntaxPlace w (length w - k)
  fault stamp w k is =
      let b = stops stamp w k is in
      let size : length w ≡ length b.before + k = omega (arith, ap length b.parts, length-append b.before b.after, b.left) in
      let place : length w - k ≡ length b.before = omega arith in
      let front : take (length w - k) w ≡ b.before = ap (λ (i : ℕ). take i w) place ∙ ap (take (length b.before)) b.parts ∙ take_at b.before b.after (length b.before) refl in (
        omega arith,
        record {
          within = omega arith;
          begun = (b.tree, b.others, b.begins ∙ ap (λ (z : List TokenKind). z ++ b.others) (sym front));
          no_more = no_front stamp w k is;
          no_script = λ s e. no_spelling stamp w k s b.after b is (e ∙ b.parts) refl;
        },
      )

-- ---- places in a front of the tokens

pub begins_all : (s : Script) (w : List TokenKind) → spelling s ≡ w → Begins w
begins_all s w e = (s, [], e ∙ sym (append-nil w))

-- a place in the front of a list is one in the whole list
pub place_in_front : (n : ℕ) (w : List TokenKind) (k : ℕ) → k < n → n ≤ length w → IsSyntaxPlace (take n w) k → IsSyntaxPlace w k
place_in_front n w k lt le p =
    let size : length (take n w) ≡ n = length-take-le n w le in
    let below : take k (take n w) ≡ take k w = take-take k n w (omega arith) in
    let upto : take (k + 1) (take n w) ≡ take (k + 1) w = take-take (k + 1) n w (omega arith) in
    record {
      within = omega arith;
      begun = subst Begins below p.begun;
      no_more = λ short front. p.no_more (omega arith) (subst Begins (sym upto) front);
      no_script = λ s e. p.no_more (omega arith) (subst Begins (sym upto) (s, drop (k + 1) w, e ∙ sym (take-append-drop (k + 1) w)));
    }

-- where the front of n tokens begins a script, no fault stands in it
pub no_place_in_front : (n : ℕ) (w : List TokenKind) → n ≤ length w → Begins (take n w) → (k : ℕ) → IsSyntaxPlace w k → n ≤ k
no_place_in_front n w le front k p =
    elim (cases_lt k n) [
      | inl lt ↦
          let e : take n w ≡ take (k + 1) w ++ drop (k + 1) (take n w) = sym (take-append-drop (k + 1) (take n w)) ∙ ap (λ (z : List TokenKind). z ++ drop (k + 1) (take n w)) (take-take (k + 1) n w (omega arith)) in
          absurd (p.no_more (omega arith) (front.0, drop (k + 1) (take n w) ++ front.1, front.2 ∙ ap (λ (z : List TokenKind). z ++ front.1) e ∙ append_assoc (take (k + 1) w) (drop (k + 1) (take n w)) front.1))
      | inr le' ↦ le'
    ]

-- a front that is no syntax place before its end begins a script
pub front_begins : (n : ℕ) (w : List TokenKind) (k : ℕ) → n ≤ length w → n ≤ k → IsSyntaxPlace (take n w) k → Begins (take n w)
front_begins n w k le le' p =
    let size : length (take n w) ≡ n = length-take-le n w le in
    let within : k ≤ length (take n w) = p.within in
    let same : take k (take n w) ≡ take n w = ap (λ (i : ℕ). take i (take n w)) (omega arith) ∙ take-take n n w (omega arith) in
    subst Begins same p.begun
