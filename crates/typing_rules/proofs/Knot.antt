-- How evaluation's bound on running calls meets the typing of calls: by induction on how many more may run. `kept_by_calls` shows that the laws of calls suffice for any fact that evaluation keeps; it speaks of all facts, and so no clause can say it.
use Rattle.std.proofs.Common.{◌≡◌, ◌⊎◌, inl, inr, sym, subst, ℕ, zero, suc, List, [], ◌∷◌, Some}
use Rattle.liq_base.specs.declared.memory.Kind.{Kind}
use Rattle.script_grammar.specs.Placed.{IsPlaced}
use Rattle.script_grammar.specs.Tree.{Tree, ADef, Script}
use Rattle.type_terms.specs.Ground.{Ground}
use Rattle.typing_rules.specs.declared.uses.Use.{Use}
use Rattle.typing_rules.specs.Arguments.{GivenArgument, Matched}
use Rattle.typing_rules.specs.Typing.{DefHas}
use Rattle.typing_rules.specs.Scripts.{Entry, IsTypedTo, Places, Targets, calls_behind, def_token, params_of, sight}
use Rattle.typing_rules.specs.Kinds.{Stands, around, read, target_at}
use Rattle.typing_rules.specs.Defs.{AreDefsOf, IsDefOf, LeadsInto, def_at}
use Rattle.typing_rules.proofs.Finds.{found, leads, stands_def}

stands_on : (es : List Entry) (d : Tree ADef) (before : List Entry) (e : Tree ADef) (earlier : List Entry) → Stands es d before → Stands before e earlier → Stands es e earlier
stands_on [] d before e earlier h k = absurd h
stands_on (x ∷ es) d before e earlier (inl h) k = inr (subst (λ xs. Stands xs e earlier) (sym h.1) k)
stands_on (x ∷ es) d before e earlier (inr h) k = inr (stands_on es d before e earlier h k)

pub leads_into : (script : Script) (ts : Targets) (kinds : Places) (es : List Entry) (chain : List ℕ) (at t : ℕ) (gs : List (GivenArgument Ground)) (g : Ground) → IsPlaced 0 script → AreDefsOf script es → calls_behind ts kinds es chain at t gs g → LeadsInto script ts kinds es chain at t gs g
leads_into script ts kinds es chain at t gs g placed defs c =
    let l = leads ts kinds es chain at t gs g c in
    record { call = l; found = found 0 script l.def placed (defs l.def l.before l.stands); inside = λ d b s. defs d b (stands_on es l.def l.before d b l.stands s) }

pub defs_of_script : (script : Script) (ts : Targets) (kinds : Places) (es : List Entry) → IsTypedTo ts kinds [] script es → AreDefsOf script es
defs_of_script script ts kinds es typed d before s = in_script (stands_def ts kinds script [] es d before typed s) where
  in_script : Stands [] d before ⊎ IsDefOf script d → IsDefOf script d
  in_script (inl f) = absurd f
  in_script (inr e) = e

-- A fact of calls, of how many more may run, the def, its kinds, the arguments and the result; and of the entries that a text sees.
pub record IsKept (script : Script) (uses : List Use) (Seen : List Entry → Type 0) (Good : ℕ → ℕ → List Kind → List (GivenArgument Ground) → Ground → Type 0) : Type 0 where
  pub fewer : (es : List Entry) (d : Tree ADef) (before : List Entry) → Stands es d before → Seen es → Seen before
  pub none_left : (t : ℕ) (ks : List Kind) (gs : List (GivenArgument Ground)) (g : Ground) → Good 0 t ks gs g
  pub one_more : (n : ℕ) (d : Tree ADef) (before : List Entry) (chain : List ℕ) (ks : List Kind) (gs : List (GivenArgument Ground)) (us : List Ground) (g : Ground) →
      def_at (def_token d) script ≡ Some d → Seen before → around [] uses chain ≡ Some ks → Matched (params_of d) gs us →
      DefHas (sight (target_at uses) (read [] uses) before chain) d us g →
      ((at t : ℕ) (js : List Kind) (hs : List (GivenArgument Ground)) (h : Ground) → read [] uses chain at ≡ Some js → calls_behind (target_at uses) (read [] uses) before chain at t hs h → Good n t js hs h) →
      Good (suc n) (def_token d) ks gs g

pub kept_from : (script : Script) (uses : List Use) (Seen : List Entry → Type 0) (Good : ℕ → ℕ → List Kind → List (GivenArgument Ground) → Ground → Type 0) → IsKept script uses Seen Good → IsPlaced 0 script →
    (n : ℕ) (es : List Entry) → ((d : Tree ADef) (before : List Entry) → Stands es d before → IsDefOf script d) → Seen es →
    (chain : List ℕ) (at t : ℕ) (ks : List Kind) (gs : List (GivenArgument Ground)) (g : Ground) → read [] uses chain at ≡ Some ks → calls_behind (target_at uses) (read [] uses) es chain at t gs g → Good n t ks gs g
kept_from script uses Seen Good kept placed zero es defs seen chain at t ks gs g h c = kept.none_left t ks gs g
kept_from script uses Seen Good kept placed (suc n) es defs seen chain at t ks gs g h c =
    let l = leads (target_at uses) (read [] uses) es chain at t gs g c in
    let fewer = kept.fewer es l.def l.before l.stands seen in
    let there = found 0 script l.def placed (defs l.def l.before l.stands) in
    subst (λ x. Good (suc n) x ks gs g) l.token
    (kept.one_more n l.def l.before (at ∷ chain) ks gs l.types g there fewer h l.matched l.has
    (λ at' t' js hs k r c'. kept_from script uses Seen Good kept placed n l.before (λ d b s. defs d b (stands_on es l.def l.before d b l.stands s)) fewer (at ∷ chain) at' t' js hs k r c'))

-- each call of a typed script's statements keeps it
pub kept_by_calls : (script : Script) (uses : List Use) (Seen : List Entry → Type 0) (Good : ℕ → ℕ → List Kind → List (GivenArgument Ground) → Ground → Type 0) → IsKept script uses Seen Good → IsPlaced 0 script →
    (es : List Entry) → IsTypedTo (target_at uses) (read [] uses) [] script es → Seen es →
    (n at t : ℕ) (ks : List Kind) (gs : List (GivenArgument Ground)) (g : Ground) → read [] uses [] at ≡ Some ks → calls_behind (target_at uses) (read [] uses) es [] at t gs g → Good n t ks gs g
kept_by_calls script uses Seen Good kept placed es typed seen n at t ks gs g h c =
    kept_from script uses Seen Good kept placed n es (λ d before s. in_script d before (stands_def (target_at uses) (read [] uses) script [] es d before typed s)) seen [] at t ks gs g h c where
      in_script : (d : Tree ADef) (before : List Entry) → Stands [] d before ⊎ IsDefOf script d → IsDefOf script d
      in_script d before (inl f) = absurd f
      in_script d before (inr e) = e
