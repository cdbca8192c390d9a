-- What the loops over the parts of a tree keep.
use Rattle.std.proofs.Common.{◌≡◌, ◌<◌, ◌+◌, ◌++◌, sym, subst, ℕ, List, [], ◌∷◌, length, map, take, get_or}
use Rattle.script_grammar.specs.Tree.{Sort, Tree, Many, AFull, AnArg, more, none}
use Rattle.script_grammar.specs.View.{listed, view_arg, view_full}
use Rattle.script_grammar.specs.declared.tree.Arg as arg
use Rattle.script_grammar.specs.declared.tree.Full.{Full}
use Rattle.typing_rules.specs.Arguments.{GivenArgument}
use Rattle.type_terms.specs.Table.{Table}
use Rattle.type_terms.specs.Term.{terms_of, variable}
use Rattle.type_steps.specs.Environment.{Found, AreUsesOver, IsEnvOver}
use Rattle.type_steps.specs.Flow.{Infers, InfersAll, InfersEach, InfersGiven}
use Rattle.type_steps.proofs.Ends.{args_next, fulls_next, joins_next}
use Rattle.type_steps.proofs.Forms.{each_none}
use Rattle.type_steps.proofs.Parts.{all_none, given_none}
use Rattle.expression_types.specs.Seen.{env_of}
use Rattle.expression_types.specs.declared.environment.Names.{Names}
use Rattle.expression_types.specs.Order.{AreAdded, tokens_used}
use Rattle.expression_types.proofs.Adding.{next_added, none_added}

-- these parts have one type
pub record JoinedSo (s s' : Table) (ns : Names) {r : Sort} (es : Tree (Many r)) (n : ℕ) (old new : List Found) : Type 0 where
  pub typed : InfersEach s s' (env_of ns) es (variable n) old new
  pub order : AreAdded ns (tokens_used es) old new

pub none_joined : {r : Sort} (s : Table) (ns : Names) (n : ℕ) (fs : List Found) → AreUsesOver s fs → JoinedSo s s ns {r = r} none n fs fs
none_joined s ns n fs o = record { typed = each_none s (env_of ns) (variable n) fs o; order = none_added ns fs }

pub next_joined : {A : Type 0} {r : Sort} (view : A → Tree r) (xs : List A) (i : ℕ) (x : A) → i < length xs → x ≡ get_or xs i x → (s s1 s2 : Table) (ns : Names) (n : ℕ) (old mid new : List Found) → IsEnvOver s (env_of ns) → n < length s.types →
    JoinedSo s s1 ns (listed (map view (take i xs))) n old mid → InfersEach s1 s2 (env_of ns) (more (view x) none) (variable n) mid new → AreAdded ns (tokens_used (view x)) mid new → JoinedSo s s2 ns (listed (map view (take (i + 1) xs))) n old new
next_joined view xs i x lt is s s1 s2 ns n old mid new o over f g h = record {
  typed = joins_next view xs i x lt is s s1 (env_of ns) n old mid o over f.typed s2 new g;
  order = next_added view xs i x lt is ns old mid new f.order h;
}

-- these parts have these types
pub record TypedSo (s s' : Table) (ns : Names) (es : Tree (Many AFull)) (vars : List ℕ) (old new : List Found) : Type 0 where
  pub typed : InfersAll s s' (env_of ns) es (terms_of (map variable vars)) old new
  pub order : AreAdded ns (tokens_used es) old new

pub none_typed : (s : Table) (ns : Names) (vars : List ℕ) (fs : List Found) → vars ≡ [] → AreUsesOver s fs → TypedSo s s ns none vars fs fs
none_typed s ns vars fs is o = subst (λ (vs : List ℕ). TypedSo s s ns none vs fs fs) (sym is) (record { typed = all_none s (env_of ns) fs o; order = none_added ns fs })

pub next_typed : (xs : List Full) (i : ℕ) (x : Full) → i < length xs → x ≡ get_or xs i x → (s s1 s2 : Table) (ns : Names) (vars more_vars : List ℕ) (n : ℕ) (old mid new : List Found) → IsEnvOver s (env_of ns) → more_vars ≡ vars ++ n ∷ [] →
    TypedSo s s1 ns (listed (map view_full (take i xs))) vars old mid → Infers s1 s2 (env_of ns) (view_full x) (variable n) mid new → AreAdded ns (tokens_used (view_full x)) mid new → TypedSo s s2 ns (listed (map view_full (take (i + 1) xs))) more_vars old new
next_typed xs i x lt is s s1 s2 ns vars more_vars n old mid new o grown f g h = subst (λ (vs : List ℕ). TypedSo s s2 ns (listed (map view_full (take (i + 1) xs))) vs old new) (sym grown) (record {
  typed = fulls_next xs i x lt is s s1 (env_of ns) vars old mid o f.typed s2 n new g;
  order = next_added view_full xs i x lt is ns old mid new f.order h;
})

-- these arguments have these labels and types
pub record GivenSo (s s' : Table) (ns : Names) (es : Tree (Many AnArg)) (gs : List (GivenArgument ℕ)) (old new : List Found) : Type 0 where
  pub typed : InfersGiven s s' (env_of ns) es gs old new
  pub order : AreAdded ns (tokens_used es) old new

pub none_given : (s : Table) (ns : Names) (gs : List (GivenArgument ℕ)) (fs : List Found) → gs ≡ [] → AreUsesOver s fs → GivenSo s s ns none gs fs fs
none_given s ns gs fs is o = subst (λ (hs : List (GivenArgument ℕ)). GivenSo s s ns none hs fs fs) (sym is) (record { typed = given_none s (env_of ns) fs o; order = none_added ns fs })

pub next_given : (xs : List arg.Arg) (i : ℕ) (x : arg.Arg) → i < length xs → x ≡ get_or xs i x → (s s1 s2 : Table) (ns : Names) (gs hs : List (GivenArgument ℕ)) (n : ℕ) (old mid new : List Found) → IsEnvOver s (env_of ns) → hs ≡ gs ++ (x.label, n) ∷ [] →
    GivenSo s s1 ns (listed (map view_arg (take i xs))) gs old mid → Infers s1 s2 (env_of ns) (view_full x.value) (variable n) mid new → AreAdded ns (tokens_used (view_full x.value)) mid new → GivenSo s s2 ns (listed (map view_arg (take (i + 1) xs))) hs old new
next_given xs i x lt is s s1 s2 ns gs hs n old mid new o grown f g h = record {
  typed = args_next xs i x lt is s s1 (env_of ns) gs old mid o f.typed s2 n new hs grown g;
  order = next_added view_arg xs i x lt is ns old mid new f.order h;
}
