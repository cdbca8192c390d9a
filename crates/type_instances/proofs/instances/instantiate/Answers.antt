use Rattle.std.proofs.Common.{◌≡◌, ◌∙◌, sym, ap, refl, subst, ℕ, List, length, map}
use Rattle.type_terms.specs.Naming.{instance}
use Rattle.type_terms.specs.Term.{Term}
use Rattle.type_instances.specs.NewVariables.{AreNewTypes, AreNewKinds, open_terms}
use Rattle.type_instances.specs.Instances.{Grows}
use Rattle.type_instances.specs.Schemes.{IsSchemeOver, scheme_of}
use Rattle.type_instances.proofs.Instancing.{instantiates, open_terms_counted}
use Rattle.type_instances.proofs.NewTypes.{grows_both, grows_same}
use Rattle.type_instances.proofs.instances.instantiate.Goals as goal

pub new_types-requires : goal.new_types-requires
new_types-requires c =
    let o : IsSchemeOver c.spend.new.self (scheme_of c.args.general.now) = subst (λ s. IsSchemeOver s (scheme_of c.args.general.now)) (sym c.spend.ensures.same) c.requires.over in
    rw c.deref.ensures.value o.types

pub returns-in_err-spend-clause-grows : goal.returns-in_err-spend-clause-grows
returns-in_err-spend-clause-grows c = grows_same c.args.subst.now _ c.spend.ensures.same

pub returns-in_err-types-clause-grows : goal.returns-in_err-types-clause-grows
returns-in_err-types-clause-grows c = subst (λ s. Grows s c.new_types.new.subst) c.spend.ensures.same c.new_types.ensures.grows

pub returns-in_err-numbers-clause-grows : goal.returns-in_err-numbers-clause-grows
returns-in_err-numbers-clause-grows c = grows_both c.args.subst.now c.new_types.new.subst _ (subst (λ s. Grows s c.new_types.new.subst) c.spend.ensures.same c.new_types.ensures.grows) c.new_kinds.ensures.grows

pub returns-in_err-call-clause-grows : goal.returns-in_err-call-clause-grows
returns-in_err-call-clause-grows c = grows_both c.args.subst.now c.new_types.new.subst _ (subst (λ s. Grows s c.new_types.new.subst) c.spend.ensures.same c.new_types.ensures.grows) c.new_kinds.ensures.grows

pub returns-clause-grows : goal.returns-clause-grows
returns-clause-grows c = grows_both c.args.subst.now c.new_types.new.subst _ (subst (λ s. Grows s c.new_types.new.subst) c.spend.ensures.same c.new_types.ensures.grows) c.new_kinds.ensures.grows

renamed_is : (us ps ps' : List Term) (ns ns' ms ms' : List ℕ) → ps ≡ ps' → ns ≡ ns' → ms ≡ ms' → us ≡ map (instance ns ms) ps → us ≡ map (instance ns' ms') ps'
renamed_is us ps ps' ns ns' ms ms' e f g h = h ∙ ap (λ (xs : List ℕ). map (instance xs ms) ps) f ∙ ap (λ (xs : List ℕ). map (instance ns' xs) ps) g ∙ ap (map (instance ns' ms')) e

one_renamed_is : (u p : Term) (ns ns' ms ms' : List ℕ) → ns ≡ ns' → ms ≡ ms' → u ≡ instance ns ms p → u ≡ instance ns' ms' p
one_renamed_is u p ns ns' ms ms' f g h = h ∙ ap (λ (xs : List ℕ). instance xs ms p) f ∙ ap (λ (xs : List ℕ). instance ns' xs p) g

pub returns-clause-instance : goal.returns-clause-instance
returns-clause-instance c =
    let s = c.spend.new.self in
    let s1 = c.new_types.new.subst in
    let s2 = c.new_kinds.new.subst in
    let ns = c.in_ok-types.types.items in
    let ms = c.in_ok-numbers.numbers.items in
    let over : IsSchemeOver s (scheme_of c.args.general.now) = subst (λ t. IsSchemeOver t (scheme_of c.args.general.now)) (sym c.spend.ensures.same) c.requires.over in
    rw (← c.spend.ensures.same) (instantiates s s1 s2 (scheme_of c.args.general.now) ns ms over
    (subst (λ xs. AreNewTypes s s1 xs ns) c.deref.ensures.value c.in_ok-types.ensures.new)
    (subst (λ xs. AreNewKinds s1 s2 xs ms) c.deref-2.ensures.value c.in_ok-numbers.ensures.new)
    _ _ _
    (renamed_is _ _ _ _ _ _ _ refl c.deref-3.ensures.value c.deref-4.ensures.value c.in_ok-call.ensures.params)
    (one_renamed_is _ _ _ _ _ _ c.deref-3.ensures.value c.deref-4.ensures.value c.in_ok-call.ensures.call)
    (c.in_ok-call.ensures.kinds ∙ ap (open_terms c.args.general.now.kinds.items) c.deref-4.ensures.value))

pub returns-clause-counted : goal.returns-clause-counted
returns-clause-counted c =
    let ps = c.args.general.now.kinds.items in
    let ms = c.in_ok-numbers.numbers.items in
    let new : AreNewKinds c.new_types.new.subst c.new_kinds.new.subst ps ms = subst (λ xs. AreNewKinds c.new_types.new.subst c.new_kinds.new.subst xs ms) c.deref-2.ensures.value c.in_ok-numbers.ensures.new in
    ap length (c.in_ok-call.ensures.kinds ∙ ap (open_terms ps) c.deref-4.ensures.value) ∙ open_terms_counted ps ms 0 new.many
