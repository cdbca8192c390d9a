-- Variables of types that stand side by side, and their new numbers.
use Rattle.std.proofs.Common.{◌≡◌, ◌∙◌, sym, ap, ap₂, refl, ℕ, ◌+◌, ◌<◌, map, take, List, [], ◌∷◌, ◌++◌, length, get_or, append_assoc, append-nil, Result, Ok, Err, IfOk}
use Rattle.type_terms.specs.Ground.{Assignment, list, tuple, source, and_more}
use Rattle.type_terms.specs.Naming.{type_variables, all_type_variables, kind_variables, all_kind_variables, kind_instance, instance, instances, behind}
use Rattle.type_terms.specs.Term.{Term, Terms, base_term, list_term, tuple_term, source_term, variable, no_terms, one_more, meaning, meanings, kind_meaning, term_of, terms_of}
use Rattle.type_terms.specs.declared.ty.KindTerm.{KindTerm}
use Rattle.type_terms.specs.declared.ty.KindTerm.TheVariants.{Fixed, Var}
use Rattle.type_terms.specs.declared.ty.Ty.{Ty}
use Rattle.liq_base.specs.declared.memory.Memory.{Memory}
use Rattle.type_terms.proofs.Parts.{map_take_next}

-- what f finds in each of the terms
abbrev pub gathered : (Term → List ℕ) → List Term → List ℕ
gathered f [] = []
gathered f (t ∷ ts) = f t ++ gathered f ts

gathered_last : (f : Term → List ℕ) (ts : List Term) (t : Term) → gathered f (ts ++ (t ∷ [])) ≡ gathered f ts ++ f t
gathered_last f [] t = append-nil (f t)
gathered_last f (u ∷ ts) t = ap (λ ns. f u ++ ns) (gathered_last f ts t) ∙ sym (append_assoc (f u) (gathered f ts) (f t))

pub gathered_types : (ts : List Term) → gathered type_variables ts ≡ all_type_variables (terms_of ts)
gathered_types [] = refl
gathered_types (t ∷ ts) = ap (λ ns. type_variables t ++ ns) (gathered_types ts)

pub gathered_kinds : (ts : List Term) → gathered kind_variables ts ≡ all_kind_variables (terms_of ts)
gathered_kinds [] = refl
gathered_kinds (t ∷ ts) = ap (λ ns. kind_variables t ++ ns) (gathered_kinds ts)

-- one part more is gathered
pub next_gathered : (f : Term → List ℕ) (base now new : List ℕ) (ps : List Ty) (i : ℕ) (p : Ty) → i < length ps → p ≡ get_or ps i p → now ≡ base ++ gathered f (map term_of (take i ps)) → new ≡ now ++ f (term_of p) → new ≡ base ++ gathered f (map term_of (take (i + 1) ps))
next_gathered f base now new ps i p h e before here =
    here ∙ ap (λ ns. ns ++ f (term_of p)) before
    ∙ append_assoc base (gathered f (map term_of (take i ps))) (f (term_of p))
    ∙ ap (λ ns. base ++ ns)
    (sym (gathered_last f (map term_of (take i ps)) (term_of p))
    ∙ ap (λ q. gathered f (map term_of (take i ps) ++ (term_of q ∷ []))) e
    ∙ ap (gathered f) (sym (map_take_next ps i p h)))

map_last : (ps : List Ty) (p : Ty) → map term_of (ps ++ (p ∷ [])) ≡ map term_of ps ++ (term_of p ∷ [])
map_last [] p = refl
map_last (q ∷ ps) p = ap (λ xs. term_of q ∷ xs) (map_last ps p)

map_instance_last : (f : Term → Term) (ts : List Term) (t : Term) → map f (ts ++ (t ∷ [])) ≡ map f ts ++ (f t ∷ [])
map_instance_last f [] t = refl
map_instance_last f (u ∷ ts) t = ap (λ xs. f u ∷ xs) (map_instance_last f ts t)

-- one part more is renamed
pub next_renamed : (f : Term → Term) (now new : List Ty) (ps : List Ty) (i : ℕ) (p q : Ty) → i < length ps → p ≡ get_or ps i p → new ≡ now ++ (q ∷ []) → map term_of now ≡ map f (map term_of (take i ps)) → term_of q ≡ f (term_of p) → map term_of new ≡ map f (map term_of (take (i + 1) ps))
next_renamed f now new ps i p q h e pushed before here =
    ap (map term_of) pushed ∙ map_last now q
    ∙ ap₂ (λ xs x. xs ++ (x ∷ [])) before (here ∙ ap (λ r. f (term_of r)) e)
    ∙ sym (map_instance_last f (map term_of (take i ps)) (term_of (get_or ps i p)))
    ∙ ap (map f) (sym (map_take_next ps i p h))

pub instances_map : (types kinds : List ℕ) (ts : List Term) → terms_of (map (instance types kinds) ts) ≡ instances types kinds (terms_of ts)
instances_map types kinds [] = refl
instances_map types kinds (t ∷ ts) = ap (one_more (instance types kinds t)) (instances_map types kinds ts)

-- what an instance means

kind_instance_meaning : (types kinds : List ℕ) (a : Assignment) (k : KindTerm) → kind_meaning a (kind_instance kinds k) ≡ kind_meaning (behind types kinds a) k
kind_instance_meaning types kinds a (Fixed k) = refl
kind_instance_meaning types kinds a (Var n) = refl

mutual
  pub instance_meaning : (types kinds : List ℕ) (a : Assignment) (t : Term) → meaning a (instance types kinds t) ≡ meaning (behind types kinds a) t
  instance_meaning types kinds a (base_term b) = refl
  instance_meaning types kinds a (list_term t) = ap list (instance_meaning types kinds a t)
  instance_meaning types kinds a (tuple_term ts) = ap tuple (instances_meaning types kinds a ts)
  instance_meaning types kinds a (source_term k) = ap source (kind_instance_meaning types kinds a k)
  instance_meaning types kinds a (variable n) = refl

  instances_meaning : (types kinds : List ℕ) (a : Assignment) (ts : Terms) → meanings a (instances types kinds ts) ≡ meanings (behind types kinds a) ts
  instances_meaning types kinds a no_terms = refl
  instances_meaning types kinds a (one_more t ts) = ap₂ and_more (instance_meaning types kinds a t) (instances_meaning types kinds a ts)

pub means_behind : (types kinds : List ℕ) (t : Term) (r : Result Ty Memory) → IfOk r (λ u. term_of u ≡ instance types kinds t) → IfOk r (λ u. (a : Assignment) → meaning a (term_of u) ≡ meaning (behind types kinds a) t)
means_behind types kinds t (Ok u) h = λ a. ap (meaning a) h ∙ instance_meaning types kinds a t
means_behind types kinds t (Err e) h = tt

-- with no new numbers a type is as it was

kind_kept : (k : KindTerm) → kind_instance [] k ≡ k
kind_kept (Fixed k) = refl
kind_kept (Var n) = refl

mutual
  pub kept : (t : Term) → instance [] [] t ≡ t
  kept (base_term b) = refl
  kept (list_term t) = ap list_term (kept t)
  kept (tuple_term ts) = ap tuple_term (all_kept ts)
  kept (source_term k) = ap source_term (kind_kept k)
  kept (variable n) = refl

  all_kept : (ts : Terms) → instances [] [] ts ≡ ts
  all_kept no_terms = refl
  all_kept (one_more t ts) = ap₂ one_more (kept t) (all_kept ts)
