-- One type more of a list.
use Rattle.std.proofs.Common.{◌≡◌, ◌∙◌, sym, ap, ap₂, subst, refl, ℕ, ◌+◌, ◌<◌, ◌≤◌, List, [], ◌∷◌, ◌++◌, length, map, take, take_all, get_or, Some, arith}
use Rattle.std.specs.List.{flat_map}
use Rattle.type_terms.specs.Ground.{Ground, Assignment}
use Rattle.type_terms.specs.Resolved.{IsUnbound}
use Rattle.type_terms.specs.Table.{Table, Solves}
use Rattle.type_terms.specs.Term.{Term, meaning, term_of, terms_of, source_term}
use Rattle.type_terms.specs.declared.ty.KindTerm.{KindTerm}
use Rattle.type_terms.specs.declared.ty.Ty.{Ty}
use Rattle.type_terms.specs.declared.ty.Ty.TheVariants as ty
use Rattle.type_terms.proofs.Parts.{map_take_next}
use Rattle.type_terms.proofs.Views.{term_Source}
use Rattle.typing_rules.specs.Kinds.{numbered_on}
use Rattle.type_instances.proofs.Pushing.{next_pushed}
use Rattle.general_types.specs.Numbering.{AreNumbered, AreSettled, IsFront, IsNumbered, place_of}
use Rattle.general_types.specs.Texts.{AreOpened, DefTerms, OpenMore, OpensOne, OpensDef}
use Rattle.general_types.proofs.Places.{below_front, front_both, insides_later, insides_push, map_later, numbered_more}

next_taken : (ps : List Ty) (i : ℕ) (p : Ty) → i < length ps → p ≡ get_or ps i p → map term_of (take (i + 1) ps) ≡ map term_of (take i ps) ++ (term_of p ∷ [])
next_taken ps i p l e = map_take_next ps i p l ∙ ap (λ (x : Ty). map term_of (take i ps) ++ (term_of x ∷ [])) (sym e)

-- ---- settled types

mean_push : (a : Assignment) (us : List Term) (u : Term) → map (meaning a) (us ++ (u ∷ [])) ≡ map (meaning a) us ++ (meaning a u ∷ [])
mean_push a [] u = refl
mean_push a (v ∷ us) u = ap (λ (xs : List Ground). meaning a v ∷ xs) (mean_push a us u)

settled_more : (s : Table) (xs us : List Term) (t u : Term) → AreSettled s xs us → IsUnbound s u → ((a : Assignment) → Solves a s → meaning a u ≡ meaning a t) → AreSettled s (xs ++ (t ∷ [])) (us ++ (u ∷ []))
settled_more s xs us t u h unbound same = record {
  unbound = insides_push _ _ us u h.unbound unbound;
  same = λ a m. mean_push a us u ∙ ap₂ (λ (gs : List Ground) (g : Ground). gs ++ (g ∷ [])) (h.same a m) (same a m) ∙ sym (mean_push a xs t);
}

pub settled_next : (s : Table) (ps qs qs' : List Ty) (i : ℕ) (p q : Ty) → i < length ps → p ≡ get_or ps i p → qs' ≡ qs ++ (q ∷ []) → AreSettled s (map term_of (take i ps)) (map term_of qs) → IsUnbound s (term_of q) → ((a : Assignment) → Solves a s → meaning a (term_of q) ≡ meaning a (term_of p)) → AreSettled s (map term_of (take (i + 1) ps)) (map term_of qs')
settled_next s ps qs qs' i p q l e pushed h unbound same =
    subst (λ xs. AreSettled s xs (map term_of qs')) (sym (next_taken ps i p l e)) (subst (λ us. AreSettled s (map term_of (take i ps) ++ (term_of p ∷ [])) us) (sym (next_pushed qs qs' q pushed)) (settled_more s _ _ _ _ h unbound same))

pub settled_all : (s : Table) (ps : List Ty) (us : List Term) (i : ℕ) → length ps ≤ i → AreSettled s (map term_of (take i ps)) us → AreSettled s (map term_of ps) us
settled_all s ps us i l h = subst (λ xs. AreSettled s (map term_of xs) us) (take_all i ps l) h

-- ---- numbered types

pub numbered_next : (ts ks ts1 ks1 ts2 ks2 : List ℕ) (ps qs qs' : List Ty) (i : ℕ) (p q : Ty) → i < length ps → p ≡ get_or ps i p → qs' ≡ qs ++ (q ∷ []) → AreNumbered ts ks ts1 ks1 (map term_of (take i ps)) (map term_of qs) → IsNumbered ts1 ks1 ts2 ks2 (term_of p) (term_of q) → AreNumbered ts ks ts2 ks2 (map term_of (take (i + 1) ps)) (map term_of qs')
numbered_next ts ks ts1 ks1 ts2 ks2 ps qs qs' i p q l e pushed h r =
    subst (λ xs. AreNumbered ts ks ts2 ks2 xs (map term_of qs')) (sym (next_taken ps i p l e)) (subst (λ us. AreNumbered ts ks ts2 ks2 (map term_of (take i ps) ++ (term_of p ∷ [])) us) (sym (next_pushed qs qs' q pushed)) (numbered_more ts ks ts1 ks1 ts2 ks2 _ _ _ _ h r))

pub numbered_all : (ts ks ts' ks' : List ℕ) (ps : List Ty) (us : List Term) (i : ℕ) → length ps ≤ i → AreNumbered ts ks ts' ks' (map term_of (take i ps)) us → AreNumbered ts ks ts' ks' (map term_of ps) us
numbered_all ts ks ts' ks' ps us i l h = subst (λ xs. AreNumbered ts ks ts' ks' (map term_of xs) us) (take_all i ps l) h

-- ---- types of a def

pub opens_more : (s : Table) (ts ks ts' ks' : List ℕ) (xs zs us : List Term) → AreSettled s xs zs → AreNumbered ts ks ts' ks' zs us → OpenMore s ts ks ts' ks' xs us
opens_more s ts ks ts' ks' xs zs us h n = record { types = n.types; kinds = n.kinds; are = record { settled = zs; are = h; inside = n.inside; same = n.same } }

opened_later : (s : Table) (ts ks ts' ks' : List ℕ) (xs us : List Term) → IsFront ts ts' → IsFront ks ks' → AreOpened s ts ks xs us → AreOpened s ts' ks' xs us
opened_later s ts ks ts' ks' xs us f g h = record {
  settled = h.settled;
  are = h.are;
  inside = insides_later ts ks ts' ks' f g (terms_of us) h.inside;
  same = map_later ts ks ts' ks' f g us h.inside ∙ h.same;
}

front_long : (xs ys : List ℕ) → IsFront xs ys → length xs ≤ length ys
front_long [] ys f = omega arith
front_long (x ∷ xs) ys f = let l = below_front (x ∷ xs) ys f (length xs) (omega arith) in omega (arith, l)

pub opens_kinds : (s : Table) (ts ks ks' : List ℕ) (xs zs ys ys' : List Term) (cs : List KindTerm) → zs ≡ xs → ys' ≡ ys → AreSettled s zs ys → AreNumbered ts ks ts ks' ys' (map source_term cs) → OpenMore s ts ks ts ks' xs (map source_term cs)
opens_kinds s ts ks ks' xs zs ys ys' cs e f h n =
    subst (λ (ws : List Term). OpenMore s ts ks ts ks' ws (map source_term cs)) e
    (opens_more s ts ks ts ks' zs ys (map source_term cs) h (subst (λ (ws : List Term). AreNumbered ts ks ts ks' ws (map source_term cs)) f n))

pub opens_def : (s : Table) (ts1 ks0 ks1 ts2 ks2 ts3 ks3 : List ℕ) (n : ℕ) (found opened : DefTerms) → length ks0 ≡ 0 → n ≡ length ks1 →
    ((ts : List ℕ) → OpenMore s ts ks0 ts ks1 (map source_term found.kinds) (map source_term opened.kinds)) → numbered_on (length ks0) (flat_map place_of opened.kinds) ≡ Some (length ks1) → OpenMore s ts1 ks1 ts2 ks2 found.params opened.params → OpensOne s ts2 ks2 ts3 ks3 found.result opened.result → OpensDef s found ts3 ks3 n opened
opens_def s ts1 ks0 ks1 ts2 ks2 ts3 ks3 n found opened none many p order q r =
    let later : IsFront ks1 ks3 = front_both ks1 ks2 ks3 q.kinds r.kinds in
    record {
      params = opened_later s ts2 ks2 ts3 ks3 found.params opened.params r.types r.kinds q.are;
      result = r.is;
      sources = opened_later s ts1 ks1 ts3 ks3 (map source_term found.kinds) (map source_term opened.kinds) (front_both ts1 ts2 ts3 q.types r.types) later (p ts1).are;
      order = ap (λ k. numbered_on k (flat_map place_of opened.kinds)) (sym none) ∙ order ∙ ap Some (sym many);
      few = subst (λ k. k ≤ length ks3) (sym many) (front_long ks1 ks3 later);
    }

-- ---- kinds of sources

map_source_last : (cs : List KindTerm) (c : KindTerm) → map source_term (cs ++ (c ∷ [])) ≡ map source_term cs ++ (source_term c ∷ [])
map_source_last [] c = refl
map_source_last (d ∷ cs) c = ap (λ (xs : List Term). source_term d ∷ xs) (map_source_last cs c)

pub source_next : (ts ks ks1 ks2 : List ℕ) (ps : List Ty) (cs cs' : List KindTerm) (i : ℕ) (p : Ty) (c d : KindTerm) → i < length ps → p ≡ get_or ps i p → p ≡ ty.Source c → cs' ≡ cs ++ (d ∷ []) → AreNumbered ts ks ts ks1 (map term_of (take i ps)) (map source_term cs) → IsNumbered ts ks1 ts ks2 (source_term c) (source_term d) → AreNumbered ts ks ts ks2 (map term_of (take (i + 1) ps)) (map source_term cs')
source_next ts ks ks1 ks2 ps cs cs' i p c d l e is pushed h r =
    subst (λ xs. AreNumbered ts ks ts ks2 xs (map source_term cs')) (sym (next_taken ps i p l e)) (subst (λ us. AreNumbered ts ks ts ks2 (map term_of (take i ps) ++ (term_of p ∷ [])) us) (sym (ap (map source_term) pushed ∙ map_source_last cs d))
    (numbered_more ts ks ts ks1 ts ks2 _ _ _ _ h (subst (λ t. IsNumbered ts ks1 ts ks2 t (source_term d)) (sym (term_Source p c is)) r)))
