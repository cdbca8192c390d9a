-- Places of tokens, and the values behind them.
use Rattle.std.proofs.Common.{◌≡◌, ◌≢◌, ◌∙◌, sym, ap, refl, ℕ, zero, suc, ◌+◌, ◌<◌, ◌≤◌, length, List, [], ◌∷◌, ◌++◌, get_or, set, map, Some, Option, cond, nat_eq, arith, ⊎_elim, eq-eqb, ne_eqb}
use Rattle.std.proofs.lemmas.Bool.{cases_eq}
use Rattle.std.proofs.lemmas.List.{get_or-set_same, get_or-set_other}
use Rattle.std.specs.Prelude.{slice_get}
use Rattle.liq_base.specs.At.{at_token, value_at}

-- a token's value is that of its place
token_seen : {X : Type 0} (values : List X) (places : List ℕ) (t : ℕ) → at_token t (map (value_at values) places) ≡ value_at values (get_or places t 0)
token_seen values [] t = refl
token_seen values (p ∷ places) zero = refl
token_seen values (p ∷ places) (suc t) = token_seen values places t

-- ---- one more value

last_there : {X : Type 0} (values : List X) (value : X) → slice_get (values ++ value ∷ []) (length values) ≡ Some value
last_there [] value = refl
last_there (v ∷ values) value = last_there values value

others_there : {X : Type 0} (values : List X) (value : X) (k : ℕ) → suc k ≤ length values → slice_get (values ++ value ∷ []) k ≡ slice_get values k
others_there [] value k le = absurd (omega arith)
others_there (v ∷ values) value zero le = refl
others_there (v ∷ values) value (suc k) le = others_there values value k (omega arith)

value_last : {X : Type 0} (values : List X) (value : X) (p : ℕ) → p ≡ length values + 1 → value_at (values ++ value ∷ []) p ≡ Some value
value_last values value zero is = absurd (omega arith)
value_last values value (suc k) is = ap (slice_get (values ++ value ∷ [])) (let e : k ≡ length values = omega arith in e) ∙ last_there values value

value_other : {X : Type 0} (values : List X) (value : X) (p : ℕ) → p ≤ length values → value_at (values ++ value ∷ []) p ≡ value_at values p
value_other values value zero le = refl
value_other values value (suc k) le = others_there values value k le

-- ---- tables

-- places that name the same say the same
pub seen_same : {X : Type 0} (ps qs : List ℕ) (values same_values : List X) (seen : List (Option X)) → same_values ≡ values → ((t : ℕ) → get_or qs t 0 ≡ get_or ps t 0) → map (value_at values) ps ≡ seen → (t : ℕ) → at_token t (map (value_at same_values) qs) ≡ at_token t seen
seen_same ps qs values same_values seen equal same view t =
    token_seen same_values qs t ∙ ap (λ l. value_at l (get_or qs t 0)) equal ∙ ap (value_at values) (same t) ∙ sym (token_seen values ps t) ∙ ap (at_token t) view

-- one more value, and its place at a token
module _ {X : Type 0} (ps qs : List ℕ) (values same_values more : List X) (seen : List (Option X)) (value : X) (at place : ℕ) (equal : same_values ≡ values) (pushed : more ≡ same_values ++ value ∷ []) (last : place ≡ length values + 1) (there : at < length qs) (same : (t : ℕ) → get_or qs t 0 ≡ get_or ps t 0) (filled : (t : ℕ) → get_or ps t 0 ≤ length values) (view : map (value_at values) ps ≡ seen) where
  all : more ≡ values ++ value ∷ []
  all = pushed ∙ ap (λ l. l ++ value ∷ []) equal

  put_here : (t : ℕ) → at ≡ t → value_at more (get_or (set qs at place) t 0) ≡ Some value
  put_here t here =
      ap (λ n. value_at more (get_or (set qs at place) n 0)) (sym here) ∙ ap (value_at more) (get_or-set_same qs at place 0 there)
      ∙ ap (λ l. value_at l place) all ∙ value_last values value place last

  put_elsewhere : (t : ℕ) → at ≢ t → value_at more (get_or (set qs at place) t 0) ≡ at_token t seen
  put_elsewhere t other =
      ap (value_at more) (get_or-set_other qs at t place 0 (λ e. other (sym e)) ∙ same t)
      ∙ ap (λ l. value_at l (get_or ps t 0)) all ∙ value_other values value (get_or ps t 0) (filled t)
      ∙ sym (token_seen values ps t) ∙ ap (at_token t) view

  pub seen_more : (t : ℕ) → at_token t (map (value_at more) (set qs at place)) ≡ cond (nat_eq at t) (Some value) (at_token t seen)
  seen_more t = token_seen more (set qs at place) t ∙ ⊎_elim
      (λ here. put_here t here ∙ sym (ap (λ b. cond b (Some value) (at_token t seen)) (eq-eqb at t here)))
      (λ other. put_elsewhere t other ∙ sym (ap (λ b. cond b (Some value) (at_token t seen)) (ne_eqb at t other)))
      (cases_eq at t)
