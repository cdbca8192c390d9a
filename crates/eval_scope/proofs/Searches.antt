-- Searches and walks over lists, one step at a time.
use Rattle.std.proofs.Common.{◌≡◌, ℕ, ◌+◌, List, [], ◌∷◌, ◌++◌, Some, None, Option, Bool, true, false, cond, refl, nat_eq}
use Rattle.script_values.specs.Slots.{SlotValue, value_at_token}
use Rattle.script_values.specs.Values.{Value}

by_test : (b : Bool) (u : Value) (one other : Option Value) (v : Value) → (Some v ≡ one → Some v ≡ other) → Some v ≡ cond b (Some u) one → Some v ≡ cond b (Some u) other
by_test true u one other v later is = is
by_test false u one other v later is = later is

no_test : (b : Bool) (u : Value) (one other third : Option Value) → (None ≡ one → other ≡ third) → None ≡ cond b (Some u) one → cond b (Some u) other ≡ third
no_test true u one other third later is = absurd cc
no_test false u one other third later is = later is

pub slot_first : (at : ℕ) (a b : List SlotValue) (v : Value) → Some v ≡ value_at_token at a → Some v ≡ value_at_token at (a ++ b)
slot_first at [] b v is = absurd cc
slot_first at (s ∷ a) b v is = by_test (nat_eq s.0 at) s.1 (value_at_token at a) (value_at_token at (a ++ b)) v (slot_first at a b v) is

pub slot_second : (at : ℕ) (a b : List SlotValue) → None ≡ value_at_token at a → value_at_token at (a ++ b) ≡ value_at_token at b
slot_second at [] b is = refl
slot_second at (s ∷ a) b is = no_test (nat_eq s.0 at) s.1 (value_at_token at a) (value_at_token at (a ++ b)) (value_at_token at b) (slot_second at a b) is
