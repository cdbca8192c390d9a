-- What the predicates of a switch say marks its children, and for how long they stay.
use Rattle.std.proofs.Common.{◌≡◌, ◌∙◌, ◌<◌, ℕ, suc, map, List, [], ◌∷◌, length, get_or, arith, refl, ap}
use Rattle.std.specs.Prelude.{Bool}
use Rattle.liq_base.specs.declared.memory.Kind.{Kind}
use Rattle.plan_core.specs.declared.node.Op.TheVariants.{Switch}
use Rattle.time_pred.specs.Predicates.{Predicate, holds}
use Rattle.time_pred.specs.View.{view_shared}
use Rattle.time_pred.specs.declared.shared.SharedPred.{SharedPred}
use Rattle.stream_meaning.specs.Operators.{Choice, Eligible, Where, marks_at, Picks, work_of}

seen_marks : (preds : List SharedPred) (second : ℕ) → map (λ pred. holds (view_shared pred) second) preds ≡ map (λ pred. holds pred second) (map view_shared preds)
seen_marks [] second = refl
seen_marks (pred ∷ preds) second = ap (λ marks. holds (view_shared pred) second ∷ marks) (seen_marks preds second)

-- what the predicates of a switch say is which of its children are eligible
pub switch_marks : (rate i : ℕ) (kind : Kind) (sensitive : Bool) (seen : List SharedPred) (preds : List Predicate) (choice : Choice) (eligible : Eligible) (second children : ℕ)
    → map view_shared seen ≡ preds → work_of rate i kind (Switch sensitive preds) ≡ Picks choice eligible
    → map (λ pred. holds (view_shared pred) second) seen ≡ marks_at eligible second children
switch_marks rate i kind sensitive seen preds choice eligible second children are is =
    let same : Where preds ≡ eligible = cc in
    seen_marks seen second ∙ ap (map (λ pred. holds pred second)) are ∙ ap (λ e. marks_at e second children) same

-- what is told of each stays, so what is told of all in turn
pub maps_same : {A B : Type 0} (f g : A → B) (xs : List A) → ((x : A) (i : ℕ) → i < length xs → get_or xs i x ≡ x → f x ≡ g x) → map f xs ≡ map g xs
maps_same f g [] same = refl
maps_same f g (x ∷ xs) same =
    ap (λ b. b ∷ map f xs) (same x 0 (omega arith) refl)
    ∙ ap (λ bs. g x ∷ bs) (maps_same f g xs (λ y i low is. same y (suc i) (omega (arith, low)) is))
