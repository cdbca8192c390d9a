use Rattle.std.proofs.Common.{◌≡◌, ◌≢◌, ◌∙◌, sym, ap, subst, refl, eqb, eqb-true, eq-eqb, ℕ, zero, suc, ◌<◌, Bool, true, false, List, [], ◌∷◌, ◌++◌, length, get_or, take, arith}
use Rattle.std.proofs.Math.ListN.{set, length-set}
use Rattle.std.proofs.lemmas.List.{append-nil, take_more}
use Rattle.std.specs.Prelude.{slice_index}
use Rattle.std.specs.List.{fold}
use Rattle.plan_core.specs.declared.node.Node.{Node}
use Rattle.clock_forcings.specs.declared.conflicts.Found.{Found}
use Rattle.clock_forcings.specs.declared.forcings.Forced.{Forced}
use Rattle.clock_forcings.specs.declared.forcings.Forced.TheVariants.{Id}
use Rattle.clock_forcings.specs.declared.forcings.Forcing.{Forcing}
use Rattle.clock_forcings.specs.Forcings.{forced_on}
use Rattle.clock_forcings.specs.Found.{AreFound, found_on, noted, nothing}
use Rattle.clock_forcings.proofs.Noting.{forced_append}
use Rattle.clock_forcings.proofs.conflicts.note_all.Goals as goal

same_at : (xs : List Found) (k : ℕ) (v : Found) → k < length xs → get_or (set xs k v) k nothing ≡ v
same_at [] k v h = absurd (omega arith)
same_at (x ∷ xs) zero v h = refl
same_at (x ∷ xs) (suc k) v h = same_at xs k v (omega arith)

other_at : (xs : List Found) (k j : ℕ) (v : Found) → k ≢ j → get_or (set xs k v) j nothing ≡ get_or xs j nothing
other_at [] k j v ne = refl
other_at (x ∷ xs) zero zero v ne = absurd (ne refl)
other_at (x ∷ xs) zero (suc j) v ne = refl
other_at (x ∷ xs) (suc k) zero v ne = refl
other_at (x ∷ xs) (suc k) (suc j) v ne = other_at xs k j v (λ e. ne (ap suc e))

fold_last : (nodes : List Node) (a : Found) (xs : List Forced) (x : Forced) → fold (λ found more. noted nodes found more) a (xs ++ x ∷ []) ≡ noted nodes (fold (λ found more. noted nodes found more) a xs) x
fold_last nodes a [] x = refl
fold_last nodes a (y ∷ ys) x = fold_last nodes (noted nodes a y) ys x

on_it : (group : ℕ → ℕ) (g : ℕ) (f : Forcing) → eqb (group f.node) g ≡ true → forced_on group g (f ∷ []) ≡ f.forced ∷ []
on_it group g f e = rw e refl

not_on_it : (group : ℕ → ℕ) (g : ℕ) (f : Forcing) → eqb (group f.node) g ≡ false → forced_on group g (f ∷ []) ≡ []
not_on_it group g f e = rw e refl

-- one forcing more is noted
noted_more : (nodes : List Node) (group : ℕ → ℕ) (fs : List Forcing) (f : Forcing) (found : List Found) (more : Found) → more ≡ noted nodes (get_or found (group f.node) nothing) f.forced → AreFound nodes group fs found → AreFound nodes group (fs ++ f ∷ []) (set found (group f.node) more)
noted_more nodes group fs f found more is before g h = by (eqb (group f.node) g) refl
  where
    inside : g < length found
    inside = let l = length-set found (group f.node) more in omega arith

    by : (b : Bool) → eqb (group f.node) g ≡ b → get_or (set found (group f.node) more) g nothing ≡ found_on nodes (forced_on group g (fs ++ f ∷ []))
    by true e =
        let same : group f.node ≡ g = eqb-true (group f.node) g e in
        ap (λ k. get_or (set found (group f.node) more) k nothing) (sym same)
        ∙ same_at found (group f.node) more (subst (λ k. k < length found) (sym same) inside)
        ∙ is
        ∙ ap (λ o. noted nodes o f.forced) (ap (λ k. get_or found k nothing) same ∙ before g inside)
        ∙ sym (fold_last nodes nothing (forced_on group g fs) f.forced)
        ∙ ap (found_on nodes) (sym (forced_append group g fs (f ∷ []) ∙ ap (λ l. forced_on group g fs ++ l) (on_it group g f e)))
    by false e =
        let other : group f.node ≢ g = λ q. (let r : ◌≡◌ {A = Bool} true false = sym (eq-eqb (group f.node) g q) ∙ e in cc) in
        other_at found (group f.node) g more other
        ∙ before g inside
        ∙ ap (found_on nodes) (sym (forced_append group g fs (f ∷ []) ∙ ap (λ l. forced_on group g fs ++ l) (not_on_it group g f e) ∙ append-nil (forced_on group g fs)))

pub loop-forcing-preserved : goal.loop-forcing-preserved
loop-forcing-preserved c =
    let nodes : List Node = c.args.nodes.now in
    let group : ℕ → ℕ = λ i. slice_index c.args.groups.now i in
    let fs : List Forcing = c.args.forcings.now in
    let i : ℕ = c.loop-forcing.forcing-index in
    let none : Forcing = record { node = 0; forced = Id 0 } in
    let f : Forcing = get_or fs i none in
    subst (λ l. AreFound nodes group l (set c.loop-forcing.found (group f.node) c.in_ok-more.more)) (sym (take_more fs i none c.loop-forcing-test.true))
    (noted_more nodes group (take i fs) f c.loop-forcing.found c.in_ok-more.more c.in_ok-more.ensures c.loop-forcing.invariant)
