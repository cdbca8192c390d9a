use Rattle.std.proofs.Common.{List, ◌++◌, ◌∷◌, [], ℕ, map, take, get_or, sym, ap, ◌∙◌, append_assoc}
use Rattle.std.proofs.lemmas.List.{map-append, take_more}
use Rattle.clock_forcings.specs.declared.forcings.Forced.TheVariants.{Sub}
use Rattle.clock_forcings.specs.declared.forcings.Forcing.{Forcing}
use Rattle.clock_forcings.proofs.forcings.push_sub.Goals as goal

-- what a crossfade forces of a child
abbrev forced_sub : ℕ → ℕ → Forcing
forced_sub number child = record { node = child; forced = Sub number }

pub loop-child-preserved : goal.loop-child-preserved
loop-child-preserved c =
    let f : ℕ → Forcing = forced_sub c.args.number in
    let xs : List ℕ = c.args.children.now in
    let i : ℕ = c.loop-child.child-index in
    c.in_ok-push.ensures.items
    ∙ ap (λ (fs : List Forcing). fs ++ (f (get_or xs i 0) ∷ [])) c.loop-child.invariant
    ∙ append_assoc c.args.into.now.items (map f (take i xs)) (f (get_or xs i 0) ∷ [])
    ∙ ap (λ (fs : List Forcing). c.args.into.now.items ++ fs) (sym (ap (map f) (take_more xs i 0 c.loop-child-test.true) ∙ map-append f (take i xs) (get_or xs i 0 ∷ [])))
