-- What the program's values stand for.
use Rattle.std.specs.Prelude.{ℕ, get_or, List, [], ◌∷◌, ◌++◌, map}
use Rattle.typing_rules.specs.Arguments.{GivenArgument}
pub use Rattle.typing_rules.specs.Rows.{seen_parameter}
use Rattle.typing_rules.specs.Scoping.{Bound, Scope, bound_value, bound_function}
use Rattle.typing_rules.specs.declared.form.Form.{Form}
use Rattle.typing_rules.specs.declared.form.Form.TheVariants.{InPlace, ByLabel, Perhaps}
use Rattle.script_grammar.specs.declared.tree.ParamForm.{ParamForm}
use Rattle.script_grammar.specs.declared.tree.ParamForm.TheVariants as form
use Rattle.name_scope.specs.declared.parameter.Given.{Given as AGiven}
use Rattle.name_scope.specs.declared.scope.Bound.{Bound as ABound}
use Rattle.name_scope.specs.declared.scope.Bound.TheVariants as bound
use Rattle.name_scope.specs.declared.scope.Binding.{Binding}
use Rattle.name_scope.specs.declared.scope.Scope.{Scope as AScope}
use Rattle.name_scope.specs.declared.scope.Scopes.{Scopes}
use Rattle.name_scope.specs.declared.labels.Labels.{Labels}
pub use Rattle.name_scope.specs.Labelled.{seen_label}
use Rattle.name_scope.specs.Labelled.{left_in}

-- an argument of a call as plain data: its label, and its first token
abbrev pub seen_given : AGiven → GivenArgument ℕ
seen_given g = (seen_label g.label, g.at)

-- what a name is bound to, as plain data: a value, or a def with its parameters, by the token of the binding
abbrev pub seen_bound : ABound → Bound
seen_bound (bound.Value t) = bound_value t
seen_bound (bound.Function t ps) = bound_function t (map seen_parameter ps.items)

-- the program's bindings of names, which have the newest last, as plain data with the newest first
abbrev pub newest_first : List Binding → Scope
newest_first [] = []
newest_first (b ∷ bs) = newest_first bs ++ (b.name.now, seen_bound b.bound) ∷ []

-- the bindings of one scope of the program as plain data, the newest first
abbrev pub in_scope : AScope → Scope
in_scope s = newest_first s.bindings.items

-- all names in scope, as plain data: those of the def around, which hide the others, and behind them those of
-- statements
abbrev pub both_scopes : Scopes → Scope
both_scopes s = in_scope s.inner.now ++ in_scope s.outer.now

-- the token of the argument at place i of a call; 0 where there is none
abbrev pub token_at : List AGiven → ℕ → ℕ
token_at gs i = get_or (map (λ g. g.at) gs) i 0

-- the arguments of a call that no parameter has taken yet, each with its label and its place, as the program's table t
-- of labels has them
abbrev pub left_of : Labels → List (GivenArgument ℕ)
left_of t = left_in 0 (map seen_label t.labels.items) t.taken.items

-- how a def's parameter takes its argument, by how it is written: in its place, by its label, or by its label if it
-- is given at all
abbrev pub form_seen : ParamForm → Form
form_seen form.Plain = InPlace
form_seen form.Labelled = ByLabel
form_seen (form.Optional f) = Perhaps
