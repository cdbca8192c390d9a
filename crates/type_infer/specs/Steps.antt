-- What the steps of typing have left.
use Rattle.std.specs.Prelude.{ℕ, ◌<◌, List, [], ◌∷◌, Option, Some, None, slice_get, ⊤}
use Rattle.std.specs.List.{flat_map}
use Rattle.script_grammar.specs.View.{view_def}
use Rattle.type_terms.specs.Term.{variable}
use Rattle.type_steps.specs.Statements.{Done, bound, defined, ran}
use Rattle.expression_types.specs.Seen.{founds}
use Rattle.expression_types.specs.declared.environment.KnownDef.{KnownDef}
use Rattle.type_infer.specs.Answers.{text_of}
use Rattle.type_infer.specs.declared.steps.Step.{Step}
use Rattle.type_infer.specs.declared.steps.Step.TheVariants as step

-- what a def's statement leaves for the end of typing, as a list of one: the def with the uses of names in its text;
-- empty where no def is given
abbrev pub defined_as : Option KnownDef → List Done
defined_as None = []
defined_as (Some d) = defined (view_def d.def.now) (text_of d) ∷ []

-- What a typed statement (a step) has left for the end of typing, when open kinds get their defaults: a bound name, a
-- def or uses of names. A def is named by its index in ds.
abbrev pub done_in : List KnownDef → Step → List Done
done_in ds (step.Bound n us) = bound n.at (variable n.var) (founds us.items) ∷ []
done_in ds (step.Defined i) = defined_as (slice_get ds i)
done_in ds (step.Ran us) = ran (founds us.items) ∷ []

-- What all typed statements xs have left for the end of typing, in order: bound names, defs or uses of names. A def is
-- named by its index in ds.
abbrev pub dones_in : List KnownDef → List Step → List Done
dones_in ds xs = flat_map (done_in ds) xs

-- if a step is a def, its index is below n, the count of defs; other steps name none
abbrev pub IsThere : ℕ → Step → Type 0
IsThere n (step.Bound x us) = ⊤
IsThere n (step.Defined i) = i < n
IsThere n (step.Ran us) = ⊤

-- each step that is a def has an index below n, the count of defs
abbrev pub AreThere : ℕ → List Step → Type 0
AreThere n [] = ⊤
AreThere n (x ∷ xs) = IsThere n x × AreThere n xs
