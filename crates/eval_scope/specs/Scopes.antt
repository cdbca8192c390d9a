-- The scope that a program's scope stands for.
use Rattle.std.specs.Prelude.{ℕ, List, ◌++◌, map, Option, Some, None}
use Rattle.liq_base.specs.declared.memory.Kind.{Kind}
use Rattle.script_grammar.specs.View.{view_script}
use Rattle.eval_scope.specs.declared.scope.Scope as program
use Rattle.script_values.specs.Outcomes.{Outcome}
use Rattle.script_values.specs.declared.machine.Machine.{Machine}
use Rattle.typing_rules.specs.Arguments.{GivenArgument}
use Rattle.script_values.specs.Values.{Value}
use Rattle.script_values.specs.Views.{view_slot}
use Rattle.eval_meaning.specs.Meaning.{Surroundings, World, call_by}

-- What all calls of defs have in common, from the scope that the program keeps: the script, the uses, which say what
-- its names mean, and the values that its statements bind.
abbrev pub world_of : program.Scope → World
world_of s = record {
  script = view_script s.defs.now.script.now;
  uses = s.uses.now.all.now;
  globals = map view_slot s.globals.now.all.items;
}

-- What an expression sees where it is evaluated, from the scope that the program keeps. The bindings of the def around
-- it come first, then those of the script's statements.
abbrev pub scope_of : program.Scope → Surroundings
scope_of s = record {
  uses = s.uses.now.all.now;
  slots = map view_slot s.locals.now ++ map view_slot s.globals.now.all.items;
  kinds = s.kinds.now;
  call = call_by (world_of s) s.calls;
}

-- What an expression outside of the body of a def sees, from the scope that the program keeps: the bindings of the
-- script's statements, without those of a def.
abbrev pub base_of : program.Scope → Surroundings
base_of s = record {
  uses = s.uses.now.all.now;
  slots = map view_slot s.globals.now.all.items;
  kinds = s.kinds.now;
  call = call_by (world_of s) s.calls;
}

-- What a call of the def whose name stands at this token makes, evaluated in the scope s. `kinds` are the values of the
-- def's open kinds (mono or stereo), `given` the arguments, and m the state before.
abbrev pub called : program.Scope → ℕ → List Kind → List (GivenArgument Value) → Machine → Outcome
called s at kinds given m = call_by (world_of s) s.calls at kinds given m

-- the list js of kinds, mono or stereo, with ks before it; None if js is not known
abbrev pub prefixed : List Kind → Option (List Kind) → Option (List Kind)
prefixed ks None = None
prefixed ks (Some js) = Some (ks ++ js)
