-- Small scripts, whose meaning is computed.
use Rattle.std.proofs.Common.{◌≡◌, ℕ, zero, suc, ◌+◌, ◌*◌, List, [], ◌∷◌, true, false, Some, None, Ok, Err, refl}
use Rattle.std.specs.Prelude.{ℤ, pos, codes}
use Rattle.liq_base.specs.declared.memory.Kind.TheVariants.{Mono, Stereo}
use Rattle.plan_core.specs.declared.node.Op.TheVariants as node_op
use Rattle.plan_core.specs.declared.sink.SinkPlan.TheVariants.{Output}
use Rattle.fixed_text.specs.declared.decimal.Decimal.{Decimal}
use Rattle.script_grammar.specs.declared.tree.Literal.TheVariants as literal
use Rattle.script_grammar.specs.declared.tree.CompareOp.TheVariants as op
use Rattle.script_grammar.specs.Tree.{Tree, Many, none, more, AFull, AnExpr, AnOperand, AnArg, AStmt, Plain, Expr, And, Not, Alone, Compared, Sum, Product, Multiplied, Constant, Quoted, Truth, Named, Called, Chosen, Listed, PlaceFormat, NamedCall, Arg, If, Param, Optional, Bind, Def, Stmt, BindPart, DefPart, CallPart, Script}
use Rattle.typing_rules.specs.declared.uses.Use.{Use}
use Rattle.typing_rules.specs.declared.uses.Builtin.TheVariants as builtins
use Rattle.typing_rules.specs.declared.uses.KindOf.TheVariants as kind_of
use Rattle.typing_rules.specs.declared.uses.Target.{Target}
use Rattle.typing_rules.specs.declared.uses.Target.TheVariants as target
use Rattle.script_values.specs.declared.fault.EvalFault.TheVariants as told
use Rattle.script_values.specs.declared.fault.Limit.TheVariants.{Calls}
use Rattle.script_values.specs.declared.machine.Machine.{Machine}
use Rattle.script_values.specs.Machines.{count_work, first_machine, some_millionths}
use Rattle.script_values.specs.Numbers.{multiplied, quotient, truth_of}
use Rattle.builtin_calls.specs.Builtins.{builtin, set, blank, output_file}
use Rattle.builtin_calls.specs.Nodes.{add, push}
use Rattle.builtin_calls.specs.Parts.{bool_or, decimal_or, as_format, plain_argument, plain_format, plain_source, plain_text, source_of, as_text}
use Rattle.builtin_calls.specs.Settings.{duration_of, rate_of, set_duration, set_rate, setting}
use Rattle.builtin_calls.specs.Sinks.{add_output}
use Rattle.builtin_calls.specs.Times.{track_of}
use Rattle.eval_meaning.specs.Meaning.{full, expr, ors, conjunction, ands, negation, compare, sum, addends, product, factors, times, operand, choice, fulls, call, arguments, argued, applied, named, parameter, parameters, inners, body, call_by}
use Rattle.eval_meaning.specs.Scripts.{and_then, settings_ended, evaluation, ran, statement, statements, turned}

abbrev only : Tree AFull → Script
only f = more (Stmt (BindPart (Bind 0 (codes "x") f)) false) none

-- x = 1 / 0
zero_divisor : evaluation (only (Plain (Expr (And (Not false (Alone (Sum (Product (Constant 2 (literal.Int (pos 1))) (more (Multiplied 3 true (Constant 4 (literal.Int (pos 0)))) none)) none))) none) none))) [] ≡ Err (Some (told.BadValue 1 3))
unfolding statements turned statement full expr ors conjunction ands negation compare sum addends product factors times operand count_work multiplied quotient settings_ended
zero_divisor = refl

-- x = true
no_output : evaluation (only (Plain (Expr (And (Not false (Alone (Sum (Product (Truth 2 true) none) none))) none) none))) [] ≡ Err (Some told.NoOutput)
unfolding statements turned statement full expr ors conjunction ands negation compare sum addends product factors operand count_work settings_ended
no_output = refl

-- x = if true then 1 else 1 / 0 end
chosen_alone :
    evaluation (only (Plain (Expr (And (Not false (Alone (Sum (Product (Chosen (If 2 (Plain (Expr (And (Not false (Alone (Sum (Product (Truth 3 true) none) none))) none) none)) (Plain (Expr (And (Not false (Alone (Sum (Product (Constant 5 (literal.Int (pos 1))) none) none))) none) none)) (Plain (Expr (And (Not false (Alone (Sum (Product (Constant 7 (literal.Int (pos 1))) (more (Multiplied 8 true (Constant 9 (literal.Int (pos 0)))) none)) none))) none) none)))) none) none))) none) none))) []
    ≡ Err (Some told.NoOutput)
unfolding statements turned statement full expr ors conjunction ands negation compare sum addends product factors times operand choice count_work multiplied quotient truth_of settings_ended
chosen_alone = refl

-- x = false and 1 / 0 == 1
both_sides :
    evaluation (only (Plain (Expr (And (Not false (Alone (Sum (Product (Truth 2 false) none) none))) (more (Not false (Compared (Sum (Product (Constant 4 (literal.Int (pos 1))) (more (Multiplied 5 true (Constant 6 (literal.Int (pos 0)))) none)) none) 7 op.Equal (Sum (Product (Constant 8 (literal.Int (pos 1))) none) none))) none)) none))) []
    ≡ Err (Some (told.BadValue 1 5))
unfolding statements turned statement full expr ors conjunction ands negation compare sum addends product factors times operand count_work multiplied quotient settings_ended
both_sides = refl

-- def f(~y = 1 / 0, z) = z end  x = f(3), or x = f(y = 2, 3)
abbrev with_default : Tree (Many AnArg) → Script
with_default args =
    more (Stmt (DefPart (Def 1 (codes "f") (more (Optional 3 (codes "y") (Plain (Expr (And (Not false (Alone (Sum (Product (Constant 5 (literal.Int (pos 1))) (more (Multiplied 6 true (Constant 7 (literal.Int (pos 0)))) none)) none))) none) none))) (more (Param 9 (codes "z")) none)) true none (Expr (And (Not false (Alone (Sum (Product (Named 12 (codes "z")) none) none))) none) none))) false)
    (more (Stmt (BindPart (Bind 14 (codes "x") (Plain (Expr (And (Not false (Alone (Sum (Product (Called (NamedCall 16 (codes "f") args)) none) none))) none) none)))) false) none)

abbrev uses_of_f : List Use
uses_of_f = record { at = 12; target = target.Slot 9; kinds = [] } ∷ record { at = 16; target = target.Def 1; kinds = [] } ∷ []

default_used : evaluation (with_default (more (Arg 17 None (Plain (Expr (And (Not false (Alone (Sum (Product (Constant 17 (literal.Int (pos 3))) none) none))) none) none))) none)) uses_of_f ≡ Err (Some (told.BadValue 2 6))
unfolding statements turned statement full expr ors conjunction ands negation compare sum addends product factors times operand call arguments argued applied parameter parameters count_work multiplied quotient settings_ended body call_by
default_used = refl

default_unused :
    evaluation (with_default (more (Arg 17 (Some (codes "y")) (Plain (Expr (And (Not false (Alone (Sum (Product (Constant 19 (literal.Int (pos 2))) none) none))) none) none))) (more (Arg 21 None (Plain (Expr (And (Not false (Alone (Sum (Product (Constant 21 (literal.Int (pos 3))) none) none))) none) none))) none))) uses_of_f
    ≡ Err (Some told.NoOutput)
unfolding statements turned statement full expr ors conjunction ands negation compare sum addends product factors operand named call arguments argued applied parameter parameters inners count_work settings_ended body call_by
default_unused = refl

-- ---- shapes of more than one row

abbrev alone : Tree AnOperand → Tree AnExpr
alone p = Expr (And (Not false (Alone (Sum (Product p none) none))) none) none

abbrev unlabelled : ℕ → Tree AnOperand → Tree AnArg
unlabelled at p = Arg at None (Plain (alone p))

-- a statement that binds the name at this token
abbrev bound : ℕ → Tree AnOperand → Tree AStmt
bound at p = Stmt (BindPart (Bind at (codes "x") (Plain (alone p)))) false

abbrev use_of : ℕ → Target → Use
use_of at t = record { at = at; target = t; kinds = [] }

-- ---- the end of the settings

-- set(key, n)
abbrev set_to : ℕ → List ℕ → Tree AnOperand → Tree AStmt
set_to at key p = Stmt (CallPart (NamedCall at (codes "set") (more (unlabelled (at + 2) (Quoted (at + 2) key)) (more (unlabelled (at + 4) p) none)))) false

abbrev seconds : ℕ → Decimal → Tree AStmt
seconds at d = set_to at (codes "frame.duration") (Constant (at + 4) (literal.Number d))

abbrev rate : ℕ → ℕ → Tree AStmt
rate at n = set_to at (codes "frame.audio.samplerate") (Constant (at + 4) (literal.Int (pos n)))

-- `set` at tokens 0, 10 and 20
abbrev sets : List Use
sets = use_of 0 (target.Builtin builtins.Set) ∷ use_of 10 (target.Builtin builtins.Set) ∷ use_of 20 (target.Builtin builtins.Set) ∷ []

-- set("frame.duration", 0.)  set("log", 1)  x = true: a bad tick is blamed on the last statement that set one
bad_tick : evaluation (more (seconds 0 (some_millionths 0 tt)) (more (set_to 10 (codes "log") (Constant 14 (literal.Int (pos 1)))) (more (bound 20 (Truth 22 true)) none))) sets ≡ Err (Some (told.BadSetting 1))
unfolding statements turned statement full expr ors conjunction ands negation compare sum addends product factors operand call arguments argued applied builtin set plain_text plain_argument as_text setting set_duration duration_of count_work settings_ended
bad_tick = refl

-- set("frame.duration", 0.): the settings end with the script too
last_setting : evaluation (more (seconds 0 (some_millionths 0 tt)) none) sets ≡ Err (Some (told.BadSetting 1))
unfolding statements turned statement full expr ors conjunction ands negation compare sum addends product factors operand call arguments argued applied builtin set plain_text plain_argument as_text setting set_duration duration_of count_work settings_ended
last_setting = refl

-- set("frame.duration", 0.00001)  set("frame.audio.samplerate", 192000): no sample at 44100 samples a second, and one at 192000
rate_in_force : evaluation (more (seconds 0 (some_millionths 10 tt)) (more (rate 10 192000) none)) sets ≡ Err (Some told.NoOutput)
unfolding statements turned statement full expr ors conjunction ands negation compare sum addends product factors operand call arguments argued applied builtin set plain_text plain_argument as_text setting set_duration duration_of set_rate rate_of count_work settings_ended
rate_in_force = refl

-- x = true  set("frame.audio.samplerate", 8000)
late_setting : evaluation (more (bound 0 (Truth 2 true)) (more (rate 10 8000) none)) sets ≡ Err (Some (told.BadSetting 2))
unfolding statements turned statement full expr ors conjunction ands negation compare sum addends product factors operand call arguments argued applied builtin set plain_text plain_argument as_text setting set_rate rate_of count_work settings_ended
late_setting = refl

-- ---- the limit of the work

abbrev worked : ℕ → Machine
worked n = record first_machine { work = n }

-- x = true  x = true, behind 999998 steps
last_step : statements none [] (more (bound 0 (Truth 2 true)) (more (bound 10 (Truth 12 true)) none)) 0 [] (worked 999998) ≡ Err (Some (told.TooMuchWork 2))
unfolding statements turned statement full expr ors conjunction ands negation compare sum addends product factors operand count_work settings_ended
last_step = refl

-- x = [true, true]  x = x  x = true: the list takes 3 steps, and so does its name
abbrev sizes : Script
sizes = more (bound 0 (Listed 2 (more (Plain (alone (Truth 3 true))) (more (Plain (alone (Truth 5 true))) none)))) (more (bound 10 (Named 12 (codes "x"))) (more (bound 20 (Truth 22 true)) none))

size_counts : statements sizes (use_of 12 (target.Slot 0) ∷ []) sizes 0 [] (worked 999993) ≡ Err (Some (told.TooMuchWork 3))
unfolding statements turned statement full expr ors conjunction ands negation compare sum addends product factors operand fulls named count_work settings_ended
size_counts = refl

size_passes : statements sizes (use_of 12 (target.Slot 0) ∷ []) sizes 0 [] (worked 999994) ≡ Err (Some (told.TooMuchWork 2))
unfolding statements turned statement full expr ors conjunction ands negation compare sum addends product factors operand fulls named count_work settings_ended
size_passes = refl

-- ---- calls that run

-- def f() = 1 end, and then so many times def f() = f() end; the name of def i stands at token 10 * i, the call in it at 10 * i + 5
abbrev body_of : ℕ → Tree AnExpr
body_of zero = alone (Constant 5 (literal.Int (pos 1)))
body_of (suc i) = alone (Called (NamedCall (10 * suc i + 5) (codes "f") none))

abbrev defs_from : ℕ → ℕ → Script → Script
defs_from zero i rest = rest
defs_from (suc n) i rest = more (Stmt (DefPart (Def (10 * i) (codes "f") none true none (body_of i))) false) (defs_from n (suc i) rest)

abbrev calls_from : ℕ → ℕ → List Use
calls_from zero i = []
calls_from (suc n) i = use_of (10 * suc i + 5) (target.Def (10 * i)) ∷ calls_from n (suc i)

-- so many defs, and x = f() behind them, whose call is that of one more
abbrev nested : ℕ → Script
nested n = defs_from n 0 (more (bound (10 * n) (Called (NamedCall (10 * n + 5) (codes "f") none))) none)

calls_16 : evaluation (nested 16) (calls_from 16 0) ≡ Err (Some told.NoOutput)
unfolding statements turned statement full expr ors conjunction ands negation compare sum addends product factors operand call arguments applied parameters inners body call_by count_work settings_ended
calls_16 = refl

calls_17 : evaluation (nested 17) (calls_from 17 0) ≡ Err (Some (told.TooLarge Calls))
unfolding statements turned statement full expr ors conjunction ands negation compare sum addends product factors operand call arguments applied parameters inners body call_by count_work settings_ended
calls_17 = refl

-- ---- kinds of a call

-- def f() = blank() end  def g() = f() end  output.file(%wav, "A", g())  output.file(%wav, "B", g()), the first mono and the second stereo
abbrev written : ℕ → List ℕ → Tree AStmt
written at name = Stmt (CallPart (NamedCall at (codes "output.file") (more (unlabelled (at + 2) (PlaceFormat (at + 2) None)) (more (unlabelled (at + 4) (Quoted (at + 4) name)) (more (unlabelled (at + 6) (Called (NamedCall (at + 6) (codes "g") none))) none))))) false

abbrev two_kinds : Script
two_kinds =
    more (Stmt (DefPart (Def 1 (codes "f") none true none (alone (Called (NamedCall 5 (codes "blank") none))))) false)
    (more (Stmt (DefPart (Def 11 (codes "g") none true none (alone (Called (NamedCall 15 (codes "f") none))))) false)
    (more (written 20 (codes "A")) (more (written 30 (codes "B")) none)))

abbrev uses_of_kinds : List Use
uses_of_kinds =
    record { at = 5; target = target.Builtin builtins.Blank; kinds = kind_of.Given 0 ∷ [] }
    ∷ record { at = 15; target = target.Def 1; kinds = kind_of.Given 0 ∷ [] }
    ∷ record { at = 20; target = target.Builtin builtins.OutputFile; kinds = kind_of.Fixed Mono ∷ [] }
    ∷ record { at = 26; target = target.Def 11; kinds = kind_of.Fixed Mono ∷ [] }
    ∷ record { at = 30; target = target.Builtin builtins.OutputFile; kinds = kind_of.Fixed Stereo ∷ [] }
    ∷ record { at = 36; target = target.Def 11; kinds = kind_of.Fixed Stereo ∷ [] } ∷ []

each_kind : evaluation two_kinds uses_of_kinds ≡ Ok (record { rate = 44100; frame = 1764; nodes = record { op = node_op.Blank 0; kind = Mono; children = [] } ∷ record { op = node_op.Blank 0; kind = Stereo; children = [] } ∷ []; sinks = Output (codes "A") 0 false false ∷ Output (codes "B") 1 false false ∷ []; buffers = [] })
unfolding statements turned statement full expr ors conjunction ands negation compare sum addends product factors operand call arguments argued applied builtin blank output_file decimal_or bool_or plain_argument plain_format plain_text plain_source as_format as_text source_of track_of add push add_output parameters inners body call_by count_work settings_ended
each_kind = refl

-- its two sources are made by the calls of g, which stand outside of defs
calls_of_g : and_then (ran two_kinds uses_of_kinds) (λ m. Ok m.calls) ≡ Ok (26 ∷ 36 ∷ [])
unfolding statements turned statement full expr ors conjunction ands negation compare sum addends product factors operand call arguments argued applied builtin blank output_file decimal_or bool_or plain_argument plain_format plain_text plain_source as_format as_text source_of track_of add push add_output parameters inners body call_by count_work settings_ended
calls_of_g = refl

-- ---- formats

-- output.file(%wav(samplesize=bits), "A", blank())
abbrev sized : ℤ → Script
sized bits = more (Stmt (CallPart (NamedCall 0 (codes "output.file") (more (unlabelled 1 (PlaceFormat 1 (Some bits))) (more (unlabelled 8 (Quoted 8 (codes "A"))) (more (unlabelled 10 (Called (NamedCall 10 (codes "blank") none))) none))))) false) none

abbrev uses_of_sized : List Use
uses_of_sized =
    record { at = 0; target = target.Builtin builtins.OutputFile; kinds = kind_of.Fixed Stereo ∷ [] }
    ∷ record { at = 10; target = target.Builtin builtins.Blank; kinds = kind_of.Fixed Stereo ∷ [] } ∷ []

narrow_output : evaluation (sized (pos 16)) uses_of_sized ≡ Ok (record { rate = 44100; frame = 1764; nodes = record { op = node_op.Blank 0; kind = Stereo; children = [] } ∷ []; sinks = Output (codes "A") 0 false false ∷ []; buffers = [] })
unfolding statements turned statement full expr ors conjunction ands negation compare sum addends product factors operand call arguments argued applied builtin blank output_file decimal_or bool_or plain_argument plain_format plain_text plain_source as_format as_text source_of track_of add push add_output count_work settings_ended
narrow_output = refl

wide_output : evaluation (sized (pos 24)) uses_of_sized ≡ Ok (record { rate = 44100; frame = 1764; nodes = record { op = node_op.Blank 0; kind = Stereo; children = [] } ∷ []; sinks = Output (codes "A") 0 false true ∷ []; buffers = [] })
unfolding statements turned statement full expr ors conjunction ands negation compare sum addends product factors operand call arguments argued applied builtin blank output_file decimal_or bool_or plain_argument plain_format plain_text plain_source as_format as_text source_of track_of add push add_output count_work settings_ended
wide_output = refl

other_size : evaluation (sized (pos 20)) uses_of_sized ≡ Err (Some (told.BadValue 1 1))
unfolding statements turned statement full expr ors conjunction ands negation compare sum addends product factors operand call arguments argued applied builtin output_file count_work settings_ended
other_size = refl
