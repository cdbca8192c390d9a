-- Each builtin call with arguments of its types is not stuck.
use Rattle.std.proofs.Common.{◌≡◌, ℕ, List, [], ◌∷◌, Bool, true, false, Some, None, refl, sym, subst}
use Rattle.std.specs.Prelude.{ℤ, pos, slice_get, ⊤, codes, map}
use Rattle.liq_base.specs.declared.memory.Kind.{Kind}
use Rattle.liq_base.specs.declared.memory.Kind.TheVariants.{Mono}
use Rattle.fixed_text.specs.declared.decimal.Decimal.{Decimal}
use Rattle.plan_core.specs.declared.node.Node.{Node}
use Rattle.plan_core.specs.declared.node.Op.{Op}
use Rattle.plan_core.specs.declared.node.Op.TheVariants as op
use Rattle.type_terms.specs.Ground.{Ground, base_type, list, tuple, source}
use Rattle.type_terms.specs.Term.{meaning}
use Rattle.type_terms.specs.declared.ty.Base.TheVariants as base
use Rattle.typing_rules.specs.declared.uses.Builtin.{Builtin}
use Rattle.typing_rules.specs.declared.uses.Builtin.TheVariants as builtins
use Rattle.typing_rules.specs.Arguments as arguments
use Rattle.typing_rules.specs.Arguments.{arguments_taken, TakenAs}
use Rattle.typing_rules.specs.Table.{IsCallOf, params_of_builtin, signature}
use Rattle.script_values.specs.declared.machine.Machine.{Machine}
use Rattle.script_values.specs.Machines.{some_millionths}
use Rattle.script_values.specs.Outcomes.{◌>>=◌}
use Rattle.script_values.specs.Slots.{Argument}
use Rattle.script_values.specs.Values.{Value}
use Rattle.builtin_calls.specs.Parts.{one_kind, plain_argument, plain_text, plain_decimal, plain_format, plain_source, plain_sources, bool_or, int_or, text_or, decimal_or}
use Rattle.builtin_calls.specs.Nodes.{few, add, push, add_buffer}
use Rattle.builtin_calls.specs.Times.{track_of, pitch_of}
use Rattle.builtin_calls.specs.Sinks.{add_output}
use Rattle.builtin_calls.specs.Settings.{setting}
use Rattle.builtin_calls.specs.Builtins.{node, is_normal, builtin, sensitive_or, few_sources, few_pairs, over_sources, seed_of, buffer_plan, short_overlap, safe, output_file, set, single, playlist, blank, square, fail, fallback, switch, random, add_sources, amplify, mean, stereo, crossfade, mksafe, buffer, clock}
use Rattle.eval_meaning.specs.BuiltinSafety.{AreA, Safe, Of, BuiltinsAreSafe}
use Rattle.eval_meaning.proofs.BuiltinGrowth.{after, fixed}
use Rattle.eval_meaning.proofs.BuiltinTaking.{Taking, all, all_commutes, strip, strip_commutes, plain_other, label_other, in_place, perhaps, behind_id}
use Rattle.eval_meaning.proofs.BuiltinSteps.{pair_types, unit, text_step, decimal_step, format_step, source_step, value_step, text_or_step, bool_or_step, int_or_step, decimal_or_step, sensitive_step, sources_step, few_step, seed_step, few_sources_step, few_pairs_step, kind_step, normal_step, track_step, pitch_step, short_step, buffer_step, push_safe, add_safe, buffered_safe, output_safe, setting_safe}

output_file_safe : (kinds : List Kind) (given : List Argument) (m : Machine) (j : Kind) → j ∷ [] ≡ kinds → Taking all m.plan.nodes (perhaps (codes "id") ∷ perhaps (codes "fallible") ∷ in_place (codes "format") ∷ in_place (codes "name") ∷ in_place (codes "s") ∷ []) (base_type base.Text ∷ base_type base.Bool ∷ base_type base.Format ∷ base_type base.Text ∷ source j ∷ []) given → Safe m.plan.nodes (Of (unit)) (output_file kinds given m)
unfolding output_file
output_file_safe kinds given m j is_kinds whole =
    let taking = behind_id m.plan.nodes (perhaps (codes "fallible") ∷ in_place (codes "format") ∷ in_place (codes "name") ∷ in_place (codes "s") ∷ []) (base_type base.Text) (base_type base.Bool ∷ base_type base.Format ∷ base_type base.Text ∷ source j ∷ []) given whole in
    fixed m.plan.nodes (λ (y : Bool × List Argument). Taking strip m.plan.nodes (in_place (codes "format") ∷ in_place (codes "name") ∷ in_place (codes "s") ∷ []) (base_type base.Format ∷ base_type base.Text ∷ source j ∷ []) y.1) (Of (unit)) (bool_or (codes "fallible") false given) (λ fallible. plain_format fallible.1 >>= λ format. plain_text format.1 >>= λ name. one_kind kinds >>= λ k. plain_source m.plan.nodes k name.1 >>= λ s. add_output name.0 s.0 fallible.0 format.0 m) (bool_or_step strip m.plan.nodes (codes "fallible") (in_place (codes "format") ∷ in_place (codes "name") ∷ in_place (codes "s") ∷ []) (base_type base.Format ∷ base_type base.Text ∷ source j ∷ []) given false (strip_commutes (Some (codes "fallible")) (label_other (codes "fallible") refl)) taking) (λ fallible taking0.
    fixed m.plan.nodes (λ (y : Bool × List Argument). Taking strip m.plan.nodes (in_place (codes "name") ∷ in_place (codes "s") ∷ []) (base_type base.Text ∷ source j ∷ []) y.1) (Of (unit)) (plain_format fallible.1) (λ format. plain_text format.1 >>= λ name. one_kind kinds >>= λ k. plain_source m.plan.nodes k name.1 >>= λ s. add_output name.0 s.0 fallible.0 format.0 m) (format_step strip m.plan.nodes (codes "format") (in_place (codes "name") ∷ in_place (codes "s") ∷ []) (base_type base.Text ∷ source j ∷ []) fallible.1 (strip_commutes None plain_other) taking0) (λ format taking1.
    fixed m.plan.nodes (λ (y : List ℕ × List Argument). Taking strip m.plan.nodes (in_place (codes "s") ∷ []) (source j ∷ []) y.1) (Of (unit)) (plain_text format.1) (λ name. one_kind kinds >>= λ k. plain_source m.plan.nodes k name.1 >>= λ s. add_output name.0 s.0 fallible.0 format.0 m) (text_step strip m.plan.nodes (codes "name") (in_place (codes "s") ∷ []) (source j ∷ []) format.1 (strip_commutes None plain_other) taking1) (λ name taking2.
    fixed m.plan.nodes (λ k. k ≡ j) (Of (unit)) (one_kind kinds) (λ k. plain_source m.plan.nodes k name.1 >>= λ s. add_output name.0 s.0 fallible.0 format.0 m) (kind_step kinds j is_kinds) (λ k is_k.
    fixed m.plan.nodes (λ (y : ℕ × List Argument). Taking strip m.plan.nodes [] [] y.1) (Of (unit)) (plain_source m.plan.nodes k name.1) (λ s. add_output name.0 s.0 fallible.0 format.0 m) (source_step strip m.plan.nodes (codes "s") [] [] name.1 k (strip_commutes None plain_other) (subst (λ (i : Kind). Taking strip m.plan.nodes (in_place (codes "s") ∷ []) (source i ∷ []) name.1) (sym is_k) taking2)) (λ s taking4.
    output_safe name.0 s.0 fallible.0 format.0 m)))))

single_safe : (kinds : List Kind) (given : List Argument) (m : Machine) (j : Kind) → j ∷ [] ≡ kinds → Taking all m.plan.nodes (perhaps (codes "id") ∷ in_place (codes "file") ∷ []) (base_type base.Text ∷ base_type base.Text ∷ []) given → Safe m.plan.nodes (Of (source j)) (single kinds given m)
unfolding single
single_safe kinds given m j is_kinds whole =
    let taking = behind_id m.plan.nodes (in_place (codes "file") ∷ []) (base_type base.Text) (base_type base.Text ∷ []) given whole in
    fixed m.plan.nodes (λ (y : List ℕ × List Argument). Taking strip m.plan.nodes [] [] y.1) (Of (source j)) (plain_text given) (λ file. one_kind kinds >>= λ k. add (node (op.Single file.0) k []) m) (text_step strip m.plan.nodes (codes "file") [] [] given (strip_commutes None plain_other) taking) (λ file taking0.
    fixed m.plan.nodes (λ k. k ≡ j) (Of (source j)) (one_kind kinds) (λ k. add (node (op.Single file.0) k []) m) (kind_step kinds j is_kinds) (λ k is_k.
    subst (λ (i : Kind). Safe m.plan.nodes (Of (source i)) (add (node (op.Single file.0) k []) m)) is_k (add_safe (node (op.Single file.0) k []) m)))

playlist_safe : (at : ℕ) (kinds : List Kind) (given : List Argument) (m : Machine) (j : Kind) → j ∷ [] ≡ kinds → Taking all m.plan.nodes (perhaps (codes "id") ∷ perhaps (codes "loop") ∷ perhaps (codes "mode") ∷ in_place (codes "file") ∷ []) (base_type base.Text ∷ base_type base.Bool ∷ base_type base.Text ∷ base_type base.Text ∷ []) given → Safe m.plan.nodes (Of (source j)) (playlist at kinds given m)
unfolding playlist
playlist_safe at kinds given m j is_kinds whole =
    let taking = behind_id m.plan.nodes (perhaps (codes "loop") ∷ perhaps (codes "mode") ∷ in_place (codes "file") ∷ []) (base_type base.Text) (base_type base.Bool ∷ base_type base.Text ∷ base_type base.Text ∷ []) given whole in
    fixed m.plan.nodes (λ (y : Bool × List Argument). Taking strip m.plan.nodes (perhaps (codes "mode") ∷ in_place (codes "file") ∷ []) (base_type base.Text ∷ base_type base.Text ∷ []) y.1) (Of (source j)) (bool_or (codes "loop") true given) (λ again. text_or (codes "mode") (codes "normal") again.1 >>= λ mode. plain_text mode.1 >>= λ file. one_kind kinds >>= λ k. is_normal at mode.0 >>= λ normal. add (node (op.Playlist file.0 again.0) k []) m) (bool_or_step strip m.plan.nodes (codes "loop") (perhaps (codes "mode") ∷ in_place (codes "file") ∷ []) (base_type base.Text ∷ base_type base.Text ∷ []) given true (strip_commutes (Some (codes "loop")) (label_other (codes "loop") refl)) taking) (λ again taking0.
    fixed m.plan.nodes (λ (y : List ℕ × List Argument). Taking strip m.plan.nodes (in_place (codes "file") ∷ []) (base_type base.Text ∷ []) y.1) (Of (source j)) (text_or (codes "mode") (codes "normal") again.1) (λ mode. plain_text mode.1 >>= λ file. one_kind kinds >>= λ k. is_normal at mode.0 >>= λ normal. add (node (op.Playlist file.0 again.0) k []) m) (text_or_step strip m.plan.nodes (codes "mode") (in_place (codes "file") ∷ []) (base_type base.Text ∷ []) again.1 (codes "normal") (strip_commutes (Some (codes "mode")) (label_other (codes "mode") refl)) taking0) (λ mode taking1.
    fixed m.plan.nodes (λ (y : List ℕ × List Argument). Taking strip m.plan.nodes [] [] y.1) (Of (source j)) (plain_text mode.1) (λ file. one_kind kinds >>= λ k. is_normal at mode.0 >>= λ normal. add (node (op.Playlist file.0 again.0) k []) m) (text_step strip m.plan.nodes (codes "file") [] [] mode.1 (strip_commutes None plain_other) taking1) (λ file taking2.
    fixed m.plan.nodes (λ k. k ≡ j) (Of (source j)) (one_kind kinds) (λ k. is_normal at mode.0 >>= λ normal. add (node (op.Playlist file.0 again.0) k []) m) (kind_step kinds j is_kinds) (λ k is_k.
    fixed m.plan.nodes (λ _. ⊤) (Of (source j)) (is_normal at mode.0) (λ normal. add (node (op.Playlist file.0 again.0) k []) m) (normal_step at mode.0) (λ normal _.
    subst (λ (i : Kind). Safe m.plan.nodes (Of (source i)) (add (node (op.Playlist file.0 again.0) k []) m)) is_k (add_safe (node (op.Playlist file.0 again.0) k []) m))))))

blank_safe : (at : ℕ) (kinds : List Kind) (given : List Argument) (m : Machine) (j : Kind) → j ∷ [] ≡ kinds → Taking all m.plan.nodes (perhaps (codes "id") ∷ perhaps (codes "duration") ∷ []) (base_type base.Text ∷ base_type base.Decimal ∷ []) given → Safe m.plan.nodes (Of (source j)) (blank at kinds given m)
unfolding blank
blank_safe at kinds given m j is_kinds whole =
    let taking = behind_id m.plan.nodes (perhaps (codes "duration") ∷ []) (base_type base.Text) (base_type base.Decimal ∷ []) given whole in
    fixed m.plan.nodes (λ (y : Decimal × List Argument). Taking strip m.plan.nodes [] [] y.1) (Of (source j)) (decimal_or (codes "duration") (some_millionths 0 tt) given) (λ duration. one_kind kinds >>= λ k. track_of at m.plan.rate duration.0 >>= λ track. add (node (op.Blank track) k []) m) (decimal_or_step strip m.plan.nodes (codes "duration") [] [] given (some_millionths 0 tt) (strip_commutes (Some (codes "duration")) (label_other (codes "duration") refl)) taking) (λ duration taking0.
    fixed m.plan.nodes (λ k. k ≡ j) (Of (source j)) (one_kind kinds) (λ k. track_of at m.plan.rate duration.0 >>= λ track. add (node (op.Blank track) k []) m) (kind_step kinds j is_kinds) (λ k is_k.
    fixed m.plan.nodes (λ _. ⊤) (Of (source j)) (track_of at m.plan.rate duration.0) (λ track. add (node (op.Blank track) k []) m) (track_step at m.plan.rate duration.0) (λ track _.
    subst (λ (i : Kind). Safe m.plan.nodes (Of (source i)) (add (node (op.Blank track) k []) m)) is_k (add_safe (node (op.Blank track) k []) m))))

square_safe : (at : ℕ) (kinds : List Kind) (given : List Argument) (m : Machine) (j : Kind) → j ∷ [] ≡ kinds → Taking all m.plan.nodes (perhaps (codes "id") ∷ in_place (codes "f") ∷ []) (base_type base.Text ∷ base_type base.Decimal ∷ []) given → Safe m.plan.nodes (Of (source j)) (square at kinds given m)
unfolding square
square_safe at kinds given m j is_kinds whole =
    let taking = behind_id m.plan.nodes (in_place (codes "f") ∷ []) (base_type base.Text) (base_type base.Decimal ∷ []) given whole in
    fixed m.plan.nodes (λ (y : Decimal × List Argument). Taking strip m.plan.nodes [] [] y.1) (Of (source j)) (plain_decimal given) (λ f. one_kind kinds >>= λ k. pitch_of at f.0 >>= λ pitch. add (node (op.Square pitch) k []) m) (decimal_step strip m.plan.nodes (codes "f") [] [] given (strip_commutes None plain_other) taking) (λ f taking0.
    fixed m.plan.nodes (λ k. k ≡ j) (Of (source j)) (one_kind kinds) (λ k. pitch_of at f.0 >>= λ pitch. add (node (op.Square pitch) k []) m) (kind_step kinds j is_kinds) (λ k is_k.
    fixed m.plan.nodes (λ _. ⊤) (Of (source j)) (pitch_of at f.0) (λ pitch. add (node (op.Square pitch) k []) m) (pitch_step at f.0) (λ pitch _.
    subst (λ (i : Kind). Safe m.plan.nodes (Of (source i)) (add (node (op.Square pitch) k []) m)) is_k (add_safe (node (op.Square pitch) k []) m))))

fail_safe : (kinds : List Kind) (m : Machine) (given : List Argument) (j : Kind) → j ∷ [] ≡ kinds → Taking all m.plan.nodes (perhaps (codes "id") ∷ []) (base_type base.Text ∷ []) given → Safe m.plan.nodes (Of (source j)) (fail kinds m)
unfolding fail
fail_safe kinds m given j is_kinds whole =
    let taking = behind_id m.plan.nodes [] (base_type base.Text) [] given whole in
    fixed m.plan.nodes (λ k. k ≡ j) (Of (source j)) (one_kind kinds) (λ k. add (node op.Fail k []) m) (kind_step kinds j is_kinds) (λ k is_k.
    subst (λ (i : Kind). Safe m.plan.nodes (Of (source i)) (add (node op.Fail k []) m)) is_k (add_safe (node op.Fail k []) m))

-- a node of an operator over a list of sources
over_sources_safe : (o : Op) (kinds : List Kind) (given : List Argument) (m : Machine) (j : Kind) → j ∷ [] ≡ kinds → Taking strip m.plan.nodes (in_place (codes "sources") ∷ []) (list (source j) ∷ []) given → Safe m.plan.nodes (Of (source j)) (over_sources o kinds given m)
unfolding over_sources
over_sources_safe o kinds given m j is_kinds taking =
    fixed m.plan.nodes (λ k. k ≡ j) (Of (source j)) (one_kind kinds) (λ k. few_sources m.plan.nodes k given >>= λ children. add (node o k children) m) (kind_step kinds j is_kinds) (λ k is_k.
    fixed m.plan.nodes (λ _. ⊤) (Of (source j)) (few_sources m.plan.nodes k given) (λ children. add (node o k children) m) (few_sources_step strip m.plan.nodes k (codes "sources") [] [] given (strip_commutes None plain_other) (subst (λ (i : Kind). Taking strip m.plan.nodes (in_place (codes "sources") ∷ []) (list (source i) ∷ []) given) (sym is_k) taking)) (λ children _.
    subst (λ (i : Kind). Safe m.plan.nodes (Of (source i)) (add (node o k children) m)) is_k (add_safe (node o k children) m)))

-- the same where the call has only an `id` besides
sources_safe : (o : Op) (kinds : List Kind) (given : List Argument) (m : Machine) (j : Kind) → j ∷ [] ≡ kinds → Taking all m.plan.nodes (perhaps (codes "id") ∷ in_place (codes "sources") ∷ []) (base_type base.Text ∷ list (source j) ∷ []) given → Safe m.plan.nodes (Of (source j)) (over_sources o kinds given m)
sources_safe o kinds given m j is_kinds whole = over_sources_safe o kinds given m j is_kinds (behind_id m.plan.nodes (in_place (codes "sources") ∷ []) (base_type base.Text) (list (source j) ∷ []) given whole)

fallback_safe : (kinds : List Kind) (given : List Argument) (m : Machine) (j : Kind) → j ∷ [] ≡ kinds → Taking all m.plan.nodes (perhaps (codes "id") ∷ perhaps (codes "track_sensitive") ∷ in_place (codes "sources") ∷ []) (base_type base.Text ∷ base_type base.Bool ∷ list (source j) ∷ []) given → Safe m.plan.nodes (Of (source j)) (fallback kinds given m)
unfolding fallback
fallback_safe kinds given m j is_kinds whole =
    let taking = behind_id m.plan.nodes (perhaps (codes "track_sensitive") ∷ in_place (codes "sources") ∷ []) (base_type base.Text) (base_type base.Bool ∷ list (source j) ∷ []) given whole in
    fixed m.plan.nodes (λ (y : Bool × List Argument). Taking strip m.plan.nodes (in_place (codes "sources") ∷ []) (list (source j) ∷ []) y.1) (Of (source j)) (sensitive_or given) (λ sensitive. over_sources (op.Fallback sensitive.0) kinds sensitive.1 m) (sensitive_step strip m.plan.nodes (in_place (codes "sources") ∷ []) (list (source j) ∷ []) given (strip_commutes (Some (codes "track_sensitive")) (label_other (codes "track_sensitive") refl)) taking) (λ sensitive taking0.
    over_sources_safe (op.Fallback sensitive.0) kinds sensitive.1 m j is_kinds taking0)

switch_safe : (kinds : List Kind) (given : List Argument) (m : Machine) (j : Kind) → j ∷ [] ≡ kinds → Taking all m.plan.nodes (perhaps (codes "id") ∷ perhaps (codes "track_sensitive") ∷ in_place (codes "pairs") ∷ []) (base_type base.Text ∷ base_type base.Bool ∷ list (tuple (pair_types j)) ∷ []) given → Safe m.plan.nodes (Of (source j)) (switch kinds given m)
unfolding switch
switch_safe kinds given m j is_kinds whole =
    let taking = behind_id m.plan.nodes (perhaps (codes "track_sensitive") ∷ in_place (codes "pairs") ∷ []) (base_type base.Text) (base_type base.Bool ∷ list (tuple (pair_types j)) ∷ []) given whole in
    fixed m.plan.nodes (λ (y : Bool × List Argument). Taking strip m.plan.nodes (in_place (codes "pairs") ∷ []) (list (tuple (pair_types j)) ∷ []) y.1) (Of (source j)) (sensitive_or given) (λ sensitive. one_kind kinds >>= λ k. few_pairs m.plan.nodes k sensitive.1 >>= λ pairs. add (node (op.Switch sensitive.0 pairs.0) k pairs.1) m) (sensitive_step strip m.plan.nodes (in_place (codes "pairs") ∷ []) (list (tuple (pair_types j)) ∷ []) given (strip_commutes (Some (codes "track_sensitive")) (label_other (codes "track_sensitive") refl)) taking) (λ sensitive taking0.
    fixed m.plan.nodes (λ k. k ≡ j) (Of (source j)) (one_kind kinds) (λ k. few_pairs m.plan.nodes k sensitive.1 >>= λ pairs. add (node (op.Switch sensitive.0 pairs.0) k pairs.1) m) (kind_step kinds j is_kinds) (λ k is_k.
    fixed m.plan.nodes (λ _. ⊤) (Of (source j)) (few_pairs m.plan.nodes k sensitive.1) (λ pairs. add (node (op.Switch sensitive.0 pairs.0) k pairs.1) m) (few_pairs_step strip m.plan.nodes k (codes "pairs") [] [] sensitive.1 (strip_commutes None plain_other) (subst (λ (i : Kind). Taking strip m.plan.nodes (in_place (codes "pairs") ∷ []) (list (tuple (pair_types i)) ∷ []) sensitive.1) (sym is_k) taking0)) (λ pairs _.
    subst (λ (i : Kind). Safe m.plan.nodes (Of (source i)) (add (node (op.Switch sensitive.0 pairs.0) k pairs.1) m)) is_k (add_safe (node (op.Switch sensitive.0 pairs.0) k pairs.1) m))))

random_safe : (at : ℕ) (kinds : List Kind) (given : List Argument) (m : Machine) (j : Kind) → j ∷ [] ≡ kinds → Taking all m.plan.nodes (perhaps (codes "id") ∷ perhaps (codes "seed") ∷ in_place (codes "sources") ∷ []) (base_type base.Text ∷ base_type base.Int ∷ list (source j) ∷ []) given → Safe m.plan.nodes (Of (source j)) (random at kinds given m)
unfolding random
random_safe at kinds given m j is_kinds whole =
    let taking = behind_id m.plan.nodes (perhaps (codes "seed") ∷ in_place (codes "sources") ∷ []) (base_type base.Text) (base_type base.Int ∷ list (source j) ∷ []) given whole in
    fixed m.plan.nodes (λ (y : ℤ × List Argument). Taking strip m.plan.nodes (in_place (codes "sources") ∷ []) (list (source j) ∷ []) y.1) (Of (source j)) (int_or (codes "seed") (pos 0) given) (λ number. one_kind kinds >>= λ k. plain_sources m.plan.nodes k number.1 >>= λ sources. seed_of at number.0 >>= λ seed. few sources.0 >>= λ children. add (node (op.Random seed) k children) m) (int_or_step strip m.plan.nodes (codes "seed") (in_place (codes "sources") ∷ []) (list (source j) ∷ []) given (pos 0) (strip_commutes (Some (codes "seed")) (label_other (codes "seed") refl)) taking) (λ number taking0.
    fixed m.plan.nodes (λ k. k ≡ j) (Of (source j)) (one_kind kinds) (λ k. plain_sources m.plan.nodes k number.1 >>= λ sources. seed_of at number.0 >>= λ seed. few sources.0 >>= λ children. add (node (op.Random seed) k children) m) (kind_step kinds j is_kinds) (λ k is_k.
    fixed m.plan.nodes (λ (y : List ℕ × List Argument). Taking strip m.plan.nodes [] [] y.1) (Of (source j)) (plain_sources m.plan.nodes k number.1) (λ sources. seed_of at number.0 >>= λ seed. few sources.0 >>= λ children. add (node (op.Random seed) k children) m) (sources_step strip m.plan.nodes (codes "sources") [] [] number.1 k (strip_commutes None plain_other) (subst (λ (i : Kind). Taking strip m.plan.nodes (in_place (codes "sources") ∷ []) (list (source i) ∷ []) number.1) (sym is_k) taking0)) (λ sources _.
    fixed m.plan.nodes (λ _. ⊤) (Of (source j)) (seed_of at number.0) (λ seed. few sources.0 >>= λ children. add (node (op.Random seed) k children) m) (seed_step at number.0) (λ seed _.
    fixed m.plan.nodes (λ _. ⊤) (Of (source j)) (few sources.0) (λ children. add (node (op.Random seed) k children) m) (few_step sources.0) (λ children _.
    subst (λ (i : Kind). Safe m.plan.nodes (Of (source i)) (add (node (op.Random seed) k children) m)) is_k (add_safe (node (op.Random seed) k children) m))))))

sum_safe : (kinds : List Kind) (given : List Argument) (m : Machine) (j : Kind) → j ∷ [] ≡ kinds → Taking all m.plan.nodes (perhaps (codes "id") ∷ perhaps (codes "normalize") ∷ in_place (codes "sources") ∷ []) (base_type base.Text ∷ base_type base.Bool ∷ list (source j) ∷ []) given → Safe m.plan.nodes (Of (source j)) (add_sources kinds given m)
unfolding add_sources
sum_safe kinds given m j is_kinds whole =
    let taking = behind_id m.plan.nodes (perhaps (codes "normalize") ∷ in_place (codes "sources") ∷ []) (base_type base.Text) (base_type base.Bool ∷ list (source j) ∷ []) given whole in
    fixed m.plan.nodes (λ (y : Bool × List Argument). Taking strip m.plan.nodes (in_place (codes "sources") ∷ []) (list (source j) ∷ []) y.1) (Of (source j)) (bool_or (codes "normalize") true given) (λ normalize. over_sources (op.Add normalize.0) kinds normalize.1 m) (bool_or_step strip m.plan.nodes (codes "normalize") (in_place (codes "sources") ∷ []) (list (source j) ∷ []) given true (strip_commutes (Some (codes "normalize")) (label_other (codes "normalize") refl)) taking) (λ normalize taking0.
    over_sources_safe (op.Add normalize.0) kinds normalize.1 m j is_kinds taking0)

amplify_safe : (kinds : List Kind) (given : List Argument) (m : Machine) (j : Kind) → j ∷ [] ≡ kinds → Taking all m.plan.nodes (perhaps (codes "id") ∷ in_place (codes "k") ∷ in_place (codes "s") ∷ []) (base_type base.Text ∷ base_type base.Decimal ∷ source j ∷ []) given → Safe m.plan.nodes (Of (source j)) (amplify kinds given m)
unfolding amplify
amplify_safe kinds given m j is_kinds whole =
    let taking = behind_id m.plan.nodes (in_place (codes "k") ∷ in_place (codes "s") ∷ []) (base_type base.Text) (base_type base.Decimal ∷ source j ∷ []) given whole in
    fixed m.plan.nodes (λ (y : Decimal × List Argument). Taking strip m.plan.nodes (in_place (codes "s") ∷ []) (source j ∷ []) y.1) (Of (source j)) (plain_decimal given) (λ factor. one_kind kinds >>= λ k. plain_source m.plan.nodes k factor.1 >>= λ s. add (node (op.Amplify factor.0) k (s.0 ∷ [])) m) (decimal_step strip m.plan.nodes (codes "k") (in_place (codes "s") ∷ []) (source j ∷ []) given (strip_commutes None plain_other) taking) (λ factor taking0.
    fixed m.plan.nodes (λ k. k ≡ j) (Of (source j)) (one_kind kinds) (λ k. plain_source m.plan.nodes k factor.1 >>= λ s. add (node (op.Amplify factor.0) k (s.0 ∷ [])) m) (kind_step kinds j is_kinds) (λ k is_k.
    fixed m.plan.nodes (λ (y : ℕ × List Argument). Taking strip m.plan.nodes [] [] y.1) (Of (source j)) (plain_source m.plan.nodes k factor.1) (λ s. add (node (op.Amplify factor.0) k (s.0 ∷ [])) m) (source_step strip m.plan.nodes (codes "s") [] [] factor.1 k (strip_commutes None plain_other) (subst (λ (i : Kind). Taking strip m.plan.nodes (in_place (codes "s") ∷ []) (source i ∷ []) factor.1) (sym is_k) taking0)) (λ s taking2.
    subst (λ (i : Kind). Safe m.plan.nodes (Of (source i)) (add (node (op.Amplify factor.0) k (s.0 ∷ [])) m)) is_k (add_safe (node (op.Amplify factor.0) k (s.0 ∷ [])) m))))

mean_safe : (given : List Argument) (m : Machine) → Taking all m.plan.nodes (perhaps (codes "id") ∷ in_place (codes "s") ∷ []) (base_type base.Text ∷ source Kind.Stereo ∷ []) given → Safe m.plan.nodes (Of (source Mono)) (mean given m)
unfolding mean
mean_safe given m whole =
    let taking = behind_id m.plan.nodes (in_place (codes "s") ∷ []) (base_type base.Text) (source Kind.Stereo ∷ []) given whole in
    fixed m.plan.nodes (λ (y : ℕ × List Argument). Taking strip m.plan.nodes [] [] y.1) (Of (source Mono)) (plain_source m.plan.nodes Kind.Stereo given) (λ s. add (node op.Mean Mono (s.0 ∷ [])) m) (source_step strip m.plan.nodes (codes "s") [] [] given Kind.Stereo (strip_commutes None plain_other) taking) (λ s taking0.
    add_safe (node op.Mean Mono (s.0 ∷ [])) m)

stereo_safe : (given : List Argument) (m : Machine) → Taking all m.plan.nodes (perhaps (codes "id") ∷ in_place (codes "s") ∷ []) (base_type base.Text ∷ source Mono ∷ []) given → Safe m.plan.nodes (Of (source Kind.Stereo)) (stereo given m)
unfolding stereo
stereo_safe given m whole =
    let taking = behind_id m.plan.nodes (in_place (codes "s") ∷ []) (base_type base.Text) (source Mono ∷ []) given whole in
    fixed m.plan.nodes (λ (y : ℕ × List Argument). Taking strip m.plan.nodes [] [] y.1) (Of (source Kind.Stereo)) (plain_source m.plan.nodes Mono given) (λ s. add (node op.Stereo Kind.Stereo (s.0 ∷ [])) m) (source_step strip m.plan.nodes (codes "s") [] [] given Mono (strip_commutes None plain_other) taking) (λ s taking0.
    add_safe (node op.Stereo Kind.Stereo (s.0 ∷ [])) m)

crossfade_safe : (at : ℕ) (kinds : List Kind) (given : List Argument) (m : Machine) (j : Kind) → j ∷ [] ≡ kinds → Taking all m.plan.nodes (perhaps (codes "id") ∷ perhaps (codes "duration") ∷ in_place (codes "s") ∷ []) (base_type base.Text ∷ base_type base.Decimal ∷ source j ∷ []) given → Safe m.plan.nodes (Of (source j)) (crossfade at kinds given m)
unfolding crossfade
crossfade_safe at kinds given m j is_kinds whole =
    let taking = behind_id m.plan.nodes (perhaps (codes "duration") ∷ in_place (codes "s") ∷ []) (base_type base.Text) (base_type base.Decimal ∷ source j ∷ []) given whole in
    fixed m.plan.nodes (λ (y : Decimal × List Argument). Taking strip m.plan.nodes (in_place (codes "s") ∷ []) (source j ∷ []) y.1) (Of (source j)) (decimal_or (codes "duration") (some_millionths 5000000 tt) given) (λ duration. one_kind kinds >>= λ k. plain_source m.plan.nodes k duration.1 >>= λ s. short_overlap at s.0 duration.0 m.plan >>= λ overlap. add (node (op.Crossfade overlap) k (s.0 ∷ [])) m) (decimal_or_step strip m.plan.nodes (codes "duration") (in_place (codes "s") ∷ []) (source j ∷ []) given (some_millionths 5000000 tt) (strip_commutes (Some (codes "duration")) (label_other (codes "duration") refl)) taking) (λ duration taking0.
    fixed m.plan.nodes (λ k. k ≡ j) (Of (source j)) (one_kind kinds) (λ k. plain_source m.plan.nodes k duration.1 >>= λ s. short_overlap at s.0 duration.0 m.plan >>= λ overlap. add (node (op.Crossfade overlap) k (s.0 ∷ [])) m) (kind_step kinds j is_kinds) (λ k is_k.
    fixed m.plan.nodes (λ (y : ℕ × List Argument). Taking strip m.plan.nodes [] [] y.1) (Of (source j)) (plain_source m.plan.nodes k duration.1) (λ s. short_overlap at s.0 duration.0 m.plan >>= λ overlap. add (node (op.Crossfade overlap) k (s.0 ∷ [])) m) (source_step strip m.plan.nodes (codes "s") [] [] duration.1 k (strip_commutes None plain_other) (subst (λ (i : Kind). Taking strip m.plan.nodes (in_place (codes "s") ∷ []) (source i ∷ []) duration.1) (sym is_k) taking0)) (λ s taking2.
    fixed m.plan.nodes (λ _. ⊤) (Of (source j)) (short_overlap at s.0 duration.0 m.plan) (λ overlap. add (node (op.Crossfade overlap) k (s.0 ∷ [])) m) (short_step at s.0 duration.0 m.plan) (λ overlap _.
    subst (λ (i : Kind). Safe m.plan.nodes (Of (source i)) (add (node (op.Crossfade overlap) k (s.0 ∷ [])) m)) is_k (add_safe (node (op.Crossfade overlap) k (s.0 ∷ [])) m)))))

safe_safe : (k : Kind) (s : ℕ) (m : Machine) → Safe m.plan.nodes (Of (source k)) (safe k s m)
unfolding safe
safe_safe k s m =
    after m.plan.nodes (λ ns n. slice_get ns n ≡ Some (node (op.Blank 0) k [])) (Of (source k)) (push (node (op.Blank 0) k []) m) (λ silence. add (node (op.Fallback false) k (s ∷ silence.0 ∷ [])) silence.1) (push_safe (node (op.Blank 0) k []) m)
    (λ silence _ _. add_safe (node (op.Fallback false) k (s ∷ silence.0 ∷ [])) silence.1)

mksafe_safe : (kinds : List Kind) (given : List Argument) (m : Machine) (j : Kind) → j ∷ [] ≡ kinds → Taking all m.plan.nodes (perhaps (codes "id") ∷ in_place (codes "s") ∷ []) (base_type base.Text ∷ source j ∷ []) given → Safe m.plan.nodes (Of (source j)) (mksafe kinds given m)
unfolding mksafe
mksafe_safe kinds given m j is_kinds whole =
    let taking = behind_id m.plan.nodes (in_place (codes "s") ∷ []) (base_type base.Text) (source j ∷ []) given whole in
    fixed m.plan.nodes (λ k. k ≡ j) (Of (source j)) (one_kind kinds) (λ k. plain_source m.plan.nodes k given >>= λ s. safe k s.0 m) (kind_step kinds j is_kinds) (λ k is_k.
    fixed m.plan.nodes (λ (y : ℕ × List Argument). Taking strip m.plan.nodes [] [] y.1) (Of (source j)) (plain_source m.plan.nodes k given) (λ s. safe k s.0 m) (source_step strip m.plan.nodes (codes "s") [] [] given k (strip_commutes None plain_other) (subst (λ (i : Kind). Taking strip m.plan.nodes (in_place (codes "s") ∷ []) (source i ∷ []) given) (sym is_k) taking)) (λ s taking1.
    subst (λ (i : Kind). Safe m.plan.nodes (Of (source i)) (safe k s.0 m)) is_k (safe_safe k s.0 m)))

buffer_safe : (at : ℕ) (kinds : List Kind) (given : List Argument) (m : Machine) (j : Kind) → j ∷ [] ≡ kinds → Taking all m.plan.nodes (perhaps (codes "id") ∷ perhaps (codes "buffer") ∷ perhaps (codes "max") ∷ in_place (codes "s") ∷ []) (base_type base.Text ∷ base_type base.Decimal ∷ base_type base.Decimal ∷ source j ∷ []) given → Safe m.plan.nodes (Of (source j)) (buffer at kinds given m)
unfolding buffer
buffer_safe at kinds given m j is_kinds whole =
    let taking = behind_id m.plan.nodes (perhaps (codes "buffer") ∷ perhaps (codes "max") ∷ in_place (codes "s") ∷ []) (base_type base.Text) (base_type base.Decimal ∷ base_type base.Decimal ∷ source j ∷ []) given whole in
    fixed m.plan.nodes (λ (y : Decimal × List Argument). Taking strip m.plan.nodes (perhaps (codes "max") ∷ in_place (codes "s") ∷ []) (base_type base.Decimal ∷ source j ∷ []) y.1) (Of (source j)) (decimal_or (codes "buffer") (some_millionths 1000000 tt) given) (λ held. decimal_or (codes "max") (some_millionths 10000000 tt) held.1 >>= λ most. one_kind kinds >>= λ k. plain_source m.plan.nodes k most.1 >>= λ s. buffer_plan at held.0 most.0 m.plan >>= λ made. add_buffer s.0 k made m) (decimal_or_step strip m.plan.nodes (codes "buffer") (perhaps (codes "max") ∷ in_place (codes "s") ∷ []) (base_type base.Decimal ∷ source j ∷ []) given (some_millionths 1000000 tt) (strip_commutes (Some (codes "buffer")) (label_other (codes "buffer") refl)) taking) (λ held taking0.
    fixed m.plan.nodes (λ (y : Decimal × List Argument). Taking strip m.plan.nodes (in_place (codes "s") ∷ []) (source j ∷ []) y.1) (Of (source j)) (decimal_or (codes "max") (some_millionths 10000000 tt) held.1) (λ most. one_kind kinds >>= λ k. plain_source m.plan.nodes k most.1 >>= λ s. buffer_plan at held.0 most.0 m.plan >>= λ made. add_buffer s.0 k made m) (decimal_or_step strip m.plan.nodes (codes "max") (in_place (codes "s") ∷ []) (source j ∷ []) held.1 (some_millionths 10000000 tt) (strip_commutes (Some (codes "max")) (label_other (codes "max") refl)) taking0) (λ most taking1.
    fixed m.plan.nodes (λ k. k ≡ j) (Of (source j)) (one_kind kinds) (λ k. plain_source m.plan.nodes k most.1 >>= λ s. buffer_plan at held.0 most.0 m.plan >>= λ made. add_buffer s.0 k made m) (kind_step kinds j is_kinds) (λ k is_k.
    fixed m.plan.nodes (λ (y : ℕ × List Argument). Taking strip m.plan.nodes [] [] y.1) (Of (source j)) (plain_source m.plan.nodes k most.1) (λ s. buffer_plan at held.0 most.0 m.plan >>= λ made. add_buffer s.0 k made m) (source_step strip m.plan.nodes (codes "s") [] [] most.1 k (strip_commutes None plain_other) (subst (λ (i : Kind). Taking strip m.plan.nodes (in_place (codes "s") ∷ []) (source i ∷ []) most.1) (sym is_k) taking1)) (λ s taking3.
    fixed m.plan.nodes (λ _. ⊤) (Of (source j)) (buffer_plan at held.0 most.0 m.plan) (λ made. add_buffer s.0 k made m) (buffer_step at held.0 most.0 m.plan) (λ made _.
    subst (λ (i : Kind). Safe m.plan.nodes (Of (source i)) (add_buffer s.0 k made m)) is_k (buffered_safe s.0 k made m))))))

clock_safe : (kinds : List Kind) (given : List Argument) (m : Machine) (j : Kind) → j ∷ [] ≡ kinds → Taking all m.plan.nodes (perhaps (codes "id") ∷ in_place (codes "s") ∷ []) (base_type base.Text ∷ source j ∷ []) given → Safe m.plan.nodes (Of (source j)) (clock kinds given m)
unfolding clock
clock_safe kinds given m j is_kinds whole =
    fixed m.plan.nodes (λ (y : List ℕ × List Argument). Taking all m.plan.nodes (in_place (codes "s") ∷ []) (source j ∷ []) y.1) (Of (source j)) (text_or (codes "id") [] given) (λ id. one_kind kinds >>= λ k. plain_source m.plan.nodes k id.1 >>= λ s. add (node (op.Clock id.0) k (s.0 ∷ [])) m) (text_or_step all m.plan.nodes (codes "id") (in_place (codes "s") ∷ []) (source j ∷ []) given [] (all_commutes (Some (codes "id"))) whole) (λ id taking0.
    fixed m.plan.nodes (λ k. k ≡ j) (Of (source j)) (one_kind kinds) (λ k. plain_source m.plan.nodes k id.1 >>= λ s. add (node (op.Clock id.0) k (s.0 ∷ [])) m) (kind_step kinds j is_kinds) (λ k is_k.
    fixed m.plan.nodes (λ (y : ℕ × List Argument). Taking all m.plan.nodes [] [] y.1) (Of (source j)) (plain_source m.plan.nodes k id.1) (λ s. add (node (op.Clock id.0) k (s.0 ∷ [])) m) (source_step all m.plan.nodes (codes "s") [] [] id.1 k (all_commutes None) (subst (λ (i : Kind). Taking all m.plan.nodes (in_place (codes "s") ∷ []) (source i ∷ []) id.1) (sym is_k) taking0)) (λ s taking2.
    subst (λ (i : Kind). Safe m.plan.nodes (Of (source i)) (add (node (op.Clock id.0) k (s.0 ∷ [])) m)) is_k (add_safe (node (op.Clock id.0) k (s.0 ∷ [])) m))))

set_safe : (given : List Argument) (m : Machine) (t : Ground) → Taking all m.plan.nodes (in_place (codes "key") ∷ in_place (codes "value") ∷ []) (base_type base.Text ∷ t ∷ []) given → Safe m.plan.nodes (Of (unit)) (set given m)
unfolding set
set_safe given m t whole =
    fixed m.plan.nodes (λ (y : List ℕ × List Argument). Taking all m.plan.nodes (in_place (codes "value") ∷ []) (t ∷ []) y.1) (Of (unit)) (plain_text given) (λ key. plain_argument key.1 >>= λ value. setting key.0 value.0 m) (text_step all m.plan.nodes (codes "key") (in_place (codes "value") ∷ []) (t ∷ []) given (all_commutes None) whole) (λ key taking0.
    fixed m.plan.nodes (λ (y : Value × List Argument). Taking all m.plan.nodes [] [] y.1) (Of (unit)) (plain_argument key.1) (λ value. setting key.0 value.0 m) (value_step all m.plan.nodes (codes "value") [] [] key.1 (t) (all_commutes None) taking0) (λ value taking1.
    setting_safe key.0 value.0 m))

-- the arguments of a call by its row
taking_of : (b : Builtin) (gs : List (arguments.GivenArgument Ground)) (ks : List Kind) (g : Ground) (call : IsCallOf b gs ks g) (ns : List Node) (given : List Argument) → AreA ns given gs → Taking all ns (params_of_builtin b) (map (λ p. meaning call.at p.1) (signature b).params) given
taking_of b gs ks g call ns given are = record { gs = gs; are = are; none = call.matched.0; fits = subst (λ (ts : List Ground). TakenAs (arguments_taken (params_of_builtin b) gs) ts) (sym call.params) call.matched.2 }

pub builtins_are_safe : BuiltinsAreSafe
unfolding builtin
builtins_are_safe builtins.OutputFile at kinds gs g call given m are = subst (λ (h : Ground). Safe m.plan.nodes (Of h) (output_file kinds given m)) call.result (output_file_safe kinds given m (call.at.kind_of 0) call.kinds (taking_of builtins.OutputFile gs kinds g call m.plan.nodes given are))
builtins_are_safe builtins.Set at kinds gs g call given m are = subst (λ (h : Ground). Safe m.plan.nodes (Of h) (set given m)) call.result (set_safe given m (call.at.type_of 0) (taking_of builtins.Set gs kinds g call m.plan.nodes given are))
builtins_are_safe builtins.Single at kinds gs g call given m are = subst (λ (h : Ground). Safe m.plan.nodes (Of h) (single kinds given m)) call.result (single_safe kinds given m (call.at.kind_of 0) call.kinds (taking_of builtins.Single gs kinds g call m.plan.nodes given are))
builtins_are_safe builtins.Playlist at kinds gs g call given m are = subst (λ (h : Ground). Safe m.plan.nodes (Of h) (playlist at kinds given m)) call.result (playlist_safe at kinds given m (call.at.kind_of 0) call.kinds (taking_of builtins.Playlist gs kinds g call m.plan.nodes given are))
builtins_are_safe builtins.Blank at kinds gs g call given m are = subst (λ (h : Ground). Safe m.plan.nodes (Of h) (blank at kinds given m)) call.result (blank_safe at kinds given m (call.at.kind_of 0) call.kinds (taking_of builtins.Blank gs kinds g call m.plan.nodes given are))
builtins_are_safe builtins.Square at kinds gs g call given m are = subst (λ (h : Ground). Safe m.plan.nodes (Of h) (square at kinds given m)) call.result (square_safe at kinds given m (call.at.kind_of 0) call.kinds (taking_of builtins.Square gs kinds g call m.plan.nodes given are))
builtins_are_safe builtins.Fail at kinds gs g call given m are = subst (λ (h : Ground). Safe m.plan.nodes (Of h) (fail kinds m)) call.result (fail_safe kinds m given (call.at.kind_of 0) call.kinds (taking_of builtins.Fail gs kinds g call m.plan.nodes given are))
builtins_are_safe builtins.Fallback at kinds gs g call given m are = subst (λ (h : Ground). Safe m.plan.nodes (Of h) (fallback kinds given m)) call.result (fallback_safe kinds given m (call.at.kind_of 0) call.kinds (taking_of builtins.Fallback gs kinds g call m.plan.nodes given are))
builtins_are_safe builtins.Switch at kinds gs g call given m are = subst (λ (h : Ground). Safe m.plan.nodes (Of h) (switch kinds given m)) call.result (switch_safe kinds given m (call.at.kind_of 0) call.kinds (taking_of builtins.Switch gs kinds g call m.plan.nodes given are))
builtins_are_safe builtins.Sequence at kinds gs g call given m are = subst (λ (h : Ground). Safe m.plan.nodes (Of h) (over_sources op.Sequence kinds given m)) call.result (sources_safe op.Sequence kinds given m (call.at.kind_of 0) call.kinds (taking_of builtins.Sequence gs kinds g call m.plan.nodes given are))
builtins_are_safe builtins.Rotate at kinds gs g call given m are = subst (λ (h : Ground). Safe m.plan.nodes (Of h) (over_sources op.Rotate kinds given m)) call.result (sources_safe op.Rotate kinds given m (call.at.kind_of 0) call.kinds (taking_of builtins.Rotate gs kinds g call m.plan.nodes given are))
builtins_are_safe builtins.Random at kinds gs g call given m are = subst (λ (h : Ground). Safe m.plan.nodes (Of h) (random at kinds given m)) call.result (random_safe at kinds given m (call.at.kind_of 0) call.kinds (taking_of builtins.Random gs kinds g call m.plan.nodes given are))
builtins_are_safe builtins.Add at kinds gs g call given m are = subst (λ (h : Ground). Safe m.plan.nodes (Of h) (add_sources kinds given m)) call.result (sum_safe kinds given m (call.at.kind_of 0) call.kinds (taking_of builtins.Add gs kinds g call m.plan.nodes given are))
builtins_are_safe builtins.Amplify at kinds gs g call given m are = subst (λ (h : Ground). Safe m.plan.nodes (Of h) (amplify kinds given m)) call.result (amplify_safe kinds given m (call.at.kind_of 0) call.kinds (taking_of builtins.Amplify gs kinds g call m.plan.nodes given are))
builtins_are_safe builtins.Mean at kinds gs g call given m are = subst (λ (h : Ground). Safe m.plan.nodes (Of h) (mean given m)) call.result (mean_safe given m (taking_of builtins.Mean gs kinds g call m.plan.nodes given are))
builtins_are_safe builtins.Stereo at kinds gs g call given m are = subst (λ (h : Ground). Safe m.plan.nodes (Of h) (stereo given m)) call.result (stereo_safe given m (taking_of builtins.Stereo gs kinds g call m.plan.nodes given are))
builtins_are_safe builtins.Crossfade at kinds gs g call given m are = subst (λ (h : Ground). Safe m.plan.nodes (Of h) (crossfade at kinds given m)) call.result (crossfade_safe at kinds given m (call.at.kind_of 0) call.kinds (taking_of builtins.Crossfade gs kinds g call m.plan.nodes given are))
builtins_are_safe builtins.Mksafe at kinds gs g call given m are = subst (λ (h : Ground). Safe m.plan.nodes (Of h) (mksafe kinds given m)) call.result (mksafe_safe kinds given m (call.at.kind_of 0) call.kinds (taking_of builtins.Mksafe gs kinds g call m.plan.nodes given are))
builtins_are_safe builtins.Buffer at kinds gs g call given m are = subst (λ (h : Ground). Safe m.plan.nodes (Of h) (buffer at kinds given m)) call.result (buffer_safe at kinds given m (call.at.kind_of 0) call.kinds (taking_of builtins.Buffer gs kinds g call m.plan.nodes given are))
builtins_are_safe builtins.Clock at kinds gs g call given m are = subst (λ (h : Ground). Safe m.plan.nodes (Of h) (clock kinds given m)) call.result (clock_safe kinds given m (call.at.kind_of 0) call.kinds (taking_of builtins.Clock gs kinds g call m.plan.nodes given are))
