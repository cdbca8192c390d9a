-- How arguments are taken, one parameter at a time.
use Rattle.std.proofs.Common.{◌≡◌, refl, sym, ap, ◌∙◌, ℕ, zero, suc, ◌+◌, ◌<◌, List, [], ◌∷◌, ◌++◌, length, drop, take, get_or, Option, Some, None, Bool, true, false, cond, map, arith}
use Rattle.std.proofs.lemmas.List.{at_drop_more, take_more}
use Rattle.std.proofs.lemmas.List.{map-append}
use Rattle.std.specs.List.{remove}
use Rattle.typing_rules.specs.Arguments.{Parameter, GivenArgument, after, argument, first_missing, is_label, left_over, parameter_of, parameters_of}
use Rattle.typing_rules.specs.Scoping.{tokens_given}
use Rattle.script_grammar.specs.View.{listed, param_of, view_arg, view_param}
use Rattle.script_grammar.specs.declared.tree.Arg.{Arg}
use Rattle.script_grammar.specs.declared.tree.Param.{Param}
use Rattle.script_grammar.specs.declared.tree.ParamForm.{ParamForm}
use Rattle.script_grammar.specs.declared.tree.ParamForm.TheVariants as form
use Rattle.name_scope.specs.declared.parameter.Given.{Given as AGiven}
use Rattle.typing_rules.specs.declared.fault.NameFault.{NameFault}
use Rattle.typing_rules.specs.declared.fault.NameFault.TheVariants.{Extra}
use Rattle.typing_rules.specs.NameFaults.{is_among, missing_at, param_name, repeated_at, repeats, token_of}
use Rattle.name_scope.specs.Noted.{all_sooner, mismatches, sooner}
use Rattle.name_scope.specs.Seen.{form_seen, seen_given}
use Rattle.typing_rules.proofs.Searches.{search_default}

abbrev Taken : Type 0
Taken = Option (ℕ × List (GivenArgument ℕ))

-- where the first is not it, what is found is found behind it
not_after : (g : GivenArgument ℕ) (o : Taken) → after g o ≡ None → o ≡ None
not_after g None h = refl
not_after g (Some x) h = cc

none_behind : (g : GivenArgument ℕ) (rest : List (GivenArgument ℕ)) (b : Bool) (o : Taken) → cond b (Some (g.1, rest)) (after g o) ≡ None → (b ≡ false) × (o ≡ None)
none_behind g rest true o h = cc
none_behind g rest false o h = (refl, not_after g o h)

-- an item of a slice of the arguments, as an item of the arguments
item_of : (gs slice : List AGiven) (i : ℕ) (d : AGiven) → slice ≡ gs → i < length gs → get_or slice i d ≡ get_or gs i (get_or slice i d)
item_of gs slice i d whole lt = search_default gs i d (get_or slice i d) lt (ap (λ (l : List AGiven). get_or l i d) whole)

taken_at : (label : Option (List ℕ)) (gs : List AGiven) (i : ℕ) (x : AGiven) → i < length gs → x ≡ get_or gs i x → argument label (map seen_given (take i gs)) ≡ None → is_label label (seen_given x).0 ≡ true → argument label (map seen_given gs) ≡ Some (x.at, map seen_given (remove gs i))
taken_at label [] i x lt is h same = absurd (omega (arith, lt))
taken_at label (g ∷ gs) zero x lt is h same = ap (λ (y : AGiven). cond (is_label label (seen_given y).0) (Some (y.at, map seen_given gs)) (after (seen_given y) (argument label (map seen_given gs)))) (sym is) ∙ ap (λ b. cond b (Some (x.at, map seen_given gs)) (after (seen_given x) (argument label (map seen_given gs)))) same
taken_at label (g ∷ gs) (suc i) x lt is h same =
    let parts = none_behind (seen_given g) (map seen_given (take i gs)) (is_label label (seen_given g).0) (argument label (map seen_given (take i gs))) h in
    let later = taken_at label gs i x (omega (arith, lt)) is parts.1 same in
    ap (λ b. cond b (Some (g.at, map seen_given gs)) (after (seen_given g) (argument label (map seen_given gs)))) parts.0 ∙ ap (after (seen_given g)) later

-- the same where the item is read from a slice of the arguments
pub taken_from : (label : Option (List ℕ)) (gs slice : List AGiven) (i : ℕ) (d : AGiven) → slice ≡ gs → i < length gs → argument label (map seen_given (take i gs)) ≡ None → is_label label (seen_given (get_or slice i d)).0 ≡ true → argument label (map seen_given gs) ≡ Some ((get_or slice i d).at, map seen_given (remove gs i))
taken_from label gs slice i d whole lt h same = taken_at label gs i (get_or slice i d) lt (item_of gs slice i d whole lt) h same

none_more : (label : Option (List ℕ)) (gs : List (GivenArgument ℕ)) (x : GivenArgument ℕ) → argument label gs ≡ None → is_label label x.0 ≡ false → argument label (gs ++ x ∷ []) ≡ None
none_more label [] x h other = ap (λ b. cond b (Some (x.1, [])) None) other
none_more label (g ∷ gs) x h other =
    let parts = none_behind g gs (is_label label g.0) (argument label gs) h in
    ap (λ b. cond b (Some (g.1, gs ++ x ∷ [])) (after g (argument label (gs ++ x ∷ [])))) parts.0 ∙ ap (after g) (none_more label gs x parts.1 other)

one_more_none : (label : Option (List ℕ)) (gs : List AGiven) (i : ℕ) (x : AGiven) → i < length gs → x ≡ get_or gs i x → argument label (map seen_given (take i gs)) ≡ None → is_label label (seen_given x).0 ≡ false → argument label (map seen_given (take (i + 1) gs)) ≡ None
one_more_none label gs i x lt is h other =
    ap (λ (l : List AGiven). argument label (map seen_given l)) (take_more gs i x lt ∙ ap (λ (y : AGiven). take i gs ++ y ∷ []) (sym is))
    ∙ ap (argument label) (map-append seen_given (take i gs) (x ∷ []))
    ∙ none_more label (map seen_given (take i gs)) (seen_given x) h other

pub none_from : (label : Option (List ℕ)) (gs slice : List AGiven) (i : ℕ) (d : AGiven) → slice ≡ gs → i < length gs → argument label (map seen_given (take i gs)) ≡ None → is_label label (seen_given (get_or slice i d)).0 ≡ false → argument label (map seen_given (take (i + 1) gs)) ≡ None
none_from label gs slice i d whole lt h other = one_more_none label gs i (get_or slice i d) lt (item_of gs slice i d whole lt) h other

-- the first missing parameter
abbrev pub or_first : Option (List ℕ) → Option (List ℕ) → Option (List ℕ)
or_first None later = later
or_first (Some m) later = Some m

-- arguments and parameters as the tree has them
abbrev pub token_given : Arg → GivenArgument ℕ
token_given a = (a.label, a.at)

pub tokens_listed : (args : List Arg) → map token_given args ≡ tokens_given (listed (map view_arg args))
tokens_listed [] = refl
tokens_listed (a ∷ rest) = ap (λ (l : List (GivenArgument ℕ)). token_given a ∷ l) (tokens_listed rest)

abbrev pub param_seen : Param → Parameter
param_seen p = record { name = p.name; form = form_seen p.form }

param_same : (at : ℕ) (name : List ℕ) (f : ParamForm) → record { name = name; form = form_seen f } ≡ parameter_of (param_of at name f)
param_same at name form.Plain = refl
param_same at name form.Labelled = refl
param_same at name (form.Optional f) = refl

pub params_listed : (ps : List Param) → map param_seen ps ≡ parameters_of (listed (map view_param ps))
params_listed [] = refl
params_listed (p ∷ ps) = ap (λ (x : Parameter). x ∷ map param_seen ps) (param_same p.at p.name p.form) ∙ ap (λ (l : List Parameter). parameter_of (view_param p) ∷ l) (params_listed ps)

-- faults, one at a time
abbrev pub extras : List AGiven → List NameFault
extras gs = map (λ g. Extra g.at) gs

-- parameters of one name
abbrev pub repeats_of : List (List ℕ) → List Param → List NameFault
repeats_of earlier [] = []
repeats_of earlier (p ∷ ps) = repeated_at p.at (is_among p.name earlier) ++ repeats_of (earlier ++ p.name ∷ []) ps

name_same : (at : ℕ) (name : List ℕ) (f : ParamForm) → param_name (param_of at name f) ≡ name
name_same at name form.Plain = refl
name_same at name form.Labelled = refl
name_same at name (form.Optional f) = refl

token_same : (at : ℕ) (name : List ℕ) (f : ParamForm) → token_of (param_of at name f) ≡ at
token_same at name form.Plain = refl
token_same at name form.Labelled = refl
token_same at name (form.Optional f) = refl

pub repeats_listed : (earlier : List (List ℕ)) (ps : List Param) → repeats_of earlier ps ≡ repeats earlier (listed (map view_param ps))
repeats_listed earlier [] = refl
repeats_listed earlier (p ∷ ps) =
    ap (λ (l : List NameFault). repeated_at p.at (is_among p.name earlier) ++ l) (repeats_listed (earlier ++ p.name ∷ []) ps)
    ∙ ap (λ (at : ℕ). repeated_at at (is_among p.name earlier) ++ repeats (earlier ++ p.name ∷ []) (listed (map view_param ps))) (sym (token_same p.at p.name p.form))
    ∙ ap (λ (n : List ℕ). repeated_at (token_of (view_param p)) (is_among n earlier) ++ repeats (earlier ++ n ∷ []) (listed (map view_param ps))) (sym (name_same p.at p.name p.form))

abbrev pub param_names : List Param → List (List ℕ)
param_names ps = map (λ p. p.name) ps

pub all_sooner_more : (o : Option NameFault) (fs gs : List NameFault) → all_sooner o (fs ++ gs) ≡ all_sooner (all_sooner o fs) gs
all_sooner_more o [] gs = refl
all_sooner_more o (f ∷ fs) gs = all_sooner_more (sooner o f) fs gs

pub repeat_next : (ps : List Param) (i : ℕ) (p : Param) (o q whole : Option NameFault) (r : Bool) → all_sooner o (repeats_of (param_names (take i ps)) (drop i ps)) ≡ whole → i < length ps → p ≡ get_or ps i p → r ≡ is_among p.name (param_names (take i ps)) → q ≡ all_sooner o (repeated_at p.at r) → all_sooner q (repeats_of (param_names (take (i + 1) ps)) (drop (i + 1) ps)) ≡ whole
repeat_next ps i p o q whole r so lt is rr qq =
    let names : param_names (take (i + 1) ps) ≡ param_names (take i ps) ++ p.name ∷ [] = ap param_names (take_more ps i p lt ∙ ap (λ (y : Param). take i ps ++ y ∷ []) (sym is)) ∙ map-append (λ (x : Param). x.name) (take i ps) (p ∷ []) in
    let here = repeated_at p.at (is_among p.name (param_names (take i ps))) in
    let later = repeats_of (param_names (take i ps) ++ p.name ∷ []) (drop (i + 1) ps) in
    ap (λ (l : List (List ℕ)). all_sooner q (repeats_of l (drop (i + 1) ps))) names
    ∙ ap (λ (x : Option NameFault). all_sooner x later) (qq ∙ ap (λ (b : Bool). all_sooner o (repeated_at p.at b)) rr)
    ∙ sym (all_sooner_more o here later)
    ∙ ap (λ (y : Param). all_sooner o (repeats_of (param_names (take i ps)) (y ∷ drop (i + 1) ps))) is
    ∙ sym (at_drop_more (λ l. all_sooner o (repeats_of (param_names (take i ps)) l)) ps i p lt) ∙ so

extras_seen : (gs : List AGiven) → extras gs ≡ map (λ g. Extra g.1) (map seen_given gs)
extras_seen [] = refl
extras_seen (g ∷ gs) = ap (λ (l : List NameFault). Extra g.at ∷ l) (extras_seen gs)

-- all faults of a call's arguments
pub mismatches_done : (o p q : Option NameFault) (at : ℕ) (ps : List Parameter) (gs tokens : List (GivenArgument ℕ)) (left rest : List AGiven) (m : Option (List ℕ)) → gs ≡ tokens → m ≡ first_missing ps gs → map seen_given left ≡ left_over ps gs → p ≡ all_sooner o (missing_at at m) → rest ≡ left → q ≡ all_sooner p (extras rest) → q ≡ all_sooner o (mismatches at ps tokens)
mismatches_done o p q at ps gs tokens left rest m g mm ll pp rr qq =
    qq ∙ ap (λ (l : List AGiven). all_sooner p (extras l)) rr ∙ ap (λ (l : List NameFault). all_sooner p l) (extras_seen left ∙ ap (map (λ g. Extra g.1)) ll)
    ∙ ap (λ (x : Option NameFault). all_sooner x (map (λ g. Extra g.1) (left_over ps gs))) (pp ∙ ap (λ (x : Option (List ℕ)). all_sooner o (missing_at at x)) mm)
    ∙ sym (all_sooner_more o (missing_at at (first_missing ps gs)) (map (λ g. Extra g.1) (left_over ps gs)))
    ∙ ap (λ (l : List (GivenArgument ℕ)). all_sooner o (mismatches at ps l)) g
