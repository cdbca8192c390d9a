-- What a shelf tells of the sinks that it made, sink after sink.
use Rattle.std.proofs.Common.{◌≡◌, ◌≤◌, ◌<◌, ◌∙◌, ◌++◌, ℕ, List, [], ◌∷◌, map, refl, ap, sym, append_assoc, arith, Bool, true, false}
use Rattle.std.specs.Prelude.{Option, Some, None}
use Rattle.std.proofs.lemmas.List.{append-nil, map-append}
use Rattle.std.proofs.lemmas.List.Elements.{All-append, All-cons, All-nil}
use Rattle.std.specs.Option.{ForSome}
use Rattle.liq_base.specs.Shelves.{Closing, ShelfTold, noted, without_faults}
use Rattle.plan_core.specs.declared.sink.SinkPlan.{SinkPlan}
use Rattle.plan_core.specs.declared.sink.SinkPlan.TheVariants.{Output, Feed}
use Rattle.stream_meaning.specs.Instants.{Setting}
use Rattle.run_records.specs.Records.{Run}
use Rattle.trace_log.specs.Values.{TraceValue}
use Rattle.stations.specs.Cues.{cue_name, cue_names_if, cue_names_in, cues_if, cues_in}
use Rattle.stations.specs.Creations.{AreNamesOfFiles, CreatedFront, HaveClosed, HaveListed, after_making, names_in, trace_names, trace_names_in}
use Rattle.stations.specs.Outputs.{OutputFile}
use Rattle.stations.specs.Stations.{Station, Way, InRounds, InWindows, Again, setting_of_run}
use Rattle.stations.specs.Streams.{outputs_in}
use Rattle.stations.specs.Traces.{traced, traces_in}

-- nothing more was made
pub none_more : {A : Type 0} (told : Option (List A)) → told ≡ after_making [] told
none_more None = refl
none_more (Some before) = ap Some (sym (append-nil before))

-- one more was
pub one_more : {A : Type 0} (item : A) (told : Option (List A)) → noted item told ≡ after_making (item ∷ []) told
one_more item None = refl
one_more item (Some before) = refl

-- these were, and then those
pub both_made : {A : Type 0} (xs ys : List A) (told : Option (List A)) → after_making ys (after_making xs told) ≡ after_making (xs ++ ys) told
both_made xs ys None = refl
both_made xs ys (Some before) = ap Some (append_assoc before xs ys)

pub then_made : {A : Type 0} (xs ys : List A) (before between after : Option (List A)) → between ≡ after_making xs before → after ≡ after_making ys between → after ≡ after_making (xs ++ ys) before
then_made xs ys before between after first then_others = then_others ∙ ap (after_making ys) first ∙ both_made xs ys before

-- nothing more was closed
pub none_closed : {least : ℕ} (before after : Option (List Closing)) → after ≡ before → HaveClosed least [] before after
none_closed {least} before after same told at = record {
  closings = [];
  names_are = refl;
  pieces_are = All-nil (λ (closing : Closing). least ≤ closing.pieces);
  headers_are = All-nil (λ (closing : Closing). 0 < least → closing.faults ≡ 0 → 44 ≤ closing.bytes);
  told = same ∙ at ∙ ap Some (sym (append-nil told));
}

-- one more was
pub one_closed : {least : ℕ} (closing : Closing) (before after : Option (List Closing)) → least ≤ closing.pieces → (0 < least → closing.faults ≡ 0 → 44 ≤ closing.bytes) → after ≡ noted closing before
    → HaveClosed least (closing.name ∷ []) before after
one_closed {least} closing before after enough headed is told at = record {
  closings = closing ∷ [];
  names_are = refl;
  pieces_are = All-cons (λ (c : Closing). least ≤ c.pieces) closing [] enough (All-nil (λ (c : Closing). least ≤ c.pieces));
  headers_are = All-cons (λ (c : Closing). 0 < least → c.faults ≡ 0 → 44 ≤ c.bytes) closing [] headed (All-nil (λ (c : Closing). 0 < least → c.faults ≡ 0 → 44 ≤ c.bytes));
  told = is ∙ ap (noted closing) at;
}

-- these were, and then those
pub then_closed : {least : ℕ} (xs ys : List (List ℕ)) (before between after : Option (List Closing)) → HaveClosed least xs before between → HaveClosed least ys between after → HaveClosed least (xs ++ ys) before after
then_closed {least} xs ys before between after first others told at =
    let one = first told at in
    let more = others (told ++ one.closings) one.told in
    record {
      closings = one.closings ++ more.closings;
      names_are = map-append (λ (closing : Closing). closing.name) one.closings more.closings ∙ (λ i. one.names_are i ++ more.names_are i);
      pieces_are = All-append (λ (closing : Closing). least ≤ closing.pieces) one.closings more.closings one.pieces_are more.pieces_are;
      headers_are = All-append (λ (closing : Closing). 0 < least → closing.faults ≡ 0 → 44 ≤ closing.bytes) one.closings more.closings one.headers_are more.headers_are;
      told = more.told ∙ ap Some (append_assoc told one.closings more.closings);
    }

-- whatever pieces they got
pub closed_any : (least : ℕ) (names : List (List ℕ)) (before after : Option (List Closing)) → HaveClosed least names before after → HaveClosed 0 names before after
closed_any least names before after closed told at =
    let is = closed told at in
    record {
      closings = is.closings;
      names_are = is.names_are;
      pieces_are = λ k d low. omega arith;
      headers_are = λ k d low more. absurd (omega (arith, more));
      told = is.told;
    }

-- these closings were listed, and then those
pub none_listed : (before after : Option (List Closing)) → after ≡ before → HaveListed [] before after
none_listed before after same told at = record { more = []; same = refl; told = same ∙ at ∙ ap Some (sym (append-nil told)) }

pub one_listed : (closing one : Closing) (before after : Option (List Closing)) → without_faults one ≡ closing → after ≡ noted one before → HaveListed (closing ∷ []) before after
one_listed closing one before after same is told at = record { more = one ∷ []; same = ap (λ c. c ∷ []) same; told = is ∙ ap (noted one) at }

pub then_listed : (xs ys : List Closing) (before between after : Option (List Closing)) → HaveListed xs before between → HaveListed ys between after → HaveListed (xs ++ ys) before after
then_listed xs ys before between after first others told at =
    let one = first told at in
    let rest = others (told ++ one.more) one.told in
    record {
      more = one.more ++ rest.more;
      same = map-append without_faults one.more rest.more ∙ (λ i. one.same i ++ rest.same i);
      told = rest.told ∙ ap Some (append_assoc told one.more rest.more);
    }

-- all of them are a front of them, and so are none
pub all_made : (names : List (List ℕ)) (old new : ShelfTold) → new.created ≡ after_making names old.created → HaveClosed 0 names old.closed new.closed → CreatedFront names old new
all_made names old new is closed = record { made = names; others = []; names_are = sym (append-nil names); told = is; closed = closed }

pub none_made : (names : List (List ℕ)) (old new : ShelfTold) → new.created ≡ old.created → new.closed ≡ old.closed → CreatedFront names old new
none_made names old new is same = record {
  made = [];
  others = names;
  names_are = refl;
  told = is ∙ none_more old.created;
  closed = none_closed old.closed new.closed same;
}

-- a front is one of more names
pub front_made : (names more : List (List ℕ)) (old new : ShelfTold) → CreatedFront names old new → CreatedFront (names ++ more) old new
front_made names more old new front = record {
  made = front.made;
  others = front.others ++ more;
  names_are = ap (λ ns. ns ++ more) front.names_are ∙ append_assoc front.made front.others more;
  told = front.told;
  closed = front.closed;
}

-- all of some names, and then a front of others
pub then_front : (names more : List (List ℕ)) (old between new : ShelfTold) → between.created ≡ after_making names old.created → HaveClosed 0 names old.closed between.closed → CreatedFront more between new
    → CreatedFront (names ++ more) old new
then_front names more old between new first closed front = record {
  made = names ++ front.made;
  others = front.others;
  names_are = ap (λ ns. names ++ ns) front.names_are ∙ sym (append_assoc names front.made front.others);
  told = then_made names front.made old.created between.created new.created first front.told;
  closed = then_closed names front.made old.closed between.closed new.closed closed front.closed;
}

-- the names of two rows of sinks
pub names_both : (xs ys : List SinkPlan) → names_in (xs ++ ys) ≡ names_in xs ++ names_in ys
names_both [] ys = refl
names_both (Output name node fallible wide ∷ xs) ys = ap (λ zs. name ∷ zs) (names_both xs ys)
names_both (Feed buffer node ∷ xs) ys = names_both xs ys

-- the names of files
outputs_named : (setting : Setting) (ticks : ℕ) (sinks : List SinkPlan) → map (λ (file : OutputFile). file.name) (outputs_in setting ticks sinks) ≡ names_in sinks
outputs_named setting ticks [] = refl
outputs_named setting ticks (Output name node fallible wide ∷ sinks) = ap (λ zs. name ∷ zs) (outputs_named setting ticks sinks)
outputs_named setting ticks (Feed buffer node ∷ sinks) = outputs_named setting ticks sinks

trace_named : (name : Option (List ℕ)) (trace : TraceValue) → map (λ (file : OutputFile). file.name) (traced name trace) ≡ trace_names name
trace_named None trace = refl
trace_named (Some name) trace = refl

traces_named : (way : Way) (station : Station) (run : Run) → map (λ (file : OutputFile). file.name) (traces_in way station run) ≡ trace_names_in way station.trace
traces_named InRounds station run = refl
traces_named (InWindows window) station run = trace_named station.trace _
traces_named (Again trace) station run = refl

cues_named : (setting : Setting) (ticks : ℕ) (sinks : List SinkPlan) → map (λ (file : OutputFile). file.name) (cues_in setting ticks sinks) ≡ cue_names_in sinks
cues_named setting ticks [] = refl
cues_named setting ticks (Output name node fallible wide ∷ sinks) = ap (λ zs. cue_name name ∷ zs) (cues_named setting ticks sinks)
cues_named setting ticks (Feed buffer node ∷ sinks) = cues_named setting ticks sinks

wanted_named : (wanted : Bool) (setting : Setting) (ticks : ℕ) (sinks : List SinkPlan) → map (λ (file : OutputFile). file.name) (cues_if wanted setting ticks sinks) ≡ cue_names_if wanted sinks
wanted_named false setting ticks sinks = refl
wanted_named true setting ticks sinks = cues_named setting ticks sinks

pub files_named : (station : Station) (run : Run) → AreNamesOfFiles station run
files_named station run =
    let name : OutputFile → List ℕ = λ file. file.name in
    let S = setting_of_run station run in
    let sinks = station.plan.sinks in
    let cues = cues_if station.cues S station.ticks sinks in
    let traces = traces_in station.way station run in
    map-append name (outputs_in S station.ticks sinks) (cues ++ traces)
    ∙ ap (λ names. names ++ map name (cues ++ traces)) (outputs_named S station.ticks sinks)
    ∙ ap (λ names. names_in sinks ++ names) (map-append name cues traces
    ∙ ap (λ names. names ++ map name traces) (wanted_named station.cues S station.ticks sinks)
    ∙ ap (λ names. cue_names_if station.cues sinks ++ names) (traces_named station.way station run))
