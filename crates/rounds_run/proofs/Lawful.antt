-- What lists tell of the calls that led to them.
use Rattle.std.proofs.Common.{◌≡◌, ◌<◌, ◌+◌, ◌∙◌, ◌++◌, ℕ, suc, Bool, true, false, cond, Option, Some, None, List, [], ◌∷◌, length, get_or, map, take, ◌==◌, append-nil, append_assoc, count_by, arith, refl, ap, sym, subst}
use Rattle.std.specs.Prelude.{is_none, is_some, not}
use Rattle.std.specs.List.{fold}
use Rattle.std.proofs.lemmas.List.{map-append}
use Rattle.std.proofs.Math.Seq.{take-suc}
use Rattle.frame_core.specs.declared.cell.Cell.{Cell}
use Rattle.frame_core.specs.Calls.{Call, Took, Given, put_of, puts_to, takes_of}
use Rattle.buffer_queue.specs.Window.{is_chunk}
use Rattle.run_records.specs.Records.{Follows, Window, on as calls_on}
use Rattle.buffer_ends.specs.Local.{Answers, Held, Leads, LocalBuffer, Step, all_answers, closed, closed_windows, counts_of, empty_list, held, on, yes}
use Rattle.buffer_sides.specs.Logs.{told}
use Rattle.rounds_run.specs.Runs.{counts_of_windows}

-- the answers of a list, before and after calls
pub record Told (puts takes : List (Option (List Cell))) (before after : Held) : Type 0 where
  pub puts_told : after.answers.puts ≡ before.answers.puts ++ map is_chunk puts
  pub takes_told : after.answers.takes ≡ before.answers.takes ++ map is_chunk takes

told_none : (before after : Held) → before ≡ after → Told [] [] before after
told_none before after same = record {
  puts_told = ap (λ (h : Held). h.answers.puts) (sym same) ∙ sym (append-nil before.answers.puts);
  takes_told = ap (λ (h : Held). h.answers.takes) (sym same) ∙ sym (append-nil before.answers.takes);
}

told_took : (buffer : ℕ) (answer : Option (List Cell)) (puts takes : List (Option (List Cell))) (before between after : Held) → Step before (Took buffer answer) between
    → Told puts takes between after → Told puts (answer ∷ takes) before after
told_took buffer None puts takes before between after step told = record {
  puts_told = told.puts_told ∙ ap (λ (h : Held). h.answers.puts ++ map is_chunk puts) step.1;
  takes_told = told.takes_told ∙ ap (λ (h : Held). h.answers.takes ++ map is_chunk takes) step.1 ∙ append_assoc before.answers.takes (false ∷ []) (map is_chunk takes);
}
told_took buffer (Some chunk) puts takes before between after step told = record {
  puts_told = told.puts_told ∙ ap (λ (h : Held). h.answers.puts ++ map is_chunk puts) step.2;
  takes_told = told.takes_told ∙ ap (λ (h : Held). h.answers.takes ++ map is_chunk takes) step.2 ∙ append_assoc before.answers.takes (true ∷ []) (map is_chunk takes);
}

told_gave : (buffer : ℕ) (chunk : List Cell) (took_it : Bool) (puts takes : List (Option (List Cell))) (before between after : Held) → Step before (Given buffer chunk took_it) between
    → Told puts takes between after → Told (put_of chunk took_it ∷ puts) takes before after
told_gave buffer chunk true puts takes before between after step told = record {
  puts_told = told.puts_told ∙ ap (λ (h : Held). h.answers.puts ++ map is_chunk puts) step.1 ∙ append_assoc before.answers.puts (true ∷ []) (map is_chunk puts);
  takes_told = told.takes_told ∙ ap (λ (h : Held). h.answers.takes ++ map is_chunk takes) step.1;
}
told_gave buffer chunk false puts takes before between after step told = record {
  puts_told = told.puts_told ∙ ap (λ (h : Held). h.answers.puts ++ map is_chunk puts) step.1 ∙ append_assoc before.answers.puts (false ∷ []) (map is_chunk puts);
  takes_told = told.takes_told ∙ ap (λ (h : Held). h.answers.takes ++ map is_chunk takes) step.1;
}

took_by : (t : Bool) (b of : ℕ) (answer : Option (List Cell)) (calls : List Call) (before after : Held)
    → ((between : Held) → Leads between (on b calls) after → Told (puts_to b calls) (takes_of b calls) between after)
    → Leads before (cond t (Took of answer ∷ on b calls) (on b calls)) after → Told (puts_to b calls) (cond t (answer ∷ takes_of b calls) (takes_of b calls)) before after
took_by true b of answer calls before after rec leads = told_took of answer (puts_to b calls) (takes_of b calls) before leads.0 after leads.1 (rec leads.0 leads.2)
took_by false b of answer calls before after rec leads = rec before leads

gave_by : (t : Bool) (b to : ℕ) (chunk : List Cell) (took_it : Bool) (calls : List Call) (before after : Held)
    → ((between : Held) → Leads between (on b calls) after → Told (puts_to b calls) (takes_of b calls) between after)
    → Leads before (cond t (Given to chunk took_it ∷ on b calls) (on b calls)) after → Told (cond t (put_of chunk took_it ∷ puts_to b calls) (puts_to b calls)) (takes_of b calls) before after
gave_by true b to chunk took_it calls before after rec leads = told_gave to chunk took_it (puts_to b calls) (takes_of b calls) before leads.0 after leads.1 (rec leads.0 leads.2)
gave_by false b to chunk took_it calls before after rec leads = rec before leads

pub leads_told : (b : ℕ) (calls : List Call) (before after : Held) → Leads before (on b calls) after → Told (puts_to b calls) (takes_of b calls) before after
leads_told b [] before after leads = told_none before after leads
leads_told b (Took of answer ∷ calls) before after leads = took_by (b == of) b of answer calls before after (λ between led. leads_told b calls between after led) leads
leads_told b (Given to chunk took_it ∷ calls) before after leads = gave_by (b == to) b to chunk took_it calls before after (λ between led. leads_told b calls between after led) leads

-- the calls that lead from one list to another are followed by its chunks
same_capacity : (before : Held) (call : Call) (after : Held) → Step before call after → after.capacity ≡ before.capacity
same_capacity before (Took b None) after s = ap (λ (x : Held). x.capacity) s.1
same_capacity before (Took b (Some c)) after s = ap (λ (x : Held). x.capacity) s.2
same_capacity before (Given b c true) after s = ap (λ (x : Held). x.capacity) s.1
same_capacity before (Given b c false) after s = ap (λ (x : Held). x.capacity) s.1

follows : (capacity : ℕ) (calls : List Call) (before after : Held) → before.capacity ≡ capacity → Leads before calls after → Follows capacity before.chunks calls after.chunks
follows capacity [] before after fits leads = ap (λ (h : Held). h.chunks) leads
follows capacity (Took b None ∷ calls) before after fits leads = (
  leads.1.0,
  subst (λ (q : List (List Cell)). Follows capacity q calls after.chunks) (ap (λ (h : Held). h.chunks) leads.1.1) (follows capacity calls leads.0 after (same_capacity before (Took b None) leads.0 leads.1 ∙ fits) leads.2),
)
follows capacity (Took b (Some chunk) ∷ calls) before after fits leads = (
  leads.1.0,
  leads.1.1,
  subst (λ (q : List (List Cell)). Follows capacity q calls after.chunks) (ap (λ (h : Held). h.chunks) leads.1.2) (follows capacity calls leads.0 after (same_capacity before (Took b (Some chunk)) leads.0 leads.1 ∙ fits) leads.2),
)
follows capacity (Given b chunk true ∷ calls) before after fits leads = (
  (let low = leads.1.0 in omega (arith, low, fits)),
  subst (λ (q : List (List Cell)). Follows capacity q calls after.chunks) (ap (λ (h : Held). h.chunks) leads.1.1) (follows capacity calls leads.0 after (same_capacity before (Given b chunk true) leads.0 leads.1 ∙ fits) leads.2),
)
follows capacity (Given b chunk false ∷ calls) before after fits leads = (
  leads.1.0 ∙ fits,
  subst (λ (q : List (List Cell)). Follows capacity q calls after.chunks) (ap (λ (h : Held). h.chunks) leads.1.1) (follows capacity calls leads.0 after (same_capacity before (Given b chunk false) leads.0 leads.1 ∙ fits) leads.2),
)

-- the two spellings of the calls on a buffer
on_is : (b : ℕ) (calls : List Call) → on b calls ≡ calls_on b calls
on_is b [] = refl
on_is b (Took of answer ∷ calls) = ap (λ (rest : List Call). cond (b == of) (Took of answer ∷ rest) rest) (on_is b calls)
on_is b (Given to chunk took_it ∷ calls) = ap (λ (rest : List Call). cond (b == to) (Given to chunk took_it ∷ rest) rest) (on_is b calls)

pub leads_follow : (capacity b : ℕ) (calls : List Call) (after : Held) → Leads (empty_list capacity) (on b calls) after → Follows capacity [] (calls_on b calls) after.chunks
leads_follow capacity b calls after leads =
    subst (λ (cs : List Call). Follows capacity [] cs after.chunks) (on_is b calls) (follows capacity (on b calls) (empty_list capacity) after refl leads)

-- how many answers are chunks
some_from : (n : ℕ) (xs : List (Option (List Cell))) → fold (λ (a : ℕ) (x : Bool). a + cond (yes x) 1 0) n (map is_chunk xs) ≡ fold (λ (a : ℕ) (x : Option (List Cell)). a + cond (is_some x) 1 0) n xs
some_from n [] = refl
some_from n (None ∷ xs) = some_from (n + 0) xs
some_from n (Some chunk ∷ xs) = some_from (n + 1) xs

pub some_counted : (xs : List (Option (List Cell))) → count_by yes (map is_chunk xs) ≡ count_by is_some xs
some_counted xs = some_from 0 xs

none_from : (n : ℕ) (xs : List (Option (List Cell))) → fold (λ (a : ℕ) (x : Bool). a + cond (not x) 1 0) n (map is_chunk xs) ≡ fold (λ (a : ℕ) (x : Option (List Cell)). a + cond (is_none x) 1 0) n xs
none_from n [] = refl
none_from n (None ∷ xs) = none_from (n + 1) xs
none_from n (Some chunk ∷ xs) = none_from (n + 0) xs

pub none_counted : (xs : List (Option (List Cell))) → count_by not (map is_chunk xs) ≡ count_by is_none xs
none_counted xs = none_from 0 xs

-- the window of a buffer in a run of one window
abbrev pub window_of : (b : ℕ) → List Call → Window
window_of b calls = (puts_to b calls, takes_of b calls)

-- a buffer after a run, of which no window was closed before
pub counted : (b : ℕ) (calls : List Call) (list : LocalBuffer) → Leads (empty_list list.capacity) (on b calls) (held list)
    → counts_of (all_answers list) ≡ counts_of_windows (window_of b calls ∷ [])
counted b calls list leads =
    let led = leads_told b calls (empty_list list.capacity) (held list) leads in
    let puts = puts_to b calls in
    let takes = takes_of b calls in
    let all : all_answers list ≡ (record { puts = map is_chunk puts; takes = map is_chunk takes }) =
    ap (λ (p : List Bool). record { puts = p; takes = (all_answers list).takes }) led.puts_told ∙ ap (λ (t : List Bool). record { puts = map is_chunk puts; takes = t }) led.takes_told in
    let accepted : count_by yes (map is_chunk puts) ≡ count_by is_some (puts ++ []) = some_counted puts ∙ ap (count_by is_some) (sym (append-nil puts)) in
    let full : count_by not (map is_chunk puts) ≡ count_by is_none (puts ++ []) = none_counted puts ∙ ap (count_by is_none) (sym (append-nil puts)) in
    let got : count_by yes (map is_chunk takes) ≡ count_by is_some (takes ++ []) = some_counted takes ∙ ap (count_by is_some) (sym (append-nil takes)) in
    let empty : count_by not (map is_chunk takes) ≡ count_by is_none (takes ++ []) = none_counted takes ∙ ap (count_by is_none) (sym (append-nil takes)) in
    ap counts_of all ∙ (λ i. record { accepted = accepted i; full = full i; got = got i; empty = empty i })

pub logged : (b : ℕ) (calls : List Call) (list : LocalBuffer) → list.closed ≡ [] → Leads (empty_list list.capacity) (on b calls) (held list)
    → closed_windows (closed list) ≡ map told (window_of b calls ∷ [])
logged b calls list none leads =
    let led = leads_told b calls (empty_list list.capacity) (held list) leads in
    let puts = puts_to b calls in
    let now : all_answers list ≡ list.current = ap (λ (ws : List Answers). all_answers (record { capacity = list.capacity; chunks = list.chunks; closed = ws; current = list.current })) none in
    let all : all_answers list ≡ told (window_of b calls) =
    ap (λ (p : List Bool). record { puts = p; takes = (all_answers list).takes }) led.puts_told
    ∙ ap (λ (t : List Bool). record { puts = map is_chunk puts; takes = t }) led.takes_told in
    ap (λ (ws : List Answers). ws ++ list.current ∷ []) none ∙ ap (λ (w : Answers). w ∷ []) (sym now ∙ all)

-- one more of a mapped list
pub map_step : {A B : Type 0} (f : A → B) (more front : List B) (item : B) (xs : List A) (j next : ℕ) (d : A) → suc j ≡ next → j < length xs
    → more ≡ front ++ (item ∷ []) → front ≡ map f (take j xs) → item ≡ f (get_or xs j d) → more ≡ map f (take next xs)
map_step f more front item xs j next d one low grew same is =
    grew ∙ ap (λ ys. ys ++ (item ∷ [])) same ∙ ap (λ y. map f (take j xs) ++ (y ∷ [])) is
    ∙ sym (ap (λ n. map f (take n xs)) (sym one) ∙ ap (map f) (take-suc xs j d low) ∙ map-append f (take j xs) (get_or xs j d ∷ []))
