use Rattle.std.proofs.Common.{◌≡◌, ◌++◌, ◌&&◌, ◌||◌, ◌∙◌, ℕ, Bool, Some, not, ap, refl, rules}
use Rattle.std.specs.Prelude.{map, slice_get}
use Rattle.std.proofs.lemmas.Option.{slice_get_read}
use Rattle.time_pred.specs.View.{view_shared}
use Rattle.week_plan.specs.Spans.{some_case_holds}
use Rattle.week_plan.specs.Tables.{is_told}
use Rattle.week_lines.specs.Weeks.{fates_text, holes_text, is_silence}
use Rattle.week_lines.proofs.Kept.{is_found, same_fates, same_holes}
use Rattle.week_lines.proofs.Telling.{daily_same, spans_same}
use Rattle.week_lines.proofs.switches.push_looked.Goals as goal

pub returns-clause-text : goal.returns-clause-text
returns-clause-text c =
    let told = c.in_ok-push_seen.ensures.text in
    let looked = c.index.result.now in
    let found = c.in_ok-place.ensures.at in
    let read : slice_get c.look_kept.new.kept.items c.in_ok-place.place ≡ Some looked = search (rules, slice_get_read) in
    let is = is_found c.look_kept.new.kept.items c.in_ok-place.place (map view_shared c.args.preds.now) c.in_ok-sure.sure.items looked read found in
    let holes = looked.seen.holes.items in
    let fates = looked.seen.fates.items in
    let switch = c.args.switch in
    let test = λ (at : ℕ). not (some_case_holds (map view_shared c.args.preds.now) at) in
    let same = same_holes looked found.looked (map view_shared c.args.preds.now) is found.told found.of_preds in (
      holes_text switch.number told.0 told.2 switch.instead switch.sensitive switch.below ++ fates_text switch.number 0 fates,
      record {
        spans = told.0;
        holes = spans_same (is_told holes) test told.0 same told.1;
        daily = told.2;
        is_daily = daily_same (is_told holes) test told.2 same told.3;
        fates = fates;
        are_fates = same_fates looked found.looked (map view_shared c.args.preds.now) _ is found.told found.of_preds (found.of_sure ∙ c.in_ok-sure.ensures);
        lines = refl;
      },
      told.4,
    )

pub returns-clause-silent : goal.returns-clause-silent
returns-clause-silent c =
    let told = c.in_ok-push_seen.ensures.silent in
    let looked = c.index.result.now in
    let found = c.in_ok-place.ensures.at in
    let read : slice_get c.look_kept.new.kept.items c.in_ok-place.place ≡ Some looked = search (rules, slice_get_read) in
    let is = is_found c.look_kept.new.kept.items c.in_ok-place.place (map view_shared c.args.preds.now) c.in_ok-sure.sure.items looked read found in
    let same = same_holes looked found.looked (map view_shared c.args.preds.now) is found.told found.of_preds in
    record {
      table = told.table;
      same = λ at low.
          told.same at low
          ∙ ap (λ (b : Bool). is_told c.args.silent.now at || (is_silence c.args.switch.instead && b)) (same at low);
    }
