use Rattle.std.proofs.Common.{◌∙◌, ap}
use Rattle.station_facts.specs.Files.{files_object, once}
use Rattle.track_library.specs.Loads.{rules_for}
use Rattle.station_facts.proofs.Each.{alone}
use Rattle.station_facts.proofs.Found.{none_asked}
use Rattle.station_facts.proofs.files.tell_files.Goals as goal

pub returns-clause-told : goal.returns-clause-told
returns-clause-told g c =
    let list_looks = c.in_ok-list_looks.list_looks.items in
    let looks = c.in_ok-looks.looks.items in
    record {
      inferred = c.in_ok-inferred.inferred;
      is_inferred = c.in_ok-inferred.ensures;
      list_looks = list_looks;
      behind_lists = g.S.Shelf.told c.look_at_lists.new.shelf;
      lists = rw (c.as_slice.ensures.keys, c.in_ok-lists.ensures) at c.in_ok-list_looks.ensures.looks;
      looks = looks;
      sounds = rw (c.as_slice-2.ensures.keys, c.in_ok-sounds.ensures, c.deref.ensures.value) at c.in_ok-looks.ensures.looks;
      text = alone c.into_inner.result.items c.new-out.result c.push_all.new.out
          (files_object (rules_for c.args.plan.now c.args.sizes) c.args.plan.now c.args.ats.now c.in_ok-inferred.inferred list_looks looks)
          (c.new-out.ensures.before ∙ c.new.ensures.items) c.new-out.ensures.tokens
          (rw (c.deref-2.ensures.value, c.deref-3.ensures.value) at c.in_ok-push_all.ensures) c.into_inner.ensures.items;
    }

pub returns-in_err-list_looks-clause-untouched : goal.returns-in_err-list_looks-clause-untouched
returns-in_err-list_looks-clause-untouched g c = λ none.
    c.look_at_lists.ensures.untouched (c.as_slice.ensures.keys ∙ c.in_ok-lists.ensures ∙ ap once none.0)

pub returns-in_err-sounds-clause-untouched : goal.returns-in_err-sounds-clause-untouched
returns-in_err-sounds-clause-untouched g c = λ none.
    c.look_at_lists.ensures.untouched (c.as_slice.ensures.keys ∙ c.in_ok-lists.ensures ∙ ap once none.0)

pub returns-in_err-looks-clause-untouched : goal.returns-in_err-looks-clause-untouched
returns-in_err-looks-clause-untouched g c =
    none_asked c.args.plan.now c.as_slice.result.now c.in_ok-lists.lists.keys c.as_slice-2.result.now c.in_ok-sounds.sounds.keys
    c.in_ok-list_looks.list_looks.items c.deref.result.now (g.S.Shelf.told c.args.shelf.now) (g.S.Shelf.told c.look_at_lists.new.shelf)
    c.look_at_lists.ensures.untouched c.look_at_sounds.ensures.untouched c.as_slice.ensures.keys c.in_ok-lists.ensures c.in_ok-list_looks.ensures.looks
    c.as_slice-2.ensures.keys c.in_ok-sounds.ensures c.deref.ensures.value

pub returns-in_err-push_all-clause-untouched : goal.returns-in_err-push_all-clause-untouched
returns-in_err-push_all-clause-untouched g c =
    none_asked c.args.plan.now c.as_slice.result.now c.in_ok-lists.lists.keys c.as_slice-2.result.now c.in_ok-sounds.sounds.keys
    c.in_ok-list_looks.list_looks.items c.deref.result.now (g.S.Shelf.told c.args.shelf.now) (g.S.Shelf.told c.look_at_lists.new.shelf)
    c.look_at_lists.ensures.untouched c.look_at_sounds.ensures.untouched c.as_slice.ensures.keys c.in_ok-lists.ensures c.in_ok-list_looks.ensures.looks
    c.as_slice-2.ensures.keys c.in_ok-sounds.ensures c.deref.ensures.value

pub returns-clause-untouched : goal.returns-clause-untouched
returns-clause-untouched g c =
    none_asked c.args.plan.now c.as_slice.result.now c.in_ok-lists.lists.keys c.as_slice-2.result.now c.in_ok-sounds.sounds.keys
    c.in_ok-list_looks.list_looks.items c.deref.result.now (g.S.Shelf.told c.args.shelf.now) (g.S.Shelf.told c.look_at_lists.new.shelf)
    c.look_at_lists.ensures.untouched c.look_at_sounds.ensures.untouched c.as_slice.ensures.keys c.in_ok-lists.ensures c.in_ok-list_looks.ensures.looks
    c.as_slice-2.ensures.keys c.in_ok-sounds.ensures c.deref.ensures.value
