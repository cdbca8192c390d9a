use Rattle.std.proofs.Common.{◌≡◌, ap, List, [], length, map}
use Rattle.std.specs.List.{flat_map}
use Rattle.type_terms.specs.Term.{source_term}
use Rattle.type_terms.specs.declared.ty.KindTerm.{KindTerm}
use Rattle.typing_rules.specs.Kinds.{numbered_on}
use Rattle.general_types.specs.Numbering.{place_of}
use Rattle.general_types.proofs.Ordering.{places_next}
use Rattle.general_types.proofs.Places.{numbered_none}
use Rattle.general_types.proofs.Steps.{numbered_all, source_next}
use Rattle.general_types.proofs.numbering.push_places.Goals as goal

pub loop-source-init : goal.loop-source-init
loop-source-init c =
    let none : c.args.places.now.items ≡ [] = c.requires in
    record {
      numbered = λ ts. numbered_none ts _ _ (ap (map source_term) none);
      next = ap (λ (cs : List KindTerm). numbered_on (length c.args.kinds.now.keys) (flat_map place_of cs)) none;
    }

pub loop-source-preserved : goal.loop-source-preserved
loop-source-preserved c = record {
  numbered = λ ts. source_next ts _ _ _ c.args.sources.now c.loop-source.places.items _ c.loop-source.source-index c.source-item.result c.in-Source.kind _ c.loop-source-test.true c.source-item.is c.in-Source.is c.in_ok-push-in-Source.ensures.items (c.loop-source.invariant.numbered ts) (c.in_ok-place-in-Source.ensures.numbered ts);
  next = places_next c.loop-source.places.items _ _ _ _ _ c.in_ok-push-in-Source.ensures.items c.loop-source.invariant.next c.in_ok-place-in-Source.ensures.next;
}

pub returns : goal.returns
returns c = record {
  numbered = λ ts. numbered_all ts _ ts _ c.args.sources.now _ c.loop-source.source-index c.loop-source-test.false (c.loop-source.invariant.numbered ts);
  next = c.loop-source.invariant.next;
}
