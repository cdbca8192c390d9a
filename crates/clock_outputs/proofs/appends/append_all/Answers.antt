use Rattle.std.proofs.Common.{rules, ◌≡◌, ◌<◌, ◌∙◌, Some, length, slice_get, arith, ap, sym, refl, subst}
use Rattle.std.proofs.lemmas.Option.{slice_get_read}
use Rattle.std.proofs.Math.ListN.{length-set}
use Rattle.liq_base.specs.Pieces.{TookPiece, TookPart}
use Rattle.clock_outputs.proofs.Taken.{broke, took_more, took_none}
use Rattle.clock_outputs.proofs.appends.append_all.Goals as goal

pub loop-k-init : goal.loop-k-init
loop-k-init g c = record {
  sizes = refl;
  took = took_none g.O.Sink.told c.args.ports.now c.args.outs.now.items;
}

pub returns-then-is_err-clause-broke : goal.returns-then-is_err-clause-broke
returns-then-is_err-clause-broke g c =
    let within : c.loop-k.k < length c.loop-k.outs.items = omega (arith, c.loop-k.invariant.sizes, c.requires.sizes, c.loop-k-test.true) in
    let was : slice_get c.loop-k.outs.items c.loop-k.k ≡ Some c.index_mut.result.now = slice_get_read _ _ _ _ refl within c.index_mut.ensures.value in
    let found : slice_get c.args.ports.now c.loop-k.k ≡ Some c.index-ports-k.result = slice_get_read _ _ _ _ refl c.loop-k-test.true c.index-ports-k.is in
    let part : TookPart c.bytes.result.now (g.O.Sink.told c.index_mut.result.now) (g.O.Sink.told c.append.new.self) = search rules in
    broke g.O.Sink.told _ _ _ _ _ c.append.new.self _ within was found c.loop-k.invariant.took
    (subst (λ bytes. TookPart bytes (g.O.Sink.told c.index_mut.result.now) (g.O.Sink.told c.append.new.self)) (c.bytes.ensures ∙ ap (λ p. p.piece.bytes) (sym c.index-ports-k.is)) part)

pub loop-k-preserved : goal.loop-k-preserved
loop-k-preserved g c =
    let within : c.loop-k.k < length c.loop-k.outs.items = omega (arith, c.loop-k.invariant.sizes, c.requires.sizes, c.loop-k-test.true) in
    let was : slice_get c.loop-k.outs.items c.loop-k.k ≡ Some c.index_mut.result.now = slice_get_read _ _ _ _ refl within c.index_mut.ensures.value in
    let found : slice_get c.args.ports.now c.loop-k.k ≡ Some c.index-ports-k.result = slice_get_read _ _ _ _ refl c.loop-k-test.true c.index-ports-k.is in
    let took : TookPiece c.bytes.result.now (g.O.Sink.told c.index_mut.result.now) (g.O.Sink.told c.append.new.self) = search rules in
    record {
      sizes = length-set _ _ _ ∙ c.loop-k.invariant.sizes;
      took = took_more g.O.Sink.told _ _ _ _ _ c.append.new.self _ within was found c.loop-k.invariant.took
          (subst (λ bytes. TookPiece bytes (g.O.Sink.told c.index_mut.result.now) (g.O.Sink.told c.append.new.self)) (c.bytes.ensures ∙ ap (λ p. p.piece.bytes) (sym c.index-ports-k.is)) took);
    }
