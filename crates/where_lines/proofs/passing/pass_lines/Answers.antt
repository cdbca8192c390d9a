use Rattle.std.specs.Option.{option_map}
use Rattle.std.proofs.lemmas.Result.{err_from_is_err_and}
use Rattle.where_lines.specs.declared.passing.Broke.TheVariants as broke
use Rattle.where_lines.proofs.Breaking.{broke_before, broke_behind, broke_line}
use Rattle.where_lines.proofs.Passed.{begun, ended, line_more}
use Rattle.where_lines.proofs.passing.pass_lines.Goals as goal

pub loop-init : goal.loop-init
loop-init g c = record {
  room = c.requires.room;
  kept = c.requires.kept;
  passed = begun c.args.file.now (option_map (λ bytes. bytes.now) c.args.text) (g.R.Read.remaining c.args.input.now) (g.O.Sink.told c.args.out.now);
}

pub returns-then-not-branch-clause-done : goal.returns-then-not-branch-clause-done
returns-then-not-branch-clause-done g c =
    ended c.args.file.now (option_map (λ bytes. bytes.now) c.args.text) (g.R.Read.remaining c.args.input.now) (g.R.Read.remaining c.loop.input) (g.O.Sink.told c.args.out.now) (g.O.Sink.told c.loop.out)
    c.loop.invariant.passed (c.in_ok-read_line.ensures.none c.if-not-branch.true)

pub loop-preserved : goal.loop-preserved
loop-preserved g c =
    let behind = c.in_ok-show.ensures.behind in
    record {
      room = c.in_ok-show.ensures.room;
      kept = c.in_ok-show.ensures.kept;
      passed = line_more c.args.file.now (option_map (λ bytes. bytes.now) c.args.text) (g.R.Read.remaining c.args.input.now) (g.R.Read.remaining c.loop.input) (g.R.Read.remaining c.read_line.new.input)
          c.read_line.new.line.items behind.0 (g.O.Sink.told c.args.out.now) (g.O.Sink.told c.loop.out) (g.O.Sink.told c.write.new.out) (g.O.Sink.told c.show.new.out)
          c.loop.invariant.passed (c.in_ok-read_line.ensures.some c.if-not-branch.false) (rw c.deref.ensures.value at c.in_ok-write.ensures.took)
          (rw c.deref-in-loop.ensures.value at behind.1) behind.2;
    }

pub returns-in_err-read_line-clause-broken : goal.returns-in_err-read_line-clause-broken
returns-in_err-read_line-clause-broken g c =
    let p = err_from_is_err_and c.from_residual.result c.from_residual.ensures.1 in rw (p.1, p.2)
    (broke_before c.args.file.now (option_map (λ bytes. bytes.now) c.args.text) (g.R.Read.remaining c.args.input.now) (g.R.Read.remaining c.loop.input)
    c.in_err-read_line.field-0.0 (g.O.Sink.told c.args.out.now) (g.O.Sink.told c.loop.out) c.loop.invariant.passed c.in_err-read_line.ensures.cause)

pub returns-in_err-write-clause-broken : goal.returns-in_err-write-clause-broken
returns-in_err-write-clause-broken g c =
    let p = err_from_is_err_and c.from_residual-in_err-write.result c.from_residual-in_err-write.ensures.1 in rw (p.1, p.2)
    (broke_line c.args.file.now (option_map (λ bytes. bytes.now) c.args.text) (g.R.Read.remaining c.args.input.now) (g.R.Read.remaining c.loop.input)
    (g.R.Read.remaining c.read_line.new.input) c.in_err-write.field-0.0 c.read_line.new.line.items (g.O.Sink.told c.args.out.now) (g.O.Sink.told c.loop.out)
    (g.O.Sink.told c.write.new.out) c.loop.invariant.passed (c.in_ok-read_line.ensures.some c.if-not-branch.false) c.in_err-write.ensures.broken.0
    (rw c.deref.ensures.value at c.in_err-write.ensures.broken.1))

pub returns-in_err-show-clause-broken : goal.returns-in_err-show-clause-broken
returns-in_err-show-clause-broken g c =
    let p = err_from_is_err_and c.from_residual-in_err-show.result c.from_residual-in_err-show.ensures.1 in rw (p.1, p.2)
    (broke_behind c.args.file.now (option_map (λ bytes. bytes.now) c.args.text) (g.R.Read.remaining c.args.input.now) (g.R.Read.remaining c.loop.input)
    (g.R.Read.remaining c.read_line.new.input) c.in_err-show.field-0.0 c.read_line.new.line.items (g.O.Sink.told c.args.out.now) (g.O.Sink.told c.loop.out)
    (g.O.Sink.told c.write.new.out) _ c.loop.invariant.passed (c.in_ok-read_line.ensures.some c.if-not-branch.false)
    (rw c.deref.ensures.value at c.in_ok-write.ensures.took) (rw c.deref-in-loop.ensures.value at c.in_err-show.ensures.broken))

pub returns-clause-broken : goal.returns-clause-broken
returns-clause-broken g c =
    broke_before c.args.file.now (option_map (λ bytes. bytes.now) c.args.text) (g.R.Read.remaining c.args.input.now) (g.R.Read.remaining c.loop.input)
    broke.Input (g.O.Sink.told c.args.out.now) (g.O.Sink.told c.loop.out) c.loop.invariant.passed (λ is. absurd cc)
