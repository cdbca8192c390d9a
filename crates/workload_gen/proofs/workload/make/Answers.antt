use Rattle.std.proofs.Common.{◌≡◌, ◌∙◌, ◌+◌, ◌-◌, suc, map, ap, arith, sym}
use Rattle.seed_words.specs.Words.{words_from}
use Rattle.workload_gen.specs.Files.{begin_of, file_of}
use Rattle.workload_gen.proofs.Drawing.{first_begin}
use Rattle.workload_gen.proofs.Listing.{all_files, track_more}
use Rattle.workload_gen.proofs.workload.make.Goals as goal

pub loop-number-init : goal.loop-number-init
loop-number-init c = (
  c.new-words.ensures ∙ ap (words_from c.args.seed) (sym (first_begin c.args.seed)),
  ap (map file_of) c.in_ok-files.ensures.items,
)

pub loop-number-preserved : goal.loop-number-preserved
loop-number-preserved c =
    let e : suc c.loop-number.number ≡ c.loop-number.number + 1 = omega arith in (
      c.in_ok-next_file.ensures.words c.args.seed c.loop-number.invariant.0 ∙ ap (λ i. words_from c.args.seed (begin_of c.args.seed i)) e,
      track_more c.args.seed c.loop-number.number _ _ _ c.in_ok-push.ensures.items c.loop-number.invariant.1 (c.in_ok-next_file.ensures.file c.args.seed c.loop-number.invariant.0),
    )

pub returns : goal.returns
returns c = λ n size.
    let whole : c.args.size ≡ suc n = omega (arith, size) in
    let number : c.loop-number.number ≡ suc n = omega (arith, size, c.loop-number-test.false, c.loop-number.auto.number-end) in
    let last : c.args.size - 1 ≡ n = omega (arith, size) in
    all_files c.args.seed n c.loop-number.number c.args.size (c.args.size - 1) _ _ _ _ _ number whole last c.loop-number.invariant.1
    c.in_ok-push-2.ensures.items c.in_ok-push-3.ensures.items c.in_ok-list_file.ensures c.in_ok-script_file.ensures
