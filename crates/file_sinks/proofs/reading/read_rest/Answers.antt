use Rattle.std.proofs.Common.{◌≡◌, ◌<◌, ◌+◌, ℕ, List, ◌++◌, Option, Some, None, length, length-append, take, arith, ap, rules}
use Rattle.std.proofs.lemmas.List.{length-take-le}
use Rattle.std.specs.Io.KnownBytes.{Consumes}
use Rattle.file_sinks.specs.Reading.{Reads}
use Rattle.file_sinks.proofs.reading.read_rest.Goals as goal

more_is_left : (had has now : Option (List ℕ)) (before after taken : List ℕ) (most left : ℕ) → Reads had has before after → Consumes has now taken
    → length after + left ≡ length before + most → left < length taken → (bytes : List ℕ) → had ≡ Some bytes → most < length bytes
more_is_left None has now before after taken most left reads more room much bytes known = absurd cc
more_is_left (Some xs) None now before after taken most left reads more room much bytes known = absurd reads.consumed
more_is_left (Some xs) (Some ys) None before after taken most left reads more room much bytes known = absurd more
more_is_left (Some xs) (Some ys) (Some zs) before after taken most left reads more room much bytes known =
    let all : bytes ≡ reads.more ++ ys = cc in
    let size : length bytes ≡ length (reads.more ++ ys) = ap length all in
    let parts = length-append reads.more ys in
    let rest : length ys ≡ length (taken ++ zs) = ap length more in
    let ends = length-append taken zs in
    let got : length after ≡ length (before ++ reads.more) = ap length reads.after_is in
    let both = length-append before reads.more in
    omega (arith, size, parts, rest, ends, got, both, room, much)

pub returns-then-count-left-clause-too_large : goal.returns-then-count-left-clause-too_large
returns-then-count-left-clause-too_large g c = λ same bytes known.
    let count = c.in-Ok.count in
    let size : length (take count c.read.new.buf) ≡ count = length-take-le count c.read.new.buf (search rules) in
    let room : length c.loop.into.items + c.loop.left ≡ length c.args.into.now.items + c.args.most = search rules in
    more_is_left (g.R.Read.remaining c.args.file.now) (g.R.Read.remaining c.loop.file) (g.R.Read.remaining c.read.new.self) c.args.into.now.items c.loop.into.items
    (take count c.read.new.buf) c.args.most c.loop.left c.loop.invariant.reads c.in-Ok.ensures.bytes.0 room (omega (arith, size, c.if-count-left.true)) bytes known
